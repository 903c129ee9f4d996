-- Commands that are passed on to the manager: its machine answers as that of the ports does.
use Rattle.std.proofs.Common.{◌≡◌, ℕ, false, List, length, map, Option, Some, None, refl, sym, ap, subst, ◌∙◌}
use Rattle.std.specs.Prelude.{Ok, Err}
use Rattle.vm_ids.specs.declared.command.Command.TheVariants.{Load, MakeActor, MakeTemp, Map, PageOut, Store}
use Rattle.vm_ids.specs.declared.command.PortCommand.TheVariants.{Plain}
use Rattle.vm_ids.specs.declared.reply.Trouble.TheVariants as troubles
use Rattle.vm_model.specs.Answering as plain
use Rattle.vm_model.specs.Outcome as plain_outcome
use Rattle.vm_model.proofs.Outcomes.Rows.{each_unless}
use Rattle.vm_model.proofs.Parts.ListParts.{numbered_set_other}
use Rattle.vm_model.proofs.Parts.Lists.{numbered_place}
use Rattle.interface_callers.proofs.Words.{ActorId, Answer, Cache, Command, FaultAt, IsNotRefused, Machine, MapperCounts, Mapping, MayLackMemory, NotRefusedButFor, PageForest, Segments, forest_shown, overwrite, page_at, put_cache, put_page}
use Rattle.interface_callers.proofs.Hiding.{actor_lifts, lift, load_faults, load_lifts, map_lifts, page_out_faults, store_faults, store_lifts, visible}
use Rattle.interface_callers.proofs.Rows.{actor_row, load_row, map_row, outcome_next, store_row}
use Rattle.transit_ipc.specs.Answering.{Answered, plain_of, unless, within}
use Rattle.transit_ipc.specs.Calling.{IsServed}
use Rattle.transit_ipc.specs.Inner.{mapping_shown}
use Rattle.transit_ipc.specs.Outcome.{Outcome}
use Rattle.transit_ipc.specs.Seen.{memory_seen, port_seen, ports_seen}
use Rattle.transit_ipc.specs.Transit.{is_transit}
use Rattle.transit_ipc.specs.Tying.{AreTied}
use Rattle.transit_ipc.specs.declared.port.Port.{Port}
use Rattle.transit_ipc.proofs.Ties.Followed.{IsFollowed, followed_actor, followed_map, followed_put, followed_self, followed_temp}
use Rattle.transit_ipc.proofs.Ties.NewCache.{answer_seen, temp_lifts}
use Rattle.transit_ipc.proofs.Seeing.View.{view}
use Rattle.transit_ipc.proofs.Seeing.Messages.{ports_same, seen_apart, shown_visible}

-- The ports stay tied to the next machine, and their messages are the same.
pub record IsQuiet (ports : List Port) (m n : Machine) : Type 0 where
  pub follows : IsFollowed ports m n
  pub same : map (port_seen n) ports ≡ map (port_seen m) ports

-- A command of the ports is answered as another is by the manager's machine.
pub record IsPassed (ports : List Port) (m : Machine) (passed command : Command) : Type 0 where
  pub answers : (f : PageForest) (h : Segments) → answer_seen ports (plain.answer_of m f passed h) ≡ plain_of (ports_seen m ports) command h
  pub follows : (f : PageForest) (h : Segments) → IsFollowed ports m (plain.answer_of m f passed h).next
  pub faults : (f : Option PageForest) (h : Segments) (at : FaultAt) (rises : MapperCounts) → plain_outcome.MayFault m f passed h at rises → plain_outcome.MayFault (memory_seen m ports) None command h at rises
  pub lacks : MayLackMemory passed → MayLackMemory command

-- so it has the outcome of the machine of ports
pub outcome_passed : (ports : List Port) (m n : Machine) (passed command : Command) (f : Option PageForest) (h : Segments) (a : Answer) (rises : MapperCounts) → IsPassed ports m passed command
    → plain_outcome.Outcome m f passed h a n rises → Outcome (ports_seen m ports) (Plain command) h a (ports_seen n ports) rises
outcome_passed ports m n passed command f h (Ok r) rises p o = sym (p.answers (forest_shown f m) h) ∙ ap (answer_seen ports) o
outcome_passed ports m n passed command f h (Err (troubles.Refused r)) rises p o = sym (p.answers (forest_shown f m) h) ∙ ap (answer_seen ports) o
outcome_passed ports m n passed command f h (Err (troubles.Mapper at)) rises p o = (
  ap (λ (x : Machine). ports_seen x ports) o.0,
  o.1,
  p.faults f h at rises o.2,
  subst (λ (a : Answered). NotRefusedButFor at a.answer) (p.answers (forest_shown f m) h) o.3,
)
outcome_passed ports m n passed command f h (Err troubles.Memory) rises p o = (
  ap (λ (x : Machine). ports_seen x ports) o.0,
  p.lacks o.1,
  subst (λ (a : Answered). IsNotRefused a.answer) (p.answers (forest_shown f m) h) o.2,
)

-- and the ports stay tied
pub outcome_follows : (ports : List Port) (m n : Machine) → AreTied m ports → (passed command : Command) (f : Option PageForest) (h : Segments) (a : Answer) (rises : MapperCounts) → IsPassed ports m passed command
    → plain_outcome.Outcome m f passed h a n rises → IsFollowed ports m n
outcome_follows ports m n tied passed command f h a rises p o = outcome_next (IsFollowed ports m) m n passed f h a rises (followed_self ports m tied) (p.follows (forest_shown f m) h) o

-- The rows

abbrev pub IsNoMap : Command → Type 0
IsNoMap (Map actor p) = ⊥
IsNoMap command = Unit {0}

module _ (ports : List Port) (m : Machine) (tied : AreTied m ports) where
  quiet_self : IsQuiet ports m m
  quiet_self = record { follows = followed_self ports m tied; same = refl }

  abbrev Quiet : plain.Answered → Type 0
  Quiet a = IsQuiet ports m a.next

  store_quiet : (actor address : ℕ) (bytes : List ℕ) (h : Segments) → Quiet (plain.store_of m actor address bytes h)
  store_quiet actor address bytes h = store_row Quiet m (λ r. quiet_self) actor address bytes h quiet_self (λ p e c there.
      let seen = visible (view ports) m tied actor address (length bytes) p e in
      let d : Cache = put_page p.page (overwrite p.byte bytes (page_at m p)) c in
      record {
        follows = followed_put ports m tied p.region.cache c d there seen refl;
        same = ports_same m (put_cache m p.region.cache d) ports (λ i j x w. numbered_set_other m.caches p.region.cache x.cache.0 (Some d) (numbered_place m.caches p.region.cache c there).0 (seen_apart ports i j p.region.cache x w seen));
      })

  map_quiet : (actor : ℕ) (p : Mapping) → is_transit ports p.extent.cache.0 ≡ false → Quiet (plain.map_of m actor p)
  map_quiet actor p seen = map_row Quiet m (λ r. quiet_self) actor p (λ rs c here there. record { follows = followed_map ports m tied actor rs p c (numbered_place m.actors actor rs here).1 there seen; same = refl })

  -- a row whose answer is that over what is seen, and which leaves the messages
  quiet_answers : (a b : plain.Answered) → lift (view ports) a ≡ b → Quiet a → answer_seen ports a ≡ within (ports_seen m ports) b
  quiet_answers a b lifts quiet = λ i. record { answer = (lifts i).answer; next = record { memory = (lifts i).next; ports = quiet.same i } }

  actor_passed : IsPassed ports m MakeActor MakeActor
  unfolding plain_of unless
  actor_passed = record {
    answers = λ f h. quiet_answers (plain.make_actor_of m) (plain.make_actor_of (memory_seen m ports)) (actor_lifts (view ports) m) quiet;
    follows = λ f h. quiet.follows;
    faults = λ f h at rises may. absurd may;
    lacks = λ may. may;
  }
    where
      quiet : Quiet (plain.make_actor_of m)
      quiet = actor_row Quiet m (λ r. quiet_self) (record { follows = followed_actor ports m tied; same = refl })

  temp_follows : (pages : ℕ) → IsFollowed ports m (plain.make_temp_of m pages).next
  unfolding plain.make_temp_of
  temp_follows pages = each_unless (λ (a : plain.Answered). IsFollowed ports m a.next) _ _ m _ (followed_self ports m tied) (λ room. followed_temp ports m tied pages)

  temp_passed : (pages : ℕ) → IsPassed ports m (MakeTemp pages) (MakeTemp pages)
  temp_passed pages = record {
    answers = λ f h. temp_lifts m ports tied pages h;
    follows = λ f h. temp_follows pages;
    faults = λ f h at rises may. absurd may;
    lacks = λ may. may;
  }

  pub map_passed : (actor : ActorId) (p : Mapping) → IsPassed ports m (Map actor (mapping_shown ports p)) (Map actor p)
  unfolding plain_of unless
  map_passed actor p =
      let quiet = map_quiet actor.0 (mapping_shown ports p) (shown_visible m ports tied p.extent.cache) in
      record {
        answers = λ f h. quiet_answers (plain.map_of m actor.0 (mapping_shown ports p)) (plain.map_of (memory_seen m ports) actor.0 p) (map_lifts (view ports) (is_transit ports p.extent.cache.0) m actor.0 p refl (shown_visible m ports tied p.extent.cache) (λ rs here. refl)) quiet;
        follows = λ f h. quiet.follows;
        faults = λ f h at rises may. absurd may;
        lacks = λ may. may;
      }

  load_passed : (actor : ActorId) (address length : ℕ) → IsPassed ports m (Load actor address length) (Load actor address length)
  unfolding plain_of unless
  load_passed actor address length = record {
    answers = λ f h. quiet_answers (plain.load_of m actor.0 address length) (plain.load_of (memory_seen m ports) actor.0 address length) (load_lifts (view ports) m tied actor.0 address length) quiet;
    follows = λ f h. quiet.follows;
    faults = λ f h at rises may. load_faults (view ports) m f None actor address length h at rises may;
    lacks = λ may. may;
  }
    where
      quiet : Quiet (plain.load_of m actor.0 address length)
      quiet = load_row Quiet m (λ r. quiet_self) actor.0 address length (λ r. quiet_self)

  store_passed : (actor : ActorId) (address : ℕ) (bytes : List ℕ) → IsPassed ports m (Store actor address bytes) (Store actor address bytes)
  unfolding plain_of unless
  store_passed actor address bytes = record {
    answers = λ f h. quiet_answers (plain.store_of m actor.0 address bytes h) (plain.store_of (memory_seen m ports) actor.0 address bytes h) (store_lifts (view ports) m tied actor.0 address bytes h) (store_quiet actor.0 address bytes h);
    follows = λ f h. (store_quiet actor.0 address bytes h).follows;
    faults = λ f h at rises may. store_faults (view ports) m tied f None actor address bytes h at rises may;
    lacks = λ may. may;
  }

  page_out_passed : (count : ℕ) → IsPassed ports m (PageOut count) (PageOut count)
  unfolding plain_of unless
  page_out_passed count = record {
    answers = λ f h. refl;
    follows = λ f h. followed_self ports m tied;
    faults = λ f h at rises may. page_out_faults (view ports) m f None count h at rises may;
    lacks = λ may. may;
  }

  -- Each command that is served is passed on; but of a map the cache is the one that is found.
  pub passed : (command : Command) → IsServed command → IsNoMap command → IsPassed ports m command command
  passed MakeActor served other = actor_passed
  passed (MakeTemp pages) served other = temp_passed pages
  passed (Load actor address length) served other = load_passed actor address length
  passed (Store actor address bytes) served other = store_passed actor address bytes
  passed (PageOut count) served other = page_out_passed count
  passed (Map actor p) served other = absurd other
  passed command served other = absurd served
