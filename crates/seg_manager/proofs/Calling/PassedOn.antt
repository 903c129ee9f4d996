-- Commands that are passed on: the machine below answers them as that of segments does.
use Rattle.std.proofs.Common.{◌≡◌, inr, ℕ, ◌+◌, ◌-◌, Bool, true, false, List, [], ◌∷◌, ◌++◌, length, take, drop, Option, Some, refl, sym, ap, subst, ◌∙◌, arith}
use Rattle.std.specs.Prelude.{◌||◌, Ok, Err, nat_lt, not, slice_get}
use Rattle.std.specs.Option.{option_map_or}
use Rattle.vm_ids.specs.declared.command.Command.TheVariants.{Copy, Load, MakeActor, PageOut, Store}
use Rattle.vm_ids.specs.declared.command.KeepCommand.TheVariants.{Plain}
use Rattle.vm_ids.specs.declared.refusal.Refusal.TheVariants as refusals
use Rattle.vm_ids.specs.declared.reply.Reply.TheVariants as replies
use Rattle.vm_ids.specs.declared.reply.Trouble.TheVariants as troubles
use Rattle.vm_model.specs.Answering as plain
use Rattle.vm_model.specs.Outcome as plain_outcome
use Rattle.vm_model.proofs.Parts.Lists.{numbered_place}
use Rattle.interface_callers.proofs.Words.{Actor, ActorId, Answer, Cache, CacheId, Command, FaultAt, IsNotRefused, Machine, MapperCounts, MayLackMemory, NotRefusedButFor, PageForest, Refusal, Reply, Segments, Span, cache_of, forest_shown, overwrite, page_at, put_cache, put_page, put_pages}
use Rattle.interface_callers.proofs.Hiding.{actor_lifts, copy_faults, copy_lifts, lift, load_faults, load_lifts, page_out_faults, shown_at, store_faults, store_lifts, visible}
use Rattle.interface_callers.proofs.Rows.{actor_row, copy_row, load_row, store_row}
use Rattle.interface_callers.proofs.Mapped.{actor_mapped}
use Rattle.seg_manager.specs.Answering.{Answered, answer_of}
use Rattle.seg_manager.specs.Calling.{IsPassed}
use Rattle.seg_manager.specs.Inner.{shown, span_shown}
use Rattle.seg_manager.specs.Outcome.{GoesOn, Gives, IsWanted, MayFault, MayLack, Outcome}
use Rattle.seg_manager.specs.Answering.{MayHave}
use Rattle.seg_manager.specs.ReferenceMachine.{ReferenceMachine, Stored, goes, stored_from}
use Rattle.seg_manager.specs.Seen.{is_kept}
use Rattle.seg_manager.specs.Tying.{noted_at, noted_regions}
use Rattle.seg_manager.specs.declared.tables.Kept.{Kept}
use Rattle.seg_manager.proofs.Seeing.View.{is_hidden, references, seen, view}
use Rattle.seg_manager.proofs.Seeing.SameSegments.{segments_in, segments_set, stored_alike, stored_put}

-- an actor without regions has none to note
noted_push : (k : ℕ) (actors : List (Option Actor)) → noted_regions k (actors ++ Some [] ∷ []) ≡ noted_regions k actors
noted_push k [] = refl
noted_push k (a ∷ actors) = ap (λ xs. noted_at k a ++ xs) (noted_push (k + 1) actors)

-- a refusal of the table
refused_is : (r : ReferenceMachine) (f : Option PageForest) (command : Command) (h : Segments) (x : Refusal) (next : ReferenceMachine) (rises : MapperCounts) → Gives r (Plain command) h 0 (Err (troubles.Refused x)) next → Outcome r f (Plain command) h 0 (Err (troubles.Refused x)) next rises
refused_is r f command h refusals.TooMany next rises e = inr e
refused_is r f command h x next rises e = e

module _ (openings : ℕ → ℕ) where
  -- what is seen of the machine, with these pages stored
  abbrev pub over : Machine → Stored → ReferenceMachine
  over m st = record { memory = seen openings m; stored = st; openings = openings }

  -- the machine itself with them
  abbrev pub storing : Machine → Stored → ReferenceMachine
  storing m st = record { memory = m; stored = st; openings = openings }

  -- The caches keep their segments, and those that go their pages.
  pub record IsQuiet (x y : Machine) : Type 0 where
    pub segments : segments_in y.caches ≡ segments_in x.caches
    pub stored : (st : Stored) → stored_from (storing y st) 1 y.caches ≡ stored_from (storing x st) 1 x.caches

  pub quiet_self : (x : Machine) → IsQuiet x x
  quiet_self x = record { segments = refl; stored = λ st. refl }

  abbrev pub resumed : Stored → plain.Answered → Answered
  resumed st a = record { answer = a.answer; next = record { memory = a.next; stored = st; openings = openings } }

  -- A command of segments is answered as another is by the machine.
  pub record IsAnswered (x : Machine) (passed command : Command) : Type 0 where
    pub answers : (f : PageForest) (h : Segments) (st : Stored) → resumed st (lift (view openings) (plain.answer_of x f passed h)) ≡ answer_of (over x st) (Plain command) h 0
    pub quiet : (f : PageForest) (h : Segments) → IsQuiet x (plain.answer_of x f passed h).next
    pub faults : (f : Option PageForest) (h : Segments) (at : FaultAt) (rises : MapperCounts) (st : Stored) → plain_outcome.MayFault x f passed h at rises → MayFault (over x st) f (Plain command) h at rises
    pub lacks : MayLackMemory passed → MayLack (Plain command)
    pub may_have : (st : Stored) → MayHave (over x st) (Plain command) 0
    pub goes_on : (at : FaultAt) (a : Answer) → NotRefusedButFor at a → GoesOn at (Plain command) a
    pub wanted : (a : Answer) → IsNotRefused a → IsWanted (Plain command) a

  -- so it has the outcome of the machine of segments
  pub outcome_answered : (x y : Machine) (passed command : Command) (f : Option PageForest) (h : Segments) (a : Answer) (rises : MapperCounts) (st : Stored) → IsAnswered x passed command
      → plain_outcome.Outcome x f passed h a y rises → Outcome (over x st) f (Plain command) h 0 a (over y st) rises
  outcome_answered x y passed command f h (Ok r) rises st p o = (p.may_have st, sym (p.answers (forest_shown f x) h st) ∙ ap (λ (b : plain.Answered). resumed st (lift (view openings) b)) o)
  outcome_answered x y passed command f h (Err (troubles.Refused r)) rises st p o =
      refused_is (over x st) f command h r (over y st) rises (sym (p.answers (forest_shown f x) h st) ∙ ap (λ (b : plain.Answered). resumed st (lift (view openings) b)) o)
  outcome_answered x y passed command f h (Err (troubles.Mapper at)) rises st p o = (
    ap (λ (z : Machine). over z st) o.0,
    o.1,
    p.faults f h at rises st o.2,
    p.goes_on at (answer_of (over x st) (Plain command) h 0).answer (subst (λ (b : Answered). NotRefusedButFor at b.answer) (p.answers (forest_shown f x) h st) o.3),
  )
  outcome_answered x y passed command f h (Err troubles.Memory) rises st p o = (
    ap (λ (z : Machine). over z st) o.0,
    p.lacks o.1,
    p.wanted (answer_of (over x st) (Plain command) h 0).answer (subst (λ (b : Answered). IsNotRefused b.answer) (p.answers (forest_shown f x) h st) o.2),
  )

  -- The rows

  -- a command leads to a machine with the same regions
  abbrev pub SameRegions : Machine → Machine → Type 0
  SameRegions x y = noted_regions 1 y.actors ≡ noted_regions 1 x.actors

  module _ (x : Machine) where
    -- the caches are as they were, and the regions too
    pub record IsCalm (a : plain.Answered) : Type 0 where
      pub quiet : IsQuiet x a.next
      pub regions : SameRegions x a.next

    calm_self : (r : Refusal) → IsCalm (plain.refuse x r)
    calm_self r = record { quiet = quiet_self x; regions = refl }

    actor_calm : IsCalm (plain.make_actor_of x)
    actor_calm = actor_row IsCalm x calm_self (record {
      quiet = record {
        segments = refl;
        stored = λ st. stored_alike (storing x st) (storing (record x { actors = x.actors ++ Some [] ∷ [] }) st) 1 x.caches refl
            (λ j d e. (λ i. option_map_or (λ seg. not (nat_lt 0 (openings seg) || actor_mapped x.actors (1 + j) i)) d.segment false));
      };
      regions = noted_push 1 x.actors;
    })

    load_calm : (actor address length : ℕ) → IsCalm (plain.load_of x actor address length)
    load_calm actor address length = load_row IsCalm x calm_self actor address length (λ r. record { quiet = quiet_self x; regions = refl })

    -- a cache that is seen has other pages
    put_calm : (r : Reply) (k : ℕ) (c d : Cache) → cache_of x k ≡ Some c → d.segment ≡ c.segment → is_hidden openings x k ≡ false → IsCalm (plain.reply r (put_cache x k d))
    put_calm r k c d there same stays = record {
      quiet = record {
        segments = segments_set x.caches (k - 1) c d at same;
        stored = λ st. stored_put (storing x st) 1 x.caches (k - 1) c d at (ap (λ (n : ℕ). goes (references openings x) n c) number ∙ here) (ap (λ (n : ℕ). goes (references openings x) n d) number ∙ there_too);
      };
      regions = refl;
    }
      where
        at : slice_get x.caches (k - 1) ≡ Some (Some c)
        at = (numbered_place x.caches k c there).1

        number : 1 + (k - 1) ≡ k
        number = omega (arith, (numbered_place x.caches k c there).0)

        here : goes (references openings x) k c ≡ false
        here = sym (ap (λ (o : Option Cache). option_map_or (goes (references openings x) k) o false) there) ∙ stays

        there_too : goes (references openings x) k d ≡ false
        there_too = ap (λ (s : Option ℕ). option_map_or (λ seg. not (nat_lt 0 (openings seg) || plain.is_mapped x k)) s false) same ∙ here

    store_calm : (actor address : ℕ) (bytes : List ℕ) (h : Segments) → IsCalm (plain.store_of x actor address bytes h)
    store_calm actor address bytes h = store_row IsCalm x calm_self actor address bytes h (record { quiet = quiet_self x; regions = refl })
        (λ p e c there. put_calm replies.Done p.region.cache c (put_page p.page (overwrite p.byte bytes (page_at x p)) c) there refl (visible (view openings) x tt actor address (length bytes) p e))

    copy_calm : (s : Span) (h : Segments) → is_hidden openings x s.to.0 ≡ false → IsCalm (plain.copy_of x s h)
    copy_calm s h stays = copy_row IsCalm x calm_self s h (λ source destination here there. put_calm replies.Done s.to.0 destination (put_pages s.to_page.0 (take s.pages (drop s.from_page.0 source.pages)) destination) there refl stays)

    -- The commands

    actor_answered : IsAnswered x MakeActor MakeActor
    actor_answered = record {
      answers = λ f h st. ap (resumed st) (actor_lifts (view openings) x);
      quiet = λ f h. actor_calm.quiet;
      faults = λ f h at rises st may. absurd may;
      lacks = λ may. may;
      may_have = λ st. tt;
      goes_on = λ at a g. g;
      wanted = λ a g. g;
    }

    load_answered : (actor : ActorId) (address length : ℕ) → IsAnswered x (Load actor address length) (Load actor address length)
    load_answered actor address length = record {
      answers = λ f h st. ap (resumed st) (load_lifts (view openings) x tt actor.0 address length);
      quiet = λ f h. (load_calm actor.0 address length).quiet;
      faults = λ f h at rises st may. load_faults (view openings) x f f actor address length h at rises may;
      lacks = λ may. may;
      may_have = λ st. tt;
      goes_on = λ at a g. g;
      wanted = λ a g. g;
    }

    store_answered : (actor : ActorId) (address : ℕ) (bytes : List ℕ) → IsAnswered x (Store actor address bytes) (Store actor address bytes)
    store_answered actor address bytes = record {
      answers = λ f h st. ap (resumed st) (store_lifts (view openings) x tt actor.0 address bytes h);
      quiet = λ f h. (store_calm actor.0 address bytes h).quiet;
      faults = λ f h at rises st may. store_faults (view openings) x tt f f actor address bytes h at rises may;
      lacks = λ may. may;
      may_have = λ st. tt;
      goes_on = λ at a g. g;
      wanted = λ a g. g;
    }

    page_out_answered : (count : ℕ) → IsAnswered x (PageOut count) (PageOut count)
    page_out_answered count = record {
      answers = λ f h st. refl;
      quiet = λ f h. quiet_self x;
      faults = λ f h at rises st may. page_out_faults (view openings) x f f count h at rises may;
      lacks = λ may. may;
      may_have = λ st. tt;
      goes_on = λ at a g. g;
      wanted = λ a g. g;
    }

    -- Each command that is passed on as it is
    pub passed_answered : (command : Command) → IsPassed command → IsAnswered x command command
    passed_answered MakeActor passed = actor_answered
    passed_answered (Load actor address length) passed = load_answered actor address length
    passed_answered (Store actor address bytes) passed = store_answered actor address bytes
    passed_answered (PageOut count) passed = page_out_answered count
    passed_answered command passed = absurd passed

    pub passed_regions : (command : Command) (f : PageForest) (h : Segments) → IsPassed command → SameRegions x (plain.answer_of x f command h).next
    passed_regions MakeActor f h passed = actor_calm.regions
    passed_regions (Load actor address length) f h passed = (load_calm actor.0 address length).regions
    passed_regions (Store actor address bytes) f h passed = (store_calm actor.0 address bytes h).regions
    passed_regions (PageOut count) f h passed = refl
    passed_regions command f h passed = absurd passed

    -- A copy, between caches as they are found

    abbrev pub IsHiding : List Kept → Type 0
    IsHiding ks = (n : ℕ) → is_kept ks n ≡ is_hidden openings x n

    pub shown_visible : (ks : List Kept) → IsHiding ks → (cache : CacheId) → is_hidden openings x (shown ks cache).0 ≡ false
    shown_visible ks hiding cache = by (is_kept ks cache.0) refl
      where
        by : (b : Bool) → is_kept ks cache.0 ≡ b → is_hidden openings x (shown_at b cache).0 ≡ false
        by true e = refl
        by false e = sym (hiding cache.0) ∙ e

    module _ (ks : List Kept) (hiding : IsHiding ks) (s : Span) where
      pub copy_answered : IsAnswered x (Copy (span_shown ks s)) (Copy s)
      copy_answered = record {
        answers = λ f h st. ap (resumed st) (copy_lifts (view openings) (is_kept ks s.from.0) (is_kept ks s.to.0) x s h (sym (hiding s.from.0)) (sym (hiding s.to.0)) (shown_visible ks hiding s.from) (shown_visible ks hiding s.to));
        quiet = λ f h. (copy_calm (span_shown ks s) h (shown_visible ks hiding s.to)).quiet;
        faults = λ f h at rises st may. copy_faults (view openings) (is_kept ks s.from.0) (is_kept ks s.to.0) x f s (sym (hiding s.to.0)) h at rises may;
        lacks = λ may. may;
        may_have = λ st. tt;
        goes_on = λ at a g. g;
        wanted = λ a g. g;
      }

      pub copy_regions : (f : PageForest) (h : Segments) → SameRegions x (plain.answer_of x f (Copy (span_shown ks s)) h).next
      copy_regions f h = (copy_calm (span_shown ks s) h (shown_visible ks hiding s.to)).regions
