-- What becomes of the processes where a part is to be mapped into one of them.
use Rattle.std.proofs.Common.{◌≡◌, ◌≢◌, inl, inr, ℕ, zero, suc, ◌+◌, ◌-◌, ◌*◌, ◌≤◌, true, cond, List, [], ◌∷◌, ◌++◌, length, get_or, set, Option, Some, None, refl, sym, ap, subst, ◌∙◌, arith}
use Rattle.std.specs.Prelude.{◌||◌, Ok, Err, Result, is_some, nat_le, nat_lt, slice_get}
use Rattle.std.specs.List.{AllByRecursion}
use Rattle.std.specs.Option.{option_map_or}
use Rattle.std.proofs.lemmas.Bool.{cases_eq}
use Rattle.std.proofs.lemmas.Bool.Decides.{nat_tests}
use Rattle.std.proofs.lemmas.List.{append-nil, length-set}
use Rattle.std.proofs.lemmas.Option.{get_or_from_slice_get, slice_get_within}
use Rattle.vm_ids.specs.declared.command.Command.TheVariants as vm_commands
use Rattle.vm_ids.specs.declared.refusal.Refusal.TheVariants as refusals
use Rattle.vm_ids.specs.declared.reply.Reply.TheVariants as replies
use Rattle.vm_ids.specs.declared.reply.Trouble.TheVariants as troubles
use Rattle.vm_model.specs.Machine as vm_machine
use Rattle.vm_model.proofs.Parts.Lists.{get_set_same, numbered_place, sum_by_less}
use Rattle.vm_model.proofs.Parts.ListParts.{numbered_set_other}
use Rattle.interface_callers.proofs.Words.{Actor, ActorId, Answer, Cache, CallDone, GhostsOfGmi, Held, LIVE_PAGES, LIVING_ACTORS, Machine, Mapping, MOST_MADE, RaisesMade, RegionId, Trouble, actor_of, add_region, answer_by, cache_of, insert_region, live_pages, living_actors, meanings_of, no_counts, numbered, region_of, segments_of}
use Rattle.interface_callers.proofs.Lists.{number_at}
use Rattle.mix_process.specs.Adding.{IsMapped, IsPutAt, IsUnmapped, MapsInto, MapsPart, MayMap, map_budget, put_at, usage_to_map}
use Rattle.mix_process.specs.Inner.{spare_of}
use Rattle.mix_process.specs.Outcome.{usage_of}
use Rattle.mix_process.specs.ProcessMachine as model
use Rattle.mix_process.specs.Seen.{cache_pages, mapping_behind, processes_seen}
use Rattle.mix_process.specs.Tying.{AreAble, AreMapped, AreTied, IsOwnPart, IsPart, IsRun, IsSingle, IsSmall, Owns, none_spare}
use Rattle.mix_process.specs.Use.{IsLack}
use Rattle.mix_process.specs.declared.mix.Image.{Image}
use Rattle.mix_process.specs.declared.mix.Mix.{Mix}
use Rattle.mix_process.specs.declared.process.Part.{Part}
use Rattle.mix_process.specs.declared.process.Process.{Process}
use Rattle.mix_process.proofs.Calling.CallAgain.{sync_alike}
use Rattle.mix_process.proofs.Calling.CallAgainNoMapper.{able_called, answered}
use Rattle.mix_process.proofs.Ties.OneMorePart.{seen_alike, seen_put, seen_still, seen_with}
use Rattle.mix_process.proofs.Ties.PartMapping.{tied_mapped}
use Rattle.mix_process.proofs.Calling.MapCall.{Maps, mapped_at}
use Rattle.mix_process.proofs.Reading.Seeing.{part_length}

-- Processes with the same actors and parts

pub record IsAlike (p q : Process) : Type 0 where
  pub actor : q.actor ≡ p.actor
  pub parts : q.parts.items ≡ p.parts.items

alike_back : (p q : Process) → IsAlike p q → IsAlike q p
alike_back p q a = record { actor = sym a.actor; parts = sym a.parts }

run_alike : (m : Machine) (p q : Process) → IsAlike p q → IsRun m p → IsRun m q
run_alike m p q a h = record {
  regions = h.regions;
  there = ap (λ (a : ActorId). actor_of m a.0) a.actor ∙ h.there;
  mapped = subst (λ (xs : List Part). AreMapped xs h.regions) (sym a.parts) h.mapped;
  parts = subst (λ (xs : List Part). AllByRecursion (λ (x : Part). IsPart m x.area x) xs) (sym a.parts) h.parts;
  small = subst IsSmall (sym a.parts) h.small;
  single = subst IsSingle (sym a.parts) h.single;
}

-- where one has a process the other has one like it
abbrev HasAlikes : (ℕ → Option Process) → (ℕ → Option Process) → Type 0
HasAlikes processes others = (n : ℕ) (p : Process) → processes n ≡ Some p → (q : Process) × (others n ≡ Some q) × IsAlike p q

owned_alike : (processes others : ℕ → Option Process) → HasAlikes processes others → (n i cache : ℕ) → Owns processes n i cache → Owns others n i cache
owned_alike processes others h n i cache o =
    let q = h n o.process o.there in
    record { process = q.0; part = o.part; there = q.1; has = ap (λ (xs : List Part). slice_get xs i) q.2.parts ∙ o.has; own = o.own; is = o.is }

tied_alike : (m : Machine) (processes others : ℕ → Option Process) (spare : ℕ → Type 0) (images : List Image) → HasAlikes processes others → HasAlikes others processes → AreTied m processes spare images → AreTied m others spare images
tied_alike m processes others spare images to back t = record {
  page = t.page;
  run = λ n q e. (let p = back n q e in run_alike m p.0 q (alike_back q p.0 p.2) (t.run n p.0 p.1));
  actors_apart = λ n k q r e f same. (let p = back n q e in let o = back k r f in t.actors_apart n k p.0 o.0 p.1 o.1 (ap (λ (a : ActorId). a.0) p.2.actor ∙ same ∙ ap (λ (a : ActorId). a.0) (sym o.2.actor)));
  caches_apart = λ n k i j cache o x. t.caches_apart n k i j cache (owned_alike others processes back n i cache o) (owned_alike others processes back k j cache x);
  spares = t.spares;
  spares_free = λ n i cache s o. t.spares_free n i cache s (owned_alike others processes back n i cache o);
  no_more_actors = λ actor regions e. (let f = t.no_more_actors actor regions e in let q = to f.0 f.1 f.2 in (f.0, q.0, q.1, ap (λ (a : ActorId). a.0) q.2.actor ∙ f.3));
  no_more_caches = λ cache c e temporary. elim (t.no_more_caches cache c e temporary) [
    | inl s ↦ inl s
    | inr o ↦ inr (o.0, o.1, owned_alike processes others to o.0 o.1 cache o.2)
  ];
  images_there = t.images_there;
  images_apart = t.images_apart;
  no_more_images = t.no_more_images;
}

-- A process is put in the place of one like it

pub at_place : (table : List (Option Process)) (place : ℕ) (p : Process) → slice_get table place ≡ Some (Some p) → numbered table (place + 1) ≡ Some p
at_place table place p there = number_at table (place + 1) (Some p) (omega arith) (ap (slice_get table) (let e : place + 1 - 1 ≡ place = omega arith in e) ∙ there)

module _ (table : List (Option Process)) (place : ℕ) (p q : Process) (there : slice_get table place ≡ Some (Some p)) where
  abbrev put : List (Option Process)
  put = set table place (Some q)

  pub put_there : numbered put (place + 1) ≡ Some q
  put_there = at_place put place q (get_set_same table place (Some q) (slice_get_within table place (Some p) there))

  put_others : (n : ℕ) → n ≢ place + 1 → numbered put n ≡ numbered table n
  put_others n other =
      ap (λ (k : ℕ). numbered (set table k (Some q)) n) (let e : place ≡ place + 1 - 1 = omega arith in e)
      ∙ numbered_set_other table (place + 1) n (Some q) (omega arith) other

  module _ (alike : IsAlike p q) where
    to : HasAlikes (numbered table) (numbered put)
    to n r e = elim (cases_eq n (place + 1)) [
      | inr other ↦ (r, put_others n other ∙ e, record { actor = refl; parts = refl })
      | inl same ↦ (let who : Some r ≡ Some p = sym e ∙ ap (numbered table) same ∙ at_place table place p there in let it : r ≡ p = cc in
          (q, ap (numbered put) same ∙ put_there, subst (λ (x : Process). IsAlike x q) (sym it) alike))
    ]

    back : HasAlikes (numbered put) (numbered table)
    back n r e = elim (cases_eq n (place + 1)) [
      | inr other ↦ (r, sym (put_others n other) ∙ e, record { actor = refl; parts = refl })
      | inl same ↦ (let who : Some r ≡ Some q = sym e ∙ ap (numbered put) same ∙ put_there in let it : r ≡ q = cc in
          (p, ap (numbered table) same ∙ at_place table place p there, subst (λ (x : Process). IsAlike x p) (sym it) (alike_back p q alike)))
    ]

    pub tied_put : (m : Machine) (spare : ℕ → Type 0) (images : List Image) → AreTied m (numbered table) spare images → AreTied m (numbered put) spare images
    tied_put m spare images t = tied_alike m (numbered table) (numbered put) spare images to back t

-- what is read at the place is the process
pub read_there : (table : List (Option Process)) (place : ℕ) (o : Option Process) (p q : Process) → slice_get table place ≡ Some (Some p) → o ≡ get_or table place o → o ≡ Some q → q ≡ p
read_there table place o p q there value is = let both : Some q ≡ Some p = sym is ∙ value ∙ get_or_from_slice_get table place (Some p) o there in cc both

-- what the processes are able to, over what they are
pub able_as : {Manager X Chooser : Type 0} (G : GhostsOfGmi Manager X Chooser) (told : Option Held) (page : Option ℕ) (spare : ℕ → Type 0) (old new : Mix Manager) (gmi : Manager) (table : List (Option Process)) → new.gmi ≡ gmi → new.images ≡ old.images → new.processes.items ≡ table
    → AreAble G gmi old.images.items told page (length table) (numbered table) spare → AreAble G new.gmi new.images.items told page (length new.processes.items) (numbered new.processes.items) spare
able_as {Manager} {X} {Chooser} G told page spare old new gmi table g images processes able =
    subst (λ (x : Manager). AreAble G x new.images.items told page (length new.processes.items) (numbered new.processes.items) spare) (sym g)
    (subst (λ (xs : List (Option Process)). AreAble G gmi new.images.items told page (length xs) (numbered xs) spare) (sym processes)
    (subst (λ (xs : List Image). AreAble G gmi xs told page (length table) (numbered table) spare) (λ i. (sym images i).items) able))

-- the cache of one part is spare
pub spare_only : (part : Part) (k : ℕ) → spare_of (part ∷ []) k → IsOwnPart part × (k ≡ part.cache.0)
spare_only part k s = only s.0 s.1 s.2 s.3 s.4
  where
    only : (j : ℕ) (x : Part) → slice_get (part ∷ []) j ≡ Some x → IsOwnPart x → x.cache.0 ≡ k → IsOwnPart part × (k ≡ part.cache.0)
    only zero x e own same = let it : part ≡ x = cc in (subst IsOwnPart (sym it) own, sym same ∙ ap (λ (x : Part). x.cache.0) (sym it))
    only (suc j) x e own same = absurd (cc e)

-- Numbers

pub pages_of_cache : (o : Option Cache) → vm_machine.pages_in o ≡ length (option_map_or (λ (c : Cache). c.pages) o [])
pages_of_cache None = refl
pages_of_cache (Some c) = refl

rises_for_map : (m n : Machine) (actor : ActorId) (mapping : Mapping) (a : Answer) (before now : ℕ) → live_pages n ≡ live_pages m → RaisesMade m (vm_commands.Map actor mapping) a n before now
    → now ≤ before + (8 * (mapping.extent.pages + length (cache_pages m mapping.extent.cache.0)) + 8)
rises_for_map m n actor mapping (Ok r) before now live made = omega (arith, live, made, pages_of_cache (cache_of m mapping.extent.cache.0))
rises_for_map m n actor mapping (Err (troubles.Refused r)) before now live made = omega (arith, made)
rises_for_map m n actor mapping (Err (troubles.Mapper at)) before now live made = omega (arith, live, made, pages_of_cache (cache_of m mapping.extent.cache.0))
rises_for_map m n actor mapping (Err troubles.Memory) before now live made = omega (arith, live, made, pages_of_cache (cache_of m mapping.extent.cache.0))

abbrev alive : Option Actor → ℕ
alive a = cond (is_some a) 1 0

-- as many regions were made as may be
regions_pass : (living actors caches regions pages : ℕ) → nat_le MOST_MADE regions ≡ true
    → (nat_lt LIVING_ACTORS (living + 0) || nat_lt MOST_MADE (actors + 0) || nat_lt MOST_MADE (caches + 0) || nat_lt MOST_MADE (regions + 1) || nat_lt LIVE_PAGES (pages + 0)) ≡ true
regions_pass living actors caches regions pages e = grind (arith, nat_tests)

trouble_is : (t x : Trouble) (result : Result RegionId Trouble) → result ≡ Err t → answer_by replies.Region result ≡ Err x → t ≡ x
trouble_is t x result is e = let both : Err t ≡ Err x = ap (answer_by replies.Region) (sym is) ∙ e in cc both

-- The map

module _ {Manager X Chooser : Type 0} (G : GhostsOfGmi Manager X Chooser) (told : Option Held) (page : Option ℕ) (old : Mix Manager) (place : ℕ) (p : Process) (part : Part) (may : MayMap G told page old place p part) where
  abbrev m : Machine
  m = G.machine old.gmi told

  abbrev spare : ℕ → Type 0
  spare = spare_of (part ∷ [])

  abbrev alive_at : numbered old.processes.items (place + 1) ≡ Some p
  alive_at = at_place old.processes.items place p may.room.there

  abbrev run : IsRun m p
  run = may.able.tied.run (place + 1) p alive_at

  alike_of : (q : Process) → q.actor ≡ p.actor → q.parts.items ≡ p.parts.items ++ [] → IsAlike p q
  alike_of q actor parts = record { actor = actor; parts = parts ∙ append-nil p.parts.items }

  -- no memory for the part
  pub not_reserved : (new : Mix Manager) → new.gmi ≡ old.gmi → IsPutAt old place p [] new → IsUnmapped G told page old place p part troubles.Memory new
  not_reserved new gmi put =
      let able = may.able in
      record {
        able = able_as G told page spare old new old.gmi (set old.processes.items place (Some put.now)) gmi put.images put.processes (record {
          valid = able.valid;
          unlimited = able.unlimited;
          fits = able.fits;
          live = able.live;
          living = able.living;
          few = omega (arith, able.few, length-set old.processes.items place (Some put.now));
          most = able.most;
          tied = tied_put old.processes.items place p put.now may.room.there (alike_of put.now put.actor put.parts_now) m spare old.images.items able.tied;
          synchronised = able.synchronised;
          blank = able.blank;
        });
        put = put;
        machine = ap (λ (g : Manager). G.machine g told) gmi;
        seen = ap (λ (g : Manager). processes_seen (G.machine g told) new.processes.items new.images.items) gmi ∙ seen_still m old place p may.room.there [] new put (seen_alike m p put.now put.parts_now);
        made = omega (arith, ap G.made gmi);
        lack = tt;
      }

  module _ (gmi : Manager) (result : Result RegionId Trouble) (called : CallDone (meanings_of G) old.gmi (vm_commands.Map p.actor (mapping_behind p.parts.items part)) (answer_by replies.Region result) gmi) where
    abbrev n : Machine
    n = G.machine gmi told

    abbrev a : Answer
    a = answer_by replies.Region result

    maps : Maps m p.actor.0 run.regions (mapping_behind p.parts.items part) a n
    maps = mapped_at (segments_of told) m may.able.tied.page p run part may.is_part may.room.few (G.forest old.gmi told) a n no_counts
        (answered G old.gmi gmi told page (vm_commands.Map p.actor (mapping_behind p.parts.items part)) a old.images.items (length old.processes.items) (numbered old.processes.items) spare may.able called).outcome

    raised : live_pages n ≡ live_pages m → G.made gmi ≤ G.made old.gmi + map_budget m part
    raised live = rises_for_map m n p.actor (mapping_behind p.parts.items part) a (G.made old.gmi) (G.made gmi) live (called.made told may.able.valid)

    pub unmapped : (t : Trouble) → result ≡ Err t → (new : Mix Manager) → new.gmi ≡ gmi → IsPutAt old place p [] new → IsUnmapped G told page old place p part t new
    unmapped t is new g put = go maps
      where
        go : Maps m p.actor.0 run.regions (mapping_behind p.parts.items part) a n → IsUnmapped G told page old place p part t new
        go (inl r) = absurd (let wrong : Err t ≡ Ok (replies.Region (record { 0 = m.regions_made + 1 })) = ap (answer_by replies.Region) (sym is) ∙ r.answer_is in cc wrong)
        go (inr u) =
            let able = may.able in
            let tied : AreTied n (numbered (set old.processes.items place (Some put.now))) spare old.images.items =
            subst (λ (x : Machine). AreTied x (numbered (set old.processes.items place (Some put.now))) spare old.images.items) (sym u.next_is)
            (tied_put old.processes.items place p put.now may.room.there (alike_of put.now put.actor put.parts_now) m spare old.images.items able.tied) in
            record {
              able = able_as G told page spare old new gmi (set old.processes.items place (Some put.now)) g put.images put.processes
                  (able_called G old.gmi gmi told page (vm_commands.Map p.actor (mapping_behind p.parts.items part)) a old.images.items (length old.processes.items) (numbered old.processes.items) spare able called
                  old.images.items (length (set old.processes.items place (Some put.now))) (numbered (set old.processes.items place (Some put.now))) spare
                  (omega (arith, able.few, length-set old.processes.items place (Some put.now), ap (λ (x : Machine). length x.actors) u.next_is)) (omega (arith, able.most, ap (λ (x : Machine). length x.actors) u.next_is)) tied
                  (sync_alike (G.machine old.gmi told) (G.machine gmi told) old.images.items told (λ i image e. ap (λ (x : Machine). cache_pages x image.cache.0) u.next_is) able.synchronised));
              put = put;
              machine = ap (λ (x : Manager). G.machine x told) g ∙ u.next_is;
              seen = ap (λ (x : Machine). processes_seen x new.processes.items new.images.items) (ap (λ (x : Manager). G.machine x told) g ∙ u.next_is) ∙ seen_still m old place p may.room.there [] new put (seen_alike m p put.now put.parts_now);
              made = omega (arith, ap G.made g, raised (ap live_pages u.next_is));
              lack = elim u.why [
                | inl e ↦ subst (λ (x : Trouble). IsLack (usage_of m) usage_to_map x) (sym (trouble_is t troubles.Memory result is e)) tt
                | inr e ↦ subst (λ (x : Trouble). IsLack (usage_of m) usage_to_map x) (sym (trouble_is t (troubles.Refused refusals.TooMany) result is e.0)) (regions_pass (living_actors m) (length m.actors) (length m.caches) m.regions_made (live_pages m) e.1)
              ];
            }

    pub mapped : (r : RegionId) → result ≡ Ok r → (new : Mix Manager) → new.gmi ≡ gmi → IsPutAt old place p (part ∷ []) new → IsMapped G told page old place p part new
    mapped r is new g put = go maps
      where
        go : Maps m p.actor.0 run.regions (mapping_behind p.parts.items part) a n → IsMapped G told page old place p part new
        go (inr u) = absurd (elim u.why [
          | inl e ↦ (let wrong : Ok (replies.Region r) ≡ Err troubles.Memory = ap (answer_by replies.Region) (sym is) ∙ e in cc wrong)
          | inr e ↦ (let wrong : Ok (replies.Region r) ≡ Err (troubles.Refused refusals.TooMany) = ap (answer_by replies.Region) (sym is) ∙ e.0 in cc wrong)
        ])
        go (inl made) =
            let able = may.able in
            let even : place + 1 - 1 ≡ place = omega arith in
            let tied : AreTied n (numbered (set old.processes.items place (Some put.now))) none_spare old.images.items =
            subst (λ (x : Machine). AreTied x (numbered (set old.processes.items place (Some put.now))) none_spare old.images.items) (sym made.next_is)
            (subst (λ (k : ℕ). AreTied (add_region m p.actor.0 run.regions (mapping_behind p.parts.items part)) (numbered (set old.processes.items k (Some put.now))) none_spare old.images.items) even
            (tied_mapped m old.processes.items spare old.images.items able.tied (place + 1) p put.now alive_at part may.is_part may.room.few may.room.first (spare_only part) (λ own. (0, part, refl, own, refl)) put.actor put.parts_now)) in
            let actors : length n.actors ≡ length m.actors = ap (λ (x : Machine). length x.actors) made.next_is ∙ length-set m.actors (p.actor.0 - 1) (Some (insert_region (region_of (m.regions_made + 1) (mapping_behind p.parts.items part)) run.regions)) in
            let machine : G.machine new.gmi told ≡ add_region m p.actor.0 run.regions (mapping_behind p.parts.items part) = ap (λ (x : Manager). G.machine x told) g ∙ made.next_is in
            let at = numbered_place m.actors p.actor.0 run.regions run.there in
            record {
              can = able_as G told page none_spare old new gmi (set old.processes.items place (Some put.now)) g put.images put.processes
                  (able_called G old.gmi gmi told page (vm_commands.Map p.actor (mapping_behind p.parts.items part)) a old.images.items (length old.processes.items) (numbered old.processes.items) spare able called
                  old.images.items (length (set old.processes.items place (Some put.now))) (numbered (set old.processes.items place (Some put.now))) none_spare
                  (omega (arith, able.few, length-set old.processes.items place (Some put.now), actors)) (omega (arith, able.most, actors)) tied
                  (sync_alike (G.machine old.gmi told) (G.machine gmi told) old.images.items told (λ i image e. ap (λ (x : Machine). cache_pages x image.cache.0) made.next_is) able.synchronised));
              put = put;
              seen = ap (λ (x : Machine). processes_seen x new.processes.items new.images.items) machine
                  ∙ seen_put m old place p may.room.there (part ∷ []) new put
                  ∙ ap (λ (x : model.Process). put_at (processes_seen m old.processes.items old.images.items) place x) (seen_with m p put.now part (part_length m part may.is_part) put.parts_now);
              kept = λ k c e. ap (λ (x : Machine). cache_of x k) machine ∙ e;
              used = record {
                living = omega (arith, ap living_actors machine, sum_by_less alive m.actors (p.actor.0 - 1) (Some run.regions) (Some (insert_region (region_of (m.regions_made + 1) (mapping_behind p.parts.items part)) run.regions)) at.1 (omega arith));
                actors = omega (arith, ap (λ (x : Manager). length (G.machine x told).actors) g, actors);
                caches = omega (arith, ap (λ (x : Machine). length x.caches) machine);
                regions = omega (arith, ap (λ (x : Machine). x.regions_made) machine);
                pages = omega (arith, ap live_pages machine);
              };
              made = omega (arith, ap G.made g, raised (ap live_pages made.next_is));
            }

  pub maps_part : (gmi : Manager) (now : Process) (result : Result (Unit {0}) Trouble) → MapsInto G old.gmi p part result gmi now → (new : Mix Manager) → new.gmi ≡ gmi → new.processes.items ≡ set old.processes.items place (Some now) → new.images ≡ old.images
      → MapsPart G told page old place p part result new
  maps_part gmi now (Ok u) is new g processes images =
      mapped gmi (Ok is.call.0) is.call.1 is.call.0 refl new g (record { now = now; processes = processes; images = images; actor = is.actor; parts_now = is.parts })
  maps_part gmi now (Err t) is new g processes images =
      let put : IsPutAt old place p [] new = record { now = now; processes = processes; images = images; actor = is.actor; parts_now = is.parts ∙ sym (append-nil p.parts.items) } in
      elim is.call [
        | inl e ↦ subst (λ (x : Trouble). IsUnmapped G told page old place p part x new) (sym e.0) (not_reserved new (g ∙ e.1) put)
        | inr called ↦ unmapped gmi (Err t) called t refl new g put
      ]
