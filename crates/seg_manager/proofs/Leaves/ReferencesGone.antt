-- References went, caches are kept, and some of these are destroyed.
use Rattle.std.proofs.Common.{◌≡◌, ℕ, ◌+◌, ◌*◌, ◌≤◌, false, cond, List, [], ◌∷◌, ◌++◌, length, map, Option, Some, None, refl, sym, ap, ◌∙◌, arith}
use Rattle.std.specs.Prelude.{◌||◌, not, nat_lt, option_map}
use Rattle.std.specs.List.{list_any}
use Rattle.std.specs.Option.{option_map_or}
use Rattle.std.proofs.lemmas.List.{length-map}
use Rattle.interface_callers.proofs.Words.{Cache, GhostsOfGmi, GhostsOfMapper, LIVE_PAGES, Machine, MOST_MADE, Segments, cache_of, maps_in, segment_of, segments_of}
use Rattle.seg_manager.specs.Calling.{below}
use Rattle.seg_manager.specs.Keeping.{left_one, referred}
use Rattle.seg_manager.specs.ReferenceMachine.{ReferenceMachine}
use Rattle.seg_manager.specs.Seen.{openings_in, references_seen, whole_of}
use Rattle.seg_manager.specs.Stepping.{State}
use Rattle.seg_manager.specs.Thinning.{Trims, credit}
use Rattle.seg_manager.specs.Tying.{CanCall, Naming, is_unreferenced, naming_at, naming_of, namings}
use Rattle.seg_manager.specs.declared.manager.SegManager.{SegManager}
use Rattle.seg_manager.specs.declared.tables.Named.{Named}
use Rattle.seg_manager.proofs.Leaves.OpeningTakenBack.{kept_few}
use Rattle.seg_manager.proofs.Seeing.WhichGo.{length_used}
use Rattle.seg_manager.proofs.Seeing.Steps.{IsSeen}

-- What is seen tells openings, actors and how many caches there are.

pub seen_openings : (told : Option Segments) (m : Machine) (cs : List Named) → (references_seen m told cs).openings ≡ openings_in cs
seen_openings None m cs = refl
seen_openings (Some h) m cs = refl

pub seen_actors : (told : Option Segments) (m : Machine) (cs : List Named) → (references_seen m told cs).memory.actors ≡ m.actors
seen_actors None m cs = refl
seen_actors (Some h) m cs = refl

pub seen_length : (told : Option Segments) (m : Machine) (cs : List Named) → length (references_seen m told cs).memory.caches ≡ length m.caches
seen_length None m cs = length_used (whole_of m None cs) 1 m.caches
seen_length (Some h) m cs = length_used (whole_of m (Some h) cs) 1 m.caches

-- How many caches are noted

namings_few : (k : ℕ) (cs : List (Option Cache)) → length (namings k cs) ≤ length cs
namings_few k [] = omega arith
namings_few k (o ∷ cs) = omega (arith, length-append (naming_at k o) (namings (k + 1) cs), one o, namings_few (k + 1) cs)
  where
    length-append : (xs ys : List Naming) → length (xs ++ ys) ≡ length xs + length ys
    length-append [] ys = omega arith
    length-append (x ∷ xs) ys = omega (arith, length-append xs ys)

    by : (s : Option ℕ) → length (option_map_or (λ seg. (let x : Naming = record { seg = seg; cache = k } in x) ∷ []) s []) ≤ 1
    by None = omega arith
    by (Some seg) = omega arith

    one : (o : Option Cache) → length (naming_at k o) ≤ 1
    one None = omega arith
    one (Some c) = by c.segment

noted_few : (m : Machine) (cs : List Named) → map naming_of cs ≡ namings 1 m.caches → length cs ≤ length m.caches
noted_few m cs e = omega (arith, length-map cs naming_of, ap length e, namings_few 1 m.caches)

-- what caches that go may add to the counters
pub credit_few : {Manager X Chooser : Type 0} (M : GhostsOfMapper X) (G : GhostsOfGmi Manager X Chooser) (manager : SegManager Manager) (mapper : X) → CanCall G manager (M.held mapper) (M.page_bytes mapper)
    → credit M G manager mapper ≤ G.made manager.gmi + 8 * LIVE_PAGES + 8 * MOST_MADE
credit_few M G manager mapper can =
    omega (arith, can.live, can.few, kept_few (G.machine manager.gmi (M.held mapper)) manager.caches.items manager.kept.items can.tied.caches can.tied.once can.tied.named, noted_few (G.machine manager.gmi (M.held mapper)) manager.caches.items can.tied.caches)

-- A step as it is seen once other caches were destroyed

pub told_both : (was now : Option Segments) → option_map (λ (h : Segments). h.denied) now ≡ option_map (λ (h : Segments). h.denied) was → (before mid after : State) (next : ReferenceMachine) → after.references ≡ mid.references → IsSeen was before mid next → IsSeen now before after next
told_both None None e before mid after next same seen = (seen.0, same ∙ seen.1)
told_both None (Some h) e before mid after next same seen = absurd (cc e)
told_both (Some h) None e before mid after next same seen = absurd (cc e)
told_both (Some h) (Some g) e before mid after next same seen = same ∙ seen

module _ {Manager X Chooser : Type 0} (M : GhostsOfMapper X) (G : GhostsOfGmi Manager X Chooser) (before : X) (old mid : SegManager Manager) (middle after : X) (new : SegManager Manager)
    (trims : Trims M G middle mid after new) (can : CanCall G mid (M.held middle) (M.page_bytes middle)) where
  abbrev m : Machine
  m = G.machine mid.gmi (M.held middle)

  abbrev n : Machine
  n = G.machine new.gmi (M.held after)

  -- as many caches as before
  pub as_many : length n.caches ≡ length m.caches
  as_many = sym (seen_length (segments_of (M.held after)) n new.caches.items) ∙ ap (λ (r : ReferenceMachine). length r.memory.caches) trims.seen ∙ seen_length (segments_of (M.held middle)) m mid.caches.items

  openings_same : openings_in new.caches.items ≡ openings_in mid.caches.items
  openings_same = sym (seen_openings (segments_of (M.held after)) n new.caches.items) ∙ ap (λ (r : ReferenceMachine). r.openings) trims.seen ∙ seen_openings (segments_of (M.held middle)) m mid.caches.items

  actors_same : n.actors ≡ m.actors
  actors_same = sym (seen_actors (segments_of (M.held after)) n new.caches.items) ∙ ap (λ (r : ReferenceMachine). r.memory.actors) trims.seen ∙ seen_actors (segments_of (M.held middle)) m mid.caches.items

  -- what nothing refers to is the same, whether asked before the others went or behind
  module _ (same : (G.machine old.gmi (M.held before)).caches ≡ m.caches) (q : ℕ) where
    unreferenced : is_unreferenced (referred (below G old (M.held before)) (below G new (M.held after))) q ≡ is_unreferenced (below G mid (M.held middle)) q
    unreferenced = λ i. option_map_or (λ (c : Cache). option_map_or (λ seg. not (nat_lt 0 (openings_same i seg) || list_any (maps_in q) (actors_same i))) c.segment false) (cache_of (record m { caches = same i }) q) false

    pub left_same : left_one (referred (below G old (M.held before)) (below G new (M.held after))) q ≡ left_one (below G mid (M.held middle)) q
    left_same = λ i. cond (unreferenced i) (option_map_or (λ seg. seg ∷ []) (segment_of (record m { caches = same i }) q) []) []
