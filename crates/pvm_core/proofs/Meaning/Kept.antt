-- How many pages are in frames and in slots, and what counters there are.
use Rattle.std.proofs.Common.{◌≡◌, ℕ, suc, ◌+◌, ◌≤◌, Bool, true, false, List, [], ◌∷◌, length, get_or, Option, Some, None, is_some, refl, sym, ap, ◌∙◌, arith, inl, inr}
use Rattle.std.specs.Prelude.{count_by}
use Rattle.std.proofs.lemmas.List.{length-map}
use Rattle.vm_ids.specs.Held.{Held}
use Rattle.vm_ids.specs.declared.numbers.NodeId.{NodeId}
use Rattle.vm_ids.specs.Forest.NameMap.{keys}
use Rattle.vm_ids.specs.Forest.Nodes.{is_live}
use Rattle.vm_ids.specs.Forest.Shape.{IsBounded}
use Rattle.vm_ids.proofs.Forest.Bound.{split_length}
use Rattle.vm_ids.proofs.Places.{bit, bit-le, bit_false, bit_from, bit_mono, bit_true, count_cons, other_number, same_number}
use Rattle.global_map.specs.Pairs.{is_node}
use Rattle.local_cache.specs.declared.own_state.OwnState.{OwnState}
use Rattle.local_cache.specs.declared.own_state.OwnState.TheVariants.{Absent, Zero, Resident, Slot, OnSegment}
use Rattle.local_cache.specs.Arena.{Arena, HasNode, with_own}
use Rattle.local_cache.specs.Own.{is_in_slot, is_resident, own_of, own_states}
use Rattle.local_cache.specs.Reading.{AreNamesApart, forest_of as nodes}
use Rattle.local_cache.specs.ReadingBy.{forest_by}
use Rattle.local_cache.proofs.Nodes.Count.{states_most}
use Rattle.local_cache.proofs.Nodes.OwnStates.{id_apart, id_cases, own_count, own_held, own_other, own_same}
use Rattle.residency.specs.StoreForest.{store_forest}
use Rattle.pvm_core.specs.Keeping.{HoldsEachOnce}
use Rattle.pvm_core.specs.Manager.{Manager, forest_of, numbered}
use Rattle.pvm_core.specs.Standing.{KeepsFewPages, pages_kept}
use Rattle.pvm_core.proofs.Holding.Bound.{AreBound}

-- the number of a manager is that of its forest's counters
pub numbered_by : (p : Manager) (h : Option Held) → numbered p ≡ (forest_of p h).made + (forest_of p h).copies
unfolding store_forest forest_by
numbered_by p h = refl

-- a frame is held at most where a node is bound to it
held_most : (held : List Bool) (map : List (Option NodeId)) → length map ≡ length held → ((f : ℕ) → get_or held f false ≡ true → is_some (get_or map f None) ≡ true) → count_by (λ h. h) held ≤ count_by is_some map
held_most [] map same each = omega arith
held_most (h ∷ hs) [] same each = absurd (omega (arith, same))
held_most (h ∷ hs) (m ∷ ms) same each =
    omega (arith, count_cons (λ h. h) h hs, count_cons is_some m ms, bit_mono h (is_some m) (each 0), held_most hs ms (omega (arith, same)) (λ f. each (suc f)))

-- the page of the node in the first frame is taken out of it
module _ (m : NodeId) (map : List (Option NodeId)) (a : Arena) (bound : AreBound a (Some m ∷ map)) where
  once : count_by (is_node m.0) map + 1 ≡ bit (is_resident (own_of a m))
  once =
      let times : count_by (is_node m.0) (Some m ∷ map) ≡ bit (is_resident (own_of a m)) = bound m in
      omega (arith, times, count_cons (is_node m.0) (Some m) map, bit_true (is_node m.0 (Some m)) (same_number m.0))

  resident : is_resident (own_of a m) ≡ true
  resident = bit_from (is_resident (own_of a m)) (omega (arith, once))

  there : HasNode a m
  there = own_held is_resident a m refl resident

  left : AreBound (with_own a m Absent) map
  left n = elim (id_cases n m) [
    | inl same ↦ (
        let here : count_by (is_node m.0) map ≡ 0 = omega (arith, once, bit-le (is_resident (own_of a m))) in
        ap (λ (k : NodeId). count_by (is_node k.0) map) same ∙ here
        ∙ sym (bit_false (is_resident (own_of (with_own a m Absent) n)) (ap (λ (k : NodeId). is_resident (own_of (with_own a m Absent) k)) same ∙ ap is_resident (own_same a m Absent))))
    | inr other ↦ (
        let times : count_by (is_node n.0) (Some m ∷ map) ≡ bit (is_resident (own_of a n)) = bound n in
        let rest : count_by (is_node n.0) map ≡ bit (is_resident (own_of a n)) = omega (arith, times, count_cons (is_node n.0) (Some m) map, bit_false (is_node n.0 (Some m)) (other_number m.0 n.0 (λ e. id_apart n m other (sym e)))) in
        rest ∙ ap (λ (s : OwnState). bit (is_resident s)) (sym (own_other a m n Absent other)))
  ]

-- a frame is bound for each page in a frame
bound_most : (map : List (Option NodeId)) (a : Arena) → AreBound a map → count_by is_some map ≤ count_by is_resident (own_states a)
bound_most [] a bound = omega arith
bound_most (None ∷ map) a bound =
    omega (arith, count_cons is_some None map, bound_most map a (λ n. (let times : count_by (is_node n.0) (None ∷ map) ≡ bit (is_resident (own_of a n)) = bound n in let rest : count_by (is_node n.0) map ≡ bit (is_resident (own_of a n)) = omega (arith, times, count_cons (is_node n.0) None map) in rest)))
bound_most (Some m ∷ map) a bound =
    omega (arith, count_cons is_some (Some m) map, bound_most map (with_own a m Absent) (left m map a bound), own_count is_resident a m Absent (there m map a bound), bit_true (is_resident (own_of a m)) (resident m map a bound))

-- a page is in a frame or in a slot
one_place : (x : OwnState) → bit (is_resident x) + bit (is_in_slot x) ≤ 1
one_place Absent = omega arith
one_place Zero = omega arith
one_place (Resident dirty) = omega arith
one_place (Slot s) = omega arith
one_place OnSegment = omega arith

places_most : (xs : List OwnState) → count_by is_resident xs + count_by is_in_slot xs ≤ length xs
places_most [] = omega arith
places_most (x ∷ xs) = omega (arith, count_cons is_resident x xs, count_cons is_in_slot x xs, one_place x, places_most xs)

-- where the working nodes are bounded, few pages are in frames and slots
pub few_kept : (p : Manager) → HoldsEachOnce p → length p.store.map ≡ length p.store.frames.held → count_by (λ h. h) p.store.slots ≡ count_by is_in_slot (own_states p.caches) → AreNamesApart p.caches → IsBounded (nodes p.caches) → KeepsFewPages p
few_kept p once same slots named bounded =
    let frames = held_most p.store.frames.held p.store.map same (λ f held. sym (once.held f) ∙ held) in
    let kept : pages_kept p ≤ length (own_states p.caches) = omega (arith, frames, bound_most p.store.map p.caches once.bound, slots, places_most (own_states p.caches)) in
    let most = states_most p.caches named in
    let all = split_length is_live (keys (nodes p.caches).nodes) in
    let list = length-map (nodes p.caches).nodes.list (λ e. e.0) in
    elim bounded [
      | inl fewer ↦ inl (omega (arith, kept, most, all, list, fewer))
      | inr none ↦ inr (omega (arith, kept, most, all, list, none.0, none.1))
    ]
