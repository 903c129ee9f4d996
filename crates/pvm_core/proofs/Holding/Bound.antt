-- Nodes and the frames that they are bound to.
use Rattle.std.proofs.Common.{◌≡◌, ℕ, ◌<◌, ◌≤◌, true, List, length, get_or, Option, Some, None, refl, sym, ap, ◌∙◌, arith, inl, inr}
use Rattle.std.specs.Prelude.{if◌then◌else◌}
use Rattle.std.proofs.lemmas.Bool.{cases_lt}
use Rattle.std.proofs.lemmas.List.{get_or_past}
use Rattle.std.proofs.lemmas.List.Sums.{passes_at_first}
use Rattle.vm_ids.specs.declared.numbers.NodeId.{NodeId}
use Rattle.vm_ids.proofs.Places.{bit, bit-le, bit_from, bit_true, count_some, only_place, same_number, some_place}
use Rattle.global_map.specs.Pairs.{bound_times, frame_of, is_node, node_of}
use Rattle.global_map.proofs.Places.{the_node}
use Rattle.local_cache.specs.Arena.{Arena, HasNode}
use Rattle.local_cache.specs.Own.{is_resident, own_of}
use Rattle.local_cache.proofs.Nodes.OwnStates.{own_held}

-- a node is bound to one frame where its page is in a frame, and else to none
abbrev pub AreBound : Arena → List (Option NodeId) → Type 0
AreBound a map = (n : NodeId) → bound_times map n.0 ≡ (if is_resident (own_of a n) then 1 else 0)

-- where it is bound is a frame
pub frame_within : (map : List (Option NodeId)) (f : ℕ) (n : NodeId) → node_of map f ≡ Some n → f < length map
frame_within map f n at = elim (cases_lt f (length map)) [
  | inl less ↦ less
  | inr past ↦ absurd (let none : None ≡ Some n = sym (get_or_past map f None past) ∙ at in cc none)
]

module _ (a : Arena) (map : List (Option NodeId)) (bound : AreBound a map) where
  passes : (f : ℕ) (n : NodeId) → node_of map f ≡ Some n → is_node n.0 (get_or map f None) ≡ true
  passes f n at = ap (is_node n.0) at ∙ same_number n.0

  times : (n : NodeId) → bound_times map n.0 ≡ bit (is_resident (own_of a n))
  times n = bound n

  pub bound_resident : (f : ℕ) (n : NodeId) → node_of map f ≡ Some n → is_resident (own_of a n) ≡ true
  bound_resident f n at =
      let some : 1 ≤ bound_times map n.0 = count_some (is_node n.0) map f None (frame_within map f n at) (passes f n at) in
      bit_from (is_resident (own_of a n)) (omega (arith, times n, some))

  pub bound_there : (f : ℕ) (n : NodeId) → node_of map f ≡ Some n → HasNode a n
  bound_there f n at = own_held is_resident a n refl (bound_resident f n at)

  place : (f : ℕ) (n : NodeId) → node_of map f ≡ Some n → frame_of map n.0 ≡ f
  place f n at =
      let some : 1 ≤ bound_times map n.0 = count_some (is_node n.0) map f None (frame_within map f n at) (passes f n at) in
      only_place (is_node n.0) map f None (omega (arith, times n, bit-le (is_resident (own_of a n)), some)) (frame_within map f n at) (passes f n at)

  -- at no other frame
  pub one_frame : (f g : ℕ) (n : NodeId) → node_of map f ≡ Some n → node_of map g ≡ Some n → f ≡ g
  one_frame f g n at there = sym (place f n at) ∙ place g n there

  -- a resident node is bound
  pub resident_bound : (n : NodeId) → is_resident (own_of a n) ≡ true → node_of map (frame_of map n.0) ≡ Some n
  resident_bound n here =
      let some : 1 ≤ bound_times map n.0 = omega (arith, times n, bit_true (is_resident (own_of a n)) here) in
      the_node (node_of map (frame_of map n.0)) n (passes_at_first (is_node n.0) map None (some_place (is_node n.0) map some))
