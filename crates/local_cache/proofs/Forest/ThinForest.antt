-- The least thin node is that of the forest.
use Rattle.std.proofs.Common.{◌≡◌, ℕ, ◌+◌, ◌<◌, ◌≤◌, Bool, true, false, length, ltb, Option, Some, None, option_map, refl, sym, ap, ◌∙◌, subst, arith, ltb-true, ltb-false}
use Rattle.std.proofs.lemmas.List.{length-map}
use Rattle.std.proofs.lemmas.Bool.{false≢true}
use Rattle.vm_ids.specs.declared.node_name.NodeName.{NodeName}
use Rattle.vm_ids.specs.declared.node_name.NodeName.TheVariants.{Live, Working}
use Rattle.vm_ids.specs.declared.numbers.NodeId.{NodeId}
use Rattle.vm_ids.specs.Forest.Nodes.{IsNode, child_count, is_live}
use Rattle.vm_ids.specs.Forest.Settling.{thin}
use Rattle.vm_ids.proofs.Forest.Bound.{thin_none, thin-some}
use Rattle.vm_ids.proofs.Forest.Laws.Settling.{thin_is_least}
use Rattle.local_cache.specs.Arena.{Arena, cell, HasNode}
use Rattle.local_cache.specs.Reading.{name_of, forest_of, stubs_of}
use Rattle.local_cache.specs.Sound.{IsKept}
use Rattle.local_cache.specs.Thin.{IsThin, IsLeastThin}
use Rattle.local_cache.proofs.Forest.Reading.{forest_of-IsNode, IsNode-forest_of, node-forest_of}

-- the children of a node are counted in its cell
pub child_count-is : (a : Arena) → IsKept a → (n : NodeId) → HasNode a n → child_count (forest_of a) (name_of a n) ≡ length (cell a n).tree + (cell a n).links.stubs
child_count-is a kept n h =
    let is = node-forest_of a kept.named n h in
    let count = (kept.threaded n h).count in
    ap (λ m. length m.tree + length m.stubs) is ∙ omega (arith, length-map (cell a n).tree (name_of a), length-map (stubs_of a n) (name_of a))

-- a thin node is one of the forest
thin-there : (a : Arena) → IsKept a → (n : NodeId) (k : ℕ) → IsThin a n k → IsNode (forest_of a) (Working k) × (child_count (forest_of a) (Working k) < 2)
thin-there a kept n k t = (
  subst (IsNode (forest_of a)) t.name (IsNode-forest_of a kept.named n t.held),
  subst (λ x. child_count (forest_of a) x < 2) t.name (let few = ltb-true _ _ t.few in omega (arith, child_count-is a kept n t.held)),
)

-- one of the forest is a thin node
there-thin : (a : Arena) → IsKept a → (x : NodeName) → IsNode (forest_of a) x → is_live x ≡ false → child_count (forest_of a) x < 2 → (n : NodeId) × (k : ℕ) × IsThin a n k × (x ≡ Working k)
there-thin a kept (Live c p) is live few = absurd (false≢true (sym live))
there-thin a kept (Working k) is live few =
    let f = forest_of-IsNode a (Working k) is in
    let n : NodeId = f.0 in
    let less : child_count (forest_of a) (name_of a n) < 2 = subst (λ x. child_count (forest_of a) x < 2) (sym f.2) few in
    (n, k, record { held = f.1; name = f.2; few = is_few (length (cell a n).tree + (cell a n).links.stubs) (omega (arith, child_count-is a kept n f.1)) }, refl)
  where
    is_few : (m : ℕ) → m < 2 → ltb m 2 ≡ true
    is_few m h = go (ltb m 2) refl
      where
        go : (b : Bool) → ltb m 2 ≡ b → b ≡ true
        go true e = refl
        go false e = absurd (let more = ltb-false _ _ e in omega arith)

-- what `thin` answers is the thin node of the forest
pub thin-forest : (a : Arena) → IsKept a → (r : Option NodeId) → IsLeastThin a r → thin (forest_of a) ≡ option_map (name_of a) r
thin-forest a kept r least = go (thin (forest_of a)) r refl least
  where
    go : (o : Option NodeName) (r : Option NodeId) → thin (forest_of a) ≡ o → IsLeastThin a r → thin (forest_of a) ≡ option_map (name_of a) r
    go None None e least = e
    go None (Some n) e least =
        let there = thin-there a kept n least.0 least.1 in
        let more = thin_none (forest_of a) e (Working least.0) there.0 refl in
        absurd (omega (arith, there.1))
    go (Some w) None e least =
        let some = thin-some (forest_of a) w e in
        let found = there-thin a kept w some.0 some.1 some.2 in
        absurd (least found.0 found.1 found.2)
    go (Some w) (Some n) e least =
        let some = thin-some (forest_of a) w e in
        let found = there-thin a kept w some.0 some.1 some.2 in
        let j : ℕ = found.1 in
        let w_is : w ≡ Working j = found.3 in
        let there = thin-there a kept n least.0 least.1 in
        let up : least.0 ≤ j = least.2 found.0 j found.2 in
        let down : j ≤ least.0 = thin_is_least (forest_of a) j least.0 (e ∙ ap Some w_is) there.0 there.1 in
        let same : j ≡ least.0 = omega arith in
        e ∙ ap Some (w_is ∙ ap Working same ∙ sym least.1.name)
