use Rattle.std.proofs.Common.{◌≡◌, ◌<◌, List, [], ◌∷◌, length, Option, Some, ap, subst, arith, ltb-true}
use Rattle.std.specs.Prelude.{slice_get}
use Rattle.vm_ids.specs.declared.numbers.NodeId.{NodeId}
use Rattle.local_cache.specs.Arena.{Arena, cell}
use Rattle.local_cache.specs.Thin.{IsLeastThin}
use Rattle.tree_merge.specs.Settling.{AreDifferent}
use Rattle.tree_merge.proofs.settling_many.give_some.Goals as goal

only : (ts : List NodeId) (y : NodeId) → length ts < 2 → slice_get ts 0 ≡ Some y → ts ≡ y ∷ []
only [] y few e = absurd (cc e)
only (t ∷ []) y few e = let same : t ≡ y = cc e in ap (λ k. k ∷ []) same
only (t ∷ u ∷ ts) y few e = let bad : ⊥ = omega (arith, few) in absurd bad

only_child : (a : Arena) (w y : NodeId) → IsLeastThin a (Some w) → slice_get (cell a w).tree 0 ≡ Some y → (cell a w).tree ≡ y ∷ []
only_child a w y least first =
    let few = ltb-true _ _ least.1.few in
    only (cell a w).tree y (omega (arith, few)) first

pub stretch-count-requires : goal.stretch-count-requires
stretch-count-requires c = c.requires.least.1.held

pub give_many-requires-clause-can : goal.give_many-requires-clause-can
give_many-requires-clause-can c =
    let r = c.requires in
    record {
      sound = r.sound;
      least = r.least;
      alike = c.stretch-count.ensures.alike;
      child = only_child c.args.caches.now c.args.node c.args.child r.least r.child;
      different = subst (λ (o : Option NodeId). AreDifferent c.args.node c.args.child o c.stretch-count.result) c.parent.ensures (c.are_different.ensures c.if-are_different.true);
    }
