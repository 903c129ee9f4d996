use Rattle.std.proofs.Common.{◌≡◌, Bool, true, false, cond, refl, sym, ap, ◌∙◌, subst, arith, inr}
use Rattle.vm_ids.specs.declared.numbers.NodeId.{NodeId}
use Rattle.local_cache.specs.declared.own_state.OwnState.{OwnState}
use Rattle.local_cache.specs.Arena.{Arena}
use Rattle.local_cache.specs.OnCells.{passes}
use Rattle.local_cache.specs.Own.{own_of}
use Rattle.local_cache.specs.Sound.{IsSound}
use Rattle.tree_merge.specs.declared.released.Released.{Released}
use Rattle.tree_merge.specs.declared.released.Released.TheVariants.{Dropped, Moved}
use Rattle.tree_merge.specs.Releasing.{IsMerged}
use Rattle.tree_merge.specs.Settling.{AreMerged}
use Rattle.tree_merge.proofs.Merge.AtOnce.{parent_held}
use Rattle.tree_merge.proofs.Merge.Once.{child_held, once_merged, once_sound}
use Rattle.tree_merge.proofs.Releases.{merged_released}
use Rattle.tree_merge.proofs.settling_many.give_one.Goals as goal

one_step : (a b : Arena) (r s : Released) → IsSound a → IsMerged a b r → r ≡ s → AreMerged a b (record { pages = 1; released = s })
one_step a b r s sound m e =
    let n = subst (IsMerged a b) e m in
    record { some = omega arith; how = inr (refl, n, merged_released a b sound s n) }

told : (w y : NodeId) (s : OwnState) (b t : Bool) → t ≡ b → cond t (Moved w y) (Dropped w s) ≡ cond b (Moved w y) (Dropped w s)
told w y s b t e = ap (λ k. cond k (Moved w y) (Dropped w s)) e

pub own_state-state-requires : goal.own_state-state-requires
own_state-state-requires c = c.requires.least.1.held

pub give_way-requires-clause-held : goal.give_way-requires-clause-held
give_way-requires-clause-held c = c.requires.least.1.held

pub give_way-requires-clause-child : goal.give_way-requires-clause-child
give_way-requires-clause-child c = child_held c.args.caches.now c.requires.sound c.args.node c.args.child c.requires.least c.requires.child

pub give_way-requires-clause-parent : goal.give_way-requires-clause-parent
give_way-requires-clause-parent c = parent_held c.args.caches.now c.requires.sound c.args.node c.requires.least.1.held _ refl

pub returns-then-give_way-clause-sound : goal.returns-then-give_way-clause-sound
returns-then-give_way-clause-sound c =
    let r = c.requires in
    once_sound c.args.caches.now r.sound c.args.node c.args.child r.least r.child r.no_stub c.give_way.new.self c.give_way.ensures.given

pub returns-else-give_way-clause-sound : goal.returns-else-give_way-clause-sound
returns-else-give_way-clause-sound c =
    let r = c.requires in
    once_sound c.args.caches.now r.sound c.args.node c.args.child r.least r.child r.no_stub c.give_way.new.self c.give_way.ensures.given

pub returns-then-give_way-clause-merged : goal.returns-then-give_way-clause-merged
returns-then-give_way-clause-merged c =
    let r = c.requires in
    let a = c.args.caches.now in
    one_step a c.give_way.new.self _ _ r.sound
    (once_merged a r.sound c.args.node c.args.child r.least r.child r.no_stub c.give_way.new.self c.give_way.ensures.given)
    (told c.args.node c.args.child (own_of a c.args.node) true (passes a c.args.node c.args.child) (sym c.give_way.ensures.passed ∙ c.if-give_way.true))

pub returns-else-give_way-clause-merged : goal.returns-else-give_way-clause-merged
returns-else-give_way-clause-merged c =
    let r = c.requires in
    let a = c.args.caches.now in
    one_step a c.give_way.new.self _ _ r.sound
    (once_merged a r.sound c.args.node c.args.child r.least r.child r.no_stub c.give_way.new.self c.give_way.ensures.given)
    (told c.args.node c.args.child (own_of a c.args.node) false (passes a c.args.node c.args.child) (sym c.give_way.ensures.passed ∙ c.if-give_way.false)
    ∙ ap (Dropped c.args.node) (sym c.own_state-state.ensures))
