use Rattle.std.proofs.Common.{refl, sym, ◌∙◌, arith, inr}
use Rattle.tree_merge.proofs.Merge.Step.{few_children, merged}
use Rattle.tree_merge.proofs.Releases.{merged_released}
use Rattle.tree_merge.proofs.settling_many.settle_at.Goals as goal

pub tree_child-requires : goal.tree_child-requires
tree_child-requires c = c.requires.least.1.held

pub give_some-requires-clause-child : goal.give_some-requires-clause-child
give_some-requires-clause-child c = sym c.tree_child.ensures ∙ c.in-Some.is

pub give_some-requires-clause-no_stub : goal.give_some-requires-clause-no_stub
give_some-requires-clause-no_stub c = sym c.hangs_by_stub.ensures ∙ c.if-not-hangs_by_stub.true

pub merge-released-requires-clause-held : goal.merge-released-requires-clause-held
merge-released-requires-clause-held c = c.requires.least.1.held

pub merge-released-requires-clause-few : goal.merge-released-requires-clause-few
merge-released-requires-clause-few c = few_children c.args.caches.now c.requires.sound c.args.node c.requires.least

pub returns-in_default-clause-merged : goal.returns-in_default-clause-merged
returns-in_default-clause-merged c =
    let r = c.requires in
    let a = c.args.caches.now in
    let e = c.merge-released.ensures in
    let b = c.merge-released.new.caches in
    let one = merged a b r.sound c.args.node c.merge-released.result r.least e.forest e.released e.gone e.owns in
    record { some = omega arith; how = inr (refl, one, merged_released a b r.sound c.merge-released.result one) }
