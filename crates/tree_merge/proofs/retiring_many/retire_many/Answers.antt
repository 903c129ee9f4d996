use Rattle.std.proofs.Common.{ap, ◌∙◌, sym, subst}
use Rattle.local_cache.specs.Arena.{Arena}
use Rattle.local_cache.specs.Many.{as_working_many, without_many}
use Rattle.tree_merge.specs.Stepping.{AreRetired}
use Rattle.tree_merge.proofs.RetiredPages.AtOnce.{leaves_at_once, shared_at_once}
use Rattle.tree_merge.proofs.RetiredPages.Leaves.{parents_held}
use Rattle.tree_merge.proofs.retiring_many.retire_many.Goals as goal

pub leave_many-requires-clause-held : goal.leave_many-requires-clause-held
leave_many-requires-clause-held c = λ k less. (c.leaf_nodes-leaves.ensures.leaves.alike k less).held

pub leave_many-requires-clause-parents : goal.leave_many-requires-clause-parents
leave_many-requires-clause-parents c =
    let all = c.leaf_nodes-leaves.ensures.leaves in
    parents_held c.args.caches.now c.requires.sound _ c.args.node c.leaf_nodes-leaves.result (λ k less. (all.alike k less).held) all.leaves

pub free_many-requires : goal.free_many-requires
free_many-requires c = λ k less. c.leave_many.ensures.stays _ (c.leaf_nodes-leaves.ensures.leaves.alike k less).held

pub to_working_many-requires-clause-held : goal.to_working_many-requires-clause-held
to_working_many-requires-clause-held c = λ k less. (c.shared_nodes-shared.ensures.shared.alike k less).held

pub returns-then-leaves-gt0-clause-retired : goal.returns-then-leaves-gt0-clause-retired
returns-then-leaves-gt0-clause-retired c = λ cache page named.
    let a = c.args.caches.now in
    let d = c.args.node in
    let count = c.leaf_nodes-leaves.result in
    subst (λ (b : Arena). AreRetired a b cache page count)
    (sym (c.free_many.ensures ∙ ap (λ (b : Arena). without_many b d count) c.leave_many.ensures.changed))
    (leaves_at_once a c.requires.sound d cache page named count c.leaf_nodes-leaves.ensures.leaves)

pub returns-else-leaves-gt0-clause-none : goal.returns-else-leaves-gt0-clause-none
returns-else-leaves-gt0-clause-none c = λ none. c.to_working_many.ensures.changed ∙ ap (as_working_many c.args.caches.now c.args.node) none

pub returns-else-leaves-gt0-clause-retired : goal.returns-else-leaves-gt0-clause-retired
returns-else-leaves-gt0-clause-retired c = λ cache page named.
    let a = c.args.caches.now in
    let count = c.shared_nodes-shared.result in
    subst (λ (b : Arena). AreRetired a b cache page count) (sym c.to_working_many.ensures.changed)
    (shared_at_once a c.requires.sound c.args.node cache page named count c.shared_nodes-shared.ensures.shared)
