use Rattle.std.proofs.Common.{◌+◌, ◌≤◌, ◌^◌, Option, refl, sym, subst, inl}
use Rattle.std.specs.Prelude.{IfSome}
use Rattle.vm_ids.specs.declared.numbers.NodeId.{NodeId}
use Rattle.local_cache.specs.Many.{HaveNodes, IsPlain}
use Rattle.tree_merge.proofs.Merge.Many.{children_there, given_is, many_merged, many_sound, parents_there}
use Rattle.tree_merge.proofs.settling_many.give_many.Goals as goal

pub parent-parent-requires : goal.parent-parent-requires
parent-parent-requires c = c.requires.can.least.1.held

pub own_state-state-requires : goal.own_state-state-requires
own_state-state-requires c = c.requires.can.least.1.held

pub exchange_each-requires-clause-parents : goal.exchange_each-requires-clause-parents
exchange_each-requires-clause-parents c =
    subst (λ (o : Option NodeId). IfSome o (λ p. HaveNodes c.args.caches.now p c.args.count)) (sym c.parent-parent.ensures)
    (parents_there c.args.caches.now c.args.node c.args.child c.args.count c.requires.can)

pub exchange_each-requires-clause-nodes : goal.exchange_each-requires-clause-nodes
exchange_each-requires-clause-nodes c = λ k less. (c.requires.can.alike k less).held

pub exchange_each-requires-clause-short : goal.exchange_each-requires-clause-short
exchange_each-requires-clause-short c = c.requires.can.different.short

pub inherit_many-requires-clause-held : goal.inherit_many-requires-clause-held
inherit_many-requires-clause-held c = λ k less. c.exchange_each.ensures.stays _ (children_there c.args.caches.now c.args.node c.args.child c.args.count c.requires.can k less)

pub inherit_many-requires-clause-plain : goal.inherit_many-requires-clause-plain
inherit_many-requires-clause-plain c = subst IsPlain (sym c.own_state-state.ensures) (c.requires.can.alike 0 c.requires.some).plain

pub inherit_many-requires-clause-short : goal.inherit_many-requires-clause-short
inherit_many-requires-clause-short c = subst (λ (o : Option NodeId). IfSome o (λ p. p.0 + c.args.count ≤ 2 ^ 64)) (sym c.parent-parent.ensures) c.requires.can.different.short_parents

pub free_many-requires : goal.free_many-requires
free_many-requires c = λ k less. c.inherit_many.ensures.stays _ (c.exchange_each.ensures.stays _ (c.requires.can.alike k less).held)

pub returns-clause-sound : goal.returns-clause-sound
returns-clause-sound c =
    let a = c.args.caches.now in
    many_sound a c.args.node c.args.child c.args.count c.requires.can _
    (given_is a c.args.node c.args.child c.args.count c.parent-parent.result c.own_state-state.result c.exchange_each.new.caches c.inherit_many.new.self c.free_many.new.self
    c.parent-parent.ensures c.own_state-state.ensures c.exchange_each.ensures.changed c.inherit_many.ensures.changed c.free_many.ensures)

pub returns-clause-merged : goal.returns-clause-merged
returns-clause-merged c =
    let a = c.args.caches.now in
    record {
      some = c.requires.some;
      how = inl (
        refl,
        many_merged a c.args.node c.args.child c.args.count c.requires.can _
            (given_is a c.args.node c.args.child c.args.count c.parent-parent.result c.own_state-state.result c.exchange_each.new.caches c.inherit_many.new.self c.free_many.new.self
            c.parent-parent.ensures c.own_state-state.ensures c.exchange_each.ensures.changed c.inherit_many.ensures.changed c.free_many.ensures),
      );
    }
