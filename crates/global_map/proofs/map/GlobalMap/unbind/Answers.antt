use Rattle.std.proofs.Common.{◌≡◌, ◌<◌, sym, ap, ◌∙◌, arith, length, List, Option, subst}
use Rattle.std.specs.Option.{IsSome}
use Rattle.std.specs.Prelude.{position, Some}
use Rattle.vm_ids.specs.declared.numbers.NodeId.{NodeId}
use Rattle.vm_ids.proofs.Places.{some_position}
use Rattle.global_map.specs.Pairs.{bound_times, hashes_of, is_node, node_of}
use Rattle.global_map.proofs.Places.{at_place, has_hash, unbound_indexed}
use Rattle.global_map.proofs.map.GlobalMap.unbind.Goals as goal

pub unwrap-at-requires : goal.unwrap-at-requires
unwrap-at-requires c =
    let once : bound_times c.deref.result.now c.args.node.0 ≡ 1 = ap (λ (xs : List (Option NodeId)). bound_times xs c.args.node.0) (c.deref.ensures.value ∙ c.self.view_is) ∙ c.requires in
    subst IsSome (sym c.place_of.ensures) (some_position (is_node c.args.node.0) c.deref.result.now (omega arith))

pub place_of-requires-clause-table : goal.place_of-requires-clause-table
place_of-requires-clause-table c = c.self.invariant.hashes ∙ ap hashes_of (sym c.deref.ensures.value)

pub remove-requires : goal.remove-requires
remove-requires c =
    let place : (c.unwrap-at.result < length c.self.inside.nodes.items) × (node_of c.self.inside.nodes.items c.unwrap-at.result ≡ Some c.args.node)
    = at_place c.self.inside.nodes.items c.args.node c.unwrap-at.result (ap (λ (xs : List (Option NodeId)). position (is_node c.args.node.0) xs) (sym c.deref.ensures.value) ∙ sym c.place_of.ensures ∙ c.unwrap-at.ensures) in
    has_hash c.self.inside.nodes.items c.self.inside.table c.unwrap-at.result c.args.node c.self.invariant.hashes place.1

pub invariant_of-self : goal.invariant_of-self
invariant_of-self c =
    let place : (c.unwrap-at.result < length c.self.inside.nodes.items) × (node_of c.self.inside.nodes.items c.unwrap-at.result ≡ Some c.args.node)
    = at_place c.self.inside.nodes.items c.args.node c.unwrap-at.result (ap (λ (xs : List (Option NodeId)). position (is_node c.args.node.0) xs) (sym c.deref.ensures.value) ∙ sym c.place_of.ensures ∙ c.unwrap-at.ensures) in
    unbound_indexed c.self.inside.nodes.items c.self.inside.table c.remove.new.self c.unwrap-at.result c.self.invariant place.0 c.remove.ensures
