use Rattle.std.proofs.Common.{◌≡◌, ◌≤◌, ◌<◌, None, Some, length, sym, ap, ◌∙◌, List, Option, subst, MatchOption}
use Rattle.std.specs.Prelude.{position}
use Rattle.vm_ids.specs.declared.numbers.NodeId.{NodeId}
use Rattle.vm_ids.proofs.Places.{position_none}
use Rattle.global_map.specs.Pairs.{bound_times, hashes_of, is_node, node_of}
use Rattle.global_map.proofs.Places.{at_place}
use Rattle.global_map.proofs.map.GlobalMap.get.Goals as goal

pub returns-clause-found : goal.returns-clause-found
returns-clause-found c =
    at_place c.args.self.now c.args.node c.in_ok-at.at (ap (λ (xs : List (Option NodeId)). position (is_node c.args.node.0) xs) (sym (c.deref.ensures.value ∙ c.self.view_is)) ∙ sym c.place_of.ensures ∙ c.in_ok-at.was)

pub returns-clause-once : goal.returns-clause-once
returns-clause-once c = subst (λ (xs : List (Option NodeId)). bound_times xs c.args.node.0 ≤ 1) c.self.view_is (c.self.invariant.one_to_one.once c.args.node.0)

pub returns-in_err-at-clause-found : goal.returns-in_err-at-clause-found
returns-in_err-at-clause-found c =
    let none : position (is_node c.args.node.0) c.args.self.now ≡ None = ap (λ (xs : List (Option NodeId)). position (is_node c.args.node.0) xs) (sym (c.deref.ensures.value ∙ c.self.view_is)) ∙ sym c.place_of.ensures ∙ c.in_err-at.was in
    subst (λ o. MatchOption o (bound_times c.args.self.now c.args.node.0 ≡ 0) (λ frame. (frame.0 < length c.args.self.now) × (node_of c.args.self.now frame.0 ≡ Some c.args.node))) (sym c.from_residual.ensures) (position_none (is_node c.args.node.0) c.args.self.now none)

pub returns-in_err-at-clause-once : goal.returns-in_err-at-clause-once
returns-in_err-at-clause-once c = subst (λ (xs : List (Option NodeId)). bound_times xs c.args.node.0 ≤ 1) c.self.view_is (c.self.invariant.one_to_one.once c.args.node.0)

pub place_of-requires-clause-table : goal.place_of-requires-clause-table
place_of-requires-clause-table c = c.self.invariant.hashes ∙ ap hashes_of (sym c.deref.ensures.value)

pub place_of-requires-clause-once : goal.place_of-requires-clause-once
place_of-requires-clause-once c = subst (λ (xs : List (Option NodeId)). bound_times xs c.args.node.0 ≤ 1) (sym c.deref.ensures.value) (c.self.invariant.one_to_one.once c.args.node.0)
