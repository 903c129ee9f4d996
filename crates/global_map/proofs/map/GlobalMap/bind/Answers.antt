use Rattle.std.proofs.Common.{◌<◌, ap, ◌∙◌, arith, length, List, Option, ℕ, Some, set}
use Rattle.vm_ids.specs.declared.numbers.NodeId.{NodeId}
use Rattle.global_map.specs.Pairs.{bound_times, node_of}
use Rattle.global_map.proofs.Places.{bound_indexed, hash_free, table_length}
use Rattle.global_map.proofs.map.GlobalMap.bind.Goals as goal

pub enter-requires-clause-below : goal.enter-requires-clause-below
enter-requires-clause-below c = omega (arith, ap (λ (xs : List (Option NodeId)). length xs) c.self.view_is, table_length c.self.inside.nodes.items c.self.inside.table c.self.invariant.hashes)

pub enter-requires-clause-absent : goal.enter-requires-clause-absent
enter-requires-clause-absent c =
    hash_free c.self.inside.nodes.items c.self.inside.table c.args.frame.0 c.self.invariant.hashes (ap (λ (xs : List (Option NodeId)). node_of xs c.args.frame.0) c.self.view_is ∙ c.requires.free)

pub invariant_of-self : goal.invariant_of-self
invariant_of-self c =
    let within : c.args.frame.0 < length c.self.inside.nodes.items = omega (arith, ap (λ (xs : List (Option NodeId)). length xs) c.self.view_is) in
    bound_indexed c.self.inside.nodes.items c.self.inside.table _ c.args.frame.0 c.args.node c.self.invariant within (ap (λ (xs : List (Option NodeId)). bound_times xs c.args.node.0) c.self.view_is ∙ c.requires.node) (c.enter.ensures ∙ ap (λ (h : ℕ). set c.self.inside.table c.args.frame.0 (Some h)) c.hash.ensures)
