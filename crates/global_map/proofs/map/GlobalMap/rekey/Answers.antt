use Rattle.std.proofs.Common.{◌≡◌, ◌<◌, sym, ap, ◌∙◌, arith, length, List, Option, subst, ℕ, None, length-set, set}
use Rattle.std.proofs.lemmas.List.{set-set}
use Rattle.probe_table.specs.Hashes.{hash_of_key}
use Rattle.std.specs.Option.{IsSome}
use Rattle.std.specs.Prelude.{position, Some}
use Rattle.vm_ids.specs.declared.numbers.NodeId.{NodeId}
use Rattle.vm_ids.proofs.Places.{some_position}
use Rattle.global_map.specs.Pairs.{bound_times, hashes_of, is_node, node_of}
use Rattle.global_map.proofs.Places.{at_place, bound_indexed, has_hash, table_length}
use Rattle.global_map.proofs.map.GlobalMap.rekey.Goals as goal

pub unwrap-at-requires : goal.unwrap-at-requires
unwrap-at-requires c =
    let once : bound_times c.deref.result.now c.args.from.0 ≡ 1 = ap (λ (xs : List (Option NodeId)). bound_times xs c.args.from.0) (c.deref.ensures.value ∙ c.self.view_is) ∙ c.requires.from in
    subst IsSome (sym c.place_of.ensures) (some_position (is_node c.args.from.0) c.deref.result.now (omega arith))

pub place_of-requires-clause-table : goal.place_of-requires-clause-table
place_of-requires-clause-table c = c.self.invariant.hashes ∙ ap hashes_of (sym c.deref.ensures.value)

pub remove-requires : goal.remove-requires
remove-requires c =
    let place : (c.unwrap-at.result < length c.self.inside.nodes.items) × (node_of c.self.inside.nodes.items c.unwrap-at.result ≡ Some c.args.from)
    = at_place c.self.inside.nodes.items c.args.from c.unwrap-at.result (ap (λ (xs : List (Option NodeId)). position (is_node c.args.from.0) xs) (sym c.deref.ensures.value) ∙ sym c.place_of.ensures ∙ c.unwrap-at.ensures) in
    has_hash c.self.inside.nodes.items c.self.inside.table c.unwrap-at.result c.args.from c.self.invariant.hashes place.1

pub enter-requires-clause-below : goal.enter-requires-clause-below
enter-requires-clause-below c =
    let place : (c.unwrap-at.result < length c.self.inside.nodes.items) × (node_of c.self.inside.nodes.items c.unwrap-at.result ≡ Some c.args.from)
    = at_place c.self.inside.nodes.items c.args.from c.unwrap-at.result (ap (λ (xs : List (Option NodeId)). position (is_node c.args.from.0) xs) (sym c.deref.ensures.value) ∙ sym c.place_of.ensures ∙ c.unwrap-at.ensures) in
    omega (arith, place.0, table_length c.self.inside.nodes.items c.self.inside.table c.self.invariant.hashes, ap (λ (xs : List (Option ℕ)). length xs) c.remove.ensures, length-set c.self.inside.table c.unwrap-at.result None)

pub invariant_of-self : goal.invariant_of-self
invariant_of-self c =
    let place : (c.unwrap-at.result < length c.self.inside.nodes.items) × (node_of c.self.inside.nodes.items c.unwrap-at.result ≡ Some c.args.from)
    = at_place c.self.inside.nodes.items c.args.from c.unwrap-at.result (ap (λ (xs : List (Option NodeId)). position (is_node c.args.from.0) xs) (sym c.deref.ensures.value) ∙ sym c.place_of.ensures ∙ c.unwrap-at.ensures) in
    let at : ℕ = c.unwrap-at.result in
    let table : c.enter.new.self ≡ set c.self.inside.table at (Some (hash_of_key c.args.to.0))
    = c.enter.ensures ∙ ap (λ (xs : List (Option ℕ)). set xs at (Some c.hash.result)) c.remove.ensures ∙ set-set c.self.inside.table at None (Some c.hash.result) ∙ ap (λ (h : ℕ). set c.self.inside.table at (Some h)) c.hash.ensures in
    bound_indexed c.self.inside.nodes.items c.self.inside.table _ c.unwrap-at.result c.args.to c.self.invariant place.0 (ap (λ (xs : List (Option NodeId)). bound_times xs c.args.to.0) c.self.view_is ∙ c.requires.to) table
