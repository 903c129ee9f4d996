use Rattle.std.proofs.Common.{rules, ◌≡◌, ◌<◌, length, None, Some, ℕ, true, false, get_or, sym, ap, ◌∙◌, arith}
use Rattle.probe_table.specs.Entries.{hash_of}
use Rattle.global_map.specs.Pairs.{is_node, node_of}
use Rattle.global_map.proofs.Places.{the_node, hash_bound, table_length, position_at, no_position}
use Rattle.global_map.proofs.map.place_of.Goals as goal

pub returns-in_err-frame : goal.returns-in_err-frame
returns-in_err-frame c = c.from_residual.ensures ∙ sym (no_position c.args.nodes.now c.args.node (λ frame passes. (
    let bound : node_of c.args.nodes.now frame ≡ Some c.args.node = the_node (node_of c.args.nodes.now frame) c.args.node passes in
    let under : hash_of c.args.table.now frame ≡ Some c.hash.result = hash_bound c.args.nodes.now c.args.table.now frame c.args.node c.requires.table bound ∙ ap (λ (h : ℕ). Some h) (sym c.hash.ensures) in
    let here = c.in_err-frame.ensures.absent frame under in
    let not : is_node c.args.node.0 (get_or c.args.nodes.now frame None) ≡ false = search (rules, here) in
    absurd (cc))))

pub returns : goal.returns
returns c =
    let below : c.in_ok-frame.frame < length c.args.nodes.now = omega (arith, c.in_ok-frame.ensures.below, table_length c.args.nodes.now c.args.table.now c.requires.table) in
    let here = c.in_ok-frame.ensures.found in
    let passes : is_node c.args.node.0 (get_or c.args.nodes.now c.in_ok-frame.frame None) ≡ true = search (rules, here) in
    sym (position_at c.args.nodes.now c.args.node c.in_ok-frame.frame below passes c.requires.once)
