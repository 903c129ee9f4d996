use Rattle.std.proofs.Common.{Option, ◌∙◌, sym, ap}
use Rattle.vm_ids.specs.declared.numbers.NodeId.{NodeId}
use Rattle.local_cache.specs.Arena.{Cell, no_links}
use Rattle.local_cache.specs.NodeCells.{tree_of}
use Rattle.local_cache.proofs.Packing.{two_at_most}
use Rattle.local_cache.proofs.runs.single.Single.as_run.Goals as goal

pub returns-clause-says : goal.returns-clause-says
returns-clause-says c =
    let cell = c.args.self.now in
    let name = sym c.in-Live.is ∙ ap (λ (d : Cell). d.name) c.self.view_is in
    let own = sym c.in_ok-plain_of.ensures.says ∙ ap (λ (d : Cell). d.own) c.self.view_is in
    let tree = (λ i. tree_of (c.tree_child.ensures.child i) (c.tree_child-2.ensures.child i)) ∙ two_at_most cell.tree c.tree_child.ensures.few in
    let links = ap (λ (p : Option NodeId). record no_links { parent = p }) c.parent.ensures ∙ sym (c.is_tree.ensures.0 c.if-not-is_tree.false) in
    λ i. record { name = name i; own = own i; links = links i; tree = tree i }
