use Rattle.std.proofs.Common.{ap, subst, ◌∙◌, arith}
use Rattle.std.specs.FinMap as map
use Rattle.mixed_map.specs.Mixed.{without_range}
use Rattle.vm_ids.specs.declared.node_name.NodeName.{NodeName}
use Rattle.local_cache.specs.NodeKeys.{page_number}
use Rattle.local_cache.specs.Pages.{HaveNodes}
use Rattle.local_cache.proofs.TableRight.Numbers.{len_range}
use Rattle.local_cache.proofs.runs.page_table.PageTable.leave_named.Goals as goal

pub returns-in-Live-clause-fewer : goal.returns-in-Live-clause-fewer
returns-in-Live-clause-fewer c =
    let m = c.args.self.now.nodes.cells in
    let first = page_number c.in-Live.cache.0 c.in-Live.page.0 in
    let P : NodeName → Type 0 = λ x. HaveNodes m x c.args.count in
    let left = c.remove_range.ensures.cells ∙ ap (λ n. without_range m n c.args.count) c.page_number.ensures in
    omega (arith, ap map.len left, len_range m first c.args.count (subst P c.in-Live.is c.requires.held))
