use Rattle.std.proofs.Common.{subst}
use Rattle.local_cache.specs.NodeTable.{IsStandingAs, Table}
use Rattle.std.specs.Prelude.{IfSome}
use Rattle.local_cache.proofs.Alike.{standing}
use Rattle.local_cache.proofs.runs.node_table.NodeTable.run_alone.Goals as goal

pub returns-in-Some : goal.returns-in-Some
returns-in-Some c =
    let P : Table → Type 0 = λ t. IfSome c.as_run.result (IsStandingAs t c.args.node) in
    subst P c.self.view_is
    (standing c.self.inside.nodes c.args.node _ c.as_run.result c.in-Some.ensures.entry c.in-Some.ensures.slot c.as_run.ensures.says c.as_run.ensures.page)
