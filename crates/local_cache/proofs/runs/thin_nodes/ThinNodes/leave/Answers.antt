use Rattle.std.proofs.Common.{sym, ◌∙◌}
use Rattle.local_cache.proofs.Singles.{remove_absent}
use Rattle.local_cache.proofs.runs.thin_nodes.ThinNodes.leave.Goals as goal

pub returns-in-None : goal.returns-in-None
returns-in-None c =
    let m = c.args.self.now.alone in
    λ i. record c.args.self.now { alone = sym (remove_absent m c.args.slot (c.requires ∙ c.in-None.is)) i }
