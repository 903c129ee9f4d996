use Rattle.std.proofs.Common.{sym, ap, ◌∙◌}
use Rattle.local_cache.specs.ThinNodes.{changed_to}
use Rattle.local_cache.proofs.Singles.{remove_absent}
use Rattle.local_cache.proofs.runs.thin_nodes.ThinNodes.enter.Goals as goal

pub returns-in-None : goal.returns-in-None
returns-in-None c =
    let m = c.args.self.now.alone in
    λ i. record c.args.self.now { alone = (sym (remove_absent m c.args.slot c.requires.free) ∙ ap (changed_to m c.args.slot) (sym c.in-None.is)) i }
