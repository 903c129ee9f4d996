use Rattle.std.proofs.Common.{sym, ◌∙◌}
use Rattle.local_cache.proofs.Thinness.{changed_same}
use Rattle.local_cache.proofs.runs.thin_nodes.ThinNodes.change.Goals as goal

pub returns-else-not-is_same_number : goal.returns-else-not-is_same_number
returns-else-not-is_same_number c =
    let same = c.is_same_number.ensures.0 c.if-not-is_same_number.false in
    λ i. record c.args.self.now { alone = sym (changed_same c.args.self.now.alone c.args.slot c.args.now (c.requires.before ∙ same)) i }
