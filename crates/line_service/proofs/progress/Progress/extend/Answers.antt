use Rattle.std.proofs.Common.{rules}
use Rattle.line_service.proofs.Fronts.{extended}
use Rattle.line_service.proofs.progress.Progress.extend.Goals as goal

pub returns-clause-line : goal.returns-clause-line
returns-clause-line c = extended c.args.self.now.line.items c.args.bytes.now _ c.remaining_capacity.result c.remaining_capacity.ensures (search rules)
