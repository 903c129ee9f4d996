use Rattle.line_service.proofs.LinesAlone.{lines_alone}
use Rattle.line_service.proofs.laws.no_accesses.Goals as goal

pub returns : goal.returns
returns g c = lines_alone g.V.Service.semantics
