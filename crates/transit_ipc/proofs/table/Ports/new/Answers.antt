use Rattle.std.proofs.Common.{[], ◌∙◌}
use Rattle.interface_callers.proofs.Words.{Machine, segments_of}
use Rattle.transit_ipc.specs.Seen.{ports_seen}
use Rattle.transit_ipc.proofs.Ties.EmptyStart.{able_bare}
use Rattle.transit_ipc.proofs.Commands.PortMade.{all_seen}
use Rattle.transit_ipc.proofs.table.Ports.new.Goals as goal

pub returns-clause-begins : goal.returns-clause-begins
returns-clause-begins g c = λ told.
    let m : Machine = g.G.Gmi.machine c.args.gmi told in
    (λ i. record { ports = ports_seen m (c.new.ensures.items i); segments = segments_of told })
    ∙ (λ i. record { ports = record { memory = record m { caches = all_seen 1 m.caches i }; ports = [] }; segments = segments_of told })

pub returns-clause-can : goal.returns-clause-can
returns-clause-can g c = λ told page_bytes bare. able_bare g.G.Gmi c.args.gmi told page_bytes c.new.result.items c.new.ensures.items bare
