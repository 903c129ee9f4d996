use Rattle.std.proofs.Common.{◌∙◌, None, ap, refl}
use Rattle.vm_ids.specs.Held.{segments_of}
use Rattle.vm_model.specs.Machine.{Machine}
use Rattle.vm_model.specs.Outcome.{seen_at}
use Rattle.vm_model.specs.Run.{State}
use Rattle.flat_mm.proofs.Rooms.{seen_start}
use Rattle.replay.specs.Framed.{framed_command_of, framed_semantics}
use Rattle.replay.proofs.Promise.{begun_at, can_call_framed, ends_too, unbegun}
use Rattle.replay.proofs.replaying.replay_flat.Goals as goal

pub replay_over-requires-clause-able : goal.replay_over-requires-clause-able
replay_over-requires-clause-able g c =
    let M = g.M.Mapper in
    let told = M.held c.args.given.mapper.now in
    can_call_framed _ told (M.page_bytes c.args.given.mapper.now) c.args.frames 4096 (c.in-Ok.ensures.valid told) c.requires.page refl (ap (seen_at told) c.in-Ok.ensures.machine ∙ seen_start told c.args.frames 4096)

pub returns : goal.returns
returns g c =
    let told = g.M.Mapper.held c.args.given.mapper.now in
    let state : Machine → State = λ m. record { machine = m; forest = None; segments = segments_of told } in
    ends_too g.S.Source g.K.Sink g.M.Mapper g.D.Dispatcher c.replay_over.result _ _ c.replay_over.ensures
    (λ ends. record { last = _; ends = begun_at framed_semantics framed_command_of (ap state (ap (seen_at told) c.in-Ok.ensures.machine ∙ seen_start told c.args.frames 4096)) ends })

pub returns-in-Err : goal.returns-in-Err
returns-in-Err g c = unbegun g.S.Source g.K.Sink g.M.Mapper g.D.Dispatcher _ _
