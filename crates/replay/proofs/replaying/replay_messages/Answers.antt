use Rattle.std.proofs.Common.{◌∙◌, ap, refl}
use Rattle.vm_ids.specs.Held.{segments_of}
use Rattle.vm_model.specs.Machine.{Machine}
use Rattle.actor_script.specs.PortForms.{port_command_of}
use Rattle.transit_ipc.specs.Calling.{beginning}
use Rattle.replay.specs.Posting.{port_semantics}
use Rattle.replay.proofs.Promise.{bare_ports, begun_at, ends_too, unbegun}
use Rattle.replay.proofs.replaying.replay_messages.Goals as goal

pub replay_over-requires-clause-able : goal.replay_over-requires-clause-able
replay_over-requires-clause-able g c =
    let M = g.M.Mapper in
    let told = M.held c.args.given.mapper.now in
    let page_bytes = M.page_bytes c.args.given.mapper.now in
    c.new-answerer.ensures.can told page_bytes (bare_ports _ _ told page_bytes c.args.frames 4096 (c.in-Ok.ensures.valid told) refl c.requires.page refl (c.in-Ok.ensures.machine told))

pub returns : goal.returns
returns g c =
    let told = g.M.Mapper.held c.args.given.mapper.now in
    ends_too g.S.Source g.K.Sink g.M.Mapper g.D.Dispatcher c.replay_over.result _ _ c.replay_over.ensures
    (λ ends. record { last = _; ends = begun_at port_semantics port_command_of (c.new-answerer.ensures.begins told ∙ ap (λ (m : Machine). beginning m (segments_of told)) (c.in-Ok.ensures.machine told)) ends })

pub returns-in-Err : goal.returns-in-Err
returns-in-Err g c = unbegun g.S.Source g.K.Sink g.M.Mapper g.D.Dispatcher _ _
