use Rattle.std.proofs.Common.{◌≤◌, ◌^◌, slice_get, set, Ok, Err, sym, ap, subst, ◌∙◌, arith}
use Rattle.std.proofs.result.Match.{err_is}
use Rattle.vm_ids.specs.declared.command.Command.TheVariants as vm_commands
use Rattle.vm_ids.specs.declared.reply.Trouble.TheVariants.{Refused}
use Rattle.interface_callers.proofs.Words.{Fits, MapperCall, done_by, meanings_of}
use Rattle.transit_ipc.specs.Tying.{AreApart}
use Rattle.transit_ipc.specs.declared.table.Ports.{Ports}
use Rattle.transit_ipc.proofs.Commands.Receive.{moved_few, moved_fits, receive_done, receive_empty, receive_failed, receive_nobody, some_pages}
use Rattle.transit_ipc.proofs.Commands.Send.{found_at}
use Rattle.transit_ipc.proofs.table.Ports.receive.Goals as goal

pub returns-in_err-place : goal.returns-in_err-place
returns-in_err-place g c =
    rw (err_is c.from_residual.result _ c.from_residual.ensures.1 ∙ ap (λ r. Err (Refused r)) c.in_err-place.ensures.refusal)
    (receive_nobody g.M.Mapper g.G.Gmi c.args.self.now c.args.mapper.now c.requires.can c.args.port c.args.cache c.args.page c.in_err-place.ensures.nowhere)

pub returns-in_err-message : goal.returns-in_err-message
returns-in_err-message g c =
    let p = found_at c.args.self.now.ports.items c.in_ok-place.place c.in_ok-place.ensures.found.1 in
    rw (err_is c.from_residual-in_err-message.result _ c.from_residual-in_err-message.ensures.1)
    (receive_empty g.M.Mapper g.G.Gmi c.args.self.now c.args.mapper.now c.requires.can c.args.port c.args.cache c.args.page c.in_ok-place.place p.0 p.1 (omega (arith, c.in_ok-place.ensures.found.0)) c.in_err-message.field-0.0 (c.in_err-message.ensures p.0 p.1))

pub take_out-requires-clause-some : goal.take_out-requires-clause-some
take_out-requires-clause-some g c =
    let p = found_at c.args.self.now.ports.items c.in_ok-place.place c.in_ok-place.ensures.found.1 in
    some_pages g.M.Mapper g.G.Gmi c.args.self.now c.args.mapper.now c.requires.can c.args.port c.args.cache c.args.page c.in_ok-place.place p.0 p.1 (omega (arith, c.in_ok-place.ensures.found.0)) c.in_ok-message.message (c.in_ok-message.ensures p.0 p.1)

pub take_first-requires-clause-apart : goal.take_first-requires-clause-apart
take_first-requires-clause-apart g c = subst (λ (s : Ports g.row.G.Denot). AreApart s.ports.items) (sym c.in_ok-take_out.ensures.same) c.requires.can.tied.apart

pub destroy-requires-clause-made : goal.destroy-requires-clause-made
destroy-requires-clause-made g c =
    let p = found_at c.args.self.now.ports.items c.in_ok-place.place c.in_ok-place.ensures.found.1 in
    let few = moved_few g.M.Mapper g.G.Gmi c.args.self.now c.args.mapper.now c.requires.can c.args.port c.args.cache c.args.page c.in_ok-place.place p.0 p.1 (omega (arith, c.in_ok-place.ensures.found.0)) c.in_ok-message.message (c.in_ok-message.ensures p.0 p.1)
    c.take_out.new.mapper c.take_out.new.self.gmi (Ok tt) c.in_ok-take_out.ensures.call c.requires.made in
    subst (λ (gmi : g.row.G.Denot). g.G.Gmi.made gmi ≤ 2 ^ 62) (sym c.take_first.ensures.gmi) few

pub destroy-requires-clause-fits : goal.destroy-requires-clause-fits
destroy-requires-clause-fits g c =
    let p = found_at c.args.self.now.ports.items c.in_ok-place.place c.in_ok-place.ensures.found.1 in
    let fits = moved_fits g.M.Mapper g.G.Gmi c.args.self.now c.args.mapper.now c.requires.can c.args.port c.args.cache c.args.page c.in_ok-place.place p.0 p.1 (omega (arith, c.in_ok-place.ensures.found.0)) c.in_ok-message.message (c.in_ok-message.ensures p.0 p.1)
    c.take_out.new.mapper c.take_out.new.self.gmi (Ok tt) c.in_ok-take_out.ensures.call in
    subst (λ (gmi : g.row.G.Denot). Fits (g.M.Mapper.page_bytes c.take_out.new.mapper) (g.G.Gmi.machine gmi (g.M.Mapper.held c.take_out.new.mapper))) (sym c.take_first.ensures.gmi) fits

pub returns : goal.returns
returns g c =
    let p = found_at c.args.self.now.ports.items c.in_ok-place.place c.in_ok-place.ensures.found.1 in
    let here = ap (λ (s : Ports g.row.G.Denot). slice_get s.ports.items c.in_ok-place.place) c.in_ok-take_out.ensures.same ∙ p.1 in
    let taken = c.take_first.ensures.taken p.0 here in
    let destroyed = subst (λ (gmi : g.row.G.Denot). MapperCall g.M.Mapper (meanings_of g.G.Gmi) c.take_out.new.mapper gmi (vm_commands.Destroy c.in_ok-message.message.cache) (done_by c.destroy.result) c.destroy.new.mapper c.destroy.new.self) c.take_first.ensures.gmi c.destroy.ensures in
    receive_done g.M.Mapper g.G.Gmi c.args.self.now c.args.mapper.now c.requires.can c.args.port c.args.cache c.args.page c.in_ok-place.place p.0 p.1 (omega (arith, c.in_ok-place.ensures.found.0)) c.in_ok-message.message (c.in_ok-message.ensures p.0 p.1)
    c.take_out.new.mapper c.take_out.new.self.gmi c.in_ok-take_out.ensures.call c.destroy.new.mapper _ (done_by c.destroy.result) destroyed taken.port
    (taken.is ∙ ap (λ (s : Ports g.row.G.Denot). set s.ports.items c.in_ok-place.place taken.port) c.in_ok-take_out.ensures.same)
    taken.depth taken.room taken.messages

pub returns-in_err-take_out : goal.returns-in_err-take_out
returns-in_err-take_out g c =
    let p = found_at c.args.self.now.ports.items c.in_ok-place.place c.in_ok-place.ensures.found.1 in
    rw (err_is c.from_residual-in_err-take_out.result _ c.from_residual-in_err-take_out.ensures.1)
    (receive_failed g.M.Mapper g.G.Gmi c.args.self.now c.args.mapper.now c.requires.can c.args.port c.args.cache c.args.page c.in_ok-place.place p.0 p.1 (omega (arith, c.in_ok-place.ensures.found.0)) c.in_ok-message.message (c.in_ok-message.ensures p.0 p.1)
    c.take_out.new.mapper _ c.in_err-take_out.field-0.0 c.in_err-take_out.ensures.call
    (ap (λ (s : Ports g.row.G.Denot). s.ports.items) c.in_err-take_out.ensures.same))
