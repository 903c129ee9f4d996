use Rattle.std.proofs.result.Match.{err_is}
use Rattle.std.proofs.Common.{◌≡◌, Ok, arith, not, refl, subst, sym}
use Rattle.std.specs.Prelude.{IfSome}
use Rattle.std.specs.List.{list_any, range_with_len}
use Rattle.vm_ids.specs.Held.{segments_in}
use Rattle.vm_ids.specs.declared.command.Command.TheVariants as commands
use Rattle.vm_ids.specs.declared.reply.Reply.TheVariants as replies
use Rattle.vm_model.specs.Answering.{is_denied_page}
use Rattle.gmi_calls.specs.Calling.{MapperCall}
use Rattle.flat_mm.specs.Manager.{IsValid, Manager, flat, machine_in}
use Rattle.flat_mm.specs.Spans.{CanMove, IsSpanned}
use Rattle.flat_mm.proofs.Copying.{filled_spanned}
use Rattle.flat_mm.proofs.Transferring.{denied_fill, failed_fill, move_done, move_fills, pages_there, refused_call, sound_moved}
use Rattle.flat_mm.proofs.manager.FlatMm.move_pages.Goals as goal

pub returns-in_err-check_move : goal.returns-in_err-check_move
returns-in_err-check_move g c =
    rw (err_is c.from_residual.result _ c.from_residual.ensures.1)
    (refused_call g.M.Mapper c.args.mapper.now c.args.self.now (commands.Move c.args.span) (λ old next. refl) tt (λ h a. tt) c.in_err-check_move.field-0.0 c.requires.valid c.in_err-check_move.ensures.refused)

pub may_change-requires-clause-within : goal.may_change-requires-clause-within
may_change-requires-clause-within g c = pages_there c.args.self.now c.args.span c.in_ok-check_move.ensures.can.copy.spanned

pub may_change-requires-clause-few : goal.may_change-requires-clause-few
may_change-requires-clause-few g c = omega (arith, c.in_ok-check_move.ensures.can.copy.spanned.within, c.in_ok-check_move.ensures.can.copy.spanned.few)

pub returns-in-Ok-false : goal.returns-in-Ok-false
returns-in-Ok-false g c =
    let E = c.in-Ok-false.ensures in
    denied_fill g.M.Mapper c.args.mapper.now c.args.self.now (commands.Move c.args.span) _ _ c.args.span _ (move_fills c.args.self.now c.args.span c.in_ok-check_move.ensures.can) E.asked c.requires.valid c.requires.some c.in-Ok-false.field-0 c.in-Ok-false.field-0-test E.named E.answer

pub returns-in-Err : goal.returns-in-Err
returns-in-Err g c =
    let E = c.in-Err.ensures in
    failed_fill g.M.Mapper c.args.mapper.now c.args.self.now (commands.Move c.args.span) _ _ c.args.span _ (move_fills c.args.self.now c.args.span c.in_ok-check_move.ensures.can) E.asked c.requires.valid c.requires.some c.in-Err.page E.asked.reached.failed E.fault.0 E.fault.1 E.fault.2 E.before

pub fill-requires-clause-spanned : goal.fill-requires-clause-spanned
fill-requires-clause-spanned g c = subst (λ (p : Manager). IsSpanned p.store c.args.span) (sym c.self.view_is) c.in_ok-check_move.ensures.can.copy.spanned

pub clear-requires : goal.clear-requires
clear-requires g c =
    let S = subst (λ (p : Manager). IsSpanned p.store c.args.span) (sym c.self.view_is) c.in_ok-check_move.ensures.can.copy.spanned in
    filled_spanned c.self.inside.store c.args.span S c.fill.new.store c.fill.ensures.copied

pub invariant_of-self : goal.invariant_of-self
invariant_of-self g c =
    let i = c.self.inside in
    let S = subst (λ (p : Manager). IsSpanned p.store c.args.span) (sym c.self.view_is) c.in_ok-check_move.ensures.can.copy.spanned in
    let filled = c.fill.ensures.whole c.self.invariant.whole in
    sound_moved i.store c.args.span S i.contexts i.actors c.fill.new.store c.clear.new.store c.self.invariant filled c.fill.ensures.copied (c.clear.ensures.whole filled) c.clear.ensures.cleared

pub returns-in-Ok-true : goal.returns-in-Ok-true
returns-in-Ok-true g c =
    let i = c.self.inside in
    let s = c.args.span in
    let E = c.in-Ok-true.ensures in
    let old : Manager = record { store = i.store; actors = i.contexts } in
    let held = g.M.Mapper.held c.args.mapper.now in
    let can = subst (λ (p : Manager). CanMove p s) (sym c.self.view_is) c.in_ok-check_move.ensures.can in
    let valid = subst (λ (p : Manager). IsValid p held) (sym c.self.view_is) c.requires.valid in
    let answer = subst (λ (p : Manager). IfSome held (λ h. c.in-Ok-true.field-0 ≡ not (list_any (is_denied_page (machine_in p) (segments_in h) s.to.0) (range_with_len s.to_page.0 s.pages)))) (sym c.self.view_is) E.answer in
    subst (λ (p : Manager). MapperCall g.M.Mapper flat c.args.mapper.now p (commands.Move s) (Ok replies.Done) c.may_change.new.mapper (record { store = c.clear.new.store; actors = i.contexts })) c.self.view_is
    (move_done g.M.Mapper c.args.mapper.now _ _ old i.actors c.self.invariant s E.asked valid c.requires.some c.in-Ok-true.field-0 c.in-Ok-true.field-0-test answer can c.fill.new.store c.clear.new.store c.fill.ensures.copied c.clear.ensures.cleared (c.clear.ensures.whole (c.fill.ensures.whole c.self.invariant.whole)))
