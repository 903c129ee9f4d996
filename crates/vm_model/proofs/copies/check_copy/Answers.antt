use Rattle.std.proofs.Common.{sym}
use Rattle.vm_ids.specs.declared.command.Command.TheVariants as commands
use Rattle.vm_ids.specs.declared.reply.Reply.TheVariants.{Done}
use Rattle.vm_model.specs.Answering.{put_span, reply}
use Rattle.vm_model.specs.Seen.{cache_seen, machine_seen}
use Rattle.vm_model.proofs.Machines.Awaiting.{awaits, copy_locked, copy_overlaps, copy_unless, seen_there}
use Rattle.vm_model.proofs.copies.check_copy.Goals as goal

pub returns-then-overlaps-clause-refused : goal.returns-then-overlaps-clause-refused
returns-then-overlaps-clause-refused c = λ h.
    let t = c.args.tables.now in
    let s = c.args.span.now in
    let S = c.in_ok-check_span.ensures.spanned in
    copy_overlaps (machine_seen t) s h (cache_seen S.source) (cache_seen S.destination) (seen_there t s.from.0 S.source S.from) (seen_there t s.to.0 S.destination S.to) S.inside S.within (sym c.if-overlaps.ensures)

pub returns-then-is_any_locked-clause-refused : goal.returns-then-is_any_locked-clause-refused
returns-then-is_any_locked-clause-refused c = λ h.
    let t = c.args.tables.now in
    let s = c.args.span.now in
    let S = c.in_ok-check_span.ensures.spanned in
    copy_locked (machine_seen t) s h (cache_seen S.source) (cache_seen S.destination) (seen_there t s.from.0 S.source S.from) (seen_there t s.to.0 S.destination S.to) S.inside S.within (sym c.if-overlaps.ensures) (sym c.if-is_any_locked.ensures)

pub returns-clause-awaits : goal.returns-clause-awaits
returns-clause-awaits c =
    let t = c.args.tables.now in
    let s = c.args.span.now in
    let S = c.in_ok-check_span.ensures.spanned in
    let m = machine_seen t in
    awaits m (commands.Copy s) (reply Done (put_span m s (cache_seen S.source) (cache_seen S.destination))) (λ h.
    copy_unless m s h (cache_seen S.source) (cache_seen S.destination) (seen_there t s.from.0 S.source S.from) (seen_there t s.to.0 S.destination S.to) S.inside S.within (sym c.if-overlaps.ensures) (sym c.if-is_any_locked.ensures)) tt
