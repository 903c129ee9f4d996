use Rattle.std.proofs.Common.{◌≡◌, Bool, None, true, ap, sym, ◌∙◌, arith}
use Rattle.std.specs.Prelude.{is_some, ◌||◌}
use Rattle.vm_ids.specs.declared.command.Command.TheVariants as commands
use Rattle.vm_ids.specs.declared.reply.Reply.TheVariants.{Done}
use Rattle.vm_model.specs.Answering.{is_any_locked, put_span, reply, zero_source}
use Rattle.vm_model.specs.Seen.{cache_seen, machine_seen}
use Rattle.vm_model.proofs.Machines.Awaiting.{awaits, is_some-numbers, move_locked, move_named, move_overlaps, move_unless, none_named, seen_there, segment_there}
use Rattle.vm_model.proofs.Machines.Taking.{counted, within}
use Rattle.vm_model.proofs.copies.check_move.Goals.{then-is_any_locked-via-then-is_any_locked, then-is_any_locked-via-else-is_any_locked+then-is_any_locked-2}
use Rattle.vm_model.proofs.copies.check_move.Goals as goal

pub returns-then-is_some-clause-refused : goal.returns-then-is_some-clause-refused
returns-then-is_some-clause-refused c = λ h.
    let t = c.args.tables.now in
    let s = c.args.span.now in
    let S = c.in_ok-check_span.ensures.spanned in
    let named : is_some (cache_seen S.source).segment ≡ true =
    ap is_some (sym (segment_there t s.from.0 S.source S.from) ∙ sym c.segment_of.ensures) ∙ is_some-numbers c.segment_of.result ∙ sym c.if-is_some.ensures in
    move_named (machine_seen t) s h (cache_seen S.source) (cache_seen S.destination) (seen_there t s.from.0 S.source S.from) (seen_there t s.to.0 S.destination S.to) S.inside S.within named

pub returns-then-overlaps-clause-refused : goal.returns-then-overlaps-clause-refused
returns-then-overlaps-clause-refused c = λ h.
    let t = c.args.tables.now in
    let s = c.args.span.now in
    let S = c.in_ok-check_span.ensures.spanned in
    let temporary : (cache_seen S.source).segment ≡ None = none_named t s.from.0 S.source c.segment_of.result S.from c.segment_of.ensures (sym c.if-is_some.ensures) in
    move_overlaps (machine_seen t) s h (cache_seen S.source) (cache_seen S.destination) (seen_there t s.from.0 S.source S.from) (seen_there t s.to.0 S.destination S.to) S.inside S.within temporary (sym c.if-overlaps.ensures)

pub returns-then-is_any_locked-clause-refused : goal.returns-then-is_any_locked-clause-refused
returns-then-is_any_locked-clause-refused c = λ h.
    let t = c.args.tables.now in
    let s = c.args.span.now in
    let S = c.in_ok-check_span.ensures.spanned in
    let temporary : (cache_seen S.source).segment ≡ None = none_named t s.from.0 S.source c.segment_of.result S.from c.segment_of.ensures (sym c.if-is_some.ensures) in
    let onto = is_any_locked (machine_seen t) s.to s.to_page.0 s.pages in
    let locked : (is_any_locked (machine_seen t) s.from s.from_page.0 s.pages || onto) ≡ true = elim c.then-is_any_locked.branch [
      | then-is_any_locked-via-then-is_any_locked w ↦ ap (λ (b : Bool). b || onto) (sym w.if-is_any_locked.ensures)
      | then-is_any_locked-via-else-is_any_locked+then-is_any_locked-2 w ↦ ap (λ (b : Bool). b || onto) (sym w.if-is_any_locked.ensures) ∙ sym w.if-is_any_locked-2.ensures
    ] in
    move_locked (machine_seen t) s h (cache_seen S.source) (cache_seen S.destination) (seen_there t s.from.0 S.source S.from) (seen_there t s.to.0 S.destination S.to) S.inside S.within temporary (sym c.if-overlaps.ensures) locked

pub returns-clause-within : goal.returns-clause-within
returns-clause-within c =
    let t = c.args.tables.now in
    let s = c.args.span.now in
    let S = c.in_ok-check_span.ensures.spanned in
    omega (arith, within s.to_page.0 s.pages S.destination S.within, counted t s.to.0 S.destination S.to)

pub returns-clause-awaits : goal.returns-clause-awaits
returns-clause-awaits c =
    let t = c.args.tables.now in
    let s = c.args.span.now in
    let S = c.in_ok-check_span.ensures.spanned in
    let m = machine_seen t in
    let temporary : (cache_seen S.source).segment ≡ None = none_named t s.from.0 S.source c.segment_of.result S.from c.segment_of.ensures (sym c.if-is_some.ensures) in
    awaits m (commands.Move s) (reply Done (zero_source (put_span m s (cache_seen S.source) (cache_seen S.destination)) s)) (λ h.
    move_unless m s h (cache_seen S.source) (cache_seen S.destination) (seen_there t s.from.0 S.source S.from) (seen_there t s.to.0 S.destination S.to) S.inside S.within temporary (sym c.if-overlaps.ensures) (sym c.if-is_any_locked.ensures) (sym c.if-is_any_locked-2.ensures)) tt
