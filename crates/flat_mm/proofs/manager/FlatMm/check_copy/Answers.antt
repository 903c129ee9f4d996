use Rattle.std.proofs.Common.{sym}
use Rattle.flat_mm.proofs.SpanRows.{copy_held, copy_meets}
use Rattle.flat_mm.proofs.manager.FlatMm.check_copy.Goals as goal

pub returns-then-overlaps-clause-refused : goal.returns-then-overlaps-clause-refused
returns-then-overlaps-clause-refused c = λ h. copy_meets c.args.self.now c.args.span.now c.in_ok-check_span.ensures.spanned h (sym c.if-overlaps.ensures)

pub returns-then-is_any_locked-clause-refused : goal.returns-then-is_any_locked-clause-refused
returns-then-is_any_locked-clause-refused c = λ h. copy_held c.args.self.now c.args.span.now c.in_ok-check_span.ensures.spanned h (sym c.if-overlaps.ensures) (sym c.if-is_any_locked.ensures)

pub returns-clause-can : goal.returns-clause-can
returns-clause-can c = record { spanned = c.in_ok-check_span.ensures.spanned; apart = sym c.if-overlaps.ensures; unlocked = sym c.if-is_any_locked.ensures }
