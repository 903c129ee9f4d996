use Rattle.std.proofs.Common.{◌≡◌, ◌∙◌, Bool, None, false, ap, sym}
use Rattle.std.specs.Prelude.{◌||◌, is_some, option_and_then}
use Rattle.vm_model.specs.Answering.{is_any_locked}
use Rattle.vm_model.specs.Machine.{numbered}
use Rattle.flat_mm.specs.Manager.{Manager, machine_in}
use Rattle.flat_mm.specs.Store.{Cache}
use Rattle.flat_mm.proofs.SpanRows.{move_held, move_meets, move_owned, none_is, source_named}
use Rattle.flat_mm.proofs.manager.FlatMm.check_move.Goals.{After-segment}
use Rattle.flat_mm.proofs.manager.FlatMm.check_move.Goals as goal

-- the segment that names the source, if one does
named : (c : After-segment) → c.in_ok-check_span.ensures.spanned.source.segment ≡ c.segment.result
named c = source_named c.args.self.now c.args.span.now c.in_ok-check_span.ensures.spanned c.segment.result
    (c.segment.ensures ∙ ap (λ (p : Manager). option_and_then (λ (x : Cache). x.segment) (numbered p.store.caches c.args.span.now.from.0)) c.self.view_is)

temporary : (c : After-segment) → false ≡ is_some c.segment.result → c.in_ok-check_span.ensures.spanned.source.segment ≡ None
temporary c none = named c ∙ none_is c.segment.result (sym none)

pub returns-then-is_some-clause-refused : goal.returns-then-is_some-clause-refused
returns-then-is_some-clause-refused c = λ h.
    move_owned c.args.self.now c.args.span.now c.in_ok-check_span.ensures.spanned h (ap is_some (named (goal.at.returns-then-is_some-clause-refused c).After-segment) ∙ sym c.if-is_some.ensures)

pub returns-then-overlaps-clause-refused : goal.returns-then-overlaps-clause-refused
returns-then-overlaps-clause-refused c = λ h.
    move_meets c.args.self.now c.args.span.now c.in_ok-check_span.ensures.spanned h (temporary (goal.at.returns-then-overlaps-clause-refused c).After-segment c.if-is_some.ensures) (sym c.if-overlaps.ensures)

pub returns-then-is_any_locked-clause-refused : goal.returns-then-is_any_locked-clause-refused
returns-then-is_any_locked-clause-refused c = λ h.
    let s = c.args.span.now in
    move_held c.args.self.now s c.in_ok-check_span.ensures.spanned h (temporary (goal.at.returns-then-is_any_locked-clause-refused c).After-segment c.if-is_some.ensures) (sym c.if-overlaps.ensures)
    (ap (λ (b : Bool). b || is_any_locked (machine_in c.args.self.now) s.to s.to_page.0 s.pages) (sym c.if-is_any_locked.ensures))

pub returns-then-is_any_locked-2-clause-refused : goal.returns-then-is_any_locked-2-clause-refused
returns-then-is_any_locked-2-clause-refused c = λ h.
    let s = c.args.span.now in
    move_held c.args.self.now s c.in_ok-check_span.ensures.spanned h (temporary (goal.at.returns-then-is_any_locked-2-clause-refused c).After-segment c.if-is_some.ensures) (sym c.if-overlaps.ensures)
    (ap (λ (b : Bool). b || is_any_locked (machine_in c.args.self.now) s.to s.to_page.0 s.pages) (sym c.if-is_any_locked.ensures) ∙ sym c.if-is_any_locked-2.ensures)

pub returns-clause-can : goal.returns-clause-can
returns-clause-can c = record {
  copy = record { spanned = c.in_ok-check_span.ensures.spanned; apart = sym c.if-overlaps.ensures; unlocked = sym c.if-is_any_locked-2.ensures };
  temporary = temporary (goal.at.returns-clause-can c).After-segment c.if-is_some.ensures;
  left = sym c.if-is_any_locked.ensures;
}
