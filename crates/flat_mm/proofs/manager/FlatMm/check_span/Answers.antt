use Rattle.std.proofs.Common.{ap, arith, sym, ◌∙◌}
use Rattle.vm_ids.specs.declared.refusal.Refusal.TheVariants.{OutOfCache}
use Rattle.flat_mm.specs.Manager.{Manager, machine_in, sizes_in}
use Rattle.flat_mm.proofs.SpanRows.{AreRefused, passes_destination}
use Rattle.flat_mm.proofs.manager.FlatMm.check_span.Goals.{Then-span-pages-2}
use Rattle.flat_mm.proofs.manager.FlatMm.check_span.Goals as goal

-- the pages pass the end of the destination
refused : (c : Then-span-pages-2) → AreRefused (machine_in c.args.self.now) c.args.span.now OutOfCache
refused c =
    let p = c.args.self.now in
    let s = c.args.span.now in
    passes_destination p s c.in-Some.from c.in-Some-size.to
    (ap (λ (q : Manager). sizes_in q.store s.from.0) (sym c.self.view_is) ∙ sym c.in-Some.ensures.size)
    (ap (λ (q : Manager). sizes_in q.store s.to.0) (sym c.self.view_is) ∙ sym c.in-Some-size.ensures.size)
    (omega (arith, c.if-span-pages.false)) (omega (arith, c.if-span-pages-2.true))

pub returns-then-span-pages-2-clause-refused_copy : goal.returns-then-span-pages-2-clause-refused_copy
returns-then-span-pages-2-clause-refused_copy c = (refused (goal.at.returns-then-span-pages-2-clause-refused_copy c).Then-span-pages-2).copy

pub returns-then-span-pages-2-clause-refused_move : goal.returns-then-span-pages-2-clause-refused_move
returns-then-span-pages-2-clause-refused_move c = (refused (goal.at.returns-then-span-pages-2-clause-refused_move c).Then-span-pages-2).move
