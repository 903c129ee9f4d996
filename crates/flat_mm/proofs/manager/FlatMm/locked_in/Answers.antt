use Rattle.std.proofs.Common.{◌≡◌, ℕ, ◌+◌, Bool, true, false, cond, ap, sym, ◌∙◌, arith}
use Rattle.std.specs.Prelude.{count_by}
use Rattle.std.specs.List.{list_any, range_with_len}
use Rattle.std.proofs.lemmas.List.FromFn.{length-range_with_len}
use Rattle.std.proofs.lemmas.List.Sums.{count_by-le-length}
use Rattle.vm_model.specs.Machine.{is_locked_page, locks_any, numbered, pages_in}
use Rattle.vm_model.proofs.Machines.Locks.{count_more}
use Rattle.flat_mm.specs.Manager.{Manager, caches_in, machine_in, sizes_in}
use Rattle.flat_mm.proofs.Acting.{pages_sized, pages_unsized}
use Rattle.flat_mm.proofs.manager.FlatMm.locked_in.Goals.{then-is_locked_page, else-is_locked_page}
use Rattle.flat_mm.proofs.manager.FlatMm.locked_in.Goals as goal

pub returns-in_default : goal.returns-in_default
returns-in_default c =
    let p = is_locked_page (machine_in c.args.self.now) c.args.cache.0 in
    sym (ap (λ n. count_by p (range_with_len 0 n)) (pages_unsized c.args.self.now.store c.args.cache.0 (ap (λ (q : Manager). sizes_in q.store c.args.cache.0) (sym c.self.view_is) ∙ sym c.size.ensures.size ∙ c.in_default.is)))

pub overflow_add-locked : goal.overflow_add-locked
overflow_add-locked c =
    let p = is_locked_page (machine_in c.args.self.now) c.args.cache.0 in
    let few = count_by-le-length p (range_with_len 0 c.loop-page.page) in
    omega (arith, few, length-range_with_len 0 c.loop-page.page, c.loop-page.invariant)

pub loop-page-preserved : goal.loop-page-preserved
loop-page-preserved c =
    let p = is_locked_page (machine_in c.args.self.now) c.args.cache.0 in
    let k = c.loop-page.page in
    let more : (here : Bool) → here ≡ list_any (locks_any c.args.cache.0 k) c.self.inside.contexts.actors → count_by p (range_with_len 0 (k + 1)) ≡ c.loop-page.locked + cond here 1 0 = λ here e.
    count_more p k here (e ∙ ap (λ (q : Manager). list_any (locks_any c.args.cache.0 k) q.actors.actors) c.self.view_is) ∙ ap (λ (n : ℕ). n + cond here 1 0) (sym c.loop-page.invariant) in
    elim c.if-is_locked_page.branch [
      | then-is_locked_page w ↦ w.locked-is ∙ sym (more true w.if-is_locked_page.ensures)
      | else-is_locked_page w ↦ omega (arith, w.locked-is, more false w.if-is_locked_page.ensures)
    ]

pub returns : goal.returns
returns c =
    let p = is_locked_page (machine_in c.args.self.now) c.args.cache.0 in
    let size = pages_sized c.args.self.now.store c.args.cache.0 c.in-Some.pages (ap (λ (q : Manager). sizes_in q.store c.args.cache.0) (sym c.self.view_is) ∙ sym c.size.ensures.size ∙ c.in-Some.is) in
    c.loop-page.invariant ∙ ap (λ n. count_by p (range_with_len 0 n)) (let e : c.loop-page.page ≡ pages_in (numbered (caches_in c.args.self.now.store) c.args.cache.0) = omega (arith, size, c.loop-page-test.false) in e)
