use Rattle.std.proofs.Common.{◌≡◌, ℕ, ◌+◌, Bool, List, Option, true, false, cond, ap, sym, ◌∙◌, arith}
use Rattle.std.specs.Prelude.{count_by}
use Rattle.std.specs.List.{list_any, range_with_len}
use Rattle.std.proofs.lemmas.List.FromFn.{length-range_with_len}
use Rattle.std.proofs.lemmas.List.Sums.{count_by-le-length}
use Rattle.vm_model.specs.Machine.{is_locked_page, locks_any}
use Rattle.vm_model.specs.Seen.{actors_seen, machine_seen}
use Rattle.vm_model.specs.declared.tables.Actor.{Actor}
use Rattle.vm_model.proofs.Machines.Locks.{count_more}
use Rattle.vm_model.proofs.locks.locked_in.Goals.{then-is_locked_page, else-is_locked_page}
use Rattle.vm_model.proofs.locks.locked_in.Goals as goal

pub overflow_add-locked : goal.overflow_add-locked
overflow_add-locked c =
    let p = is_locked_page (machine_seen c.args.tables.now) c.args.cache.0 in
    let few = count_by-le-length p (range_with_len 0 c.loop-page.page) in
    omega (arith, few, length-range_with_len 0 c.loop-page.page, c.loop-page.invariant)

pub loop-page-preserved : goal.loop-page-preserved
loop-page-preserved c =
    let p = is_locked_page (machine_seen c.args.tables.now) c.args.cache.0 in
    let k = c.loop-page.page in
    let more : (here : Bool) → here ≡ list_any (locks_any c.args.cache.0 k) (actors_seen c.deref.result.now) → count_by p (range_with_len 0 (k + 1)) ≡ c.loop-page.locked + cond here 1 0 = λ here e.
    count_more p k here (e ∙ ap (λ (xs : List (Option Actor)). list_any (locks_any c.args.cache.0 k) (actors_seen xs)) c.deref.ensures.value) ∙ ap (λ (n : ℕ). n + cond here 1 0) (sym c.loop-page.invariant) in
    elim c.if-is_locked_page.branch [
      | then-is_locked_page w ↦ w.locked-is ∙ sym (more true w.if-is_locked_page.ensures)
      | else-is_locked_page w ↦ omega (arith, w.locked-is, more false w.if-is_locked_page.ensures)
    ]
