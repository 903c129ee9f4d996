use Rattle.std.proofs.Common.{Bool, List, Option, ◌+◌, ◌≡◌, false, ap, sym, ◌∙◌}
use Rattle.std.specs.Prelude.{◌||◌}
use Rattle.std.specs.List.{list_any}
use Rattle.vm_model.specs.Machine.{is_locked_page, locks_any}
use Rattle.vm_model.specs.Seen.{actors_seen, machine_seen}
use Rattle.vm_model.specs.declared.tables.Actor.{Actor}
use Rattle.vm_model.proofs.Machines.Locks.{any_more, any_there}
use Rattle.vm_model.proofs.locks.is_any_locked.Goals as goal

pub returns-then-is_locked_page : goal.returns-then-is_locked_page
returns-then-is_locked_page c =
    let t = c.args.tables.now in
    let n = c.args.cache.0 in
    let here = c.if-is_locked_page.ensures ∙ ap (λ (xs : List (Option Actor)). list_any (locks_any n (c.args.first.0 + c.loop-i.i)) (actors_seen xs)) c.deref.ensures.value in
    sym (any_there (is_locked_page (machine_seen t) n) c.args.first.0 c.args.pages c.loop-i.i c.loop-i-test.true (sym here))

pub loop-i-preserved : goal.loop-i-preserved
loop-i-preserved c =
    let t = c.args.tables.now in
    let n = c.args.cache.0 in
    let here : is_locked_page (machine_seen t) n (c.args.first.0 + c.loop-i.i) ≡ false = sym (c.if-is_locked_page.ensures ∙ ap (λ (xs : List (Option Actor)). list_any (locks_any n (c.args.first.0 + c.loop-i.i)) (actors_seen xs)) c.deref.ensures.value) in
    any_more (is_locked_page (machine_seen t) n) c.args.first.0 c.loop-i.i
    ∙ ap (λ (b : Bool). b || (is_locked_page (machine_seen t) n (c.args.first.0 + c.loop-i.i) || false)) c.loop-i.invariant
    ∙ ap (λ (b : Bool). b || false) here
