use Rattle.std.proofs.Common.{◌≡◌, Bool, ◌+◌, false, ap, sym, ◌∙◌}
use Rattle.std.specs.Prelude.{◌||◌}
use Rattle.std.specs.List.{list_any}
use Rattle.vm_model.specs.Machine.{is_locked_page, locks_any}
use Rattle.vm_model.proofs.Machines.Locks.{any_more, any_there}
use Rattle.flat_mm.specs.Manager.{Manager, machine_in}
use Rattle.flat_mm.proofs.manager.FlatMm.is_any_locked.Goals as goal

pub returns-then-is_locked_page : goal.returns-then-is_locked_page
returns-then-is_locked_page c =
    let m = machine_in c.args.self.now in
    let n = c.args.cache.0 in
    let here = c.if-is_locked_page.ensures ∙ ap (λ (p : Manager). list_any (locks_any n (c.args.first.0 + c.loop-i.i)) p.actors.actors) c.self.view_is in
    sym (any_there (is_locked_page m n) c.args.first.0 c.args.pages c.loop-i.i c.loop-i-test.true (sym here))

pub loop-i-preserved : goal.loop-i-preserved
loop-i-preserved c =
    let m = machine_in c.args.self.now in
    let n = c.args.cache.0 in
    let here : is_locked_page m n (c.args.first.0 + c.loop-i.i) ≡ false = sym (c.if-is_locked_page.ensures ∙ ap (λ (p : Manager). list_any (locks_any n (c.args.first.0 + c.loop-i.i)) p.actors.actors) c.self.view_is) in
    any_more (is_locked_page m n) c.args.first.0 c.loop-i.i
    ∙ ap (λ (b : Bool). b || (is_locked_page m n (c.args.first.0 + c.loop-i.i) || false)) c.loop-i.invariant
    ∙ ap (λ (b : Bool). b || false) here
