use Rattle.std.proofs.Common.{◌≡◌, Option, Ok, Err, refl, sym, subst, ◌∙◌, ◌+◌, ℕ, arith}
use Rattle.std.specs.Prelude.{Result}
use Rattle.vm_port.specs.declared.traits.failed.Failed.{Failed}
use Rattle.vm_ids.specs.declared.numbers.PageNo.{PageNo}
use Rattle.vm_ids.specs.Held.{segments_of}
use Rattle.vm_model.specs.Synchronised.{ArePushed}
use Rattle.gmi_calls.specs.Calling.{Fits}
use Rattle.gmi_calls.proofs.Pushing.{pushed_by, pushed_start, pushed_then, there_both, there_less, there_none}
use Rattle.gmi_calls.proofs.segments.push_pages.Goals as goal

pub loop-i-init : goal.loop-i-init
loop-i-init g c = (pushed_start c.args.machine.now _ _ tt, there_none c.args.machine.now _ _ _ _ (omega arith), c.requires.ready, refl)

pub push_page-requires-clause-ready : goal.push_page-requires-clause-ready
push_page-requires-clause-ready g c = c.loop-i.invariant.2

pub push_page-requires-clause-fits : goal.push_page-requires-clause-fits
push_page-requires-clause-fits g c = subst (λ (o : Option ℕ). Fits o c.args.machine.now) (sym c.loop-i.invariant.3) c.requires.fits

pub returns-in-Err-clause-pushed : goal.returns-in-Err-clause-pushed
returns-in-Err-clause-pushed g c =
    let m = c.args.machine.now in
    pushed_then m _ (g.M.Mapper.held c.loop-i.mapper) _ _ _ _ (let r : Result (Unit {0}) PageNo = Ok tt in r) _ c.loop-i.invariant.0
    (pushed_by m _ _ _ _ (let r : Result (Unit {0}) Failed = Err c.in-Err.field-0 in r) (Err (record { 0 = c.args.extent.now.first.0 + c.loop-i.i })) (λ n h. h) c.in-Err.ensures.pushed)

pub returns-in-Err-clause-there : goal.returns-in-Err-clause-there
returns-in-Err-clause-there g c = c.push_page.ensures.kept _ c.loop-i.invariant.1

pub returns-in-Err-clause-page : goal.returns-in-Err-clause-page
returns-in-Err-clause-page g c = c.push_page.ensures.page ∙ c.loop-i.invariant.3

pub loop-i-preserved : goal.loop-i-preserved
loop-i-preserved g c =
    let m = c.args.machine.now in
    let first = c.args.extent.now.first.0 in
    let now = segments_of (g.M.Mapper.held c.push_page.new.mapper) in (
      pushed_then m _ (g.M.Mapper.held c.loop-i.mapper) _ _ _ _ (let r : Result (Unit {0}) PageNo = Ok tt in r) _ c.loop-i.invariant.0
          (pushed_by m _ _ _ _ (let r : Result (Unit {0}) Failed = Ok c.in-Ok.field-0 in r) (Ok tt) (λ n h. h) c.in-Ok.ensures.pushed),
      subst (ArePushed m now c.args.extent.now.cache.0 first) (let e : first + c.loop-i.i + 1 ≡ first + (c.loop-i.i + 1) = omega arith in e)
          (there_both m now c.args.extent.now.cache.0 first (first + c.loop-i.i) (c.in-Ok.ensures.kept first c.loop-i.invariant.1) c.in-Ok.ensures.there),
      c.in-Ok.ensures.ready,
      c.in-Ok.ensures.page ∙ c.loop-i.invariant.3,
    )

pub returns-clause-pushed : goal.returns-clause-pushed
returns-clause-pushed g c = c.loop-i.invariant.0

pub returns-clause-there : goal.returns-clause-there
returns-clause-there g c = there_less c.args.machine.now _ _ _ _ _ (omega (arith, c.loop-i-test.false)) c.loop-i.invariant.1

pub returns-clause-ready : goal.returns-clause-ready
returns-clause-ready g c = c.loop-i.invariant.2

pub returns-clause-page : goal.returns-clause-page
returns-clause-page g c = c.loop-i.invariant.3
