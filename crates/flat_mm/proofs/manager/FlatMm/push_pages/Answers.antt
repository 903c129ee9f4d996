use Rattle.std.proofs.Common.{◌≡◌, Option, Some, Ok, Err, sym, subst, ◌+◌, ◌<◌, ℕ, arith}
use Rattle.std.specs.Prelude.{Result}
use Rattle.vm_ids.specs.Held.{segments_of}
use Rattle.vm_ids.specs.declared.numbers.PageNo.{PageNo}
use Rattle.vm_model.specs.Machine.{Machine, cache_of, pages_in, segment_of}
use Rattle.vm_model.specs.Synchronised.{ArePushed}
use Rattle.vm_port.specs.declared.traits.failed.Failed.{Failed}
use Rattle.gmi_calls.specs.Calling.{Fits}
use Rattle.gmi_calls.proofs.Pushing.{there_both, there_less, there_none}
use Rattle.flat_mm.specs.Manager.{machine_in}
use Rattle.flat_mm.proofs.Pushes.{both_pushed, none_pushed, pushed_so}
use Rattle.flat_mm.proofs.manager.FlatMm.push_pages.Goals as goal

pub loop-i-init : goal.loop-i-init
loop-i-init g c = (none_pushed g.M.Mapper c.args.mapper.now c.args.self.now tt c.requires.valid, there_none (machine_in c.args.self.now) _ _ _ _ (omega arith))

pub push_page-requires-clause-named : goal.push_page-requires-clause-named
push_page-requires-clause-named g c = subst (λ (m : Machine). segment_of m c.args.extent.now.cache.0 ≡ Some c.args.seg.0) (sym c.loop-i.invariant.0.machine) c.requires.named

pub push_page-requires-clause-within : goal.push_page-requires-clause-within
push_page-requires-clause-within g c =
    subst (λ (m : Machine). c.args.extent.now.first.0 + c.loop-i.i < pages_in (cache_of m c.args.extent.now.cache.0)) (sym c.loop-i.invariant.0.machine) (omega (arith, c.requires.within, c.loop-i-test.true))

pub push_page-requires-clause-valid : goal.push_page-requires-clause-valid
push_page-requires-clause-valid g c = c.loop-i.invariant.0.valid

pub push_page-requires-clause-fits : goal.push_page-requires-clause-fits
push_page-requires-clause-fits g c =
    let P = c.loop-i.invariant.0 in
    subst (λ (m : Machine). Fits (g.M.Mapper.page_bytes c.loop-i.mapper) m) (sym P.machine) (subst (λ (o : Option ℕ). Fits o (machine_in c.args.self.now)) (sym P.page) c.requires.fits)

pub returns-in-Err-clause-pushed : goal.returns-in-Err-clause-pushed
returns-in-Err-clause-pushed g c =
    let r : Result (Unit {0}) Failed = Err c.in-Err.field-0 in
    let y : Result (Unit {0}) PageNo = Err (record { 0 = c.args.extent.now.first.0 + c.loop-i.i }) in
    both_pushed g.M.Mapper _ _ _ _ _ _ (let x : Result (Unit {0}) PageNo = Ok tt in x) y c.loop-i.invariant.0 (pushed_so g.M.Mapper _ _ _ _ r y (λ n h. h) c.in-Err.ensures.pushed)

pub returns-in-Err-clause-there : goal.returns-in-Err-clause-there
returns-in-Err-clause-there g c =
    let P = c.loop-i.invariant.0 in
    subst (λ (m : Machine). ArePushed m (segments_of (g.M.Mapper.held c.push_page.new.mapper)) c.args.extent.now.cache.0 c.args.extent.now.first.0 (c.args.extent.now.first.0 + c.loop-i.i)) P.machine
    (c.push_page.ensures.kept c.args.extent.now.first.0 (subst (λ (m : Machine). ArePushed m (segments_of (g.M.Mapper.held c.loop-i.mapper)) c.args.extent.now.cache.0 c.args.extent.now.first.0 (c.args.extent.now.first.0 + c.loop-i.i)) (sym P.machine) c.loop-i.invariant.1))

pub loop-i-preserved : goal.loop-i-preserved
loop-i-preserved g c =
    let P = c.loop-i.invariant.0 in
    let e = c.args.extent.now in
    let m = machine_in c.args.self.now in
    let now = segments_of (g.M.Mapper.held c.push_page.new.mapper) in
    let kept = subst (λ (x : Machine). ArePushed x now e.cache.0 e.first.0 (e.first.0 + c.loop-i.i)) P.machine
    (c.in-Ok.ensures.kept e.first.0 (subst (λ (x : Machine). ArePushed x (segments_of (g.M.Mapper.held c.loop-i.mapper)) e.cache.0 e.first.0 (e.first.0 + c.loop-i.i)) (sym P.machine) c.loop-i.invariant.1)) in
    let there = subst (λ (x : Machine). ArePushed x now e.cache.0 (e.first.0 + c.loop-i.i) (e.first.0 + c.loop-i.i + 1)) P.machine c.in-Ok.ensures.there in (
      both_pushed g.M.Mapper _ _ _ _ _ _ (let x : Result (Unit {0}) PageNo = Ok tt in x) (let y : Result (Unit {0}) PageNo = Ok tt in y) P
          (pushed_so g.M.Mapper _ _ _ _ (let r : Result (Unit {0}) Failed = Ok tt in r) (let y : Result (Unit {0}) PageNo = Ok tt in y) (λ n h. h) c.in-Ok.ensures.pushed),
      subst (ArePushed m now e.cache.0 e.first.0) (let n : e.first.0 + c.loop-i.i + 1 ≡ e.first.0 + (c.loop-i.i + 1) = omega arith in n) (there_both m now e.cache.0 e.first.0 (e.first.0 + c.loop-i.i) kept there),
    )

pub returns-clause-pushed : goal.returns-clause-pushed
returns-clause-pushed g c = c.loop-i.invariant.0

pub returns-clause-there : goal.returns-clause-there
returns-clause-there g c = there_less (machine_in c.args.self.now) _ _ _ _ _ (omega (arith, c.loop-i-test.false)) c.loop-i.invariant.1
