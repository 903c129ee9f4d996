use Rattle.std.proofs.Common.{◌≡◌, ◌+◌, ◌∙◌, Err, Ok, Option, Some, arith, refl, subst}
use Rattle.std.proofs.result.Match.{err_is}
use Rattle.std.specs.Prelude.{IfSome, Result}
use Rattle.vm_ids.specs.Held.{Held, page_of}
use Rattle.vm_port.specs.declared.traits.failed.Failed.{Failed}
use Rattle.gmi_calls.proofs.Rising.{counted, one_call, reached_none, reached_then}
use Rattle.flat_mm.proofs.Filling.{pulled_all, pulling_more, pulling_none}
use Rattle.flat_mm.proofs.pulling.pull_loose.Goals as goal

pub loop-i-init : goal.loop-i-init
loop-i-init g c = (pulling_none (g.M.Mapper.held c.args.mapper.now) c.args.seg.0 c.args.first.0 c.args.store.now, refl, reached_none (g.M.Mapper.counts c.args.mapper.now) tt, refl)

pub returns-in_err-pull-clause-reached : goal.returns-in_err-pull-clause-reached
returns-in_err-pull-clause-reached g c =
    let r : Result (Unit {0}) Failed = Err c.in_err-pull.field-0.0 in
    rw (err_is c.from_residual.result _ c.from_residual.ensures.1)
    (reached_then _ _ _ _ r c.loop-i.invariant.2 (one_call 1 0 r) (counted 1 0 _ _ r c.in_err-pull.ensures.counts) (omega arith))

pub loop-i-preserved : goal.loop-i-preserved
loop-i-preserved g c =
    let r : Result (Unit {0}) Failed = Ok tt in
    let E = c.in_ok-pull.ensures in
    let N = c.loop-i.invariant.0 in
    let told = g.M.Mapper.held c.args.mapper.now in (
      pulling_more told c.args.seg.0 c.args.first.0 c.loop-i.i c.args.store.now c.loop-i.store c.pull.new.self E.filled.0 N (omega (arith, N.rest.many, c.loose-i-end.ensures.loose, c.loop-i-test.true)) E.filled.1 E.whole
          (subst (λ (o : Option Held). IfSome o (λ h. page_of h c.args.seg.0 (c.args.first.0 + c.loop-i.i) ≡ Some E.filled.0)) c.loop-i.invariant.1 E.filled.2),
      E.held ∙ c.loop-i.invariant.1,
      reached_then _ _ _ _ r c.loop-i.invariant.2 (one_call 1 0 r) (counted 1 0 _ _ r E.counts) tt,
      E.page ∙ c.loop-i.invariant.3,
    )

pub returns-clause-pulled : goal.returns-clause-pulled
returns-clause-pulled g c =
    let N = c.loop-i.invariant.0 in
    pulled_all (g.M.Mapper.held c.args.mapper.now) c.args.seg.0 c.args.first.0 c.loop-i.i c.args.store.now c.loop-i.store (omega (arith, N.rest.many, c.loose-i-end.ensures.loose, c.loop-i-test.false)) N
