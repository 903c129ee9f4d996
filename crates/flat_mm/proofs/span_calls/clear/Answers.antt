use Rattle.std.proofs.Common.{◌≡◌, ℕ, ap, arith, sym, ◌∙◌}
use Rattle.flat_mm.specs.Store.{cleared}
use Rattle.flat_mm.proofs.Spanning.{cleared_none, next_blank, next_cleared}
use Rattle.flat_mm.proofs.span_calls.clear.Goals as goal

pub loop-i-init : goal.loop-i-init
loop-i-init c = (sym (cleared_none c.args.store.now c.args.span.now c.requires), λ whole. whole)

pub zero-requires : goal.zero-requires
zero-requires c = next_blank c.args.store.now c.args.span.now c.requires c.loop-i.store c.loop-i.i c.loop-i.invariant.0 c.loop-i-test.true

pub loop-i-preserved : goal.loop-i-preserved
loop-i-preserved c = (
  next_cleared c.args.store.now c.args.span.now c.requires c.loop-i.store c.loop-i.i c.loop-i.invariant.0 c.loop-i-test.true c.zero.new.self c.zero.ensures.zeros,
  λ whole. c.zero.ensures.whole,
)

pub returns-clause-cleared : goal.returns-clause-cleared
returns-clause-cleared c = c.loop-i.invariant.0 ∙ ap (λ (n : ℕ). cleared c.args.store.now c.args.span.now n) (let e : c.loop-i.i ≡ c.args.span.now.pages = omega (arith, c.loop-i-test.false) in e)
