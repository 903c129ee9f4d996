use Rattle.std.proofs.Common.{◌≡◌, ℕ, ap, arith, sym, ◌∙◌}
use Rattle.flat_mm.specs.Store.{copied}
use Rattle.flat_mm.proofs.Spanning.{copied_none, next_copied, next_source, next_target, other_page}
use Rattle.flat_mm.proofs.span_calls.fill.Goals as goal

pub loop-i-init : goal.loop-i-init
loop-i-init c = (sym (copied_none c.args.store.now c.args.span.now c.requires.spanned), λ whole. whole)

pub copy-requires-clause-from : goal.copy-requires-clause-from
copy-requires-clause-from c = next_source c.args.store.now c.args.span.now c.requires.spanned c.requires.apart c.loop-i.store c.loop-i.i c.loop-i.invariant.0 c.loop-i-test.true

pub copy-requires-clause-to : goal.copy-requires-clause-to
copy-requires-clause-to c = next_target c.args.store.now c.args.span.now c.requires.spanned c.requires.apart c.loop-i.store c.loop-i.i c.loop-i.invariant.0 c.loop-i-test.true

pub copy-requires-clause-apart : goal.copy-requires-clause-apart
copy-requires-clause-apart c = λ same meet. other_page c.args.store.now c.args.span.now c.requires.spanned c.requires.apart c.loop-i.i c.loop-i-test.true same meet

pub loop-i-preserved : goal.loop-i-preserved
loop-i-preserved c = (
  next_copied c.args.store.now c.args.span.now c.requires.spanned c.requires.apart c.loop-i.store c.loop-i.i c.loop-i.invariant.0 c.loop-i-test.true c.copy.new.self c.copy.ensures.copied,
  λ whole. c.copy.ensures.whole,
)

pub returns-clause-copied : goal.returns-clause-copied
returns-clause-copied c = c.loop-i.invariant.0 ∙ ap (λ (n : ℕ). copied c.args.store.now c.args.span.now n) (let e : c.loop-i.i ≡ c.args.span.now.pages = omega (arith, c.loop-i-test.false) in e)
