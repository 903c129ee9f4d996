use Rattle.std.proofs.Common.{◌≡◌, ◌+◌, ◌-◌, ◌/◌, ◌<◌, arith, ap, sym, ◌∙◌, length}
use Rattle.std.specs.Prelude.{slice_get}
use Rattle.std.proofs.lemmas.Option.{slice_get-get_or}
use Rattle.seg_manager.proofs.Lookup.Named.{at_least, none_at, none_before}
use Rattle.seg_manager.proofs.named_caches.place_with.Goals as goal

pub loop-first-preserved-then-caches-middle : goal.loop-first-preserved-then-caches-middle
loop-first-preserved-then-caches-middle c =
    let within : c.loop-first.first + (c.loop-first.end - c.loop-first.first) / 2 < length c.args.caches.now = omega (arith, c.loop-first.invariant.ordered, c.loop-first.invariant.within, c.loop-first-test.true) in
    record {
      ordered = omega (arith, c.loop-first.invariant.ordered, c.loop-first-test.true);
      within = c.loop-first.invariant.within;
      below =
          none_before c.args.cache.0 c.args.caches.now (c.loop-first.first + (c.loop-first.end - c.loop-first.first) / 2) _ c.requires (slice_get-get_or c.args.caches.now (c.loop-first.first + (c.loop-first.end - c.loop-first.first) / 2) _ within) c.if-caches-middle.true;
      above = c.loop-first.invariant.above;
    }

pub loop-first-preserved : goal.loop-first-preserved
loop-first-preserved c =
    record {
      ordered = omega (arith, c.loop-first.invariant.ordered);
      within = omega (arith, c.loop-first.invariant.ordered, c.loop-first.invariant.within);
      below = c.loop-first.invariant.below;
      above = λ d there.
          at_least c.args.cache.0 c.args.caches.now (c.loop-first.first + (c.loop-first.end - c.loop-first.first) / 2) _ d c.if-caches-middle.false there;
    }

pub returns-else-eq : goal.returns-else-eq
returns-else-eq c =
    let at_end : c.loop-first.first ≡ c.loop-first.end = omega (arith, c.loop-first.invariant.ordered, c.loop-first-test.false) in
    let within : c.loop-first.first < length c.args.caches.now = omega (arith, at_end, c.loop-first.invariant.within, c.if-first-caches.false) in
    sym (c.loop-first.invariant.below ∙ none_at c.args.cache c.args.caches.now c.loop-first.first _ c.requires within
    (λ d there. c.loop-first.invariant.above d (ap (slice_get c.args.caches.now) (sym at_end) ∙ there)) (sym c.eq.ensures ∙ c.if-eq.false))
