use Rattle.std.proofs.Common.{◌-◌, ap, inr, arith}
use Rattle.std.specs.FinMap as map
use Rattle.stretches.specs.Cells.{cells}
use Rattle.local_cache.specs.Singles.{without_range}
use Rattle.local_cache.proofs.ManyNodes.Cleared.{range_on, range_out}
use Rattle.local_cache.proofs.runs.counting.count_said.Goals as goal

pub loop-next-preserved : goal.loop-next-preserved
loop-next-preserved g c =
    let kept = c.loop-next.invariant in
    let now = c.loop-next.next in
    let part = c.part_from-part.result in
    let all = cells g.V.Says c.args.list.now.list in
    let left = without_range all c.args.first (now - c.args.first) in
    let counts = c.part_from-part.ensures.said left
    (λ n low high. range_out all c.args.first (now - c.args.first) n (inr (omega (arith, kept.from, low)))) in
    let more = c.part_from-part.ensures.more in
    record {
      from = omega (arith, kept.from, more);
      within = c.part_from-part.ensures.within;
      few = omega (arith, kept.few, c.part_from-part.ensures.no_more);
      said = omega (
        arith,
        kept.said,
        counts,
        ap map.len (range_on all c.args.first now part.end kept.from (omega (arith, more))),
      );
    }
