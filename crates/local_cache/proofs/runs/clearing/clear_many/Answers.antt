use Rattle.std.proofs.Common.{◌-◌, ◌∙◌, ap, arith}
use Rattle.std.specs.FinMap as map
use Rattle.stretches.specs.Cells.{cells}
use Rattle.local_cache.specs.Singles.{without_range}
use Rattle.local_cache.proofs.ManyNodes.Cleared.{len_range_most, range_on}
use Rattle.local_cache.proofs.runs.clearing.clear_many.Goals as goal

pub clear_next-next-requires-clause-places : goal.clear_next-next-requires-clause-places
clear_next-next-requires-clause-places g c =
    let kept = c.loop-next.invariant in
    let fewer = len_range_most (cells g.V.Says c.args.list.now.list) c.args.first (c.loop-next.next - c.args.first) in
    omega (arith, ap map.len kept.cells, fewer, kept.places, c.requires.places)

pub loop-next-preserved : goal.loop-next-preserved
loop-next-preserved g c =
    let kept = c.loop-next.invariant in
    let now = c.loop-next.next in
    record {
      from = omega (arith, kept.from, c.clear_next-next.ensures.more);
      within = c.clear_next-next.ensures.within;
      cells = c.clear_next-next.ensures.cells
          ∙ ap (λ m. without_range m now (c.clear_next-next.result - now)) kept.cells
          ∙ range_on (cells g.V.Says c.args.list.now.list) c.args.first now c.clear_next-next.result kept.from (omega (arith, c.clear_next-next.ensures.more));
      counted = c.clear_next-next.ensures.counted;
      places = c.clear_next-next.ensures.places ∙ kept.places;
    }
