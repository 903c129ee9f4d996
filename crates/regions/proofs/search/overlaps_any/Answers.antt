use Rattle.std.proofs.Common.{sym, ◌∙◌}
use Rattle.regions.proofs.Ordered.{last_any, next_any, starts_rise}
use Rattle.regions.proofs.search.overlaps_any.Goals as goal

pub spot_behind-behind-requires : goal.spot_behind-behind-requires
spot_behind-behind-requires c = starts_rise c.args.page_bytes 0 _ c.requires.order

pub returns-then-last_overlaps : goal.returns-then-last_overlaps
returns-then-last_overlaps c =
    let last = c.last_overlaps.ensures in
    c.if-last_overlaps.true
    ∙ sym (last_any c.args.page_bytes c.args.address c.args.pages _ _ c.last_overlaps.result c.spot_behind-behind.ensures.parted last.none last.last c.if-last_overlaps.true)

pub returns-else-last_overlaps : goal.returns-else-last_overlaps
returns-else-last_overlaps c =
    let next = c.next_overlaps.ensures in
    next_any c.args.page_bytes c.args.address c.args.pages _ _ c.last_overlaps.result c.next_overlaps.result c.requires.order c.spot_behind-behind.ensures.parted
    c.last_overlaps.ensures.last next.none next.next c.if-last_overlaps.false
