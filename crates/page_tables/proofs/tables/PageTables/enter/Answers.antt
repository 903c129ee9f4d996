use Rattle.page_tables.proofs.Seeing.{entered_seen}
use Rattle.page_tables.proofs.tables.PageTables.enter.Goals as goal

pub returns-clause-seen : goal.returns-clause-seen
returns-clause-seen c =
    rw (c.put.ensures, c.place_for-place.ensures.same) (entered_seen c.args.self.now c.place_for-place.result (record { actor = c.args.actor; page = c.args.page; to = record { frame = c.args.frame; writable = c.args.writable } }) c.place_for-place.ensures.place.below c.place_for-place.ensures.alone)
