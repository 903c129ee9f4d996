use Rattle.page_tables.proofs.EntryPlaces.{empty_places}
use Rattle.page_tables.proofs.Writing.{none_kept}
use Rattle.page_tables.proofs.places.Places.new.Goals as goal

pub invariant_of-result : goal.invariant_of-result
invariant_of-result c = (
  rw (c.in_ok-entries.ensures, c.in_ok-index.ensures, c.in_ok-by_frame.ensures) (empty_places c.args.frames c.requires),
  rw (c.in_ok-entries.ensures, c.in_ok-by_frame.ensures, c.in_ok-writing.ensures, c.in_ok-asked.ensures) (none_kept c.args.frames c.requires),
)
