use Rattle.std.proofs.Common.{◌≡◌, length, map}
use Rattle.page_tables.specs.FrameSets.{count_in}
use Rattle.page_tables.specs.Indexes.{listed_at}
use Rattle.page_tables.proofs.Narrowing.{IsAsking}
use Rattle.page_tables.proofs.places.narrow_picked.Given as goal

abbrev pub invariant-loop-frame : goal.invariant-loop-frame
invariant-loop-frame g l = record {
  lists : l.by_frame.lists ≡ l.fn.by_frame.lists;
  on : l.by_frame.on ≡ map listed_at l.entries;
  writing : length l.writing ≡ length l.fn.writing;
  asked : length l.asked ≡ length l.fn.writing;
  asking : IsAsking l.fn.entries l.entries l.writing l.asked (λ frame picked. goal.F-post g l.picks (record { 0 = frame }) picked);
}

abbrev pub decreases-loop-frame : goal.decreases-loop-frame
decreases-loop-frame g l = count_in l.writing
