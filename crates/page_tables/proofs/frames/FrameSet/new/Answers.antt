use Rattle.std.proofs.Common.{map, None, ap, ◌∙◌}
use Rattle.std.specs.Prelude.{is_some}
use Rattle.page_tables.proofs.LinkReads.{map-replicate, resized}
use Rattle.page_tables.proofs.frames.FrameSet.new.Goals as goal

pub returns : goal.returns
returns c = ap (map is_some) (c.in_ok-resize.ensures.items ∙ resized _ _ _ None c.new-places.ensures.items c.new-places.ensures.len) ∙ map-replicate is_some c.args.frames None
