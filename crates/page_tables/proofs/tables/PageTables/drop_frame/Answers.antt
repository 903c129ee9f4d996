use Rattle.std.proofs.Common.{◌∙◌, sym, arith, None, length-set}
use Rattle.page_tables.specs.Entries.{is_in_frame}
use Rattle.page_tables.proofs.Dropping.{none_left, one_dropped}
use Rattle.page_tables.proofs.tables.PageTables.drop_frame.Goals as goal

pub loop-place-preserved : goal.loop-place-preserved
loop-place-preserved c = rw c.put.ensures (record {
  frame = omega (arith, c.loop-place.invariant.frame, length-set c.loop-place.self c.in-Some.place None);
  rest = one_dropped (is_in_frame c.args.frame.0) c.loop-place.self c.in-Some.place c.in-Some.ensures.1 ∙ c.loop-place.invariant.rest;
})

pub returns : goal.returns
returns c = sym (none_left (is_in_frame c.args.frame.0) c.loop-place.self c.in_default.ensures) ∙ c.loop-place.invariant.rest
