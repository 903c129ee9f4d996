use Rattle.std.proofs.Common.{sym}
use Rattle.vm_model.specs.Answering.{held_for}
use Rattle.vm_model.specs.Seen.{machine_seen}
use Rattle.vm_model.proofs.Machines.Awaiting.{extent_there, flush_locked, flush_row, invalidate_awaits, invalidate_locked}
use Rattle.vm_model.proofs.extents.check_flush.Goals as goal

pub returns-then-is_any_locked-clause-flush : goal.returns-then-is_any_locked-clause-flush
returns-then-is_any_locked-clause-flush c = λ h.
    let m = machine_seen c.args.tables.now in
    let e = c.args.extent.now in
    let there = extent_there m e c.in_ok-seg.seg.0 c.in_ok-seg.ensures.segment c.in_ok-seg.ensures.within in
    flush_locked m e there.0 c.in_ok-seg.seg.0 there.1 there.2 there.3 (sym c.if-is_any_locked.ensures)

pub returns-then-is_any_locked-clause-refused : goal.returns-then-is_any_locked-clause-refused
returns-then-is_any_locked-clause-refused c = λ h.
    let m = machine_seen c.args.tables.now in
    let e = c.args.extent.now in
    let there = extent_there m e c.in_ok-seg.seg.0 c.in_ok-seg.ensures.segment c.in_ok-seg.ensures.within in
    invalidate_locked m e (held_for m h e.cache.0) there.0 c.in_ok-seg.seg.0 there.1 there.2 there.3 (sym c.if-is_any_locked.ensures)

pub returns-clause-flush : goal.returns-clause-flush
returns-clause-flush c = λ h.
    let m = machine_seen c.args.tables.now in
    let e = c.args.extent.now in
    let there = extent_there m e c.in_ok-seg.seg.0 c.in_ok-seg.ensures.segment c.in_ok-seg.ensures.within in
    flush_row m e there.0 c.in_ok-seg.seg.0 there.1 there.2 there.3 (sym c.if-is_any_locked.ensures)

pub returns-clause-awaits : goal.returns-clause-awaits
returns-clause-awaits c =
    let m = machine_seen c.args.tables.now in
    let e = c.args.extent.now in
    let there = extent_there m e c.in_ok-seg.seg.0 c.in_ok-seg.ensures.segment c.in_ok-seg.ensures.within in
    invalidate_awaits m e there.0 c.in_ok-seg.seg.0 there.1 there.2 there.3 (sym c.if-is_any_locked.ensures)
