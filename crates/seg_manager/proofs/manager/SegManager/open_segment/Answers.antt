use Rattle.std.proofs.result.Match.{err_is}
use Rattle.vm_ids.specs.declared.command.Command.TheVariants.{OpenSegment}
use Rattle.seg_manager.specs.Inner.{first_of}
use Rattle.seg_manager.proofs.Room.Thinned.{trying_none}
use Rattle.seg_manager.proofs.Room.Tried.{can_tried, made_tried, none_noted, noted_none, open_leaves, open_row, tries_err, tries_more}
use Rattle.seg_manager.proofs.manager.SegManager.open_segment.Goals as goal

pub loop-cache-init : goal.loop-cache-init
loop-cache-init g c = trying_none g.M.Mapper g.G.Gmi (OpenSegment c.args.seg) c.args.mapper.now c.args.self.now c.requires.can

pub make_room-requires-clause-can : goal.make_room-requires-clause-can
make_room-requires-clause-can g c =
    let anew = noted_none c.args.seg.0 0 c.loop-cache.self.caches.items (c.loop-cache.invariant.thins.among (first_of c.args.seg.0) (none_noted c.args.seg.0 0 c.args.self.now.caches.items c.requires.anew)) in
    let leaves = open_leaves g.M.Mapper g.G.Gmi c.loop-cache.self c.loop-cache.mapper c.loop-cache.invariant.thins.can c.args.seg anew in
    can_tried g.M.Mapper g.G.Gmi c.args.mapper.now c.args.self.now (OpenSegment c.args.seg) c.loop-cache.mapper c.loop-cache.self c.loop-cache.invariant leaves (open_row g.M.Mapper g.G.Gmi c.loop-cache.self c.loop-cache.mapper c.loop-cache.invariant.thins.can c.args.seg anew c.args.mapper.now c.args.self.now c.requires.can c.loop-cache.invariant.thins c.requires.anew) c.in-Err.trouble c.open_segment.new.mapper c.open_segment.new.self c.in-Err.ensures

pub make_room-requires-clause-made : goal.make_room-requires-clause-made
make_room-requires-clause-made g c =
    let anew = noted_none c.args.seg.0 0 c.loop-cache.self.caches.items (c.loop-cache.invariant.thins.among (first_of c.args.seg.0) (none_noted c.args.seg.0 0 c.args.self.now.caches.items c.requires.anew)) in
    let leaves = open_leaves g.M.Mapper g.G.Gmi c.loop-cache.self c.loop-cache.mapper c.loop-cache.invariant.thins.can c.args.seg anew in
    made_tried g.M.Mapper g.G.Gmi c.args.mapper.now c.args.self.now (OpenSegment c.args.seg) c.loop-cache.mapper c.loop-cache.self c.loop-cache.invariant leaves (open_row g.M.Mapper g.G.Gmi c.loop-cache.self c.loop-cache.mapper c.loop-cache.invariant.thins.can c.args.seg anew c.args.mapper.now c.args.self.now c.requires.can c.loop-cache.invariant.thins c.requires.anew) c.in-Err.trouble c.open_segment.new.mapper c.open_segment.new.self c.in-Err.ensures c.requires.made

pub loop-cache-preserved : goal.loop-cache-preserved
loop-cache-preserved g c =
    let anew = noted_none c.args.seg.0 0 c.loop-cache.self.caches.items (c.loop-cache.invariant.thins.among (first_of c.args.seg.0) (none_noted c.args.seg.0 0 c.args.self.now.caches.items c.requires.anew)) in
    let leaves = open_leaves g.M.Mapper g.G.Gmi c.loop-cache.self c.loop-cache.mapper c.loop-cache.invariant.thins.can c.args.seg anew in
    tries_more g.M.Mapper g.G.Gmi c.args.mapper.now c.args.self.now (OpenSegment c.args.seg) c.loop-cache.mapper c.loop-cache.self c.loop-cache.invariant leaves (open_row g.M.Mapper g.G.Gmi c.loop-cache.self c.loop-cache.mapper c.loop-cache.invariant.thins.can c.args.seg anew c.args.mapper.now c.args.self.now c.requires.can c.loop-cache.invariant.thins c.requires.anew) c.in-Err.trouble c.open_segment.new.mapper c.open_segment.new.self c.in-Err.ensures
    c.make_room.new.mapper c.make_room.new.self c.in_ok-make_room-in-Err.ensures

pub returns-in_err-make_room-in-Err : goal.returns-in_err-make_room-in-Err
returns-in_err-make_room-in-Err g c =
    let anew = noted_none c.args.seg.0 0 c.loop-cache.self.caches.items (c.loop-cache.invariant.thins.among (first_of c.args.seg.0) (none_noted c.args.seg.0 0 c.args.self.now.caches.items c.requires.anew)) in
    let leaves = open_leaves g.M.Mapper g.G.Gmi c.loop-cache.self c.loop-cache.mapper c.loop-cache.invariant.thins.can c.args.seg anew in
    rw (err_is c.from_residual.result _ c.from_residual.ensures.1)
    (tries_err g.M.Mapper g.G.Gmi c.args.mapper.now c.args.self.now (OpenSegment c.args.seg) c.loop-cache.mapper c.loop-cache.self c.loop-cache.invariant leaves (open_row g.M.Mapper g.G.Gmi c.loop-cache.self c.loop-cache.mapper c.loop-cache.invariant.thins.can c.args.seg anew c.args.mapper.now c.args.self.now c.requires.can c.loop-cache.invariant.thins c.requires.anew) c.in-Err.trouble c.open_segment.new.mapper c.open_segment.new.self c.in-Err.ensures
    c.in_err-make_room-in-Err.field-0.0 c.make_room.new.mapper c.make_room.new.self c.in_err-make_room-in-Err.ensures)
