use Rattle.std.proofs.result.Match.{err_is}
use Rattle.seg_manager.specs.declared.tables.Leaving.TheVariants.{Region}
use Rattle.seg_manager.proofs.Leaves.ExitOrUnmapCall.{done_serves, drop_once, drop_room, refused_serves, trim_can, trim_made}
use Rattle.seg_manager.proofs.manager.SegManager.unmap.Goals as goal

pub drop_regions-requires : goal.drop_regions-requires
drop_regions-requires g c = record {
  once = drop_once g.M.Mapper g.G.Gmi c.args.mapper.now c.args.self.now (Region c.args.region) c.requires.can;
  room = drop_room g.M.Mapper g.G.Gmi c.args.mapper.now c.args.self.now (Region c.args.region) c.requires.can;
}

pub trim-requires-clause-can : goal.trim-requires-clause-can
trim-requires-clause-can g c =
    trim_can g.M.Mapper g.G.Gmi c.args.mapper.now c.args.self.now (Region c.args.region) c.requires.can c.unmap.new.self c.in_ok-unmap.ensures
    c.drop_regions.new.self c.drop_regions.ensures.regions c.drop_regions.ensures.kept c.drop_regions.ensures.capacity c.drop_regions.ensures.same

pub trim-requires-clause-made : goal.trim-requires-clause-made
trim-requires-clause-made g c =
    trim_made g.M.Mapper g.G.Gmi c.args.mapper.now c.args.self.now (Region c.args.region) c.requires.can c.unmap.new.self c.in_ok-unmap.ensures
    c.drop_regions.new.self c.drop_regions.ensures.regions c.drop_regions.ensures.kept c.drop_regions.ensures.capacity c.drop_regions.ensures.same c.requires.made

pub returns-in_err-unmap : goal.returns-in_err-unmap
returns-in_err-unmap g c =
    rw (err_is c.from_residual.result _ c.from_residual.ensures.1)
    (refused_serves g.M.Mapper g.G.Gmi c.args.mapper.now c.args.self.now (Region c.args.region) c.requires.can c.unmap.new.self c.in_err-unmap.field-0.0 c.in_err-unmap.ensures)

pub returns : goal.returns
returns g c =
    done_serves g.M.Mapper g.G.Gmi c.args.mapper.now c.args.self.now (Region c.args.region) c.requires.can c.unmap.new.self c.in_ok-unmap.ensures
    c.drop_regions.new.self c.drop_regions.ensures.regions c.drop_regions.ensures.kept c.drop_regions.ensures.capacity c.drop_regions.ensures.same c.trim.new.mapper c.trim.new.self c.trim.ensures
