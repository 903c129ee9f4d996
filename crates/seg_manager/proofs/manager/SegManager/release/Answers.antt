use Rattle.std.proofs.result.Match.{err_is}
use Rattle.seg_manager.proofs.Leaves.CloseCall.{keep_may, keep_once_may, release_done, release_refused, trim_can, trim_made}
use Rattle.seg_manager.proofs.manager.SegManager.release.Goals as goal

pub keep_unused-requires : goal.keep_unused-requires
keep_unused-requires g c =
    record {
      once = keep_once_may g.M.Mapper g.G.Gmi c.args.mapper.now c.args.self.now c.close.new.self c.args.seg c.in_ok-cache.cache c.requires.can c.in_ok-cache.ensures.closed c.close.ensures.same;
      room = keep_may g.M.Mapper g.G.Gmi c.args.mapper.now c.args.self.now c.close.new.self c.args.seg c.in_ok-cache.cache c.requires.can c.in_ok-cache.ensures.closed c.close.ensures.same;
    }

pub trim-requires-clause-can : goal.trim-requires-clause-can
trim-requires-clause-can g c =
    trim_can g.M.Mapper g.G.Gmi c.args.mapper.now c.args.self.now c.close.new.self c.args.seg c.in_ok-cache.cache c.requires.can c.in_ok-cache.ensures.closed c.close.ensures.same
    c.keep_unused.new.self c.keep_unused.ensures.kept c.keep_unused.ensures.capacity c.keep_unused.ensures.same

pub trim-requires-clause-made : goal.trim-requires-clause-made
trim-requires-clause-made g c =
    trim_made g.M.Mapper g.G.Gmi c.args.mapper.now c.args.self.now c.close.new.self c.args.seg c.in_ok-cache.cache c.requires.can c.in_ok-cache.ensures.closed c.close.ensures.same
    c.keep_unused.new.self c.keep_unused.ensures.kept c.keep_unused.ensures.capacity c.keep_unused.ensures.same c.requires.made

pub returns : goal.returns
returns g c =
    release_done g.M.Mapper g.G.Gmi c.args.mapper.now c.args.self.now c.close.new.self c.args.seg c.in_ok-cache.cache c.requires.can c.in_ok-cache.ensures.closed c.close.ensures.same
    c.keep_unused.new.self c.keep_unused.ensures.kept c.keep_unused.ensures.capacity c.keep_unused.ensures.same c.trim.new.mapper c.trim.new.self c.trim.ensures

pub returns-in_err-cache : goal.returns-in_err-cache
returns-in_err-cache g c =
    rw (err_is c.from_residual.result _ c.from_residual.ensures.1)
    (release_refused g.M.Mapper g.G.Gmi c.args.mapper.now c.args.self.now c.close.new.self c.args.seg c.in_err-cache.field-0.0 c.requires.can c.in_err-cache.ensures.closed c.in_err-cache.ensures.refused)
