use Rattle.std.proofs.Common.{refl}
use Rattle.std.proofs.result.Match.{err_is}
use Rattle.seg_manager.proofs.Opens.FirstCall.{can_by, credit_by, lacks_by, named_by, not_by, ok_by, spare_by, start_anew}
use Rattle.seg_manager.proofs.manager.SegManager.open_anew.Goals as goal

pub returns-in_err-reserve_cache : goal.returns-in_err-reserve_cache
returns-in_err-reserve_cache g c =
    rw (err_is c.from_residual.result _ c.from_residual.ensures.1)
    (lacks_by g.M.Mapper g.G.Gmi c.args.mapper.now c.args.self.now c.reserve_cache.new.self c.args.seg c.requires.can c.requires.anew
    c.reserve_cache.ensures.caches c.reserve_cache.ensures.kept c.reserve_cache.ensures.less c.reserve_cache.ensures.same)

pub open_segment-requires-clause-can : goal.open_segment-requires-clause-can
open_segment-requires-clause-can g c =
    can_by g.M.Mapper g.G.Gmi c.args.mapper.now c.args.self.now c.reserve_cache.new.self c.args.seg c.requires.can c.requires.anew
    c.reserve_cache.ensures.caches c.reserve_cache.ensures.kept c.reserve_cache.ensures.less c.reserve_cache.ensures.same

pub open_segment-requires-clause-made : goal.open_segment-requires-clause-made
open_segment-requires-clause-made g c =
    credit_by g.M.Mapper g.G.Gmi c.args.mapper.now c.args.self.now c.reserve_cache.new.self c.args.seg c.requires.can c.requires.anew
    c.reserve_cache.ensures.caches c.reserve_cache.ensures.kept c.reserve_cache.ensures.less c.reserve_cache.ensures.same c.requires.made

pub open_segment-requires-clause-anew : goal.open_segment-requires-clause-anew
open_segment-requires-clause-anew g c =
    start_anew g.M.Mapper g.G.Gmi c.args.mapper.now c.args.self.now c.reserve_cache.new.self c.args.seg c.requires.can c.requires.anew
    c.reserve_cache.ensures.caches c.reserve_cache.ensures.kept c.reserve_cache.ensures.less

pub returns-in_err-cache : goal.returns-in_err-cache
returns-in_err-cache g c =
    rw (err_is c.from_residual-in_err-cache.result _ c.from_residual-in_err-cache.ensures.1)
    (not_by g.M.Mapper g.G.Gmi c.args.mapper.now c.args.self.now c.reserve_cache.new.self c.args.seg c.requires.can c.requires.anew
    c.reserve_cache.ensures.caches c.reserve_cache.ensures.kept c.reserve_cache.ensures.less c.reserve_cache.ensures.same
    c.in_err-cache.field-0.0 c.open_segment.new.mapper c.open_segment.new.self c.in_err-cache.ensures)

pub push-requires-clause-named : goal.push-requires-clause-named
push-requires-clause-named g c =
    named_by g.M.Mapper g.G.Gmi c.args.mapper.now c.args.self.now c.reserve_cache.new.self c.args.seg c.requires.can c.requires.anew
    c.reserve_cache.ensures.caches c.reserve_cache.ensures.kept c.reserve_cache.ensures.less c.reserve_cache.ensures.same
    c.in_ok-cache.cache c.open_segment.new.mapper c.open_segment.new.self c.in_ok-reserve_cache.ensures.all c.in_ok-cache.ensures

pub push-requires-clause-spare : goal.push-requires-clause-spare
push-requires-clause-spare g c =
    spare_by g.M.Mapper g.G.Gmi c.args.mapper.now c.args.self.now c.reserve_cache.new.self c.args.seg c.requires.can c.requires.anew
    c.reserve_cache.ensures.caches c.reserve_cache.ensures.kept c.reserve_cache.ensures.less c.reserve_cache.ensures.same
    c.in_ok-cache.cache c.open_segment.new.mapper c.open_segment.new.self c.in_ok-reserve_cache.ensures.spare c.in_ok-cache.ensures

pub returns : goal.returns
returns g c =
    ok_by g.M.Mapper g.G.Gmi c.args.mapper.now c.args.self.now c.reserve_cache.new.self c.args.seg c.requires.can c.requires.anew
    c.reserve_cache.ensures.caches c.reserve_cache.ensures.kept c.reserve_cache.ensures.less c.reserve_cache.ensures.same
    c.in_ok-cache.cache c.open_segment.new.mapper c.open_segment.new.self (record c.open_segment.new.self { caches = c.push.new.self }) c.in_ok-reserve_cache.ensures.all c.in_ok-cache.ensures c.push.ensures refl
