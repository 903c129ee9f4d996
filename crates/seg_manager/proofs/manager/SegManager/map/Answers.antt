use Rattle.std.proofs.Common.{◌∙◌, refl}
use Rattle.std.proofs.result.Match.{err_is}
use Rattle.std.specs.Prelude.{insert}
use Rattle.seg_manager.specs.Inner.{place_from}
use Rattle.seg_manager.proofs.Calling.MapCall.{lacks_map, map_done, map_refused}
use Rattle.seg_manager.proofs.manager.SegManager.map.Goals as goal

pub returns-in_err-reserve : goal.returns-in_err-reserve
returns-in_err-reserve g c = λ mapper can.
    rw (err_is c.from_residual.result _ c.from_residual.ensures.1)
    (lacks_map g.M.Mapper g.G.Gmi c.args.self.now mapper can c.args.actor c.args.mapping (record c.args.self.now { regions = c.reserve.new.self }) refl c.reserve.ensures.items)

pub returns : goal.returns
returns g c = λ mapper can.
    map_done g.M.Mapper g.G.Gmi c.args.self.now mapper can c.args.actor c.args.mapping
    (record c.args.mapping { extent = record c.args.mapping.extent { cache = c.shown-cache.result } }) (λ i. record c.args.mapping { extent = record c.args.mapping.extent { cache = c.shown-cache.ensures i } })
    c.map.new.self c.note_region.new.self c.note_region.ensures.same c.in_ok-region.region c.in_ok-region.ensures
    (c.note_region.ensures.regions
    ∙ (λ i. insert (c.reserve.ensures.items i) (place_from (record { actor = c.args.actor; region = c.in_ok-region.region; address = c.args.mapping.address; cache = c.shown-cache.ensures i }) 0 (c.reserve.ensures.items i))
    (record { actor = c.args.actor; region = c.in_ok-region.region; address = c.args.mapping.address; cache = c.shown-cache.ensures i })))

pub returns-in_err-region : goal.returns-in_err-region
returns-in_err-region g c = λ mapper can.
    rw (err_is c.from_residual-in_err-region.result _ c.from_residual-in_err-region.ensures.1)
    (map_refused g.M.Mapper g.G.Gmi c.args.self.now mapper can c.args.actor c.args.mapping
    (record c.args.mapping { extent = record c.args.mapping.extent { cache = c.shown-cache.result } }) (λ i. record c.args.mapping { extent = record c.args.mapping.extent { cache = c.shown-cache.ensures i } })
    c.map.new.self (record c.args.self.now { gmi = c.map.new.self; regions = c.reserve.new.self }) refl c.in_err-region.field-0.0 c.in_err-region.ensures c.reserve.ensures.items)
