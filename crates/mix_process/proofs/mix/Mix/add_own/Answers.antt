use Rattle.std.proofs.Common.{refl}
use Rattle.mix_process.specs.Adding.{IsAdded}
use Rattle.mix_process.proofs.Adding.FilledAndMapped.{handed_on}
use Rattle.mix_process.proofs.Adding.OwnPagesAdded.{added, made_few, made_then, may_fill, not_added, not_taken}
use Rattle.mix_process.proofs.mix.Mix.add_own.Goals as goal

pub returns-in_err-cache : goal.returns-in_err-cache
returns-in_err-cache g c = λ process may.
    handed_on (λ r. IsAdded g.M.Mapper g.G.Gmi c.args.mapper.now c.args.self.now c.args.place process c.args.area c.args.pages c.args.source r c.args.mapper.now (record c.args.self.now { gmi = c.make_temp.new.self }))
    c.from_residual.result _ c.from_residual.ensures.1
    (not_taken g.M.Mapper g.G.Gmi c.args.mapper.now c.args.self.now c.requires.can c.args.place process c.args.area c.args.pages c.args.source may _ _ c.in_err-cache.ensures _ refl)

pub fill_and_map-requires-clause-may : goal.fill_and_map-requires-clause-may
fill_and_map-requires-clause-may g c =
    (c.requires.may.0, may_fill g.M.Mapper g.G.Gmi c.args.mapper.now c.args.self.now c.requires.can c.args.place c.requires.may.0 c.args.area c.args.pages c.args.source c.requires.may.1 _ _ c.in_ok-cache.ensures c.in_ok-cache.cache refl)

pub fill_and_map-requires-clause-made : goal.fill_and_map-requires-clause-made
fill_and_map-requires-clause-made g c =
    made_few g.M.Mapper g.G.Gmi c.args.mapper.now c.args.self.now c.requires.can c.args.place c.requires.may.0 c.args.area c.args.pages c.args.source c.requires.may.1 _ _ c.in_ok-cache.ensures c.in_ok-cache.cache refl c.requires.made

pub destroy-requires-clause-valid : goal.destroy-requires-clause-valid
destroy-requires-clause-valid g c =
    (c.in-Err.ensures c.requires.may.0 (may_fill g.M.Mapper g.G.Gmi c.args.mapper.now c.args.self.now c.requires.can c.args.place c.requires.may.0 c.args.area c.args.pages c.args.source c.requires.may.1 _ _ c.in_ok-cache.ensures c.in_ok-cache.cache refl)).maps.spare.able.valid

pub destroy-requires-clause-made : goal.destroy-requires-clause-made
destroy-requires-clause-made g c =
    made_then g.M.Mapper g.G.Gmi c.args.mapper.now c.args.self.now c.requires.can c.args.place c.requires.may.0 c.args.area c.args.pages c.args.source c.requires.may.1 _ _ c.in_ok-cache.ensures c.in_ok-cache.cache refl _ _ _
    (c.in-Err.ensures c.requires.may.0 (may_fill g.M.Mapper g.G.Gmi c.args.mapper.now c.args.self.now c.requires.can c.args.place c.requires.may.0 c.args.area c.args.pages c.args.source c.requires.may.1 _ _ c.in_ok-cache.ensures c.in_ok-cache.cache refl)) c.requires.made

pub destroy-requires-clause-fits : goal.destroy-requires-clause-fits
destroy-requires-clause-fits g c =
    (c.in-Err.ensures c.requires.may.0 (may_fill g.M.Mapper g.G.Gmi c.args.mapper.now c.args.self.now c.requires.can c.args.place c.requires.may.0 c.args.area c.args.pages c.args.source c.requires.may.1 _ _ c.in_ok-cache.ensures c.in_ok-cache.cache refl)).maps.spare.able.fits

pub returns-in-Ok : goal.returns-in-Ok
returns-in-Ok g c = λ process may.
    added g.M.Mapper g.G.Gmi c.args.mapper.now c.args.self.now c.requires.can c.args.place process c.args.area c.args.pages c.args.source may _ _ c.in_ok-cache.ensures c.in_ok-cache.cache refl _ _ _
    (c.in-Ok.ensures process (may_fill g.M.Mapper g.G.Gmi c.args.mapper.now c.args.self.now c.requires.can c.args.place process c.args.area c.args.pages c.args.source may _ _ c.in_ok-cache.ensures c.in_ok-cache.cache refl))

pub returns-in-Err : goal.returns-in-Err
returns-in-Err g c = λ process may.
    not_added g.M.Mapper g.G.Gmi c.args.mapper.now c.args.self.now c.requires.can c.args.place process c.args.area c.args.pages c.args.source may _ _ c.in_ok-cache.ensures c.in_ok-cache.cache refl _ _ _
    (c.in-Err.ensures process (may_fill g.M.Mapper g.G.Gmi c.args.mapper.now c.args.self.now c.requires.can c.args.place process c.args.area c.args.pages c.args.source may _ _ c.in_ok-cache.ensures c.in_ok-cache.cache refl)) _ _ _ c.destroy.ensures
