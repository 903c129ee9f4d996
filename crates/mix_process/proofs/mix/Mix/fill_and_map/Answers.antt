use Rattle.mix_process.specs.Adding.{FillsAndMaps}
use Rattle.mix_process.proofs.Adding.FilledAndMapped.{fitted, handed_on, made_few, may_map, unfilled}
use Rattle.mix_process.proofs.mix.Mix.fill_and_map.Goals as goal

pub returns-in_err-fill : goal.returns-in_err-fill
returns-in_err-fill g c = λ process may.
    handed_on (λ r. FillsAndMaps g.M.Mapper g.G.Gmi c.args.mapper.now c.args.self.now c.args.place process c.args.part c.args.source r c.fill.new.mapper c.fill.new.self)
    c.from_residual.result _ c.from_residual.ensures.1
    (unfilled g.M.Mapper g.G.Gmi c.args.mapper.now c.args.self.now c.args.place process c.args.part c.args.source may _ _ _ c.in_err-fill.ensures)

pub map_part-requires-clause-may : goal.map_part-requires-clause-may
map_part-requires-clause-may g c = (
  g.M.Mapper.held c.fill.new.mapper,
  g.M.Mapper.page_bytes c.fill.new.mapper,
  c.requires.may.0,
  may_map g.M.Mapper g.G.Gmi c.args.mapper.now c.args.self.now c.args.place c.requires.may.0 c.args.part c.args.source c.requires.may.1 _ _ _ c.in_ok-fill.ensures,
)

pub map_part-requires-clause-made : goal.map_part-requires-clause-made
map_part-requires-clause-made g c =
    made_few g.M.Mapper g.G.Gmi c.args.mapper.now c.args.self.now c.args.place c.requires.may.0 c.args.part c.args.source c.requires.may.1 _ _ _ c.in_ok-fill.ensures c.requires.made

pub returns : goal.returns
returns g c = λ process may.
    fitted g.M.Mapper g.G.Gmi c.args.mapper.now c.args.self.now c.args.place process c.args.part c.args.source may _ _ _ c.in_ok-fill.ensures _ _
    (c.map_part.ensures (g.M.Mapper.held c.fill.new.mapper) (g.M.Mapper.page_bytes c.fill.new.mapper) process
    (may_map g.M.Mapper g.G.Gmi c.args.mapper.now c.args.self.now c.args.place process c.args.part c.args.source may _ _ _ c.in_ok-fill.ensures))
