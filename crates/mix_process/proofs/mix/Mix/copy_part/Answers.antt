use Rattle.std.proofs.Common.{sym}
use Rattle.mix_process.proofs.Adding.PartCopied.{added, mapped, may_add, may_map}
use Rattle.mix_process.proofs.mix.Mix.copy_part.Goals as goal

pub add_own-requires-clause-may : goal.add_own-requires-clause-may
add_own-requires-clause-may g c = (c.requires.may.0, may_add g.M.Mapper g.G.Gmi c.args.self.now c.args.mapper.now c.requires.can c.args.place c.requires.may.0 c.args.part c.requires.may.1 (sym c.if-may_write.ensures))

pub map_part-requires-clause-may : goal.map_part-requires-clause-may
map_part-requires-clause-may g c = (_, _, c.requires.may.0, may_map g.M.Mapper g.G.Gmi c.args.self.now c.args.mapper.now c.requires.can c.args.place c.requires.may.0 c.args.part c.requires.may.1 (sym c.if-may_write.ensures))

pub returns-then-may_write : goal.returns-then-may_write
returns-then-may_write g c = λ process may. added g.M.Mapper g.G.Gmi c.args.self.now c.args.mapper.now c.requires.can c.args.place process c.args.part may (sym c.if-may_write.ensures) _ _ _ (c.add_own.ensures process (may_add g.M.Mapper g.G.Gmi c.args.self.now c.args.mapper.now c.requires.can c.args.place process c.args.part may (sym c.if-may_write.ensures)))

pub returns-else-may_write : goal.returns-else-may_write
returns-else-may_write g c = λ process may. mapped g.M.Mapper g.G.Gmi c.args.self.now c.args.mapper.now c.requires.can c.args.place process c.args.part may (sym c.if-may_write.ensures) _ _ (c.map_part.ensures _ _ process (may_map g.M.Mapper g.G.Gmi c.args.self.now c.args.mapper.now c.requires.can c.args.place process c.args.part may (sym c.if-may_write.ensures)))
