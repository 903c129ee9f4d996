use Rattle.std.proofs.Common.{List, sym, subst}
use Rattle.mix_process.specs.Inner.{AreCleared}
use Rattle.mix_process.specs.declared.process.Part.{Part}
use Rattle.mix_process.proofs.Adding.OwnDestroyed.{cleared_none, cleared_one, cleared_skip}
use Rattle.mix_process.proofs.mix.Mix.destroy_own.Goals as goal

pub loop-part-init : goal.loop-part-init
loop-part-init g c = cleared_none g.M.Mapper g.G.Gmi c.args.mapper.now c.args.self.now c.args.parts.items c.requires.able c.requires.apart c.requires.own

pub loop-part-preserved-then-may_write : goal.loop-part-preserved-then-may_write
loop-part-preserved-then-may_write g c =
    cleared_one g.M.Mapper g.G.Gmi c.args.mapper.now c.args.self.now c.args.parts.items c.pop.new.self.items c.in-Some.part c.loop-part.mapper c.loop-part.self
    (subst (λ (xs : List Part). AreCleared g.M.Mapper g.G.Gmi c.args.mapper.now c.args.self.now c.args.parts.items xs c.loop-part.mapper c.loop-part.self) c.in-Some.ensures.items c.loop-part.invariant)
    (sym c.if-may_write.ensures) _ _ _ c.destroy.ensures

pub loop-part-preserved : goal.loop-part-preserved
loop-part-preserved g c =
    cleared_skip g.M.Mapper g.G.Gmi c.args.mapper.now c.args.self.now c.args.parts.items c.pop.new.self.items c.in-Some.part c.loop-part.mapper c.loop-part.self
    (subst (λ (xs : List Part). AreCleared g.M.Mapper g.G.Gmi c.args.mapper.now c.args.self.now c.args.parts.items xs c.loop-part.mapper c.loop-part.self) c.in-Some.ensures.items c.loop-part.invariant)
    (sym c.if-may_write.ensures)
