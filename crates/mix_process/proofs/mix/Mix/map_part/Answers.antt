use Rattle.std.proofs.Common.{refl, subst}
use Rattle.mix_process.specs.Adding.{MapsInto}
use Rattle.mix_process.specs.declared.process.Process.{Process}
use Rattle.mix_process.proofs.Adding.PartMapped.{maps_part, read_there}
use Rattle.mix_process.proofs.mix.Mix.map_part.Goals as goal

pub returns : goal.returns
returns g c = λ told page process may.
    maps_part g.G.Gmi told page c.args.self.now c.args.place process c.args.part may c.map_into.new.gmi c.map_into.new.process c.map_into.result
    (subst (λ (x : Process). MapsInto g.G.Gmi c.args.self.now.gmi x c.args.part c.map_into.result c.map_into.new.gmi c.map_into.new.process)
    (read_there c.args.self.now.processes.items c.args.place c.index_mut.result.now process c.in-Some.process may.room.there c.index_mut.ensures.value c.in-Some.is)
    c.map_into.ensures)
    _ refl refl refl
