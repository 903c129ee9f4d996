use Rattle.std.proofs.Common.{◌∙◌, ap, refl, sym}
use Rattle.std.specs.Prelude.{option_and_then, option_map}
use Rattle.vm_ids.specs.Held.{segments_of}
use Rattle.vm_ids.specs.declared.numbers.SegId.{SegId}
use Rattle.vm_model.specs.Machine.{numbered}
use Rattle.flat_mm.specs.Manager.{Manager, machine_in}
use Rattle.flat_mm.specs.Store.{Cache}
use Rattle.flat_mm.proofs.Accesses.{segment_plain}
use Rattle.flat_mm.proofs.Destroying.{none_named}
use Rattle.flat_mm.proofs.Pushes.{none_pushed}
use Rattle.flat_mm.proofs.manager.FlatMm.push_cache.Goals as goal

pub returns-in-None-clause-pushed : goal.returns-in-None-clause-pushed
returns-in-None-clause-pushed g c = none_pushed g.M.Mapper c.args.mapper.now c.args.self.now tt c.requires.valid

pub returns-in-None-clause-there : goal.returns-in-None-clause-there
returns-in-None-clause-there g c =
    let p = c.args.self.now in
    let n = c.args.cache.0 in
    none_named (machine_in p) (segments_of (g.M.Mapper.held c.args.mapper.now)) n c.args.pages
    (segment_plain p.store (machine_in p) n refl
    ∙ ap (λ (x : Manager). option_map (λ (s : SegId). s.0) (option_and_then (λ (y : Cache). y.segment) (numbered x.store.caches n))) (sym c.self.view_is)
    ∙ ap (option_map (λ (s : SegId). s.0)) (sym c.segment.ensures ∙ c.in-None.is))
