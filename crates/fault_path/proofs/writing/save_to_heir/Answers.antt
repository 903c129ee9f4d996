use Rattle.std.proofs.Common.{inl, refl, rules, sym}
use Rattle.local_cache.specs.Reading.{name_of}
use Rattle.residency.specs.Between.{world_at}
use Rattle.residency.specs.World.{World}
use Rattle.fault_path.proofs.Rules.Heirs.{no_heir}
use Rattle.fault_path.specs.Translating.{MayCome}
use Rattle.fault_path.proofs.Translations.Given.{forgot_drops}
use Rattle.fault_path.specs.Coming.{IsOfSave}
use Rattle.fault_path.proofs.Frames.ComingFrames.{same_come}
use Rattle.fault_path.proofs.writing.save_to_heir.Goals as goal

pub returns-in-None-clause-handed : goal.returns-in-None-clause-handed
returns-in-None-clause-handed g c =
    let old : World = world_at g.M.Mapper c.args.mapper.now c.args.caches.now c.args.store.now in
    record { answered = search rules; done = no_heir old c.requires.right.sound (name_of c.args.caches.now c.args.node) (sym c.in-None.ensures.heir); missed = tt }

pub returns-in-None-clause-drops : goal.returns-in-None-clause-drops
returns-in-None-clause-drops g c = record { left = forgot_drops (MayCome c.args.caches.now c.args.node) c.args.caches.now c.args.store.now c.args.node c.args.node c.requires.right.store.tied.placed (inl refl) (inl refl); home = λ f at. inl at; failed = tt }

pub returns-in-None-clause-frames : goal.returns-in-None-clause-frames
returns-in-None-clause-frames g c = same_come (IsOfSave c.args.caches.now c.args.node) _
