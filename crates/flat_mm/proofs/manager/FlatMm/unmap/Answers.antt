use Rattle.std.proofs.Common.{◌≡◌, ◌∙◌, Ok, Err, ap, map, refl, subst, sym}
use Rattle.std.specs.Prelude.{is_some, option_map}
use Rattle.vm_ids.specs.declared.command.Command.TheVariants as commands
use Rattle.vm_ids.specs.declared.refusal.Refusal.TheVariants as refusals
use Rattle.vm_ids.specs.declared.reply.Reply.TheVariants as replies
use Rattle.vm_ids.specs.declared.reply.Trouble.TheVariants as troubles
use Rattle.vm_model.specs.Answering.{reply, without_region}
use Rattle.contexts.specs.Actors.{Actors, machine_with}
use Rattle.contexts.proofs.Placing.{right_without}
use Rattle.contexts.proofs.RegionRows.{IsToldOf, told_of, unmap_locked, unmap_none, unmap_row, untold_of}
use Rattle.flat_mm.specs.Manager.{IsManagerSound, caches_in, sizes_in}
use Rattle.flat_mm.proofs.Acting.{acted, acted_sound, stayed}
use Rattle.std.proofs.lemmas.List.{length-map}
use Rattle.flat_mm.proofs.manager.FlatMm.unmap.Goals.{After-unmap, In-Some}
use Rattle.flat_mm.proofs.manager.FlatMm.unmap.Goals as goal

pub returns-in_default : goal.returns-in_default
returns-in_default c =
    let i = c.self.inside in
    stayed i.store i.contexts i.actors c.self.invariant c.args.self.now c.self.view_is (commands.Unmap c.args.region) (record { reaches = refl; needs = λ m next. refl; said = λ m h a. tt }) (Err (troubles.Refused refusals.NoRegion))
    (λ h. unmap_none (caches_in i.store) i.store.frames i.contexts c.args.region.0 (ap is_some (untold_of c.args.region.0 i.contexts (sym c.status.ensures ∙ c.in_default.is))))

-- the region of which this is told
region : (c : In-Some) → IsToldOf c.args.region.0 c.self.inside.contexts c.in-Some.status
region c = told_of c.args.region.0 c.self.inside.contexts c.in-Some.status (sym c.status.ensures ∙ c.in-Some.is)

pub returns-then-status : goal.returns-then-status
returns-then-status c =
    let i = c.self.inside in
    let r = region (goal.at.returns-then-status c).In-Some in
    stayed i.store i.contexts i.actors c.self.invariant c.args.self.now c.self.view_is (commands.Unmap c.args.region) (record { reaches = refl; needs = λ m next. refl; said = λ m h a. tt }) (Err (troubles.Refused refusals.Locked))
    (λ h. unmap_locked (caches_in i.store) i.store.frames i.contexts c.args.region.0 r.region r.found (sym r.locked ∙ c.if-status.true))

gone : (c : After-unmap) → c.unmap.new.self ≡ record c.self.inside.contexts { actors = map (option_map (without_region c.args.region.0)) c.self.inside.contexts.actors }
gone c = c.unmap.ensures.gone (c.unmap.ensures.found ∙ ap is_some (region (goal.at.After-unmap c).In-Some).found)

pub invariant_of-self : goal.invariant_of-self
invariant_of-self c =
    let i = c.self.inside in
    let k = c.self.invariant in
    subst (λ (u : Actors). IsManagerSound i.store u i.actors) (sym (gone c))
    (acted_sound i.store i.contexts (record i.contexts { actors = map (option_map (without_region c.args.region.0)) i.contexts.actors }) i.actors i.actors k refl (k.counted ∙ sym (length-map i.contexts.actors (option_map (without_region c.args.region.0))))
    (right_without (sizes_in i.store) c.args.region.0 i.contexts k.placed))

pub returns : goal.returns
returns c =
    let i = c.self.inside in
    let r = region (goal.at.returns c).In-Some in
    acted i.store i.contexts i.actors c.self.invariant c.args.self.now c.self.view_is (commands.Unmap c.args.region) (record { reaches = refl; needs = λ m next. refl; said = λ m h a. tt }) (Ok replies.Done) c.unmap.new.self (ap (λ (t : Actors). t.page_bytes) (gone c))
    (λ h. unmap_row (caches_in i.store) i.store.frames i.contexts c.args.region.0 r.region r.found (sym r.locked ∙ c.if-status.false)
    ∙ ap (λ (t : Actors). reply replies.Done (machine_with (caches_in i.store) i.store.frames t)) (sym (gone c)))
