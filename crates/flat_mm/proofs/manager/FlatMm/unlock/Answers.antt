use Rattle.std.proofs.Common.{◌≡◌, ◌∙◌, false, Ok, Err, ap, refl, subst, sym}
use Rattle.std.specs.Prelude.{is_some}
use Rattle.std.proofs.lemmas.Bool.{not-false, not-true}
use Rattle.vm_ids.specs.declared.command.Command.TheVariants as commands
use Rattle.vm_ids.specs.declared.refusal.Refusal.TheVariants as refusals
use Rattle.vm_ids.specs.declared.reply.Reply.TheVariants as replies
use Rattle.vm_ids.specs.declared.reply.Trouble.TheVariants as troubles
use Rattle.vm_model.specs.Answering.{reply}
use Rattle.vm_model.specs.Regions.{with_lock}
use Rattle.contexts.specs.Actors.{Actors, machine_with}
use Rattle.contexts.proofs.Placing.{right_with_locked}
use Rattle.contexts.proofs.RegionRows.{IsToldOf, told_of, unlock_none, unlock_not, unlock_row, untold_of, with_locked}
use Rattle.flat_mm.specs.Manager.{IsManagerSound, caches_in, sizes_in}
use Rattle.flat_mm.proofs.Acting.{acted, acted_sound, length_replaced, stayed}
use Rattle.flat_mm.proofs.manager.FlatMm.unlock.Goals.{After-set_locked, In-Some}
use Rattle.flat_mm.proofs.manager.FlatMm.unlock.Goals as goal

pub returns-in_default : goal.returns-in_default
returns-in_default c =
    let i = c.self.inside in
    stayed i.store i.contexts i.actors c.self.invariant c.args.self.now c.self.view_is (commands.Unlock c.args.region) (record { reaches = refl; needs = λ m next. refl; said = λ m h a. tt }) (Err (troubles.Refused refusals.NoRegion))
    (λ h. unlock_none (caches_in i.store) i.store.frames i.contexts c.args.region.0 (untold_of c.args.region.0 i.contexts (sym c.status.ensures ∙ c.in_default.is)))

-- the region of which this is told
region : (c : In-Some) → IsToldOf c.args.region.0 c.self.inside.contexts c.in-Some.status
region c = told_of c.args.region.0 c.self.inside.contexts c.in-Some.status (sym c.status.ensures ∙ c.in-Some.is)

pub returns-then-not-status : goal.returns-then-not-status
returns-then-not-status c =
    let i = c.self.inside in
    let r = region (goal.at.returns-then-not-status c).In-Some in
    stayed i.store i.contexts i.actors c.self.invariant c.args.self.now c.self.view_is (commands.Unlock c.args.region) (record { reaches = refl; needs = λ m next. refl; said = λ m h a. tt }) (Err (troubles.Refused refusals.NotLocked))
    (λ h. unlock_not (caches_in i.store) i.store.frames i.contexts c.args.region.0 r.region r.found (sym r.locked ∙ not-true c.in-Some.status.locked c.if-not-status.true))

unlocked : (c : After-set_locked) → c.set_locked.new.self ≡ with_locked c.args.region.0 false c.self.inside.contexts
unlocked c = c.set_locked.ensures.changed (c.set_locked.ensures.found ∙ ap is_some (region (goal.at.After-set_locked c).In-Some).found)

pub invariant_of-self : goal.invariant_of-self
invariant_of-self c =
    let i = c.self.inside in
    let k = c.self.invariant in
    let r = region (goal.at.invariant_of-self c).In-Some in
    subst (λ (u : Actors). IsManagerSound i.store u i.actors) (sym (unlocked c))
    (acted_sound i.store i.contexts (with_locked c.args.region.0 false i.contexts) i.actors i.actors k refl (k.counted ∙ sym (length_replaced c.args.region.0 (with_lock false) i.contexts.actors))
    (right_with_locked (sizes_in i.store) c.args.region.0 false r.region i.contexts r.found k.placed))

pub returns : goal.returns
returns c =
    let i = c.self.inside in
    let r = region (goal.at.returns c).In-Some in
    acted i.store i.contexts i.actors c.self.invariant c.args.self.now c.self.view_is (commands.Unlock c.args.region) (record { reaches = refl; needs = λ m next. refl; said = λ m h a. tt }) (Ok replies.Done) c.set_locked.new.self (ap (λ (t : Actors). t.page_bytes) (unlocked c))
    (λ h. unlock_row (caches_in i.store) i.store.frames i.contexts c.args.region.0 r.region r.found (sym r.locked ∙ not-false c.in-Some.status.locked c.if-not-status.false)
    ∙ ap (λ (t : Actors). reply replies.Done (machine_with (caches_in i.store) i.store.frames t)) (sym (unlocked c)))
