use Rattle.std.proofs.Common.{◌≡◌, ◌∙◌, true, Ok, Err, ap, refl, subst, sym}
use Rattle.std.specs.Prelude.{is_some}
use Rattle.vm_ids.specs.declared.command.Command.TheVariants as commands
use Rattle.vm_ids.specs.declared.refusal.Refusal.TheVariants as refusals
use Rattle.vm_ids.specs.declared.reply.Reply.TheVariants as replies
use Rattle.vm_ids.specs.declared.reply.Trouble.TheVariants as troubles
use Rattle.vm_model.specs.Answering.{reply}
use Rattle.vm_model.specs.Regions.{region_with, with_prot}
use Rattle.contexts.specs.Actors.{Actors, machine_with}
use Rattle.contexts.proofs.Placing.{right_with_allowed}
use Rattle.contexts.proofs.RegionRows.{protect_none, protect_row, with_allowed}
use Rattle.gmi_calls.specs.Calling.{CallDone}
use Rattle.flat_mm.specs.Manager.{IsManagerSound, caches_in, flat, sizes_in}
use Rattle.flat_mm.proofs.Acting.{acted, acted_sound, length_replaced}
use Rattle.flat_mm.proofs.manager.FlatMm.protect.Goals.{Else-not-protect, Then-not-protect}
use Rattle.flat_mm.proofs.manager.FlatMm.protect.Goals as goal

-- there is no such region
same : (c : Then-not-protect) → c.protect.new.self ≡ c.self.inside.contexts
same c = c.protect.ensures.none c.if-not-protect.true

pub invariant_of-self : goal.invariant_of-self
invariant_of-self c = subst (λ (u : Actors). IsManagerSound c.self.inside.store u c.self.inside.actors) (sym (same c)) c.self.invariant

pub returns-then-not-protect : goal.returns-then-not-protect
returns-then-not-protect c =
    let i = c.self.inside in
    let command = commands.Protect c.args.region c.args.prot in
    let none = sym c.protect.ensures.found ∙ c.if-not-protect.true in
    subst (λ (u : Actors). CallDone flat c.args.self.now command (Err (troubles.Refused refusals.NoRegion)) (record { store = i.store; actors = u })) (sym (same c))
    (acted i.store i.contexts i.actors c.self.invariant c.args.self.now c.self.view_is command (record { reaches = refl; needs = λ m next. refl; said = λ m h a. tt }) (Err (troubles.Refused refusals.NoRegion)) i.contexts refl
    (λ h. protect_none (caches_in i.store) i.store.frames i.contexts c.args.region.0 c.args.prot none))

-- there is
found : (c : Else-not-protect) → is_some (region_with c.args.region.0 c.self.inside.contexts.actors) ≡ true
found c = sym c.protect.ensures.found ∙ c.if-not-protect.false

changed : (c : Else-not-protect) → c.protect.new.self ≡ with_allowed c.args.region.0 c.args.prot c.self.inside.contexts
changed c = c.protect.ensures.changed c.if-not-protect.false

pub invariant_of-self-2 : goal.invariant_of-self-2
invariant_of-self-2 c =
    let i = c.self.inside in
    let k = c.self.invariant in
    subst (λ (u : Actors). IsManagerSound i.store u i.actors) (sym (changed c))
    (acted_sound i.store i.contexts (with_allowed c.args.region.0 c.args.prot i.contexts) i.actors i.actors k refl (k.counted ∙ sym (length_replaced c.args.region.0 (with_prot c.args.prot) i.contexts.actors))
    (right_with_allowed (sizes_in i.store) c.args.region.0 c.args.prot i.contexts (found c) k.placed))

pub returns : goal.returns
returns c =
    let i = c.self.inside in
    acted i.store i.contexts i.actors c.self.invariant c.args.self.now c.self.view_is (commands.Protect c.args.region c.args.prot) (record { reaches = refl; needs = λ m next. refl; said = λ m h a. tt }) (Ok replies.Done) c.protect.new.self (ap (λ (t : Actors). t.page_bytes) (changed c))
    (λ h. protect_row (caches_in i.store) i.store.frames i.contexts c.args.region.0 c.args.prot (found c) ∙ ap (λ (t : Actors). reply replies.Done (machine_with (caches_in i.store) i.store.frames t)) (sym (changed c)))
