use Rattle.std.proofs.Common.{◌≡◌, ◌∙◌, true, false, Ok, Err, ap, refl, subst, sym}
use Rattle.std.specs.Prelude.{is_some}
use Rattle.vm_ids.specs.declared.command.Command.TheVariants as commands
use Rattle.vm_ids.specs.declared.numbers.RegionId.{RegionId}
use Rattle.vm_ids.specs.declared.refusal.Refusal.TheVariants as refusals
use Rattle.vm_ids.specs.declared.reply.Reply.TheVariants as replies
use Rattle.vm_ids.specs.declared.reply.Trouble.TheVariants as troubles
use Rattle.vm_model.specs.Answering.{passes_lock_limit, refuse, reply}
use Rattle.vm_model.specs.Regions.{region_with, with_lock}
use Rattle.contexts.specs.Actors.{Actors, machine_with}
use Rattle.contexts.proofs.Placing.{right_with_locked}
use Rattle.contexts.proofs.RegionRows.{IsToldOf, lock_limit, lock_locked, lock_none, lock_row, told_of, untold_of, with_locked}
use Rattle.flat_mm.specs.Manager.{IsManagerSound, caches_in, sizes_in}
use Rattle.flat_mm.proofs.Acting.{IsOfActors, acted_sound, length_replaced}
use Rattle.flat_mm.proofs.Handed.{handed, handed_back, lock_undone, locked_found}
use Rattle.flat_mm.proofs.manager.FlatMm.lock.Goals.{After-set_locked, After-set_locked-then-passes_lock_limit, In-Some}
use Rattle.flat_mm.proofs.manager.FlatMm.lock.Given.{Over}
use Rattle.flat_mm.proofs.manager.FlatMm.lock.Goals as goal

of_lock : (region : RegionId) → IsOfActors (commands.Lock region)
of_lock region = record { reaches = tt; needs = λ m next. refl; said = λ m h a. tt }

pub returns-in_default : goal.returns-in_default
returns-in_default g c =
    let i = c.self.inside in
    handed_back g.M.Mapper c.args.mapper.now i.store i.contexts i.actors c.self.invariant c.args.self.now c.self.view_is (commands.Lock c.args.region) (of_lock c.args.region) c.requires (Err (troubles.Refused refusals.NoRegion))
    (λ h. lock_none (caches_in i.store) i.store.frames i.contexts c.args.region.0 (untold_of c.args.region.0 i.contexts (sym c.status.ensures ∙ c.in_default.is)))

module _ (g : Over) where
  -- the region of which this is told
  region : (c : In-Some g) → IsToldOf c.args.region.0 c.self.inside.contexts c.in-Some.status
  region c = told_of c.args.region.0 c.self.inside.contexts c.in-Some.status (sym c.status.ensures ∙ c.in-Some.is)

  is_locked : (c : After-set_locked g) → c.set_locked.new.self ≡ with_locked c.args.region.0 true c.self.inside.contexts
  is_locked c = c.set_locked.ensures.changed (c.set_locked.ensures.found ∙ ap is_some (region (goal.at.After-set_locked g c).In-Some).found)

  sound_locked : (c : After-set_locked g) → IsManagerSound c.self.inside.store c.set_locked.new.self c.self.inside.actors
  sound_locked c =
      let i = c.self.inside in
      let k = c.self.invariant in
      let r = region (goal.at.After-set_locked g c).In-Some in
      subst (λ (u : Actors). IsManagerSound i.store u i.actors) (sym (is_locked c))
      (acted_sound i.store i.contexts (with_locked c.args.region.0 true i.contexts) i.actors i.actors k refl (k.counted ∙ sym (length_replaced c.args.region.0 (with_lock true) i.contexts.actors))
      (right_with_locked (sizes_in i.store) c.args.region.0 true r.region i.contexts r.found k.placed))

  -- the lock is taken back
  restored : (c : After-set_locked-then-passes_lock_limit g) → c.set_locked-then-passes_lock_limit.new.self ≡ c.self.inside.contexts
  restored c =
      let i = c.self.inside in
      let n = c.args.region.0 in
      let locked = is_locked (goal.at.After-set_locked-then-passes_lock_limit g c).After-set_locked in
      let r = region (goal.at.After-set_locked-then-passes_lock_limit g c).In-Some in
      let free : r.region.locked ≡ false = sym r.locked ∙ c.if-status.false in
      let there : c.set_locked-then-passes_lock_limit.result ≡ true = c.set_locked-then-passes_lock_limit.ensures.found ∙ ap (λ (t : Actors). is_some (region_with n t.actors)) locked ∙ locked_found n i.contexts.actors r.region r.found in
      c.set_locked-then-passes_lock_limit.ensures.changed there ∙ ap (with_locked n false) locked ∙ lock_undone n i.contexts r.region r.found free

pub returns-then-status : goal.returns-then-status
returns-then-status g c =
    let i = c.self.inside in
    let r = region g (goal.at.returns-then-status g c).In-Some in
    handed_back g.M.Mapper c.args.mapper.now i.store i.contexts i.actors c.self.invariant c.args.self.now c.self.view_is (commands.Lock c.args.region) (of_lock c.args.region) c.requires (Err (troubles.Refused refusals.Locked))
    (λ h. lock_locked (caches_in i.store) i.store.frames i.contexts c.args.region.0 r.region r.found (sym r.locked ∙ c.if-status.true))

pub invariant_of-self : goal.invariant_of-self
invariant_of-self g c = sound_locked g (goal.at.invariant_of-self g c).After-set_locked

pub invariant_of-self-then-passes_lock_limit : goal.invariant_of-self-then-passes_lock_limit
invariant_of-self-then-passes_lock_limit g c =
    let i = c.self.inside in
    subst (λ (u : Actors). IsManagerSound i.store u i.actors) (sym (restored g c)) c.self.invariant

pub invariant_of-self-else-passes_lock_limit : goal.invariant_of-self-else-passes_lock_limit
invariant_of-self-else-passes_lock_limit g c = sound_locked g (goal.at.invariant_of-self-else-passes_lock_limit g c).After-set_locked

pub returns-then-passes_lock_limit : goal.returns-then-passes_lock_limit
returns-then-passes_lock_limit g c =
    let i = c.self.inside in
    let r = region g (goal.at.returns-then-passes_lock_limit g c).In-Some in
    let locked = is_locked g (goal.at.returns-then-passes_lock_limit g c).After-set_locked in
    handed g.M.Mapper c.args.mapper.now i.store i.contexts i.actors c.self.invariant c.args.self.now c.self.view_is (commands.Lock c.args.region) (of_lock c.args.region) c.requires (Err (troubles.Refused refusals.LockLimit)) c.set_locked-then-passes_lock_limit.new.self (ap (λ (t : Actors). t.page_bytes) (restored g c))
    (λ h. lock_limit (caches_in i.store) i.store.frames i.contexts c.args.region.0 r.region r.found (sym r.locked ∙ c.if-status.false)
    (ap (λ (t : Actors). passes_lock_limit (machine_with (caches_in i.store) i.store.frames t)) (sym locked) ∙ sym c.if-passes_lock_limit.ensures)
    ∙ ap (λ (t : Actors). refuse (machine_with (caches_in i.store) i.store.frames t) refusals.LockLimit) (sym (restored g c)))

pub returns : goal.returns
returns g c =
    let i = c.self.inside in
    let r = region g (goal.at.returns g c).In-Some in
    let locked = is_locked g (goal.at.returns g c).After-set_locked in
    handed g.M.Mapper c.args.mapper.now i.store i.contexts i.actors c.self.invariant c.args.self.now c.self.view_is (commands.Lock c.args.region) (of_lock c.args.region) c.requires (Ok replies.Done) c.set_locked.new.self (ap (λ (t : Actors). t.page_bytes) locked)
    (λ h. lock_row (caches_in i.store) i.store.frames i.contexts c.args.region.0 r.region r.found (sym r.locked ∙ c.if-status.false)
    (ap (λ (t : Actors). passes_lock_limit (machine_with (caches_in i.store) i.store.frames t)) (sym locked) ∙ sym c.if-passes_lock_limit.ensures)
    ∙ ap (λ (t : Actors). reply replies.Done (machine_with (caches_in i.store) i.store.frames t)) (sym locked))
