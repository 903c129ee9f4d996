use Rattle.std.proofs.Common.{◌≡◌, ◌+◌, ◌∙◌, ◌<◌, ◌≤◌, [], Err, Ok, ap, arith, false, length, subst, sym}
use Rattle.std.proofs.result.Match.{err_is}
use Rattle.std.proofs.lemmas.List.{length-replicate}
use Rattle.std.specs.Prelude.{Result}
use Rattle.vm_port.specs.declared.traits.failed.Failed.{Failed}
use Rattle.std.proofs.lemmas.Bool.Decides.{nat_tests}
use Rattle.vm_ids.specs.declared.command.Command.TheVariants as commands
use Rattle.vm_ids.specs.declared.reply.FaultAt.TheVariants as faults
use Rattle.vm_ids.specs.declared.reply.Reply.TheVariants as replies
use Rattle.vm_ids.specs.declared.reply.Trouble.TheVariants as troubles
use Rattle.vm_model.specs.Answering.{held_for, is_any_locked}
use Rattle.gmi_calls.specs.Calling.{MapperCall}
use Rattle.gmi_calls.proofs.Accessing.{asked_pages}
use Rattle.flat_mm.specs.Extents.{IsExtent}
use Rattle.flat_mm.specs.Manager.{IsManagerSound, IsValid, Manager, flat, machine_in, room_of}
use Rattle.flat_mm.specs.Store.{Store, put_pages, with_cache, zeros}
use Rattle.flat_mm.proofs.Destroying.{dropped_whole}
use Rattle.flat_mm.proofs.Extents.{extent_named, extent_within, refused_call}
use Rattle.flat_mm.proofs.Filling.{IsReloosed, filled, given_up}
use Rattle.flat_mm.proofs.Invalidating.{exchanged, invalidate_call, invalidate_failed, invalidate_full, invalidate_lacks, invalidate_sound, part_of}
use Rattle.flat_mm.proofs.Putting.{puts}
use Rattle.flat_mm.proofs.manager.FlatMm.invalidate.Given.{Over}
use Rattle.flat_mm.proofs.manager.FlatMm.invalidate.Goals.{In-Err, In_ok-take_loose, In-Ok, In_ok-seg}
use Rattle.flat_mm.proofs.manager.FlatMm.invalidate.Goals as goal

-- what was found of the pages, of the manager as it was
record IsFound (g : Over) (c : In_ok-seg g) : Type 0 where
  extent : IsExtent c.self.inside.store c.args.extent c.in_ok-seg.seg
  unlocked : is_any_locked (machine_in (record { store = c.self.inside.store; actors = c.self.inside.contexts })) c.args.extent.cache c.args.extent.first.0 c.args.extent.pages ≡ false
  valid : IsValid (record { store = c.self.inside.store; actors = c.self.inside.contexts }) (g.M.Mapper.held c.args.mapper.now)

found : (g : Over) (c : In_ok-seg g) → IsFound g c
found g c = record {
  extent = subst (λ (p : Manager). IsExtent p.store c.args.extent c.in_ok-seg.seg) (sym c.self.view_is) c.in_ok-seg.ensures.extent;
  unlocked = subst (λ (p : Manager). is_any_locked (machine_in p) c.args.extent.cache c.args.extent.first.0 c.args.extent.pages ≡ false) (sym c.self.view_is) c.in_ok-seg.ensures.unlocked;
  valid = subst (λ (p : Manager). IsValid p (g.M.Mapper.held c.args.mapper.now)) (sym c.self.view_is) c.requires.valid;
}

pub returns-in_err-seg : goal.returns-in_err-seg
returns-in_err-seg g c =
    let p = c.args.self.now in
    rw (err_is c.from_residual.result _ c.from_residual.ensures.1)
    (refused_call g.M.Mapper c.args.mapper.now p (commands.Invalidate c.args.extent) c.in_err-seg.field-0.0 c.requires.valid (λ h. c.in_err-seg.ensures.refused.invalidate (held_for (machine_in p) h c.args.extent.cache.0)) tt tt)

pub returns-then-lacks_room : goal.returns-then-lacks_room
returns-then-lacks_room g c =
    let less : room_of c.args.self.now < c.args.extent.pages = (let e = c.if-lacks_room.ensures.room in grind (arith, nat_tests)) in
    invalidate_full g.M.Mapper c.args.mapper.now c.args.mapper.now c.args.self.now c.args.extent c.in_ok-seg.seg c.in_ok-seg.ensures.extent c.in_ok-seg.ensures.unlocked c.requires.valid less

pub returns-in_err-take_loose : goal.returns-in_err-take_loose
returns-in_err-take_loose g c =
    let i = c.self.inside in
    let p = c.args.self.now in
    let e = c.args.extent in
    let same : (let q : Manager = record { store = c.take_loose.new.self; actors = i.contexts } in q) ≡ p = ap (λ (s : Store). let q : Manager = record { store = s; actors = i.contexts } in q) c.in_err-take_loose.ensures.err ∙ c.self.view_is in
    rw (err_is c.from_residual-in_err-take_loose.result _ c.from_residual-in_err-take_loose.ensures.1)
    (subst (λ (q : Manager). MapperCall g.M.Mapper flat c.args.mapper.now p (commands.Invalidate e) (Err troubles.Memory) c.args.mapper.now q) (sym same)
    (invalidate_lacks g.M.Mapper c.args.mapper.now c.args.mapper.now p e c.in_ok-seg.seg c.in_ok-seg.ensures.extent c.in_ok-seg.ensures.unlocked c.requires.valid))

-- as many frames were taken as pages are asked for
taken_many : (g : Over) (c : In_ok-take_loose g) → length c.take_loose.new.self.loose ≡ c.args.extent.pages
taken_many g c = ap (λ (s : Store). length s.loose) c.in_ok-take_loose.ensures.ok ∙ length-replicate c.args.extent.pages (zeros c.self.inside.store.page_bytes)

room : (g : Over) (c : In_ok-take_loose g) → c.args.extent.pages ≤ c.self.inside.store.free
room g c =
    let less : c.args.extent.pages ≤ c.args.self.now.store.free = (let e = c.if-lacks_room.ensures.free in grind (arith, nat_tests)) in
    omega (arith, less, ap (λ (p : Manager). p.store.free) c.self.view_is)

enough : (g : Over) (c : In_ok-take_loose g) → c.args.extent.pages ≤ room_of (record { store = c.self.inside.store; actors = c.self.inside.contexts })
enough g c =
    let less : c.args.extent.pages ≤ room_of c.args.self.now = (let e = c.if-lacks_room.ensures.room in grind (arith, nat_tests)) in
    omega (arith, less, ap room_of c.self.view_is)

pub pull_loose-requires-clause-there : goal.pull_loose-requires-clause-there
pull_loose-requires-clause-there g c =
    let p = c.args.self.now in
    let e = c.args.extent in
    let E = c.in_ok-seg.ensures.extent in
    let many = taken_many g (goal.at.pull_loose-requires-clause-there g c).In_ok-take_loose in
    asked_pages (machine_in p) e.cache.0 c.in_ok-seg.seg.0 e.first.0 (length c.take_loose.new.self.loose) (g.M.Mapper.held c.args.mapper.now) (extent_named p e c.in_ok-seg.seg E) (omega (arith, extent_within p e c.in_ok-seg.seg E, many)) c.requires.valid.ready

module _ (g : Over) where
  -- what stands after the pages were exchanged and given up
  taken_all : (c : In-Ok g) (exchanged_to dropped_to : Store)
      → exchanged_to ≡ record c.pull_loose.new.store { caches = with_cache c.args.extent.cache.0 (put_pages c.args.extent.first.0 c.pull_loose.new.store.loose) c.pull_loose.new.store.caches; loose = part_of c.pull_loose.new.store c.args.extent.cache.0 c.args.extent.first.0 (length c.pull_loose.new.store.loose) }
      → dropped_to ≡ record exchanged_to { free = exchanged_to.free + length exchanged_to.loose; loose = [] }
      → dropped_to ≡ puts c.self.inside.store c.args.extent.cache.0 c.args.extent.first.0 c.pull_loose.new.store.loose
  taken_all c exchanged_to dropped_to is drops =
      let i = c.self.inside in
      let e = c.args.extent in
      let F = found g (goal.at.In-Ok g c).In_ok-seg in
      let taken = (goal.at.In-Ok g c).In_ok-take_loose in
      let E = c.in-Ok.ensures in
      let R : IsReloosed c.take_loose.new.self c.pull_loose.new.store = record { many = E.many; loose = E.loose; whole = E.whole } in
      exchanged i.store c.pull_loose.new.store exchanged_to dropped_to e.cache.0 e.first.0 e.pages F.extent.cache F.extent.alive F.extent.within (room g taken) c.self.invariant.settled (E.many ∙ taken_many g taken)
      (filled i.store c.take_loose.new.self c.pull_loose.new.store e.pages (room g taken) c.self.invariant.settled c.in_ok-take_loose.ensures.ok R) is drops

pub invariant_of-self-in-Ok : goal.invariant_of-self-in-Ok
invariant_of-self-in-Ok g c =
    let i = c.self.inside in
    let at = goal.at.invariant_of-self-in-Ok g c in
    let F = found g at.In_ok-seg in
    let E = c.in-Ok.ensures in
    let is = taken_all g at.In-Ok c.exchange.new.self c.drop_loose.new.self c.exchange.ensures.exchanged c.drop_loose.ensures in
    invalidate_sound g.M.Mapper c.args.mapper.now c.pull_loose.new.mapper (record { store = i.store; actors = i.contexts }) c.args.extent c.in_ok-seg.seg F.extent F.unlocked F.valid (let r : Result (Unit {0}) Failed = Ok tt in r) E.held E.reached E.page
    i.actors c.self.invariant (enough g at.In_ok-take_loose) c.pull_loose.new.store.loose (E.many ∙ taken_many g at.In_ok-take_loose) E.pulled c.drop_loose.new.self is
    (dropped_whole c.exchange.new.self c.drop_loose.new.self c.exchange.ensures.whole c.drop_loose.ensures)

pub returns-in-Ok : goal.returns-in-Ok
returns-in-Ok g c =
    let i = c.self.inside in
    let at = goal.at.returns-in-Ok g c in
    let F = found g at.In_ok-seg in
    let E = c.in-Ok.ensures in
    let is = taken_all g at.In-Ok c.exchange.new.self c.drop_loose.new.self c.exchange.ensures.exchanged c.drop_loose.ensures in
    subst (λ (p : Manager). MapperCall g.M.Mapper flat c.args.mapper.now p (commands.Invalidate c.args.extent) (Ok replies.Done) c.pull_loose.new.mapper (record { store = c.drop_loose.new.self; actors = i.contexts })) c.self.view_is
    (invalidate_call g.M.Mapper c.args.mapper.now c.pull_loose.new.mapper (record { store = i.store; actors = i.contexts }) c.args.extent c.in_ok-seg.seg F.extent F.unlocked F.valid (let r : Result (Unit {0}) Failed = Ok tt in r) E.held E.reached E.page
    i.actors c.self.invariant (enough g at.In_ok-take_loose) c.pull_loose.new.store.loose (E.many ∙ taken_many g at.In_ok-take_loose) E.pulled c.drop_loose.new.self is
    (dropped_whole c.exchange.new.self c.drop_loose.new.self c.exchange.ensures.whole c.drop_loose.ensures))

-- where the mapper failed all is as before
failed_back : (g : Over) (c : In-Err g) (dropped_to : Store) → dropped_to ≡ record c.pull_loose.new.store { free = c.pull_loose.new.store.free + length c.pull_loose.new.store.loose; loose = [] } → dropped_to ≡ c.self.inside.store
failed_back g c dropped_to drops =
    let i = c.self.inside in
    let taken = (goal.at.In-Err g c).In_ok-take_loose in
    let E = c.in-Err.ensures in
    let R : IsReloosed c.take_loose.new.self c.pull_loose.new.store = record { many = E.many; loose = E.loose; whole = E.whole } in
    given_up i.store c.take_loose.new.self c.pull_loose.new.store c.args.extent.pages (room g taken) c.self.invariant.settled c.in_ok-take_loose.ensures.ok R dropped_to drops

pub invariant_of-self-in-Err : goal.invariant_of-self-in-Err
invariant_of-self-in-Err g c =
    let i = c.self.inside in
    let at = goal.at.invariant_of-self-in-Err g c in
    subst (λ (s : Store). IsManagerSound s i.contexts i.actors) (sym (failed_back g at.In-Err c.drop_loose-in-Err.new.self c.drop_loose-in-Err.ensures)) c.self.invariant

pub returns-in-Err : goal.returns-in-Err
returns-in-Err g c =
    let i = c.self.inside in
    let p = c.args.self.now in
    let e = c.args.extent in
    let at = goal.at.returns-in-Err g c in
    let E = c.in-Err.ensures in
    let back = failed_back g at.In-Err c.drop_loose-in-Err.new.self c.drop_loose-in-Err.ensures in
    let same : (let q : Manager = record { store = c.drop_loose-in-Err.new.self; actors = i.contexts } in q) ≡ p = ap (λ (s : Store). let q : Manager = record { store = s; actors = i.contexts } in q) back ∙ c.self.view_is in
    let r : Result (Unit {0}) Failed = Err c.in-Err.field-0 in
    subst (λ (q : Manager). MapperCall g.M.Mapper flat c.args.mapper.now p (commands.Invalidate e) (Err (troubles.Mapper (faults.Save 0))) c.pull_loose.new.mapper q) (sym same)
    (invalidate_failed g.M.Mapper c.args.mapper.now c.pull_loose.new.mapper p e c.in_ok-seg.seg c.in_ok-seg.ensures.extent c.in_ok-seg.ensures.unlocked c.requires.valid r E.held E.reached E.page E.reached.failed)
