use Rattle.std.proofs.Common.{◌≡◌, ◌≢◌, Bool, refl, ap, subst}
use Rattle.vm_ids.specs.declared.numbers.NodeId.{NodeId}
use Rattle.vm_ids.specs.declared.numbers.SlotId.{SlotId}
use Rattle.local_cache.specs.declared.own_state.OwnState.{OwnState}
use Rattle.local_cache.specs.declared.own_state.OwnState.TheVariants.{Absent, Zero, Resident, Slot, OnSegment}
use Rattle.residency.specs.World.{World, world}
use Rattle.residency.specs.declared.store.Store.{Store}
use Rattle.page_commands.specs.Following.{CanLeave, without_page}
use Rattle.page_commands.proofs.FreedFrames.Freed.{emptied_freed, same_freed}
use Rattle.page_commands.proofs.following.drop_page.Goals as goal

pub returns-in-Resident-clause-tables : goal.returns-in-Resident-clause-tables
returns-in-Resident-clause-tables c =
    let can = subst (CanLeave c.args.store.now c.args.node) c.in-Resident.is c.requires in
    emptied_freed c.args.store.now c.drop_frame.new.store c.args.node can.0 (ap (λ (s : Store). s.map) c.drop_frame.ensures) (ap (λ (s : Store). s.tables) c.drop_frame.ensures)

pub returns-in-Slot-clause-tables : goal.returns-in-Slot-clause-tables
returns-in-Slot-clause-tables c = same_freed c.args.store.now c.give_back_slot.new.self (ap (λ (s : Store). s.map) c.give_back_slot.ensures) (ap (λ (s : Store). s.tables) c.give_back_slot.ensures)

-- a page in no frame and in no slot
nothing_left : (w : World) (n : NodeId) (x : OwnState) → ((dirty : Bool) → x ≢ Resident dirty) → ((s : SlotId) → x ≢ Slot s) → w ≡ without_page w n x
nothing_left w n Absent frame slot = refl
nothing_left w n Zero frame slot = refl
nothing_left w n (Resident dirty) frame slot = absurd (frame dirty refl)
nothing_left w n (Slot s) frame slot = absurd (slot s refl)
nothing_left w n OnSegment frame slot = refl

pub returns-in_default : goal.returns-in_default
returns-in_default c = record {
  store = λ told size before. nothing_left (world told size before c.args.store.now) c.args.node c.args.state c.in_default.not-Resident c.in_default.not-Slot;
  tables = same_freed c.args.store.now c.args.store.now refl refl;
}
