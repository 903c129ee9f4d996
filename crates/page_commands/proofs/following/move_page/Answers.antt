use Rattle.std.proofs.Common.{◌≡◌, ◌≢◌, Bool, refl, ap, subst}
use Rattle.vm_ids.specs.declared.numbers.NodeId.{NodeId}
use Rattle.local_cache.specs.declared.own_state.OwnState.{OwnState}
use Rattle.local_cache.specs.declared.own_state.OwnState.TheVariants.{Absent, Zero, Resident, Slot, OnSegment}
use Rattle.residency.specs.World.{World, world}
use Rattle.residency.specs.declared.store.Store.{Store}
use Rattle.page_commands.specs.Following.{CanMove, with_page_moved}
use Rattle.page_commands.proofs.FreedFrames.Freed.{rekeyed_freed, same_freed}
use Rattle.page_commands.proofs.following.move_page.Goals as goal

pub returns-in-Resident-clause-tables : goal.returns-in-Resident-clause-tables
returns-in-Resident-clause-tables c =
    let can = subst (CanMove c.args.store.now c.args.from c.args.to) c.in-Resident.is c.requires in
    rekeyed_freed c.args.store.now c.rekey.new.self c.args.from c.args.to can.0 (ap (λ (s : Store). s.map) c.rekey.ensures) (ap (λ (s : Store). s.tables) c.rekey.ensures)

-- a page in no frame
nothing_rekeyed : (w : World) (from to : NodeId) (x : OwnState) → ((dirty : Bool) → x ≢ Resident dirty) → w ≡ with_page_moved w from to x
nothing_rekeyed w from to Absent frame = refl
nothing_rekeyed w from to Zero frame = refl
nothing_rekeyed w from to (Resident dirty) frame = absurd (frame dirty refl)
nothing_rekeyed w from to (Slot s) frame = refl
nothing_rekeyed w from to OnSegment frame = refl

pub returns-in_default : goal.returns-in_default
returns-in_default c = record {
  store = λ told size before. nothing_rekeyed (world told size before c.args.store.now) c.args.from c.args.to c.args.state c.in_default.not-Resident;
  tables = same_freed c.args.store.now c.args.store.now refl refl;
}
