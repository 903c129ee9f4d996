use Rattle.std.proofs.Common.{Bool, ap, sym, ◌∙◌}
use Rattle.vm_ids.specs.declared.reply.Reply.TheVariants.{Done}
use Rattle.vm_ids.specs.declared.refusal.Refusal.TheVariants.{WriteDenied}
use Rattle.vm_model.specs.Answering.{reply, unless, write_at}
use Rattle.vm_model.specs.Seen.{machine_seen, place_seen}
use Rattle.vm_model.proofs.Machines.Awaiting.{store_unless, unless_false}
use Rattle.vm_model.proofs.accesses.store.Goals as goal

pub returns-clause-outcome : goal.returns-clause-outcome
returns-clause-outcome c = λ h allowed.
    let m = machine_seen c.args.tables.now in
    let bytes = c.args.piece.now in
    let at = place_seen c.in_ok-found.found in
    let done = reply Done (write_at m at bytes) in
    store_unless m c.args.actor.0 c.args.address bytes h at c.in_ok-found.ensures.place c.in_ok-found.ensures.writes
    ∙ ap (λ (b : Bool). unless b WriteDenied m done) allowed
    ∙ unless_false WriteDenied m done
    ∙ ap (λ bs. reply Done (write_at m at bs)) (sym c.as_slice.ensures.bytes)
    ∙ ap (reply Done) (sym c.write_place.ensures.machine)
