use Rattle.std.proofs.Common.{refl, sym, ap}
use Rattle.vm_ids.specs.declared.reply.Reply.TheVariants as replies
use Rattle.vm_ids.specs.declared.reply.RegionStatus.{RegionStatus}
use Rattle.vm_model.specs.Answering.{reply, status_of, with_some}
use Rattle.vm_model.specs.Seen.{machine_seen}
use Rattle.vm_model.proofs.Locating.{nothing_told, status_is}
use Rattle.vm_model.proofs.telling.status.Goals as goal

pub returns-in-Some : goal.returns-in-Some
unfolding status_of with_some
returns-in-Some c = λ h.
    let t = c.args.tables.now in
    let told = status_is c.args.region.0 t.actors.items c.in-Some.located c.in-Some.ensures in
    rw told (ap (λ (s : RegionStatus). reply (replies.Status s) (machine_seen t)) (sym c.status_at.ensures))

pub returns-in-None : goal.returns-in-None
unfolding status_of with_some
returns-in-None c = λ h.
    let told = nothing_told c.args.region.0 (machine_seen c.args.tables.now).actors c.in-None.ensures in
    rw told refl
