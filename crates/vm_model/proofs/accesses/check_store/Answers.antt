use Rattle.std.proofs.Common.{◌<◌, arith}
use Rattle.std.proofs.lemmas.Bool.Decides.{nat_tests}
use Rattle.vm_ids.specs.declared.command.Command.TheVariants as commands
use Rattle.vm_model.specs.Answering.{reply, write_at}
use Rattle.vm_ids.specs.declared.reply.Reply.TheVariants.{Done}
use Rattle.vm_model.specs.Seen.{machine_seen, place_seen}
use Rattle.vm_model.proofs.Machines.Awaiting.{awaits, store_unless}
use Rattle.vm_model.proofs.Machines.Taking.{pages_live}
use Rattle.vm_model.proofs.accesses.check_store.Goals as goal

pub prove-unreachable-requires : goal.prove-unreachable-requires
prove-unreachable-requires c =
    let t = c.args.tables.now in
    let f = c.in_ok-found.found in
    let p = c.in_ok-found.ensures.placed in
    let below : f.page < t.live = omega (arith, pages_live t f.region.cache.0 p.cache p.there c.requires, p.within, c.in_ok-found.ensures.within) in
    grind (arith, nat_tests)

pub returns-in-Some-clause-awaits : goal.returns-in-Some-clause-awaits
returns-in-Some-clause-awaits c =
    let m = machine_seen c.args.tables.now in
    let at = place_seen c.in_ok-found.found in
    awaits m (commands.Store c.args.actor c.args.address c.args.piece.now) (reply Done (write_at m at c.args.piece.now)) (λ h. store_unless m c.args.actor.0 c.args.address c.args.piece.now h at c.in_ok-found.ensures.place c.in_ok-found.ensures.writes) tt

pub returns-in-None-clause-awaits : goal.returns-in-None-clause-awaits
returns-in-None-clause-awaits c =
    let m = machine_seen c.args.tables.now in
    let at = place_seen c.in_ok-found.found in
    awaits m (commands.Store c.args.actor c.args.address c.args.piece.now) (reply Done (write_at m at c.args.piece.now)) (λ h. store_unless m c.args.actor.0 c.args.address c.args.piece.now h at c.in_ok-found.ensures.place c.in_ok-found.ensures.writes) tt
