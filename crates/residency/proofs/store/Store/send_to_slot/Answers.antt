use Rattle.std.proofs.Common.{rules}
use Rattle.vm_ids.proofs.Places.{back}
use Rattle.residency.specs.Between.{world_at}
use Rattle.residency.specs.World.{World}
use Rattle.residency.proofs.Worlds.Homes.{home_of_held, room}
use Rattle.residency.proofs.store.Store.send_to_slot.Goals as goal

pub take-slot-requires : goal.take-slot-requires
take-slot-requires g c =
    let w : World = world_at g.M.Mapper c.args.mapper.now c.args.caches.now c.args.self.now in
    room w c.args.frame.0 c.args.node c.requires.right (home_of_held w c.args.frame.0 c.args.node c.requires.right c.requires.held c.requires.bound)

pub leave-requires-clause-node : goal.leave-requires-clause-node
leave-requires-clause-node g c =
    let w : World = world_at g.M.Mapper c.args.mapper.now c.args.caches.now c.args.self.now in
    (home_of_held w c.args.frame.0 c.args.node c.requires.right c.requires.held c.requires.bound).there

pub leave-requires-clause-place : goal.leave-requires-clause-place
leave-requires-clause-place g c =
    let w : World = world_at g.M.Mapper c.args.mapper.now c.args.caches.now c.args.self.now in
    (home_of_held w c.args.frame.0 c.args.node c.requires.right c.requires.held c.requires.bound).place

pub returns-in-Err-clause-failed : goal.returns-in-Err-clause-failed
returns-in-Err-clause-failed g c =
    let b = back c.args.self.now.slots c.take-slot.result.0 c.take-slot.ensures.fresh in search rules
