use Rattle.residency.specs.Between.{world_at}
use Rattle.residency.specs.World.{World}
use Rattle.residency.proofs.Worlds.Homes.{home_of_held}
use Rattle.residency.proofs.store.Store.send_home.Goals as goal

pub own_state-requires : goal.own_state-requires
own_state-requires g c =
    let w : World = world_at g.M.Mapper c.args.mapper.now c.args.caches.now c.args.self.now in
    (home_of_held w c.args.frame.0 c.args.node c.requires.right c.requires.held c.requires.bound).there

pub push_out-requires-clause-there : goal.push_out-requires-clause-there
push_out-requires-clause-there g c = c.requires.right.tied.backed.lies c.args.node c.args.home c.requires.home

pub leave-requires-clause-node : goal.leave-requires-clause-node
leave-requires-clause-node g c =
    let w : World = world_at g.M.Mapper c.args.mapper.now c.args.caches.now c.args.self.now in
    (home_of_held w c.args.frame.0 c.args.node c.requires.right c.requires.held c.requires.bound).there

pub leave-requires-clause-place : goal.leave-requires-clause-place
leave-requires-clause-place g c =
    let w : World = world_at g.M.Mapper c.args.mapper.now c.args.caches.now c.args.self.now in
    (home_of_held w c.args.frame.0 c.args.node c.requires.right c.requires.held c.requires.bound).place
