use Rattle.std.proofs.Common.{◌+◌, ◌≤◌, arith, ap, length}
use Rattle.std.proofs.lemmas.Bool.Decides.{nat_tests}
use Rattle.vm_model.proofs.Machines.Locks.{locked_within, one_cache_more}
use Rattle.flat_mm.specs.Manager.{Manager, machine_in}
use Rattle.flat_mm.specs.Store.{live_in}
use Rattle.flat_mm.proofs.Making.{made_many, plain_live}
use Rattle.flat_mm.proofs.manager.FlatMm.locked_pages.Goals as goal

pub overflow_cast-made-end : goal.overflow_cast-made-end
overflow_cast-made-end c = omega (arith, c.made-made-end.ensures, c.self.invariant.made)

pub prove-unreachable-requires : goal.prove-unreachable-requires
prove-unreachable-requires c =
    let m = machine_in c.args.self.now in
    let k = c.loop-made.made in
    let many = made_many c.args.self.now.store.caches in
    let same = ap (λ (p : Manager). length p.store.caches) c.self.view_is in
    let live = ap (λ (p : Manager). live_in p.store.caches) c.self.view_is in
    let below : c.loop-made.locked + c.locked_in-more.result ≤ c.live-live.result =
    omega (arith, locked_within m (k + 1) (omega (arith, many, same, c.made-made-end.ensures, c.loop-made-test.true)), one_cache_more m k, c.loop-made.invariant, c.locked_in-more.ensures, c.live-live.ensures.live, live, plain_live c.args.self.now.store.caches) in
    grind (arith, nat_tests)

pub loop-made-preserved : goal.loop-made-preserved
loop-made-preserved c = let more = one_cache_more (machine_in c.args.self.now) c.loop-made.made in cc
