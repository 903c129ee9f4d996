use Rattle.std.proofs.Common.{◌+◌, ◌≤◌, arith}
use Rattle.std.specs.Prelude.{option_map}
use Rattle.std.proofs.lemmas.Bool.Decides.{nat_tests}
use Rattle.std.proofs.lemmas.List.{length-map}
use Rattle.vm_model.specs.Seen.{cache_seen, machine_seen}
use Rattle.vm_model.proofs.Machines.Locks.{locked_within, one_cache_more}
use Rattle.vm_model.proofs.locks.locked_pages.Goals as goal

pub overflow_cast-made-end : goal.overflow_cast-made-end
overflow_cast-made-end c = omega (arith, c.len-made-end.ensures, c.requires.few_caches)

pub prove-unreachable-requires : goal.prove-unreachable-requires
prove-unreachable-requires c =
    let t = c.args.tables.now in
    let m = machine_seen t in
    let k = c.loop-made.made in
    let many = length-map t.caches.items (option_map cache_seen) in
    let below : c.loop-made.locked + c.locked_in-more.result ≤ t.live = omega (arith, locked_within m (k + 1) (omega (arith, many)), one_cache_more m k, c.loop-made.invariant, c.locked_in-more.ensures, c.requires.live) in
    grind (arith, nat_tests)

pub loop-made-preserved : goal.loop-made-preserved
loop-made-preserved c = let more = one_cache_more (machine_seen c.args.tables.now) c.loop-made.made in cc
