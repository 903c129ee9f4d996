use Rattle.std.proofs.Common.{List, Option, map, ap, sym, ◌∙◌, arith}
use Rattle.std.specs.Prelude.{is_some, option_map}
use Rattle.std.proofs.lemmas.List.{length-map}
use Rattle.vm_model.specs.Allowed.{CanOpen}
use Rattle.vm_model.specs.Machine.{cache_named}
use Rattle.vm_model.specs.Seen.{cache_seen, machine_seen}
use Rattle.vm_model.specs.declared.tables.Cache.{Cache}
use Rattle.vm_model.proofs.Machines.Awaiting.{open_fails}
use Rattle.vm_model.proofs.caches.check_open.Goals as goal

pub returns-clause-fault : goal.returns-clause-fault
returns-clause-fault c =
    let t = c.args.tables.now in
    let can : CanOpen (machine_seen t) c.args.seg = record {
      free = ap (λ (cs : List (Option Cache)). is_some (cache_named (map (option_map cache_seen) cs) c.args.seg.0)) (sym c.deref.ensures.value) ∙ sym c.if-is_named.ensures;
      few = omega (arith, c.len.ensures, t.caches.ok.0, length-map t.caches.items (option_map cache_seen), c.if-len.false);
    } in
    open_fails (machine_seen t) c.args.seg can
