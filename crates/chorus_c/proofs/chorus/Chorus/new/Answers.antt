use Rattle.std.proofs.Common.{Some, ap}
use Rattle.vm_port.specs.Mapping.{MapperInMemory, held_of}
use Rattle.chorus_c.proofs.Beginning.{kept}
use Rattle.chorus_c.proofs.chorus.Chorus.new.Goals as goal

pub invariant_of-result : goal.invariant_of-result
invariant_of-result c =
    let m : MapperInMemory = c.in_ok-mapper.mapper in
    kept c.in_ok-manager.manager m c.args.frames c.args.page (c.in_ok-manager.ensures.valid (Some (held_of m))) (c.in_ok-manager.ensures.machine (Some (held_of m)))
    (ap (λ (x : MapperInMemory). x.page_bytes) c.in_ok-mapper.ensures) c.in_ok-manager.ensures.made
