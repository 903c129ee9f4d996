use Rattle.std.proofs.Common.{List, Option, sym, ap, ◌∙◌, arith}
use Rattle.vm_model.proofs.Parts.Lists.{numbered_place}
use Rattle.interface_callers.proofs.Words.{numbered}
use Rattle.mix_process.specs.declared.process.Process.{Process}
use Rattle.mix_process.proofs.mix.Mix.place_of.Goals as goal

pub returns-in-Some-clause-found : goal.returns-in-Some-clause-found
returns-in-Some-clause-found g c =
    let there = numbered_place c.args.self.now.processes.items c.args.of.0 c.in-Some.field-0.now (ap (λ (xs : List (Option Process)). numbered xs c.args.of.0) (sym c.deref.ensures.value) ∙ sym c.in-Some.ensures) in
    (omega (arith, there.0), (c.in-Some.field-0.now, there.1))
