use Rattle.std.proofs.Common.{◌≡◌, ℕ, length, ap, ◌∙◌, arith}
use Rattle.mix_process.specs.ProcessMachine.{ProcessMachine}
use Rattle.mix_process.specs.contracts.plain.PlainProcesses.{the_view}
use Rattle.mix_process.specs.declared.plain.PlainProcesses.TheInside.{Inside}
use Rattle.mix_process.proofs.Definition.PlainRows.{taken_back}
use Rattle.mix_process.proofs.plain.PlainProcesses.exec.Goals as goal

-- as many images as are seen
sees : (i : Inside) (m : ProcessMachine) → the_view i ≡ m → (n : ℕ) → n ≡ length i.images.items → n ≡ length m.images
sees i m is n e = e ∙ ap (λ (x : ProcessMachine). length x.images) is

pub returns-in-Err : goal.returns-in-Err
returns-in-Err c =
    taken_back c.args.self.now _ c.args.seg.0 _ c.len-before.result c.truncate.new.self.items (c.self-2.view_is ∙ c.in-Err.ensures ∙ c.in_ok-open.ensures.ok) (sees c.self.inside c.args.self.now c.self.view_is c.len-before.result (omega (arith, c.len-before.ensures))) c.truncate.ensures.items
