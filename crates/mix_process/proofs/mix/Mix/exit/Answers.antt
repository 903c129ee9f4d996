use Rattle.std.proofs.Common.{◌-◌, List, Option, None, refl, sym, ap, ◌∙◌, arith}
use Rattle.interface_callers.proofs.Words.{numbered}
use Rattle.mix_process.specs.declared.process.Process.{Process}
use Rattle.mix_process.proofs.Commands.Exit.{end_able, exit_nobody, exited, written_back}
use Rattle.mix_process.proofs.mix.Mix.exit.Goals as goal

pub returns-in-None : goal.returns-in-None
returns-in-None g c = exit_nobody g.M.Mapper g.G.Gmi c.args.self.now c.args.mapper.now c.requires.can c.args.of
    (ap (λ (xs : List (Option Process)). numbered xs c.args.of.0) (sym c.deref.ensures.value) ∙ sym c.in-None.ensures)

pub end-requires-clause-able : goal.end-requires-clause-able
end-requires-clause-able g c = end_able g.M.Mapper g.G.Gmi c.args.self.now c.args.mapper.now c.requires.can c.args.of c.in-Some-take.process
    (ap (λ (xs : List (Option Process)). numbered xs c.args.of.0) (sym c.deref_mut.ensures.value) ∙ c.in-Some-take.ensures.taken) _
    (written_back c.args.self.now.processes.items c.deref_mut.result.now c.take.new.processes c.args.self.now.processes.len (c.args.of.0 - 1) None c.deref_mut.ensures.value c.in-Some-take.ensures.gone (omega (arith, c.args.self.now.processes.ok.0)))

pub returns : goal.returns
returns g c = exited g.M.Mapper g.G.Gmi c.args.self.now c.args.mapper.now c.requires.can c.args.of c.in-Some-take.process
    (ap (λ (xs : List (Option Process)). numbered xs c.args.of.0) (sym c.deref_mut.ensures.value) ∙ c.in-Some-take.ensures.taken) _ refl refl
    (written_back c.args.self.now.processes.items c.deref_mut.result.now c.take.new.processes c.args.self.now.processes.len (c.args.of.0 - 1) None c.deref_mut.ensures.value c.in-Some-take.ensures.gone (omega (arith, c.args.self.now.processes.ok.0))) _ _ c.end.ensures
