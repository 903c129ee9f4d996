use Rattle.std.proofs.Common.{List, Option, sym, ap, ◌∙◌}
use Rattle.interface_callers.proofs.Words.{numbered}
use Rattle.mix_process.specs.declared.process.Process.{Process}
use Rattle.mix_process.proofs.Calling.OneCall.{store_called, store_nobody}
use Rattle.mix_process.proofs.mix.Mix.store.Goals as goal

pub returns-in-None : goal.returns-in-None
returns-in-None g c = store_nobody g.M.Mapper g.G.Gmi c.args.self.now c.args.mapper.now c.requires.can c.args.of c.args.address c.args.piece.now
    (ap (λ (xs : List (Option Process)). numbered xs c.args.of.0) (sym c.deref.ensures.value) ∙ sym c.in-None.ensures)

pub returns : goal.returns
returns g c = store_called g.M.Mapper g.G.Gmi c.args.self.now c.args.mapper.now c.requires.can _ _ c.args.of c.in-Some.process.now
    (ap (λ (xs : List (Option Process)). numbered xs c.args.of.0) (sym c.deref.ensures.value) ∙ sym c.in-Some.ensures)
    c.args.address c.args.piece.now _ c.store.ensures
