use Rattle.std.proofs.Common.{◌++◌, ◌∷◌, [], Option, Err, sym, ap, subst, ◌∙◌}
use Rattle.mix_process.specs.Starting.{IsMadeOrTakenBack}
use Rattle.mix_process.specs.declared.process.Process.{Process}
use Rattle.mix_process.proofs.Starts.TakenBack.{last_able, taken_back}
use Rattle.mix_process.proofs.mix.Mix.made_or_taken_back.Goals as goal

pub end-requires-clause-able : goal.end-requires-clause-able
end-requires-clause-able g c = last_able g.M.Mapper g.G.Gmi c.args.self.now c.args.mapper.now c.requires.can c.in-Some-Some.process c.pop.new.self (c.in-Some-Some.ensures.items ∙ ap (λ (x : Option Process). c.pop.new.self.items ++ x ∷ []) c.in-Some-Some.field-0-is)

pub returns-in-Some-Some : goal.returns-in-Some-Some
returns-in-Some-Some g c = subst (λ made. IsMadeOrTakenBack g.M.Mapper g.G.Gmi c.args.mapper.now c.args.self.now made (Err c.in-Err.trouble) c.end.new.mapper c.end.new.self) (sym c.in-Err.is)
    (taken_back g.M.Mapper g.G.Gmi c.args.self.now c.args.mapper.now c.requires.can c.in-Some-Some.process c.pop.new.self (c.in-Some-Some.ensures.items ∙ ap (λ (x : Option Process). c.pop.new.self.items ++ x ∷ []) c.in-Some-Some.field-0-is) c.in-Err.trouble _ _ c.end.ensures)
