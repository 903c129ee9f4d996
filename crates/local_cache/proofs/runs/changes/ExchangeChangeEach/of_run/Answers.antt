use Rattle.std.proofs.Common.{◌∙◌}
use Rattle.local_cache.specs.declared.runs.run.Run.{Run}
use Rattle.local_cache.proofs.RunAfter.{exchange_said, same_after, same_names}
use Rattle.local_cache.proofs.runs.changes.ExchangeChangeEach.of_run.Goals as goal

pub returns : goal.returns
returns c =
    let r = c.args.run in
    let changed : Run = record r { older = c.in_place.result; newer = c.in_place-2.result } in
    record {
      said = λ k h. same_after c.ordered.result changed c.ordered.ensures.same k
          ∙ exchange_said r c.args.self.gone c.args.self.instead c.in_place.result c.in_place-2.result c.in_place.ensures c.in_place-2.ensures k h.0 h.1;
      names = λ k x h. same_names c.ordered.result changed c.ordered.ensures.same k h;
    }
