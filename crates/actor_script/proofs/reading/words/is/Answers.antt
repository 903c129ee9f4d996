use Rattle.std.proofs.Common.{arith, sym, ◌∙◌}
use Rattle.std.proofs.lemmas.List.{take_all}
use Rattle.std.proofs.lemmas.Slice.Eq.{bytes_eq-Decides}
use Rattle.actor_script.proofs.reading.words.is.Goals as goal

pub returns : goal.returns
returns g c =
    let l = c.loop-at in
    let verb = c.args.verb.now in
    let word = c.args.word.now in
    sym ((bytes_eq-Decides verb word).1 (sym (take_all l.at verb (omega arith)) ∙ l.invariant ∙ take_all l.at word (omega arith)))
