use Rattle.std.proofs.Common.{◌-◌, ◌++◌, ℕ, None, Option, List, replicate, ap, ◌∙◌}
use Rattle.std.proofs.lemmas.List.{take_all}
use Rattle.probe_table.proofs.growth.lengthen.Goals as goal

pub returns-clause-items : goal.returns-clause-items
returns-clause-items c =
    let old : List (Option ℕ) = c.args.list.now.items in
    c.in-Ok.ensures.items ∙ ap (λ (front : List (Option ℕ)). front ++ replicate (c.args.size - c.args.list.now.len) None) (take_all c.args.size old c.requires.more)
    ∙ ap (λ (k : ℕ). old ++ replicate (c.args.size - k) None) c.args.list.now.ok.0
