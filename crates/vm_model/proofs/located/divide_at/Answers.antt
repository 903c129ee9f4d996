use Rattle.std.proofs.Common.{List, set, ap, ◌∙◌}
use Rattle.vm_model.specs.declared.tables.Region.{Region}
use Rattle.vm_model.proofs.Locating.{two_around}
use Rattle.vm_model.proofs.located.divide_at.Goals as goal

pub returns-clause-ok : goal.returns-clause-ok
returns-clause-ok c = ap (λ (rs : List Region). set rs c.args.place c.args.front) c.in_ok-insert.ensures.items ∙ two_around c.args.regions.now.items c.args.place c.args.front c.args.back c.requires
