use Rattle.std.proofs.Common.{List, Option, set, ap, ◌∙◌}
use Rattle.page_tables.specs.declared.entry.Entry.{Entry}
use Rattle.page_tables.proofs.FirstLinks.{place_set}
use Rattle.page_tables.proofs.entries.Entries.put.Goals as goal

pub returns : goal.returns
returns c =
    place_set c.self.inside.count c.bring.new.there.items c.args.place c.args.entry c.bring.ensures.at
    ∙ ap (λ (places : List (Option Entry)). set places c.args.place c.args.entry) (c.bring.ensures.same ∙ c.self.view_is)
