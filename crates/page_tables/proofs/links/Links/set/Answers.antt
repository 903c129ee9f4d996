use Rattle.std.proofs.Common.{List, length, set, ap, ◌∙◌, arith}
use Rattle.page_tables.specs.declared.lists.Link.{Link}
use Rattle.page_tables.proofs.FirstLinks.{length-links_in, link_set}
use Rattle.page_tables.proofs.links.Links.set.Goals as goal

pub bring-requires-clause-below : goal.bring-requires-clause-below
bring-requires-clause-below c =
    omega (arith, c.requires, ap (λ (links : List Link). length links) c.self.view_is, length-links_in c.self.inside.list c.self.inside.entries c.self.inside.there.items c.self.invariant.0)

pub returns : goal.returns
returns c =
    link_set c.self.inside.list c.self.inside.entries c.bring.new.there.items c.args.entry c.args.link c.bring.ensures.at
    ∙ ap (λ (links : List Link). set links c.args.entry c.args.link) (c.bring.ensures.same ∙ c.self.view_is)
