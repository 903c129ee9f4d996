use Rattle.std.proofs.Common.{rules, ◌<◌, List, length, sym, ap, ◌∙◌, arith}
use Rattle.page_tables.specs.Links.{link_of}
use Rattle.page_tables.specs.declared.lists.Link.{Link}
use Rattle.page_tables.proofs.FirstLinks.{length-links_in, link_first}
use Rattle.page_tables.proofs.links.Links.get.Goals as goal

pub first_link-requires : goal.first_link-requires
first_link-requires c =
    omega (arith, c.requires, ap (λ (links : List Link). length links) c.self.view_is, length-links_in c.self.inside.list c.self.inside.entries c.self.inside.there.items c.self.invariant.0)

pub returns-else-entry-len : goal.returns-else-entry-len
returns-else-entry-len c =
    let below : c.args.entry < c.self.inside.entries =
    omega (arith, c.requires, ap (λ (links : List Link). length links) c.self.view_is, length-links_in c.self.inside.list c.self.inside.entries c.self.inside.there.items c.self.invariant.0) in
    c.first_link.ensures ∙ sym (link_first c.self.inside.list c.self.inside.entries c.self.inside.there.items c.args.entry (search rules) below)
    ∙ ap (λ (links : List Link). link_of links c.args.entry) c.self.view_is
