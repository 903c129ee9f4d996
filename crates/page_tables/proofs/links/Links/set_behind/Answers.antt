use Rattle.std.proofs.Common.{◌≡◌, List, Some, length, set, sym, ap, ◌∙◌, arith}
use Rattle.page_tables.specs.Links.{link_of, links_in, with_behind}
use Rattle.page_tables.specs.declared.lists.Link.{Link}
use Rattle.page_tables.proofs.FirstLinks.{length-links_in, link_set, link_there}
use Rattle.page_tables.proofs.links.Links.set_behind.Goals as goal

pub bring-requires-clause-below : goal.bring-requires-clause-below
bring-requires-clause-below c =
    omega (arith, c.requires, ap (λ (links : List Link). length links) c.self.view_is, length-links_in c.self.inside.list c.self.inside.entries c.self.inside.there.items c.self.invariant.0)

pub returns : goal.returns
returns c =
    let list = c.self.inside.list in
    let n = c.self.inside.entries in
    let xs = c.bring.new.there.items in
    let i = c.args.entry in
    let old = c.index_mut-link.result.now in
    let with : Link → Link = λ l. record l { behind = c.args.behind } in
    link_set list n xs i (with old) c.bring.ensures.at
    ∙ ap (λ (l : Link). set (links_in list n xs) i (with l)) (link_there list n xs i old c.bring.ensures.at c.index_mut-link.ensures.value)
    ∙ ap (λ (links : List Link). with_behind links (Some i) c.args.behind) (c.bring.ensures.same ∙ c.self.view_is)
