use Rattle.std.proofs.Common.{◌≡◌, ◌<◌, ◌∷◌, ◌++◌, List, [], length, ap, ◌∙◌, arith}
use Rattle.std.proofs.lemmas.List.{length_push}
use Rattle.page_tables.specs.Links.{first_link, links_in}
use Rattle.page_tables.specs.declared.lists.Link.{Link}
use Rattle.page_tables.proofs.FirstLinks.{link_more}
use Rattle.page_tables.proofs.links.extend.Goals as goal

pub loop-list-preserved : goal.loop-list-preserved
loop-list-preserved c =
    let list = c.args.list in
    let n = c.args.entries in
    let xs : List Link = c.loop-list.there.items in
    let next : c.len-next.result ≡ length xs = omega (arith, c.len-next.ensures, c.loop-list.there.ok.0) in
    let below : length xs < n = omega (arith, c.len.ensures, c.loop-list.there.ok.0, c.loop-list-test.true, c.requires.below) in
    let grown : c.push_reserved.new.self.items ≡ xs ++ first_link list n (length xs) ∷ [] =
    c.push_reserved.ensures.items ∙ ap (λ (y : Link). xs ++ y ∷ []) (c.first_link.ensures ∙ ap (first_link list n) next) in
    record {
      within = omega (arith, below, ap (λ (ys : List Link). length ys) grown, length_push xs (first_link list n (length xs)));
      room = let room = c.loop-list.invariant.room in omega (arith, room, c.push_reserved.ensures.capacity);
      same = ap (links_in list n) grown ∙ link_more list n xs below ∙ c.loop-list.invariant.same;
    }
