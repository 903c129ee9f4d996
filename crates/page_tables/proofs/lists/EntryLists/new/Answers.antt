use Rattle.std.proofs.Common.{◌≡◌, ap, ◌∙◌, List, Option, None, length, replicate, map}
use Rattle.std.proofs.lemmas.List.{length-replicate}
use Rattle.page_tables.specs.Links.{list_in}
use Rattle.page_tables.specs.declared.lists.Link.{Link}
use Rattle.page_tables.proofs.FirstLinks.{first_loose, first_lists}
use Rattle.page_tables.proofs.LinkReads.{empty_lists, resized, same_membership}
use Rattle.page_tables.proofs.lists.EntryLists.new.Goals as goal

pub invariant_of-result : goal.invariant_of-result
invariant_of-result c =
    let heads : c.resize.new.self.items ≡ replicate c.args.lists None = c.in_ok-resize.ensures.items ∙ resized _ _ _ None c.new-heads.ensures.items c.new-heads.ensures.len in
    let counts : c.resize-2.new.self.items ≡ replicate c.args.lists 0 = c.in_ok-resize-2.ensures.items ∙ resized _ _ _ 0 c.new-counts.ensures.items c.new-counts.ensures.len in
    rw (heads, counts, c.in_ok-links.ensures ∙ first_loose c.args.entries) (empty_lists c.args.lists c.args.entries c.requires)

pub returns : goal.returns
returns c =
    let heads : c.resize.new.self.items ≡ replicate c.args.lists None = c.in_ok-resize.ensures.items ∙ resized _ _ _ None c.new-heads.ensures.items c.new-heads.ensures.len in
    same_membership _ _ _ _
    (ap (λ (hs : List (Option _)). length hs) heads ∙ length-replicate c.args.lists None)
    (ap (λ (ls : List Link). map list_in ls) c.in_ok-links.ensures ∙ first_lists None c.args.entries)
