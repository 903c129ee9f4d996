use Rattle.std.proofs.Common.{ℕ, get_or, ap, ◌∙◌, arith}
use Rattle.std.proofs.lemmas.List.{get_or_default}
use Rattle.vm_model.specs.Answering.{overlaps}
use Rattle.stretches.specs.Leaves.{entries}
use Rattle.stretches.specs.Spots.{index}
use Rattle.stretches.proofs.Leaves.Held.{held_within}
use Rattle.regions.specs.Seen.{region_seen}
use Rattle.regions.specs.declared.region.Region.{Region}
use Rattle.regions.proofs.Ordered.{formed_read}
use Rattle.regions.proofs.search.next_overlaps.Goals as goal

pub overlaps-requires-clause-formed : goal.overlaps-requires-clause-formed
overlaps-requires-clause-formed c =
    let l = c.args.regions.now in
    formed_read c.args.page_bytes c.args.address (entries l) (index l c.in-Some.next) c.at.result.now c.requires.order (held_within l c.in-Some.next c.in-Some.ensures.0) c.at.ensures

pub returns-in-Some-clause-none : goal.returns-in-Some-clause-none
returns-in-Some-clause-none c = λ none.
    let l = c.args.regions.now in
    absurd (omega (arith, none, c.in-Some.ensures.1, held_within l c.in-Some.next c.in-Some.ensures.0))

pub returns-in-Some-clause-next : goal.returns-in-Some-clause-next
returns-in-Some-clause-next c = λ d less.
    let l = c.args.regions.now in
    let i = index l c.in-Some.next in
    let read = c.at.ensures ∙ get_or_default (entries l) i c.at.result.now d (held_within l c.in-Some.next c.in-Some.ensures.0) ∙ ap (λ (j : ℕ). get_or (entries l) j d) c.in-Some.ensures.1 in
    c.overlaps.ensures ∙ ap (λ (r : Region). overlaps c.args.page_bytes c.args.address c.args.pages (region_seen r)) read
