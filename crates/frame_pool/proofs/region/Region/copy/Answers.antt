use Rattle.std.proofs.Common.{rules, ◌<◌, ℕ, List, length, ap, ◌∙◌, arith}
use Rattle.frame_pool.specs.Region.{Pages, page_of, pages_in, with_page}
use Rattle.frame_pool.proofs.Views.{copied_page, copied_long, page_below}
use Rattle.frame_pool.proofs.WrittenPages.{pages_apart}
use Rattle.frame_pool.proofs.region.Region.copy.Goals as goal

pub bring-self-inside-requires-clause-below : goal.bring-self-inside-requires-clause-below
bring-self-inside-requires-clause-below c = page_below c.self.inside c.args.self.now c.args.from c.self.view_is c.self.invariant c.requires.from

pub bring-self-inside-requires-2-clause-below : goal.bring-self-inside-requires-2-clause-below
bring-self-inside-requires-2-clause-below c = page_below c.self.inside c.args.self.now c.args.to c.self.view_is c.self.invariant c.requires.to

pub copy_part-requires-clause-apart : goal.copy_part-requires-clause-apart
copy_part-requires-clause-apart c = pages_apart c.self.inside.page c.args.from c.args.to c.requires.apart

pub invariant_of-self : goal.invariant_of-self
invariant_of-self c =
    let n = c.self.inside.page in
    let there = c.bring-self-inside-2.result in
    let more = c.bring-self-inside-2.ensures.more in
    let from : c.args.from < there = let at = c.bring-self-inside.ensures.at in omega (arith, at, more) in
    let old = c.self.invariant in
    let room = old.room in
    let bytes = c.bring-self-inside-2.new.bytes in
    record {
      whole = ap (λ (xs : List ℕ). length xs) c.copy_part.ensures.bytes ∙ copied_long n there c.args.from c.args.to bytes.items (search rules) from c.bring-self-inside-2.ensures.at;
      within = c.bring-self-inside-2.ensures.within;
      room = search rules;
      zeros = old.zeros;
    }

pub returns : goal.returns
returns c =
    let n = c.self.inside.page in
    let count = c.self.inside.count in
    let there = c.bring-self-inside-2.result in
    let more = c.bring-self-inside-2.ensures.more in
    let from : c.args.from < there = let at = c.bring-self-inside.ensures.at in omega (arith, at, more) in
    let bytes = c.bring-self-inside-2.new.bytes in
    let region : List (List ℕ) → Pages = λ pages. record { page = n; bytes = pages } in
    ap region (ap (pages_in n count there) c.copy_part.ensures.bytes
    ∙ copied_page n count there c.args.from c.args.to bytes.items (search rules) from c.bring-self-inside-2.ensures.at)
    ∙ ap (λ (p : Pages). with_page p c.args.to (page_of p c.args.from))
    (ap region (c.bring-self-inside-2.ensures.same ∙ c.bring-self-inside.ensures.same) ∙ c.self.view_is)
