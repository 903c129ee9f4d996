use Rattle.std.proofs.Common.{rules, ◌≡◌, ◌*◌, ℕ, List, length, ap, ◌∙◌, refl}
use Rattle.frame_pool.specs.Lending.{refill}
use Rattle.frame_pool.specs.Region.{Pages, page_of, with_page}
use Rattle.frame_pool.proofs.Views.{lent_page, page_below, part_long, part_seen}
use Rattle.frame_pool.proofs.region.Region.page_mut.Goals as goal

pub bring-self-inside-requires-clause-below : goal.bring-self-inside-requires-clause-below
bring-self-inside-requires-clause-below c = page_below c.self.inside c.args.self.now c.args.at c.self.view_is c.self.invariant c.requires

pub returns : goal.returns
returns c =
    let n = c.self.inside.page in
    let count = c.self.inside.count in
    let at = c.args.at in
    let bytes = c.bring-self-inside.new.bytes in
    let brought = c.bring-self-inside.ensures in
    let whole : length bytes.items ≡ c.bring-self-inside.result * n = search rules in
    let seen : record { page = n; bytes = _ } ≡ c.args.self.now = ap (λ (pages : List (List ℕ)). record { page = n; bytes = pages }) brought.same ∙ c.self.view_is in (
      (
        refl,
        λ w.
            ap (λ (pages : List (List ℕ)). record { page = n; bytes = pages }) (lent_page n count c.bring-self-inside.result at bytes w whole brought.at)
            ∙ ap (λ (p : Pages). with_page p at (refill (page_of p at) w)) seen,
      ),
      record {
        writes_back = tt;
        bytes = c.part_mut.ensures.bytes ∙ part_seen n count c.bring-self-inside.result at bytes.items brought.at ∙ ap (λ (p : Pages). page_of p at) seen;
        page = ap (λ (xs : List ℕ). length xs) c.part_mut.ensures.bytes ∙ part_long n c.bring-self-inside.result at bytes.items whole brought.at ∙ ap (λ (p : Pages). p.page) seen;
      },
    )
