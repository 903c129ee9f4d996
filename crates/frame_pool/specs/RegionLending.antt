-- The bytes of a page of the region, lent.
use Rattle.std.specs.Prelude.{ℕ, List}
use Rattle.std.specs.Borrow.{Lends, MutBor, Fml, Array, u8}
use Rattle.frame_pool.specs.Lending.{refill}
use Rattle.frame_pool.specs.Region.{Pages, page_of, with_page}
use Rattle.frame_pool.specs.contracts.region.Region.{the_row}

-- the region ends with the last value behind r as the bytes of the page
abbrev pub LendsInRegion : MutBor Pages → ℕ → MutBor (List ℕ) → Fml
LendsInRegion p at r =
    Lends the_row (Array u8 0) p r (λ w. with_page p.now at (refill (page_of p.now at) w))
