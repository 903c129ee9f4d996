-- The bytes of a frame of a store, or its page tables, lent.
use Rattle.std.specs.Prelude.{ℕ, List, Option}
use Rattle.std.specs.Borrow.{Lends, MutBor, Fml, Array, u8}
use Rattle.frame_pool.specs.Pool.{bytes_of, with_bytes}
use Rattle.frame_pool.specs.Lending.{refill}
use Rattle.page_tables.specs.declared.entry.Entry.{Entry}
use Rattle.page_tables.specs.contracts.tables.PageTables as page_tables
use Rattle.residency.specs.declared.store.Store.{Store}
use Rattle.residency.specs.contracts.store.Store.{the_row}

-- the store ends with the last value behind r as the bytes of the frame
abbrev pub LendsFrame : MutBor Store → ℕ → MutBor (List ℕ) → Fml
LendsFrame s frame r = Lends the_row (Array u8 0) s r (λ w. record s.now {
  frames = with_bytes s.now.frames frame (refill (bytes_of s.now.frames frame) w);
})

-- the store ends with the last value behind r as its page tables
abbrev pub LendsTables : MutBor Store → MutBor (List (Option Entry)) → Fml
LendsTables s r = Lends the_row page_tables.the_row s r (λ w. record s.now { tables = w })
