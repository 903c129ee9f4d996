-- The rows in which the entries of actors are.
use Rattle.std.specs.Prelude.{◌≡◌, ℕ, ◌<◌, List, length, map, Option, Some, ◌⊎◌}
use Rattle.page_tables.specs.Entries.{actor_row}
use Rattle.page_tables.specs.Indexes.{place_row}
use Rattle.page_tables.specs.Membership.{Membership, list_of}
use Rattle.page_tables.specs.Translations.{entry_at}
use Rattle.page_tables.specs.declared.entry.Entry.{Entry}

-- each entry is in the row of its actor, and the row behind them all is empty
pub record IsInRows (places : List (Option Entry)) (rows : Membership) : Type 0 where
  pub room : 1024 < rows.lists
  pub in_rows : rows.on ≡ map place_row places

-- the same, but that entries of one actor's row may be in the row behind them all
pub record IsAside (places : List (Option Entry)) (rows : Membership) (actor : ℕ) : Type 0 where
  pub room : 1024 < rows.lists
  pub same_length : length rows.on ≡ length places
  pub in_rows : (place : ℕ) → (list_of rows place ≡ place_row (entry_at places place))
      ⊎ ((list_of rows place ≡ Some 1024)
      × (place_row (entry_at places place) ≡ Some (actor_row actor)))
