use Rattle.std.proofs.Common.{List, Option, None, subst, ℕ, ◌≡◌, ◌≢◌, ◌<◌, length}
use Rattle.std.specs.Prelude.{MatchOption}
use Rattle.page_tables.specs.Translations.{entry_at}
use Rattle.page_tables.specs.declared.entry.Entry.{Entry}
use Rattle.page_tables.proofs.EntryPlaces.{first_empty}
use Rattle.page_tables.proofs.places.Places.empty.Goals as goal

pub returns : goal.returns
returns c =
    let P : List (Option Entry) → Type 0 = λ xs. MatchOption c.first.result ((place : ℕ) → place < length xs → entry_at xs place ≢ None) (λ place. (place < length xs) × (entry_at xs place ≡ None)) in
    subst P c.self.view_is (first_empty c.self.inside.entries c.self.inside.by_frame c.self.invariant.0.on_lists c.first.result c.first.ensures)
