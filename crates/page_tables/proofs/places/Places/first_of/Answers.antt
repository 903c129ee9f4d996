use Rattle.std.proofs.Common.{List, Option, Some, subst, ℕ, ◌≡◌, ◌≢◌, ◌<◌, true, false, length}
use Rattle.std.specs.Prelude.{MatchOption}
use Rattle.page_tables.specs.Entries.{leads_to}
use Rattle.page_tables.specs.Membership.{list_of}
use Rattle.page_tables.specs.Translations.{entry_at, holds}
use Rattle.page_tables.specs.declared.entry.Entry.{Entry}
use Rattle.page_tables.proofs.EntryPlaces.{first_leading}
use Rattle.page_tables.proofs.places.Places.first_of.Goals as goal

pub returns : goal.returns
returns c =
    let P : List (Option Entry) → Type 0 = λ xs. MatchOption c.first.result ((place : ℕ) → holds (leads_to c.args.frame.0 c.args.writable) (entry_at xs place) ≡ false) (λ place. (place < length xs) × (holds (leads_to c.args.frame.0 c.args.writable) (entry_at xs place) ≡ true)) in
    let Q : ℕ → Type 0 = λ k. MatchOption c.first.result ((entry : ℕ) → list_of c.self.inside.by_frame entry ≢ Some k) (λ entry. list_of c.self.inside.by_frame entry ≡ Some k) in
    subst P c.self.view_is (first_leading c.self.inside.entries c.self.inside.by_frame c.args.frame.0 c.args.writable c.self.invariant.0.on_lists c.first.result (subst Q c.frame_list.ensures c.first.ensures))
