use Rattle.std.proofs.Common.{rules, ◌≤◌, List, Option, subst, ◌≡◌, ◌<◌, true, length}
use Rattle.std.specs.Prelude.{MatchOption}
use Rattle.page_tables.specs.Entries.{is_for}
use Rattle.page_tables.specs.Translations.{entry_at, entries_for, holds}
use Rattle.page_tables.specs.declared.entry.Entry.{Entry}
use Rattle.page_tables.proofs.EntryPlaces.{find_place}
use Rattle.page_tables.proofs.places.Places.find.Goals as goal

pub returns-clause-found : goal.returns-clause-found
returns-clause-found c =
    let P : List (Option Entry) → Type 0 = λ xs. MatchOption c.find.result (entries_for xs c.args.actor.0 c.args.page ≡ 0) (λ place. (place < length xs) × (holds (is_for c.args.actor.0 c.args.page) (entry_at xs place) ≡ true)) in
    subst P c.self.view_is
    (find_place c.self.inside.entries c.self.inside.index c.self.inside.by_frame c.args.actor.0 c.args.page c.hash_pair-hash.result _ _ c.self.invariant.0 c.hash_pair-hash.ensures c.find.result c.find.ensures.below c.find.ensures.found c.find.ensures.absent (λ n below q. search rules) (λ n below q. search rules))

pub returns-clause-once : goal.returns-clause-once
returns-clause-once c = subst (λ (xs : List (Option Entry)). entries_for xs c.args.actor.0 c.args.page ≤ 1) c.self.view_is (c.self.invariant.0.once c.args.actor.0 c.args.page)
