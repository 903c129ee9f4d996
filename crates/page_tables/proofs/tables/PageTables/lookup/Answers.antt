use Rattle.std.proofs.Common.{◌≡◌, ◌∙◌, ap, sym, subst, List, Option}
use Rattle.page_tables.specs.Translations.{entries_for, entry_at, seen_in, translation}
use Rattle.page_tables.specs.declared.entry.Entry.{Entry}
use Rattle.page_tables.proofs.Seeing.{none_seen, seen_at}
use Rattle.page_tables.proofs.tables.PageTables.lookup.Goals as goal

pub returns-in_err-place-clause-seen : goal.returns-in_err-place-clause-seen
returns-in_err-place-clause-seen c =
    let none : entries_for c.args.self.now c.args.actor.0 c.args.page ≡ 0 = subst (λ (xs : List (Option Entry)). entries_for xs c.args.actor.0 c.args.page ≡ 0) c.self.view_is c.in_err-place.ensures.found in
    c.from_residual.ensures ∙ sym (none_seen c.args.self.now c.args.actor.0 c.args.page none)

pub returns-clause-seen : goal.returns-clause-seen
returns-clause-seen c =
    let P : List (Option Entry) → Type 0 = λ xs. translation xs c.args.actor.0 c.args.page ≡ seen_in (entry_at xs c.in_ok-place.place) in
    let at = seen_at c.self.inside.places c.args.actor.0 c.args.page c.in_ok-place.place c.in_ok-place.ensures.once c.in_ok-place.ensures.found.0 c.in_ok-place.ensures.found.1 in
    sym (ap seen_in (c.in_ok-entry.was)) ∙ ap seen_in c.get.ensures.entry ∙ sym at ∙ ap (λ (xs : List (Option Entry)). translation xs c.args.actor.0 c.args.page) c.self.view_is
