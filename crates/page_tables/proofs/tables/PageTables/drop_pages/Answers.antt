use Rattle.std.proofs.Common.{◌≡◌, ◌≤◌, ◌<◌, ◌+◌, ℕ, ◌∙◌, ap, sym, subst, true, map, length, List, Option}
use Rattle.page_tables.specs.Entries.{is_for, is_in_range}
use Rattle.page_tables.specs.Translations.{entries_for, entry_at, holds, unless}
use Rattle.page_tables.specs.declared.entry.Entry.{Entry}
use Rattle.page_tables.proofs.Dropping.{no_more, none_left, page_dropped, range-none, range-one_more}
use Rattle.page_tables.proofs.tables.PageTables.drop_pages.Goals as goal
use Rattle.page_tables.proofs.tables.PageTables.drop_pages.Goals.{in-Some, in_default}

pub loop-i-init : goal.loop-i-init
loop-i-init c = sym (range-none c.args.actor.0 c.args.first c.args.self.now)

-- one page more is gone, once its entry is
one_more : (actor first i : ℕ) (old now new : List (Option Entry)) → now ≡ map (unless (is_in_range actor first i)) old → new ≡ map (unless (is_for actor (first + i))) now → new ≡ map (unless (is_in_range actor first (i + 1))) old
one_more actor first i old now new before e = e ∙ ap (λ (xs : List (Option Entry)). map (unless (is_for actor (first + i))) xs) before ∙ range-one_more actor first i old

pub loop-i-preserved : goal.loop-i-preserved
loop-i-preserved c =
    let actor : ℕ = c.args.actor.0 in
    let page : ℕ = c.args.first + c.loop-i.i in
    elim c.match-find.branch [
      | in-Some w ↦ (
          let P : List (Option Entry) → Type 0 = λ xs. (entries_for xs actor page ≤ 1) × (w.in-Some.place < length xs) × (holds (is_for actor page) (entry_at xs w.in-Some.place) ≡ true) in
          let is : P c.loop-i.self = subst P c.self.view_is (w.in-Some.ensures.once, w.in-Some.ensures.found.0, w.in-Some.ensures.found.1) in
          one_more actor c.args.first c.loop-i.i c.args.self.now c.loop-i.self c.match-find.self c.loop-i.invariant (w.self-is ∙ w.put.ensures ∙ page_dropped c.loop-i.self actor page w.in-Some.place is.0 is.1 is.2))
      | in_default w ↦ (
          let none : entries_for c.loop-i.self actor page ≡ 0 = subst (λ (xs : List (Option Entry)). entries_for xs actor page ≡ 0) c.self.view_is w.in_default.ensures.found in
          one_more actor c.args.first c.loop-i.i c.args.self.now c.loop-i.self c.match-find.self c.loop-i.invariant (w.self-is ∙ sym (none_left (is_for actor page) c.loop-i.self (no_more c.loop-i.self (is_for actor page) none))))
    ]
