use Rattle.std.proofs.Common.{◌≡◌, ◌<◌, ◌%◌, ℕ, ap, subst, arith, length, List, Option, None, set}
use Rattle.std.proofs.lemmas.Nat.{mod_below}
use Rattle.page_tables.specs.Translations.{entries_for, IsPlaceFor}
use Rattle.page_tables.specs.declared.entry.Entry.{Entry}
use Rattle.page_tables.proofs.Seeing.{any_place, still_none}
use Rattle.page_tables.proofs.tables.PageTables.place_for.Goals as goal

-- the hand is at one of the places
turned : (places now : List (Option Entry)) (hand count : ℕ) → places ≡ now → count ≡ length places → 0 < length now → hand % count < length places
turned places now hand count same all some =
    let size : length places ≡ length now = ap (λ (xs : List (Option Entry)). length xs) same in
    let below : hand % count < count = mod_below hand count (omega arith) in
    omega arith

pub returns-clause-place : goal.returns-clause-place
returns-clause-place c =
    let below = turned c.self.inside.places c.args.self.now c.self.inside.hand c.count.result c.self.view_is c.count.ensures c.requires in
    subst (λ (xs : List (Option Entry)). IsPlaceFor xs c.args.actor.0 c.args.page (c.self.inside.hand % c.count.result)) c.self.view_is
    (any_place c.self.inside.places c.args.actor.0 c.args.page (c.self.inside.hand % c.count.result) below c.in_default.ensures.found c.in_default-empty.ensures)

pub returns-clause-alone : goal.returns-clause-alone
returns-clause-alone c =
    let below = turned c.self.inside.places c.args.self.now c.self.inside.hand c.count.result c.self.view_is c.count.ensures c.requires in
    subst (λ (xs : List (Option Entry)). entries_for (set xs (c.self.inside.hand % c.count.result) None) c.args.actor.0 c.args.page ≡ 0) c.self.view_is
    (still_none c.self.inside.places c.args.actor.0 c.args.page (c.self.inside.hand % c.count.result) c.in_default.ensures.found below)
