use Rattle.std.proofs.Common.{List, Option, None, subst, sym, ◌≡◌, ◌<◌, length, set}
use Rattle.std.specs.Prelude.{IfSome}
use Rattle.page_tables.specs.Translations.{entries_for}
use Rattle.page_tables.specs.declared.entry.Entry.{Entry}
use Rattle.page_tables.proofs.Seeing.{alone_at}
use Rattle.page_tables.proofs.places.Places.get.Goals as goal

pub returns-clause-alone : goal.returns-clause-alone
returns-clause-alone c =
    let P : List (Option Entry) → Type 0 = λ xs. IfSome c.get.result (λ e. entries_for (set xs c.args.place None) e.actor.0 e.page ≡ 0) in
    let below : c.args.place < length c.self.inside.entries = subst (λ (xs : List (Option Entry)). c.args.place < length xs) (sym c.self.view_is) c.requires in
    subst P c.self.view_is (alone_at c.self.inside.entries c.args.place c.self.invariant.0.once below c.get.result (sym c.get.ensures))
