use Rattle.std.proofs.Common.{ℕ, Bool, List, Option, length, sym, ap, subst, arith}
use Rattle.page_tables.specs.Translations.{Narrows}
use Rattle.page_tables.specs.Writing.{IsKept}
use Rattle.page_tables.specs.declared.entry.Entry.{Entry}
use Rattle.page_tables.proofs.Narrowing.{narrowed_indexed}
use Rattle.page_tables.proofs.places.Places.narrow_picked.Goals as goal

pub narrow_picked-requires : goal.narrow_picked-requires
narrow_picked-requires g c = record {
  on = c.self.invariant.0.on_lists;
  kept = c.self.invariant.1;
  callable = λ frame below. c.requires frame (omega (arith, below, c.self.invariant.1.sizes, ap (λ (xs : List (Option Entry)). length xs) c.self.view_is));
}

pub invariant_of-self : goal.invariant_of-self
invariant_of-self g c =
    let p = c.self.inside in
    let n = c.narrow_picked.ensures in
    let new = c.narrow_picked.new in (
      narrowed_indexed p.entries new.entries p.index p.by_frame new.by_frame n.narrowed.frames c.self.invariant.0 n.narrowed.tables n.on n.lists,
      subst (λ (s : List Bool). IsKept new.entries new.by_frame s c.swap.new.y) (sym c.swap.ensures.x_after)
          (subst (λ (s : List Bool). IsKept new.entries new.by_frame new.asked s) (sym c.swap.ensures.y_after) n.kept),
    )

pub returns : goal.returns
returns g c =
    let answer : ℕ → Bool → Type 0 = λ frame picked. goal.F-post g c.args.picks (record { 0 = frame }) picked in
    subst (λ (xs : List (Option Entry)). Narrows xs c.narrow_picked.new.entries answer) c.self.view_is c.narrow_picked.ensures.narrowed
