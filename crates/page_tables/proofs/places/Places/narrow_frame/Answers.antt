use Rattle.std.proofs.Common.{◌≡◌, ◌==◌, ℕ, Bool, true, false, List, Option, map, sym, ap, ◌∙◌, subst, arith}
use Rattle.vm_ids.proofs.Places.{true_below}
use Rattle.page_tables.specs.Entries.{frame_row}
use Rattle.page_tables.specs.FrameSets.{has}
use Rattle.page_tables.specs.Translations.{is_written, narrowed}
use Rattle.page_tables.specs.Writing.{is_used, IsKept}
use Rattle.page_tables.specs.declared.entry.Entry.{Entry}
use Rattle.page_tables.proofs.Narrowing.{narrowed_indexed, narrowed_kept, not_written}
use Rattle.page_tables.proofs.Writing.{used_is}
use Rattle.page_tables.proofs.places.Places.narrow_frame.Goals as goal

pub narrow-requires : goal.narrow-requires
narrow-requires c =
    let p = c.self.inside in
    let is = c.self.invariant.1.exact in
    let below = true_below p.writing c.args.frame.0 (sym c.contains.ensures ∙ c.if-contains.true) in
    record { few = omega (arith, below, is.few); list = omega (arith, below, is.room); on = c.self.invariant.0.on_lists }

pub invariant_of-self : goal.invariant_of-self
invariant_of-self c =
    let p = c.self.inside in
    let f : ℕ = c.args.frame.0 in
    let has_it : has p.writing f ≡ true = sym c.contains.ensures ∙ c.if-contains.true in
    let n = c.narrow.ensures in (
      narrowed_indexed p.entries c.narrow.new.entries p.index p.by_frame c.narrow.new.by_frame (λ other. other == f) c.self.invariant.0 n.narrowed n.on n.lists,
      subst (λ (s : List Bool). IsKept c.narrow.new.entries c.narrow.new.by_frame s p.asked) (sym c.remove.ensures)
          (narrowed_kept p.entries c.narrow.new.entries p.by_frame c.narrow.new.by_frame p.writing p.asked f c.self.invariant.1 c.self.invariant.0.on_lists n.narrowed n.on n.lists has_it),
    )

pub returns-else-contains : goal.returns-else-contains
returns-else-contains c =
    let p = c.self.inside in
    let f : ℕ = c.args.frame.0 in
    let none : is_written p.entries f ≡ false = sym (c.self.invariant.1.exact.each f ∙ ap (λ (on : List (Option ℕ)). is_used on (frame_row f true)) c.self.invariant.0.on_lists ∙ used_is p.entries f) ∙ sym c.contains.ensures ∙ c.if-contains.false in
    subst (λ (xs : List (Option Entry)). xs ≡ map (narrowed f) xs) c.self.view_is (sym (not_written p.entries f none))
