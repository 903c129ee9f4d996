use Rattle.std.proofs.Common.{◌≡◌, ◌<◌, ◌*◌, ℕ, false, List, Option, None, length, set, replicate, subst, sym, ap, ◌∙◌, arith, length-set}
use Rattle.std.specs.Prelude.{IfSome}
use Rattle.std.proofs.lemmas.List.{get_or-set_same, length-map}
use Rattle.page_tables.specs.Indexes.{listed_at}
use Rattle.page_tables.specs.Membership.{list_of, Membership}
use Rattle.page_tables.specs.Translations.{entries_for}
use Rattle.page_tables.specs.declared.entry.Entry.{Entry}
use Rattle.page_tables.proofs.EntryPlaces.{list_at, put_indexed}
use Rattle.page_tables.proofs.Writing.{frame_known}
use Rattle.page_tables.proofs.places.Places.put.Goals as goal

pub delist-requires-clause-listed : goal.delist-requires-clause-listed
delist-requires-clause-listed c =
    let below = subst (λ (xs : List (Option Entry)). c.args.place < length xs) (sym c.self.view_is) c.requires.below in
    list_at c.self.inside.entries c.self.inside.by_frame c.self.invariant.0.on_lists c.args.place below ∙ ap listed_at (sym c.get-was.ensures)

pub enlist-requires-clause-below : goal.enlist-requires-clause-below
enlist-requires-clause-below c =
    omega (arith, c.requires.below, ap (λ (xs : List (Option Entry)). length xs) c.self.view_is, ap (λ (m : Membership). length m.on) c.delist.ensures.lists, length-set c.self.inside.by_frame.on c.args.place None, ap (λ (xs : List (Option ℕ)). length xs) c.self.invariant.0.on_lists, length-map c.self.inside.entries listed_at)

pub enlist-requires-clause-loose : goal.enlist-requires-clause-loose
enlist-requires-clause-loose c =
    let below : c.args.place < length c.self.inside.by_frame.on = omega (arith, c.requires.below, ap (λ (xs : List (Option Entry)). length xs) c.self.view_is, ap (λ (xs : List (Option ℕ)). length xs) c.self.invariant.0.on_lists, length-map c.self.inside.entries listed_at) in
    ap (λ (m : Membership). list_of m c.args.place) c.delist.ensures.lists ∙ get_or-set_same c.self.inside.by_frame.on c.args.place None None below

pub enlist-requires-clause-frame : goal.enlist-requires-clause-frame
enlist-requires-clause-frame c =
    let sizes : length c.args.self.now ≡ 4 * length c.self.inside.writing = sym (ap (λ (xs : List (Option Entry)). length xs) c.self.view_is) ∙ c.self.invariant.1.sizes in
    frame_known c.args.entry c.args.self.now (length c.self.inside.writing) (length c.delist.new.writing) sizes c.delist.ensures.frames c.requires.frame

pub invariant_of-self : goal.invariant_of-self
invariant_of-self c =
    let P : List (Option Entry) → Type 0 = λ xs. (c.args.place < length xs) × IfSome c.args.entry (λ e. entries_for (set xs c.args.place None) e.actor.0 e.page ≡ 0) in
    let now : P c.self.inside.entries = subst P (sym c.self.view_is) (c.requires.below, c.requires.alone) in
    let same : length c.enlist.new.writing ≡ length c.self.inside.writing = c.enlist.ensures.frames ∙ c.delist.ensures.frames in (
      rw (c.put.ensures, c.enlist.ensures.lists, c.delist.ensures.lists, c.reindex.ensures, c.unindex.ensures) (put_indexed c.self.inside.entries c.self.inside.index c.self.inside.by_frame c.args.place c.args.entry c.self.invariant.0 now.0 now.1),
      record {
        sizes = omega (arith, c.self.invariant.1.sizes, same, ap (λ (xs : List (Option Entry)). length xs) c.put.ensures, length-set c.self.inside.entries c.args.place c.args.entry);
        exact = c.enlist.ensures.writing;
        none_asked = c.self.invariant.1.none_asked ∙ ap (λ (n : ℕ). replicate n false) (sym same);
      },
    )
