use Rattle.std.proofs.Common.{◌≡◌, ◌≢◌, ◌<◌, ℕ, ◌∙◌, ap, sym, subst, arith, true, Some}
use Rattle.std.specs.Prelude.{count_by}
use Rattle.vm_ids.proofs.Places.{other_number}
use Rattle.page_tables.specs.Entries.{actor_row, is_picked}
use Rattle.page_tables.specs.Membership.{list_of, is_on}
use Rattle.page_tables.specs.Translations.{entry_at, holds}
use Rattle.page_tables.proofs.Dropping.{none_left, one_dropped}
use Rattle.page_tables.proofs.EntryPlaces.{held_below}
use Rattle.page_tables.proofs.RowPlaces.{fewer_on, sorting_drops, sorting_ends}
use Rattle.page_tables.proofs.tables.set_aside.Goals as goal

pub loop-place-preserved-then-is_picked : goal.loop-place-preserved-then-is_picked
loop-place-preserved-then-is_picked c =
    let picked : holds (is_picked c.args.actor.0 c.args.pages) (entry_at c.loop-place.places c.in-Some.place) ≡ true = sym (ap (holds (is_picked c.args.actor.0 c.args.pages)) c.get.ensures.entry) ∙ sym c.is_picked.ensures ∙ c.if-is_picked.true in
    rw (c.put.ensures, c.take_off.ensures) (record {
      sorting = sorting_drops c.loop-place.places c.loop-place.rows c.args.actor.0 c.args.pages c.in-Some.place c.loop-place.invariant.sorting (held_below c.loop-place.places (is_picked c.args.actor.0 c.args.pages) c.in-Some.place picked);
      rest = one_dropped (is_picked c.args.actor.0 c.args.pages) c.loop-place.places c.in-Some.place picked ∙ c.loop-place.invariant.rest;
    })

pub loop-place-smaller : goal.loop-place-smaller
loop-place-smaller c =
    let row : list_of c.loop-place.rows c.in-Some.place ≡ Some (actor_row c.args.actor.0) = c.in-Some.ensures ∙ ap (λ (n : ℕ). Some n) c.actor_row-row.ensures.row in
    let less : count_by (is_on (actor_row c.args.actor.0)) c.add.new.self.on < count_by (is_on (actor_row c.args.actor.0)) c.loop-place.rows.on =
    rw (c.add.ensures, c.take_off.ensures) (fewer_on c.loop-place.rows.on c.in-Some.place (actor_row c.args.actor.0) (Some 1024) row (other_number 1024 (actor_row c.args.actor.0) (λ e. absurd (omega (arith, e))))) in
    less

pub returns-clause-dropped : goal.returns-clause-dropped
returns-clause-dropped c =
    let none : (place : ℕ) → list_of c.loop-place.rows place ≢ Some (actor_row c.args.actor.0) = subst (λ (row : ℕ). (place : ℕ) → list_of c.loop-place.rows place ≢ Some row) c.actor_row-row.ensures.row c.in_default.ensures in
    sym (none_left (is_picked c.args.actor.0 c.args.pages) c.loop-place.places (sorting_ends c.loop-place.places c.loop-place.rows c.args.actor.0 c.args.pages c.loop-place.invariant.sorting none)) ∙ c.loop-place.invariant.rest
