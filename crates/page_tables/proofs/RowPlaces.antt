-- The rows of actors: places enter and leave them, and others are set aside while a row is gone
-- through.
use Rattle.std.proofs.Common.{◌≡◌, ◌≢◌, ℕ, ◌+◌, ◌<◌, ◌==◌, true, false, List, length, get_or, set, map, replicate, Option, Some, None, sym, ap, ◌∙◌, arith, inl, inr, ◌⊎◌, length-set}
use Rattle.std.specs.Prelude.{count_by}
use Rattle.std.proofs.lemmas.Bool.{cases_eq, cases_lt, cases_Bool, and_parts}
use Rattle.std.proofs.lemmas.List.{get_or-set_same, get_or-set_other, get_or_past, get_or-map, length-map, map-set, set-set, ext_get_or}
use Rattle.vm_ids.proofs.Places.{bit, bit_true, bit_false, count-set, same_number}
use Rattle.page_tables.specs.Entries.{actor_row, is_of_actor, is_picked, is_within}
use Rattle.page_tables.specs.Indexes.{place_row}
use Rattle.page_tables.specs.Membership.{Membership, list_of, is_on}
use Rattle.page_tables.specs.Rows.{IsInRows, IsAside}
use Rattle.page_tables.specs.Translations.{entry_at, holds}
use Rattle.page_tables.specs.declared.entry.Entry.{Entry}
use Rattle.page_tables.specs.declared.entry.Pages.{Pages}
use Rattle.page_tables.proofs.EntryPlaces.{equal_from}
use Rattle.page_tables.proofs.LinkReads.{map-replicate}

pub empty_rows : (count : ℕ) → IsInRows (replicate count None) (record { lists = 1025; on = replicate count None })
empty_rows count = record { room = omega arith; in_rows = sym (map-replicate place_row count None) }

pub put_in_rows : (places : List (Option Entry)) (rows : Membership) (place : ℕ) (entry : Option Entry) → IsInRows places rows → IsInRows (set places place entry) (record { lists = rows.lists; on = set (set rows.on place None) place (place_row entry) })
put_in_rows places rows place entry is = record {
  room = is.room;
  in_rows = set-set rows.on place None (place_row entry) ∙ ap (λ (xs : List (Option ℕ)). set xs place (place_row entry)) is.in_rows ∙ sym (map-set place_row places place entry);
}

-- the row that a place is in
pub row_at : (places : List (Option Entry)) (rows : Membership) → rows.on ≡ map place_row places → (place : ℕ) → list_of rows place ≡ place_row (entry_at places place)
row_at places rows e place = elim (cases_lt place (length places)) [
  | inl b ↦ ap (λ (xs : List (Option ℕ)). get_or xs place None) e ∙ get_or-map place_row places place None None b
  | inr b ↦ ap (λ (xs : List (Option ℕ)). get_or xs place None) e ∙ get_or_past (map place_row places) place None (omega (arith, length-map places place_row)) ∙ sym (ap place_row (get_or_past places place None b))
]

-- where each place is while the row of an actor is gone through: in its row, or aside, and then it
-- stays
pub record IsSorting (places : List (Option Entry)) (rows : Membership) (actor : ℕ) (pages : Pages) : Type 0 where
  pub room : 1024 < rows.lists
  pub same_length : length rows.on ≡ length places
  pub in_rows : (place : ℕ) → (list_of rows place ≡ place_row (entry_at places place))
      ⊎ ((list_of rows place ≡ Some 1024) × (place_row (entry_at places place) ≡ Some (actor_row actor)) × (holds (is_picked actor pages) (entry_at places place) ≡ false))

-- the entry at a place of the row is dropped
pub sorting_drops : (places : List (Option Entry)) (rows : Membership) (actor : ℕ) (pages : Pages) (place : ℕ) → IsSorting places rows actor pages → place < length places → IsSorting (set places place None) (record { lists = rows.lists; on = set rows.on place None }) actor pages
sorting_drops places rows actor pages place is below = record {
  room = is.room;
  same_length = length-set rows.on place None ∙ is.same_length ∙ sym (length-set places place None);
  in_rows = λ n. elim (cases_eq n place) [
    | inl same ↦ inl (ap (λ (k : ℕ). get_or (set rows.on place None) k None) same ∙ get_or-set_same rows.on place None None (omega (arith, is.same_length))
        ∙ sym (ap (λ (k : ℕ). place_row (entry_at (set places place None) k)) same ∙ ap place_row (get_or-set_same places place None None below)))
    | inr other ↦ (
        let on : get_or (set rows.on place None) n None ≡ list_of rows n = get_or-set_other rows.on place n None None other in
        let at : entry_at (set places place None) n ≡ entry_at places n = get_or-set_other places place n None None other in
        elim (is.in_rows n) [
          | inl e ↦ inl (on ∙ e ∙ sym (ap place_row at))
          | inr e ↦ inr (on ∙ e.0, ap place_row at ∙ e.1, ap (holds (is_picked actor pages)) at ∙ e.2)
        ])
  ];
}

picked_row : (o : Option Entry) (actor : ℕ) (pages : Pages) → holds (is_picked actor pages) o ≡ true → place_row o ≡ Some (actor_row actor)
picked_row None actor pages h = absurd (cc)
picked_row (Some e) actor pages h = ap (λ (n : ℕ). Some (actor_row n)) (equal_from e.actor.0 actor ((and_parts (is_within pages e.page) (is_of_actor actor e) h).1))

-- once the row is empty, no entry is left that is to go
pub sorting_ends : (places : List (Option Entry)) (rows : Membership) (actor : ℕ) (pages : Pages) → IsSorting places rows actor pages → ((place : ℕ) → list_of rows place ≢ Some (actor_row actor)) → (place : ℕ) → holds (is_picked actor pages) (entry_at places place) ≡ false
sorting_ends places rows actor pages is none place = elim (cases_Bool (holds (is_picked actor pages) (entry_at places place))) [
  | inr f ↦ f
  | inl t ↦ elim (is.in_rows place) [
    | inl e ↦ absurd (none place (e ∙ picked_row (entry_at places place) actor pages t))
    | inr e ↦ e.2
  ]
]

-- once none is aside, each is in its row
pub all_back : (places : List (Option Entry)) (rows : Membership) (actor : ℕ) → IsAside places rows actor → ((place : ℕ) → list_of rows place ≢ Some 1024) → IsInRows places rows
all_back places rows actor is none = record {
  room = is.room;
  in_rows = ext_get_or None rows.on (map place_row places) (is.same_length ∙ sym (length-map places place_row)) (λ place b. elim (is.in_rows place) [
    | inl e ↦ e ∙ sym (get_or-map place_row places place None None (omega (arith, is.same_length)))
    | inr e ↦ absurd (none place e.0)
  ]);
}

-- a place that goes from one list to another, or to none, leaves one fewer
pub fewer_on : (on : List (Option ℕ)) (place row : ℕ) (o : Option ℕ) → get_or on place None ≡ Some row → is_on row o ≡ false → count_by (is_on row) (set (set on place None) place o) < count_by (is_on row) on
fewer_on on place row o at other =
    let below : place < length on = elim (cases_lt place (length on)) [
      | inl b ↦ b
      | inr b ↦ (let z : Some row ≡ None = sym at ∙ get_or_past on place None b in absurd (cc))
    ] in
    let moved : count_by (is_on row) (set on place o) + bit (is_on row (get_or on place None)) ≡ count_by (is_on row) on + bit (is_on row o) = count-set (is_on row) on place o None below in
    let own : bit (is_on row (get_or on place None)) ≡ 1 = ap (λ (p : Option ℕ). bit (is_on row p)) at ∙ bit_true (row == row) (same_number row) in
    let same : count_by (is_on row) (set (set on place None) place o) ≡ count_by (is_on row) (set on place o) = ap (λ (xs : List (Option ℕ)). count_by (is_on row) xs) (set-set on place None o) in
    omega (arith, bit_false (is_on row o) other)
