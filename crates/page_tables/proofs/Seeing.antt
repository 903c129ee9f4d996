-- What is seen at a page, by the place of its entry.
use Rattle.std.proofs.Common.{◌≡◌, ◌≢◌, ℕ, suc, [], ◌∷◌, ◌+◌, ◌<◌, ◌≤◌, ◌==◌, true, List, length, get_or, set, Option, Some, None, refl, sym, ap, ◌∙◌, arith, inl, inr, length-set}
use Rattle.std.specs.Prelude.{count_by, IfSome, position, is_some}
use Rattle.std.specs.List.{position_or_len}
use Rattle.std.proofs.lemmas.Bool.{cases_lt, cond_below}
use Rattle.std.proofs.lemmas.List.{get_or-set_same, get_or_past}
use Rattle.std.proofs.lemmas.List.Quantifiers.{position-Some}
use Rattle.vm_ids.proofs.Places.{bit, bit_true, bit-le, count_cons, count-set, count_some, only_place, same_number}
use Rattle.std.proofs.lemmas.Bool.{and_from}
use Rattle.page_tables.specs.Entries.{is_for}
use Rattle.page_tables.specs.Translations.{entry_at, entries_for, holds, seen_in, translation, IsPlaceFor}
use Rattle.page_tables.specs.declared.entry.Entry.{Entry}
use Rattle.page_tables.proofs.EntryPlaces.{one_more}

pub held_once : (places : List (Option Entry)) (actor page place : ℕ) → entries_for places actor page ≤ 1 → place < length places → holds (is_for actor page) (entry_at places place) ≡ true → entries_for places actor page ≡ 1
held_once places actor page place once below h =
    let some : 1 ≤ entries_for places actor page = count_some (holds (is_for actor page)) places place None below h in
    omega arith

pub seen_at : (places : List (Option Entry)) (actor page place : ℕ) → entries_for places actor page ≤ 1 → place < length places → holds (is_for actor page) (entry_at places place) ≡ true → translation places actor page ≡ seen_in (entry_at places place)
seen_at places actor page place once below h =
    ap (λ (n : ℕ). seen_in (entry_at places n)) (only_place (holds (is_for actor page)) places place None (held_once places actor page place once below h) below h)

pub none_seen : (places : List (Option Entry)) (actor page : ℕ) → entries_for places actor page ≡ 0 → translation places actor page ≡ None
none_seen places actor page none = elim (cases_lt (position_or_len (holds (is_for actor page)) places) (length places)) [
  | inr past ↦ ap seen_in (get_or_past places (position_or_len (holds (is_for actor page)) places) None past)
  | inl below ↦ (
      let test : Option Entry → _ = holds (is_for actor page) in
      let n : ℕ = position_or_len test places in
      let at : position test places ≡ Some n = sym (cond_below n (length places) (Some n) None below) in
      let p = position-Some test places n None at in
      absurd (omega (arith, count_some test places n None p.0 p.1)))
]

-- once its place is emptied, a page has no entry
pub emptied : (places : List (Option Entry)) (actor page place : ℕ) → entries_for places actor page ≤ 1 → place < length places → holds (is_for actor page) (entry_at places place) ≡ true → entries_for (set places place None) actor page ≡ 0
emptied places actor page place once below h =
    let t : Option Entry → _ = holds (is_for actor page) in
    let moved : count_by t (set places place None) + bit (t (get_or places place None)) ≡ count_by t places + 0 = count-set t places place None None below in
    omega (arith, bit_true (t (get_or places place None)) h)

-- no place has an entry for a page, so none has one after a place is emptied
pub still_none : (places : List (Option Entry)) (actor page place : ℕ) → entries_for places actor page ≡ 0 → place < length places → entries_for (set places place None) actor page ≡ 0
still_none places actor page place none below =
    let t : Option Entry → _ = holds (is_for actor page) in
    let moved : count_by t (set places place None) + bit (t (get_or places place None)) ≡ count_by t places + 0 = count-set t places place None None below in
    omega arith

-- the entry at a place, once it is put there for its page
pub own_page : (e : Entry) → is_for e.actor.0 e.page e ≡ true
own_page e = and_from (e.actor.0 == e.actor.0) (e.page == e.page) (same_number e.actor.0) (same_number e.page)

pub entered_seen : (places : List (Option Entry)) (place : ℕ) (e : Entry) → place < length places → entries_for (set places place None) e.actor.0 e.page ≡ 0 → translation (set places place (Some e)) e.actor.0 e.page ≡ Some e.to
entered_seen places place e below none =
    let new : List (Option Entry) = set places place (Some e) in
    let at : entry_at new place ≡ Some e = get_or-set_same places place (Some e) None below in
    let within : place < length new = omega (arith, length-set places place (Some e)) in
    let one : entries_for new e.actor.0 e.page ≤ 1 = omega (arith, one_more places place (Some e) e.actor.0 e.page below, bit-le (is_for e.actor.0 e.page e)) in
    seen_at new e.actor.0 e.page place one within (ap (holds (is_for e.actor.0 e.page)) at ∙ own_page e) ∙ ap seen_in at

-- no other place has an entry for the page of the one that stands here
pub alone_at : (places : List (Option Entry)) (place : ℕ) → ((actor page : ℕ) → entries_for places actor page ≤ 1) → place < length places → (o : Option Entry) → entry_at places place ≡ o → IfSome o (λ e. entries_for (set places place None) e.actor.0 e.page ≡ 0)
alone_at places place once below None at = tt
alone_at places place once below (Some e) at = emptied places e.actor.0 e.page place (once e.actor.0 e.page) below (ap (holds (is_for e.actor.0 e.page)) at ∙ own_page e)

-- where each place has an entry, there are as many as places
pub all_held : (places : List (Option Entry)) → ((place : ℕ) → place < length places → entry_at places place ≢ None) → count_by is_some places ≡ length places
all_held [] h = refl
all_held (None ∷ xs) h = absurd (h 0 (omega arith) refl)
all_held (Some e ∷ xs) h = omega (arith, count_cons is_some (Some e) xs, all_held xs (λ i b. h (suc i) (omega arith)))

-- any place will do where none is for the page and none is empty
pub any_place : (places : List (Option Entry)) (actor page place : ℕ) → place < length places → entries_for places actor page ≡ 0 → ((n : ℕ) → n < length places → entry_at places n ≢ None) → IsPlaceFor places actor page place
any_place places actor page place below none full = record {
  below = below;
  own = λ some. absurd (omega arith);
  empty = λ _ few. absurd (omega (arith, few, all_held places full));
}
