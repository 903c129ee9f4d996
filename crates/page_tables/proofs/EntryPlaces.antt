-- Places by what they are found by: the index, the lists of frames and of the empty ones.
use Rattle.std.proofs.Common.{◌≡◌, ◌≢◌, ℕ, suc, ◌+◌, ◌*◌, ◌<◌, ◌≤◌, ◌^◌, ◌==◌, ◌&&◌, Bool, true, false, List, [], ◌∷◌, replicate, length, get_or, set, map, Option, Some, None, refl, sym, ap, ◌∙◌, arith, inl, inr, length-set}
use Rattle.std.specs.Prelude.{count_by, MatchOption, IfSome, IfNone, if◌then◌else◌, not}
use Rattle.std.proofs.lemmas.Bool.{cases_lt, cases_Bool, and_parts, and_from}
use Rattle.std.proofs.lemmas.Bool.Decides.{Decides-eqb}
use Rattle.std.proofs.lemmas.List.{get_or-set_same, get_or_past, map-set, get_or-map, length-map, set-set, length-replicate}
use Rattle.vm_ids.proofs.Places.{bit, bit_false, bit-le, count-set, count_cons, same_number, count-replicate_none}
use Rattle.probe_table.specs.Entries.{hash_of}
use Rattle.probe_table.specs.Hashes.{hash_of_pair}
use Rattle.page_tables.specs.Entries.{frame_row, is_for, leads_to}
use Rattle.page_tables.specs.Indexes.{place_hash, place_list, listed_at, IsIndexed}
use Rattle.page_tables.specs.Membership.{Membership, list_of}
use Rattle.page_tables.specs.Translations.{entry_at, entries_for, holds}
use Rattle.page_tables.specs.declared.entry.Entry.{Entry}
use Rattle.page_tables.proofs.LinkReads.{map-replicate}

-- where no place passes, the count is 0
pub none_holds : (test : Entry → Bool) (places : List (Option Entry)) → ((place : ℕ) → place < length places → holds test (entry_at places place) ≡ false) → count_by (holds test) places ≡ 0
none_holds test [] h = refl
none_holds test (x ∷ xs) h =
    omega (arith, count_cons (holds test) x xs, bit_false (holds test x) (h 0 (omega arith)), none_holds test xs (λ i b. h (suc i) (omega arith)))

pub equal_from : (a b : ℕ) → (a == b) ≡ true → a ≡ b
equal_from a b e = (Decides-eqb a b).0 e

pub for_parts : (e : Entry) (actor page : ℕ) → is_for actor page e ≡ true → (e.actor.0 ≡ actor) × (e.page ≡ page)
for_parts e actor page h =
    let p = and_parts (e.actor.0 == actor) (e.page == page) h in
    (equal_from e.actor.0 actor p.0, equal_from e.page page p.1)

-- an entry for a page of an actor is entered under the hash of both
pub hashed : (o : Option Entry) (actor page : ℕ) → holds (is_for actor page) o ≡ true → place_hash o ≡ Some (hash_of_pair actor page)
hashed None actor page h = absurd (cc)
hashed (Some e) actor page h =
    let p = for_parts e actor page h in
    ap (λ (n : ℕ). Some (hash_of_pair n e.page)) p.0 ∙ ap (λ (n : ℕ). Some (hash_of_pair actor n)) p.1

pub indexed_at : (places : List (Option Entry)) (index : List (Option ℕ)) → index ≡ map place_hash places → (place : ℕ) → place < length places → hash_of index place ≡ place_hash (entry_at places place)
indexed_at places index e place h = ap (λ (xs : List (Option ℕ)). hash_of xs place) e ∙ get_or-map place_hash places place None None h

-- what a search of the index says of the places
pub find_place : (places : List (Option Entry)) (index : List (Option ℕ)) (lists : Membership) (actor page hash : ℕ) (PT PF : ℕ → Type 0) → IsIndexed places index lists → hash ≡ hash_of_pair actor page → (r : Option ℕ) → IfSome r (λ n. n < length index) → IfSome r PT → IfNone r ((n : ℕ) → hash_of index n ≡ Some hash → PF n) → ((n : ℕ) → n < length places → PT n → holds (is_for actor page) (entry_at places n) ≡ true) → ((n : ℕ) → n < length places → PF n → holds (is_for actor page) (entry_at places n) ≡ false) → MatchOption r (entries_for places actor page ≡ 0) (λ place. (place < length places) × (holds (is_for actor page) (entry_at places place) ≡ true))
find_place places index lists actor page hash PT PF is h None below found absent passes fails =
    none_holds (is_for actor page) places (λ i w. elim (cases_Bool (holds (is_for actor page) (entry_at places i))) [
      | inr f ↦ f
      | inl t ↦ fails i w (absent i (indexed_at places index is.entered i w ∙ hashed (entry_at places i) actor page t ∙ ap (λ (n : ℕ). Some n) (sym h)))
    ])
find_place places index lists actor page hash PT PF is h (Some n) below found absent passes fails =
    let within : n < length places = omega (arith, below, ap (λ (xs : List (Option ℕ)). length xs) is.entered, length-map places place_hash) in
    (within, passes n within found)

pub list_at : (places : List (Option Entry)) (lists : Membership) → lists.on ≡ map listed_at places → (place : ℕ) → place < length places → list_of lists place ≡ Some (place_list (entry_at places place))
list_at places lists e place h = ap (λ (xs : List (Option ℕ)). get_or xs place None) e ∙ get_or-map listed_at places place None None h

pub on_list : (places : List (Option Entry)) (lists : Membership) → lists.on ≡ map listed_at places → (place k : ℕ) → list_of lists place ≡ Some k → (place < length places) × (place_list (entry_at places place) ≡ k)
on_list places lists e place k on = elim (cases_lt place (length places)) [
  | inl b ↦ (let at : list_of lists place ≡ Some (place_list (entry_at places place)) = list_at places lists e place b in
      let same : Some (place_list (entry_at places place)) ≡ Some k = sym at ∙ on in (b, cc))
  | inr b ↦ (let past : list_of lists place ≡ None = ap (λ (xs : List (Option ℕ)). get_or xs place None) e ∙ get_or_past (map listed_at places) place None (omega (arith, length-map places listed_at)) in
      let z : Some k ≡ None = sym on ∙ past in absurd (cc))
]

some_frame : (frame : ℕ) (writable : Bool) → frame_row frame writable ≡ 0 → ⊥
some_frame frame true e = omega arith
some_frame frame false e = omega arith

is_empty : (o : Option Entry) → place_list o ≡ 0 → o ≡ None
is_empty None e = refl
is_empty (Some entry) e = absurd (some_frame entry.to.frame.0 entry.to.writable e)

-- the first of the empty places
pub first_empty : (places : List (Option Entry)) (lists : Membership) → lists.on ≡ map listed_at places → (r : Option ℕ) → MatchOption r ((entry : ℕ) → list_of lists entry ≢ Some 0) (λ entry. list_of lists entry ≡ Some 0) → MatchOption r ((place : ℕ) → place < length places → entry_at places place ≢ None) (λ place. (place < length places) × (entry_at places place ≡ None))
first_empty places lists e None none = λ place below is. none place (list_at places lists e place below ∙ ap (λ (o : Option Entry). Some (place_list o)) is)
first_empty places lists e (Some n) some =
    let at = on_list places lists e n 0 some in
    (at.0, is_empty (entry_at places n) at.1)

leads : (f g : ℕ) (w v : Bool) → frame_row g v ≡ frame_row f w → ((g == f) && (if w then v else not v)) ≡ true
leads f g true true e = (let same : g ≡ f = omega arith in and_from (g == f) true (ap (λ (n : ℕ). n == f) same ∙ same_number f) refl)
leads f g true false e = absurd (omega arith)
leads f g false true e = absurd (omega arith)
leads f g false false e = (let same : g ≡ f = omega arith in and_from (g == f) true (ap (λ (n : ℕ). n == f) same ∙ same_number f) refl)

row_of : (f g : ℕ) (w v : Bool) → ((g == f) && (if w then v else not v)) ≡ true → frame_row g v ≡ frame_row f w
row_of f g true true e = ap (λ (n : ℕ). 2 + 2 * n) (equal_from g f ((and_parts (g == f) true e).0))
row_of f g true false e = (let z : false ≡ true = (and_parts (g == f) false e).1 in absurd (cc))
row_of f g false true e = (let z : false ≡ true = (and_parts (g == f) false e).1 in absurd (cc))
row_of f g false false e = ap (λ (n : ℕ). 1 + 2 * n) (equal_from g f ((and_parts (g == f) true e).0))

pub leads_by : (o : Option Entry) (frame : ℕ) (writable : Bool) → place_list o ≡ frame_row frame writable → holds (leads_to frame writable) o ≡ true
leads_by None frame writable e = absurd (some_frame frame writable (sym e))
leads_by (Some entry) frame writable e = leads frame entry.to.frame.0 writable entry.to.writable e

pub listed_by : (o : Option Entry) (frame : ℕ) (writable : Bool) → holds (leads_to frame writable) o ≡ true → place_list o ≡ frame_row frame writable
listed_by None frame writable e = absurd (cc)
listed_by (Some entry) frame writable e = row_of frame entry.to.frame.0 writable entry.to.writable e

-- a place that holds something is one of the places
pub held_below : (places : List (Option Entry)) (test : Entry → Bool) (place : ℕ) → holds test (entry_at places place) ≡ true → place < length places
held_below places test place h = elim (cases_lt place (length places)) [
  | inl b ↦ b
  | inr b ↦ (let past : false ≡ true = sym (ap (holds test) (get_or_past places place None b)) ∙ h in absurd (cc))
]

-- the first of a frame's places
pub first_leading : (places : List (Option Entry)) (lists : Membership) (frame : ℕ) (writable : Bool) → lists.on ≡ map listed_at places → (r : Option ℕ) → MatchOption r ((entry : ℕ) → list_of lists entry ≢ Some (frame_row frame writable)) (λ entry. list_of lists entry ≡ Some (frame_row frame writable)) → MatchOption r ((place : ℕ) → holds (leads_to frame writable) (entry_at places place) ≡ false) (λ place. (place < length places) × (holds (leads_to frame writable) (entry_at places place) ≡ true))
first_leading places lists frame writable e None none = λ place. elim (cases_Bool (holds (leads_to frame writable) (entry_at places place))) [
  | inr f ↦ f
  | inl t ↦ absurd (none place (list_at places lists e place (held_below places (leads_to frame writable) place t) ∙ ap (λ (n : ℕ). Some n) (listed_by (entry_at places place) frame writable t)))
]
first_leading places lists frame writable e (Some n) some =
    let at = on_list places lists e n (frame_row frame writable) some in
    (at.0, leads_by (entry_at places n) frame writable at.1)

-- once a place is emptied, there are no more entries for a page than before
fewer : (places : List (Option Entry)) (place actor page : ℕ) → place < length places → entries_for (set places place None) actor page ≤ entries_for places actor page
fewer places place actor page h =
    let t : Option Entry → Bool = holds (is_for actor page) in
    let moved : count_by t (set places place None) + bit (t (get_or places place None)) ≡ count_by t places + 0 = count-set t places place None None h in
    omega arith

pub one_more : (places : List (Option Entry)) (place : ℕ) (entry : Option Entry) (actor page : ℕ) → place < length places → entries_for (set places place entry) actor page ≡ entries_for (set places place None) actor page + bit (holds (is_for actor page) entry)
one_more places place entry actor page h =
    let t : Option Entry → Bool = holds (is_for actor page) in
    let emptied : List (Option Entry) = set places place None in
    let within : place < length emptied = omega (arith, length-set places place None) in
    let moved : count_by t (set emptied place entry) + bit (t (get_or emptied place None)) ≡ count_by t emptied + bit (t entry) = count-set t emptied place entry None within in
    let none : bit (t (get_or emptied place None)) ≡ 0 = ap (λ (o : Option Entry). bit (t o)) (get_or-set_same places place None None h) in
    ap (λ (xs : List (Option Entry)). count_by t xs) (sym (set-set places place None entry)) ∙ omega arith

still_once : (places : List (Option Entry)) (place : ℕ) (entry : Option Entry) (actor page : ℕ) → place < length places → entries_for places actor page ≤ 1 → IfSome entry (λ e. entries_for (set places place None) e.actor.0 e.page ≡ 0) → entries_for (set places place entry) actor page ≤ 1
still_once places place None actor page h once alone = omega (arith, fewer places place actor page h)
still_once places place (Some e) actor page h once alone = elim (cases_Bool (is_for actor page e)) [
  | inr f ↦ omega (arith, one_more places place (Some e) actor page h, bit_false (is_for actor page e) f, fewer places place actor page h)
  | inl t ↦ (
      let p = for_parts e actor page t in
      let none : entries_for (set places place None) actor page ≡ 0 = ap (λ (n : ℕ). entries_for (set places place None) n page) (sym p.0) ∙ ap (λ (n : ℕ). entries_for (set places place None) e.actor.0 n) (sym p.1) ∙ alone in
      omega (arith, one_more places place (Some e) actor page h, bit-le (is_for actor page e)))
]

-- the index and the lists once a place has another entry, or none
pub put_indexed : (places : List (Option Entry)) (index : List (Option ℕ)) (lists : Membership) (place : ℕ) (entry : Option Entry) → IsIndexed places index lists → place < length places → IfSome entry (λ e. entries_for (set places place None) e.actor.0 e.page ≡ 0) → IsIndexed (set places place entry) (set (set index place None) place (place_hash entry)) (record { lists = lists.lists; on = set (set lists.on place None) place (Some (place_list entry)) })
put_indexed places index lists place entry is h alone = record {
  few = omega (arith, is.few, length-set places place entry);
  once = λ actor page. still_once places place entry actor page h (is.once actor page) alone;
  entered = set-set index place None (place_hash entry) ∙ ap (λ (xs : List (Option ℕ)). set xs place (place_hash entry)) is.entered ∙ sym (map-set place_hash places place entry);
  room = omega (arith, is.room, length-set places place entry);
  on_lists = set-set lists.on place None (Some (place_list entry)) ∙ ap (λ (xs : List (Option ℕ)). set xs place (Some (place_list entry))) is.on_lists ∙ sym (map-set listed_at places place entry);
}

-- where all places are empty
pub empty_places : (frames : ℕ) → frames ≤ 2 ^ 16
    → IsIndexed (replicate (4 * frames) None) (replicate (4 * frames) None) (record { lists = 2 * frames + 1; on = replicate (4 * frames) (Some 0) })
empty_places frames few =
    let none : Option Entry = None in
    record {
      few = omega (arith, length-replicate (4 * frames) none);
      once = λ actor page. omega (arith, count-replicate_none (holds (is_for actor page)) (4 * frames) none refl);
      entered = sym (map-replicate place_hash (4 * frames) None);
      room = omega (arith, length-replicate (4 * frames) none);
      on_lists = sym (map-replicate listed_at (4 * frames) None);
    }
