-- Entries are dropped, or made read-only, one after another until none is left that passes the
-- test.
use Rattle.std.proofs.Common.{◌≡◌, ℕ, suc, ◌+◌, ◌<◌, ◌≤◌, ◌==◌, ◌&&◌, Bool, true, false, List, [], ◌∷◌, length, set, map, Option, Some, None, refl, sym, ap, ◌∙◌, arith, inl, inr}
use Rattle.std.specs.Prelude.{count_by, nat_le, nat_lt}
use Rattle.std.proofs.Math.Seq.{map-set_same}
use Rattle.std.proofs.lemmas.Bool.{cases_eq, cases_lt, cases_Bool, and_parts, and_from, cond-true, cond-false}
use Rattle.std.proofs.lemmas.Bool.Decides.{nat_tests}
use Rattle.std.proofs.lemmas.List.{get_or_past}
use Rattle.vm_ids.proofs.Places.{none_passes, same_number}
use Rattle.page_tables.specs.Entries.{is_for, is_in_frame, is_in_range, is_of_actor, is_between, leads_to, read_only}
use Rattle.page_tables.specs.Translations.{entry_at, entries_for, holds, unless, narrowed, read_only_at}
use Rattle.page_tables.specs.declared.entry.Entry.{Entry}
use Rattle.page_tables.proofs.EntryPlaces.{equal_from, for_parts}
use Rattle.page_tables.proofs.Seeing.{emptied}

unless-drops : (test : Entry → Bool) (o : Option Entry) → holds test o ≡ true → None ≡ unless test o
unless-drops test None h = refl
unless-drops test (Some e) h = sym (cond-true (test e) None (Some e) h)

unless-keeps : (test : Entry → Bool) (o : Option Entry) → holds test o ≡ false → unless test o ≡ o
unless-keeps test None h = refl
unless-keeps test (Some e) h = cond-false (test e) None (Some e) h

-- one of those that are to go is gone
pub one_dropped : (test : Entry → Bool) (places : List (Option Entry)) (place : ℕ) → holds test (entry_at places place) ≡ true → map (unless test) (set places place None) ≡ map (unless test) places
one_dropped test places place h = map-set_same (unless test) places place None None (unless-drops test (entry_at places place) h)

-- none is left that is to go
pub none_left : (test : Entry → Bool) (places : List (Option Entry)) → ((place : ℕ) → holds test (entry_at places place) ≡ false) → map (unless test) places ≡ places
none_left test [] h = refl
none_left test (x ∷ xs) h =
    ap (λ (o : Option Entry). o ∷ map (unless test) xs) (unless-keeps test x (h 0)) ∙ ap (λ (ys : List (Option Entry)). x ∷ ys) (none_left test xs (λ i. h (suc i)))

-- where none is counted, none is held
pub no_more : (places : List (Option Entry)) (test : Entry → Bool) → count_by (holds test) places ≡ 0 → (place : ℕ) → holds test (entry_at places place) ≡ false
no_more places test none place = elim (cases_lt place (length places)) [
  | inl b ↦ none_passes (holds test) places place None b none
  | inr b ↦ ap (holds test) (get_or_past places place None b)
]

-- the entry of a page is the only one that goes with the page
pub page_dropped : (places : List (Option Entry)) (actor page place : ℕ) → entries_for places actor page ≤ 1 → place < length places → holds (is_for actor page) (entry_at places place) ≡ true → set places place None ≡ map (unless (is_for actor page)) places
page_dropped places actor page place once below h =
    sym (none_left (is_for actor page) (set places place None) (no_more (set places place None) (is_for actor page) (emptied places actor page place once below h))) ∙ one_dropped (is_for actor page) places place h

range_parts : (e : Entry) (actor first pages : ℕ) → is_in_range actor first pages e ≡ true → (first ≤ e.page) × (e.page < first + pages) × (e.actor.0 ≡ actor)
range_parts e actor first pages h =
    let p = and_parts (is_between first pages e.page) (is_of_actor actor e) h in
    let q = and_parts (nat_le first e.page) (nat_lt e.page (first + pages)) p.0 in
    (grind (arith, nat_tests, q.0), grind (arith, nat_tests, q.1), equal_from e.actor.0 actor p.1)

range_from : (e : Entry) (actor first pages : ℕ) → first ≤ e.page → e.page < first + pages → e.actor.0 ≡ actor → is_in_range actor first pages e ≡ true
range_from e actor first pages h k s =
    and_from (is_between first pages e.page) (is_of_actor actor e) (and_from (nat_le first e.page) (nat_lt e.page (first + pages)) (grind (arith, nat_tests)) (grind (arith, nat_tests))) (ap (λ (n : ℕ). n == actor) s ∙ same_number actor)

-- one page more
unless-one_more : (actor first pages : ℕ) (o : Option Entry) → unless (is_for actor (first + pages)) (unless (is_in_range actor first pages) o) ≡ unless (is_in_range actor first (pages + 1)) o
unless-one_more actor first pages None = refl
unless-one_more actor first pages (Some e) = elim (cases_Bool (is_in_range actor first pages e)) [
  | inl t ↦ (
      let p = range_parts e actor first pages t in
      ap (unless (is_for actor (first + pages))) (sym (unless-drops (is_in_range actor first pages) (Some e) t))
      ∙ unless-drops (is_in_range actor first (pages + 1)) (Some e) (range_from e actor first (pages + 1) p.0 (omega (arith, p.1)) p.2))
  | inr f ↦ ap (unless (is_for actor (first + pages))) (unless-keeps (is_in_range actor first pages) (Some e) f) ∙ elim (cases_Bool (is_for actor (first + pages) e)) [
    | inl t ↦ (
        let p = for_parts e actor (first + pages) t in
        sym (unless-drops (is_for actor (first + pages)) (Some e) t) ∙ unless-drops (is_in_range actor first (pages + 1)) (Some e) (range_from e actor first (pages + 1) (omega (arith, p.1)) (omega (arith, p.1)) p.0))
    | inr g ↦ unless-keeps (is_for actor (first + pages)) (Some e) g ∙ sym (unless-keeps (is_in_range actor first (pages + 1)) (Some e) (neither e actor first pages f g (is_in_range actor first (pages + 1) e) refl))
  ]
] where
  neither : (n : Entry) (a b k : ℕ) → is_in_range a b k n ≡ false → is_for a (b + k) n ≡ false → (r : Bool) → is_in_range a b (k + 1) n ≡ r → is_in_range a b (k + 1) n ≡ false
  neither n a b k out other false e1 = e1
  neither n a b k out other true e1 =
      let p = range_parts n a b (k + 1) e1 in
      elim (cases_eq n.page (b + k)) [
        | inl same ↦ (let z : false ≡ true = sym other ∙ and_from (n.actor.0 == a) (n.page == (b + k)) (ap (λ (m : ℕ). m == a) p.2 ∙ same_number a) (ap (λ (m : ℕ). m == (b + k)) same ∙ same_number (b + k)) in absurd (cc))
        | inr differ ↦ (let z : false ≡ true = sym out ∙ range_from n a b k p.0 (omega (arith, p.1, differ)) p.2 in absurd (cc))
      ]

pub range-one_more : (actor first pages : ℕ) (places : List (Option Entry)) → map (unless (is_for actor (first + pages))) (map (unless (is_in_range actor first pages)) places) ≡ map (unless (is_in_range actor first (pages + 1))) places
range-one_more actor first pages [] = refl
range-one_more actor first pages (x ∷ xs) =
    ap (λ (o : Option Entry). o ∷ map (unless (is_for actor (first + pages))) (map (unless (is_in_range actor first pages)) xs)) (unless-one_more actor first pages x)
    ∙ ap (λ (ys : List (Option Entry)). unless (is_in_range actor first (pages + 1)) x ∷ ys) (range-one_more actor first pages xs)

pub range-none : (actor first : ℕ) (places : List (Option Entry)) → map (unless (is_in_range actor first 0)) places ≡ places
range-none actor first places = none_left (is_in_range actor first 0) places (λ place. outside (entry_at places place)) where
  outside : (o : Option Entry) → holds (is_in_range actor first 0) o ≡ false
  outside None = refl
  outside (Some e) = elim (cases_Bool (is_in_range actor first 0 e)) [
    | inr f ↦ f
    | inl t ↦ (let p = range_parts e actor first 0 t in absurd (omega (arith, p.0, p.1)))
  ]

-- an entry of a frame that is read-only is as it is once its frame is narrowed
narrow_again : (frame : ℕ) (o : Option Entry) → holds (leads_to frame true) o ≡ true → narrowed frame (read_only_at o) ≡ narrowed frame o
narrow_again frame None h = refl
narrow_again frame (Some e) h =
    let t : is_in_frame frame e ≡ true = (and_parts (is_in_frame frame e) e.to.writable h).0 in
    ap (λ (x : Entry). Some x) (cond-true (is_in_frame frame e) (read_only e) (read_only e) t ∙ sym (cond-true (is_in_frame frame e) (read_only e) e t))

pub one_narrowed : (frame : ℕ) (places : List (Option Entry)) (place : ℕ) → holds (leads_to frame true) (entry_at places place) ≡ true → map (narrowed frame) (set places place (read_only_at (entry_at places place))) ≡ map (narrowed frame) places
one_narrowed frame places place h = map-set_same (narrowed frame) places place (read_only_at (entry_at places place)) None (narrow_again frame (entry_at places place) h)

narrowed-keeps : (frame : ℕ) (o : Option Entry) → holds (leads_to frame true) o ≡ false → narrowed frame o ≡ o
narrowed-keeps frame None h = refl
narrowed-keeps frame (Some e) h = elim (cases_Bool (is_in_frame frame e)) [
  | inr f ↦ ap (λ (x : Entry). Some x) (cond-false (is_in_frame frame e) (read_only e) e f)
  | inl t ↦ (
      let w : e.to.writable ≡ false = not_writable (is_in_frame frame e) e.to.writable t h in
      ap (λ (x : Entry). Some x) (cond-true (is_in_frame frame e) (read_only e) e t ∙ sym (ap (λ (b : Bool). let x : Entry = record e { to = record e.to { writable = b } } in x) w)))
] where
  not_writable : (a b : Bool) → a ≡ true → (a && b) ≡ false → b ≡ false
  not_writable true b x y = y
  not_writable false b x y = absurd (cc)

pub none_writable : (frame : ℕ) (places : List (Option Entry)) → ((place : ℕ) → holds (leads_to frame true) (entry_at places place) ≡ false) → map (narrowed frame) places ≡ places
none_writable frame [] h = refl
none_writable frame (x ∷ xs) h =
    ap (λ (o : Option Entry). o ∷ map (narrowed frame) xs) (narrowed-keeps frame x (h 0)) ∙ ap (λ (ys : List (Option Entry)). x ∷ ys) (none_writable frame xs (λ i. h (suc i)))
