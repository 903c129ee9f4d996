-- What holds of each entry, through entering, dropping and narrowing.
use Rattle.std.proofs.Common.{◌≡◌, ℕ, ◌<◌, Bool, true, false, List, length, set, map, replicate, Option, Some, None, refl, sym, ap, ◌∙◌, subst, arith, inl, inr}
use Rattle.std.specs.Prelude.{position}
use Rattle.std.specs.List.{position_or_len}
use Rattle.std.proofs.lemmas.Bool.{cases_eq, cases_lt, cases_Bool, cond_below, cond-true, cond-false}
use Rattle.std.proofs.lemmas.List.{get_or-set_same, get_or-set_other, get_or_past, get_or-map, length-map}
use Rattle.std.proofs.lemmas.List.Quantifiers.{position-Some}
use Rattle.vm_ids.proofs.Places.{same_all}
use Rattle.page_tables.specs.Entries.{is_for}
use Rattle.page_tables.specs.Translations.{entry_at, holds, seen_in, translation, unless}
use Rattle.page_tables.specs.declared.entry.Entry.{Entry}
use Rattle.page_tables.specs.declared.entry.Translation.{Translation}
use Rattle.page_tables.proofs.EntryPlaces.{for_parts}

-- each entry has a property
abbrev pub EachEntry : (Entry → Type 0) → List (Option Entry) → Type 0
EachEntry P places = (place : ℕ) (e : Entry) → entry_at places place ≡ Some e → P e

none_some : {X : Type 0} {o : Option X} (x : X) → o ≡ None → o ≡ Some x → ⊥
none_some x p q = let z : None ≡ Some x = sym p ∙ q in absurd (cc)

pub each-empty : (P : Entry → Type 0) (count : ℕ) → EachEntry P (replicate count None)
each-empty P count place e is = absurd (none_some e (same_all count None place) is)

pub each-entered : (P : Entry → Type 0) (places : List (Option Entry)) (place : ℕ) (new : Entry) → place < length places → EachEntry P places → P new → EachEntry P (set places place (Some new))
each-entered P places place new below each is_new n e is = elim (cases_eq n place) [
  | inr other ↦ each n e (sym (get_or-set_other places place n (Some new) None other) ∙ is)
  | inl same ↦ (
      let at : Some new ≡ Some e = sym (get_or-set_same places place (Some new) None below) ∙ ap (entry_at (set places place (Some new))) (sym same) ∙ is in
      let own : new ≡ e = cc in
      subst P own is_new)
]

-- an element of a mapped list is that of an element
mapped_at : (f : Option Entry → Option Entry) (places : List (Option Entry)) (place : ℕ) (e : Entry) → entry_at (map f places) place ≡ Some e → f (entry_at places place) ≡ Some e
mapped_at f places place e is = elim (cases_lt place (length places)) [
  | inl b ↦ sym (get_or-map f places place None None b) ∙ is
  | inr b ↦ absurd (none_some e (get_or_past (map f places) place None (omega (arith, length-map places f))) is)
]

-- what is left does not pass the test, and is as it was
pub each-unless : (P : Entry → Type 0) (test : Entry → Bool) (places : List (Option Entry)) → EachEntry P places → EachEntry (λ e. P e × (test e ≡ false)) (map (unless test) places)
each-unless P test places each place e is = left (entry_at places place) (each place) (mapped_at (unless test) places place e is) where
  left : (o : Option Entry) → ((x : Entry) → o ≡ Some x → P x) → unless test o ≡ Some e → P e × (test e ≡ false)
  left None has at = absurd (cc)
  left (Some x) has at = elim (cases_Bool (test x)) [
    | inl t ↦ absurd (none_some e (cond-true (test x) None (Some x) t) at)
    | inr f ↦ (
        let same : Some x ≡ Some e = sym (cond-false (test x) None (Some x) f) ∙ at in
        let own : x ≡ e = cc in
        (has e same, ap test (sym own) ∙ f))
  ]

-- what is seen at a page is that of an entry for it
pub seen_entry : (P : Entry → Type 0) (places : List (Option Entry)) (actor page : ℕ) (t : Translation) → EachEntry P places → translation places actor page ≡ Some t → (e : Entry) × (e.actor.0 ≡ actor) × (e.page ≡ page) × (e.to ≡ t) × P e
seen_entry P places actor page t each seen = elim (cases_lt n (length places)) [
  | inr past ↦ absurd (none_some t (ap seen_in (get_or_past places n None past)) seen)
  | inl below ↦ (
      let at : position test places ≡ Some n = sym (cond_below n (length places) (Some n) None below) in
      let p = position-Some test places n None at in
      found (entry_at places n) (each n) p.1 seen)
] where
  test : Option Entry → Bool
  test = holds (is_for actor page)

  n : ℕ
  n = position_or_len test places

  found : (o : Option Entry) → ((x : Entry) → o ≡ Some x → P x) → holds (is_for actor page) o ≡ true → seen_in o ≡ Some t → (e : Entry) × (e.actor.0 ≡ actor) × (e.page ≡ page) × (e.to ≡ t) × P e
  found None has h s = absurd (cc)
  found (Some x) has h s =
      let q = for_parts x actor page h in
      let same : x.to ≡ t = cc in
      (x, q.0, q.1, same, has x (refl))
