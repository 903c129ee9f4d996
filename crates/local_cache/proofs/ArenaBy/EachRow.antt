-- What holds of each row, after one row was changed, taken away or added.
use Rattle.std.proofs.Common.{◌≡◌, ℕ, zero, suc, false, true, List, [], ◌∷◌, ◌++◌, length-set, get_or, set, Option, Some, None, option_map, refl, ap, sym, subst, ◌∙◌, inl, inr}
use Rattle.std.specs.Prelude.{◌⊎◌}
use Rattle.std.proofs.lemmas.Bool.{cases_eq}
use Rattle.std.proofs.lemmas.List.{length-replicate}
use Rattle.std.proofs.lemmas.Option.{none-some, same_Some}
use Rattle.vm_ids.specs.declared.numbers.SegId.{SegId}
use Rattle.local_cache.specs.ArenaBy.{CacheRow}
use Rattle.local_cache.specs.Placed.{EachRow, IsFull}
use Rattle.local_cache.specs.RowChanges.{new_row, row_granting, row_locking, rows_changed, rows_without}
use Rattle.local_cache.proofs.Tables.Listing.{read_other, read_set}

some_map : (f : CacheRow → CacheRow) (o : Option CacheRow) (r : CacheRow) → option_map f o ≡ Some r
    → (s : CacheRow) × (o ≡ Some s) × (f s ≡ r)
some_map f None r e = absurd (none-some r e)
some_map f (Some s) r e = (s, refl, same_Some (f s) r e)

none_set : (rows : List (Option CacheRow)) (k : ℕ) → get_or (set rows k None) k None ≡ None
none_set [] k = refl
none_set (r ∷ rows) zero = refl
none_set (r ∷ rows) (suc k) = none_set rows k

get_back : (r : CacheRow) (rows : List (Option CacheRow)) (k : ℕ) (s : CacheRow)
    → get_or (rows ++ Some r ∷ []) k None ≡ Some s → (get_or rows k None ≡ Some s) ⊎ (r ≡ s)
get_back r [] zero s is = inr (same_Some r s is)
get_back r [] (suc k) s is = inl is
get_back r (o ∷ rows) zero s is = inl is
get_back r (o ∷ rows) (suc k) s is = get_back r rows k s is

module _ (P : CacheRow → Type 0) where
  pub each_changed : (change : CacheRow → CacheRow) → ((r : CacheRow) → P r → P (change r))
      → (rows : List (Option CacheRow)) (cache : ℕ) → EachRow P rows
      → EachRow P (rows_changed rows cache change)
  each_changed change keeps rows zero each j r is = each j r is
  each_changed change keeps rows (suc k) each j r is = elim (cases_eq j k) [
    | inl e ↦
        let now = set rows k (option_map change (get_or rows k None)) in
        let s = some_map change (get_or rows k None) r
        (sym (ap (λ (i : ℕ). get_or now i None) e ∙ read_set rows k change) ∙ is) in
        subst P s.2 (keeps s.0 (each k s.0 s.1))
    | inr apart ↦ each j r (sym (read_other rows k j (option_map change (get_or rows k None)) apart) ∙ is)
  ]

  pub each_left : (rows : List (Option CacheRow)) (cache : ℕ) → EachRow P rows
      → EachRow P (rows_without rows cache)
  each_left rows zero each j r is = each j r is
  each_left rows (suc k) each j r is = elim (cases_eq j k) [
    | inl e ↦ absurd (none-some r (sym (ap (λ (i : ℕ). get_or (set rows k None) i None) e ∙ none_set rows k) ∙ is))
    | inr apart ↦ each j r (sym (read_other rows k j None apart) ∙ is)
  ]

  pub each_more : (r : CacheRow) → P r → (rows : List (Option CacheRow)) → EachRow P rows
      → EachRow P (rows ++ Some r ∷ [])
  each_more r new rows each k s is = elim (get_back r rows k s is) [
    | inl old ↦ each k s old
    | inr same ↦ subst P same new
  ]

-- Grants and locks for all pages

pub full_new : (segment : Option SegId) (pages : ℕ) → IsFull (new_row segment pages)
full_new segment pages =
    record { grants = length-replicate pages false; locks = length-replicate {A = ℕ} pages 0 }

pub full_granting : (page : ℕ) (r : CacheRow) → IsFull r → IsFull (row_granting page r)
full_granting page r full =
    record { grants = length-set r.grants page true ∙ full.grants; locks = full.locks }

pub full_locking : (page count : ℕ) (r : CacheRow) → IsFull r → IsFull (row_locking page count r)
full_locking page count r full =
    record { grants = full.grants; locks = length-set r.locks page count ∙ full.locks }
