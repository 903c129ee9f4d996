-- A change of one entry of a leaf is that change of the whole list.
use Rattle.std.proofs.Common.{◌≡◌, ℕ, zero, suc, ◌+◌, ◌-◌, ◌<◌, ◌≤◌, List, [], ◌∷◌, ◌++◌, length, get_or, set, refl, sym, ap, ◌∙◌, arith}
use Rattle.std.specs.List.{insert, remove}
use Rattle.std.proofs.lemmas.List.{get_or_append_left, get_or-append-add, set-append_left, set-append_right}
use Rattle.std.proofs.lemmas.List.Edits.{insert-append_left, insert-append_right, remove-append_left, remove-append_right}
use Rattle.stretches.specs.Leaves.{flat}
use Rattle.stretches.specs.Spots.{index_at}

module _ {X : Type 0} where
  past : (l : List X) (i : ℕ) → (length l + i) - length l ≡ i
  past l i = omega arith

  pub get_flat : (ls : List (List X)) (j k : ℕ) (d : X) → j < length ls → k < length (get_or ls j []) → get_or (flat ls) (index_at ls j k) d ≡ get_or (get_or ls j []) k d
  get_flat [] j k d less within = absurd (omega arith)
  get_flat (l ∷ ls) zero k d less within = get_or_append_left l (flat ls) d k within
  get_flat (l ∷ ls) (suc j) k d less within = get_or-append-add l (flat ls) (index_at ls j k) d ∙ get_flat ls j k d (omega arith) within

  pub set_flat : (ls : List (List X)) (j k : ℕ) (x : X) → j < length ls → k < length (get_or ls j []) → flat (set ls j (set (get_or ls j []) k x)) ≡ set (flat ls) (index_at ls j k) x
  set_flat [] j k x less within = absurd (omega arith)
  set_flat (l ∷ ls) zero k x less within = sym (set-append_left l (flat ls) k x within)
  set_flat (l ∷ ls) (suc j) k x less within =
      let i = index_at ls j k in
      ap (λ (q : List X). l ++ q) (set_flat ls j k x (omega arith) within)
      ∙ sym (set-append_right l (flat ls) (length l) (length l + i) x refl (omega arith) ∙ ap (λ (q : ℕ). l ++ set (flat ls) q x) (past l i))

  pub insert_flat : (ls : List (List X)) (j k : ℕ) (x : X) → j < length ls → k ≤ length (get_or ls j []) → flat (set ls j (insert (get_or ls j []) k x)) ≡ insert (flat ls) (index_at ls j k) x
  insert_flat [] j k x less within = absurd (omega arith)
  insert_flat (l ∷ ls) zero k x less within = sym (insert-append_left l (flat ls) k x within)
  insert_flat (l ∷ ls) (suc j) k x less within =
      let i = index_at ls j k in
      ap (λ (q : List X). l ++ q) (insert_flat ls j k x (omega arith) within)
      ∙ sym (insert-append_right l (flat ls) (length l) (length l + i) x refl (omega arith) ∙ ap (λ (q : ℕ). l ++ insert (flat ls) q x) (past l i))

  pub remove_flat : (ls : List (List X)) (j k : ℕ) → j < length ls → k < length (get_or ls j []) → flat (set ls j (remove (get_or ls j []) k)) ≡ remove (flat ls) (index_at ls j k)
  remove_flat [] j k less within = absurd (omega arith)
  remove_flat (l ∷ ls) zero k less within = sym (remove-append_left l (flat ls) k within)
  remove_flat (l ∷ ls) (suc j) k less within =
      let i = index_at ls j k in
      ap (λ (q : List X). l ++ q) (remove_flat ls j k (omega arith) within)
      ∙ sym (remove-append_right l (flat ls) (length l) (length l + i) refl (omega arith) ∙ ap (λ (q : ℕ). l ++ remove (flat ls) q) (past l i))

  -- what is read where an entry stands hangs on no default
  pub any_entry : (xs : List X) (k : ℕ) (d e : X) → k < length xs → get_or xs k d ≡ get_or xs k e
  any_entry [] k d e less = absurd (omega arith)
  any_entry (x ∷ xs) zero d e less = refl
  any_entry (x ∷ xs) (suc k) d e less = any_entry xs k d e (omega arith)

  -- no leaf has no entry
  pub flat_none : (ls : List (List X)) → length ls ≡ 0 → length (flat ls) ≡ 0
  flat_none [] none = refl
  flat_none (l ∷ ls) none = absurd (omega arith)
