-- Which pages are locked, found by going through the actors and their regions.
use Rattle.std.proofs.Common.{◌≡◌, ℕ, zero, suc, ◌+◌, ◌-◌, ◌<◌, Bool, true, false, List, [], ◌∷◌, length, drop, get_or, Option, Some, None, refl, sym, ap, ◌∙◌, arith}
use Rattle.std.specs.Prelude.{◌||◌, option_and_then, option_map, slice_get}
use Rattle.std.specs.List.{list_any}
use Rattle.std.proofs.lemmas.Option.{slice_get-get_or}
use Rattle.vm_model.specs.Machine.{numbered}
use Rattle.vm_model.proofs.Parts.ListParts.{at_some}

module _ {A : Type 0} (f : A → Bool) where
  -- it holds of the next
  pub any_here : (xs : List A) (k : ℕ) (x : A) → slice_get xs k ≡ Some x → f x ≡ true → list_any f (drop k xs) ≡ true
  any_here [] k x e t = absurd (cc e)
  any_here (y ∷ xs) zero x e t = let same : y ≡ x = cc e in ap (λ b. b || list_any f xs) (ap f same ∙ t)
  any_here (y ∷ xs) (suc k) x e t = any_here xs k x e t

  -- it doesn't
  pub any_next : (xs : List A) (k n : ℕ) (x : A) → n ≡ k + 1 → slice_get xs k ≡ Some x → f x ≡ false → list_any f (drop n xs) ≡ list_any f (drop k xs)
  any_next [] k n x step e t = absurd (cc e)
  any_next (y ∷ xs) zero n x step e t =
      let same : y ≡ x = cc e in
      ap (λ j. list_any f (drop j (y ∷ xs))) (let s : n ≡ suc zero = omega (arith, step) in s) ∙ sym (ap (λ b. b || list_any f xs) (ap f same ∙ t))
  any_next (y ∷ xs) (suc k) zero x step e t = absurd (omega (arith, step))
  any_next (y ∷ xs) (suc k) (suc n) x step e t = any_next xs k n x (omega (arith, step)) e t

-- what has the next number
pub next_numbered : {A : Type 0} (xs : List (Option A)) (k : ℕ) → k < length xs → slice_get xs k ≡ Some (numbered xs (k + 1))
next_numbered xs k less =
    let at : slice_get xs k ≡ Some (get_or xs k None) = slice_get-get_or xs k None less in
    at ∙ ap (λ o. Some o) (sym (at_some xs (k + 1) (omega arith) ∙ ap (λ j. option_and_then (λ x. x) (slice_get xs j)) (let e : k + 1 - 1 ≡ k = omega arith in e) ∙ ap (option_and_then (λ x. x)) at))

pub found_nth : {A B : Type 0} (g : A → B) (xs : List A) (k : ℕ) → k < length xs → option_map g (slice_get xs k) ≡ None → ⊥
found_nth g [] k less e = omega (arith, less)
found_nth g (x ∷ xs) zero less e = cc e
found_nth g (x ∷ xs) (suc k) less e = found_nth g xs k (omega (arith, less)) e
