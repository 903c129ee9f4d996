-- What stands at a place of a list.
use Rattle.std.proofs.Common.{◌≡◌, ℕ, zero, suc, ◌+◌, ◌-◌, ◌<◌, ◌≤◌, List, [], ◌∷◌, ◌++◌, length, take, drop, Some, refl, ap, ◌∙◌, arith}
use Rattle.std.specs.Prelude.{slice_get}
use Rattle.std.proofs.lemmas.List.{length-append, length-take-le}
use Rattle.std.proofs.lemmas.Option.{slice_get_within}
use Rattle.interface_callers.proofs.Words.{overwrite}
use Rattle.interface_callers.proofs.Lists.{get_append}

pub get_left : {A : Type 0} (xs ys : List A) (i : ℕ) → i < length xs → slice_get (xs ++ ys) i ≡ slice_get xs i
get_left [] ys i h = absurd (omega arith)
get_left (x ∷ xs) ys zero h = refl
get_left (x ∷ xs) ys (suc i) h = get_left xs ys i (omega arith)

pub get_take : {A : Type 0} (xs : List A) (n i : ℕ) → i < n → slice_get (take n xs) i ≡ slice_get xs i
get_take [] zero i h = absurd (omega arith)
get_take [] (suc n) i h = refl
get_take (x ∷ xs) zero i h = absurd (omega arith)
get_take (x ∷ xs) (suc n) zero h = refl
get_take (x ∷ xs) (suc n) (suc i) h = get_take xs n i (omega arith)

pub get_drop : {A : Type 0} (xs : List A) (n i : ℕ) → slice_get (drop n xs) i ≡ slice_get xs (n + i)
get_drop [] zero i = refl
get_drop [] (suc n) i = refl
get_drop (x ∷ xs) zero i = ap (slice_get (x ∷ xs)) (let e : i ≡ 0 + i = omega arith in e)
get_drop (x ∷ xs) (suc n) i = get_drop xs n i ∙ ap (slice_get (x ∷ xs)) (let e : suc (n + i) ≡ suc n + i = omega arith in e)

pub get_past : {A : Type 0} (xs ys : List A) (i : ℕ) → length xs ≤ i → slice_get (xs ++ ys) i ≡ slice_get ys (i - length xs)
get_past [] ys i h = ap (slice_get ys) (let e : i ≡ i - 0 = omega arith in e)
get_past (x ∷ xs) ys zero h = absurd (omega arith)
get_past (x ∷ xs) ys (suc i) h = get_past xs ys i (omega arith) ∙ ap (slice_get ys) (let e : i - length xs ≡ suc i - suc (length xs) = omega arith in e)

-- what is in front of a part that is replaced stays
pub get_front : {A : Type 0} (at : ℕ) (part xs : List A) (i : ℕ) (x : A) → i < at → slice_get xs i ≡ Some x → slice_get (overwrite at part xs) i ≡ Some x
get_front at part xs i x h e = get_append (take at xs ++ part) (drop (at + length part) xs) i x (get_append (take at xs) part i x (get_take xs at i h ∙ e))

-- and so does what is behind it
pub get_behind : {A : Type 0} (at : ℕ) (part xs : List A) (i : ℕ) (x : A) → at + length part ≤ i → slice_get xs i ≡ Some x → slice_get (overwrite at part xs) i ≡ Some x
get_behind at part xs i x h e =
    let within : i < length xs = slice_get_within xs i x e in
    let many : length (take at xs ++ part) ≡ at + length part = omega (arith, length-append (take at xs) part, length-take-le at xs (omega arith)) in
    get_past (take at xs ++ part) (drop (at + length part) xs) i (omega arith)
    ∙ get_drop xs (at + length part) (i - length (take at xs ++ part))
    ∙ ap (slice_get xs) (let same : at + length part + (i - length (take at xs ++ part)) ≡ i = omega arith in same)
    ∙ e
