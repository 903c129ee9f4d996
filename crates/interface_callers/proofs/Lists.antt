-- Lists, options and tests, of whatever they are.
use Rattle.std.proofs.Common.{◌≡◌, ◌⊎◌, inl, inr, ◌==◌, ℕ, zero, suc, ◌+◌, ◌-◌, ◌≤◌, Bool, true, false, cond, List, [], ◌∷◌, ◌++◌, length, map, set, take, drop, Option, Some, None, refl, sym, ap, subst, ◌∙◌, arith, append-nil, replicate}
use Rattle.std.specs.Prelude.{◌||◌, option_and_then, option_map, slice_get}
use Rattle.std.specs.List.{AllByRecursion, list_any}
use Rattle.std.proofs.lemmas.Bool.Decides.{nat_tests}
use Rattle.std.proofs.lemmas.List.{drop-map, drop_all, length-map, map-append, take-map}
use Rattle.interface_callers.proofs.Words.{numbered, overwrite}
use Rattle.std.proofs.lemmas.Bool.{or_right}

-- Tests

pub or_false : (a b : Bool) → b ≡ false → (a || b) ≡ a
or_false true b e = refl
or_false false b e = e

pub one_of : (a b : Bool) → (a || b) ≡ true → (a ≡ true) ⊎ (b ≡ true)
one_of true b e = inl refl
one_of false b e = inr e

pub either : (b : Bool) → (b ≡ true) ⊎ (b ≡ false)
either true = inl refl
either false = inr refl

pub any_at : {A : Type 0} (test : A → Bool) (xs : List A) (i : ℕ) (x : A) → slice_get xs i ≡ Some x → test x ≡ true → list_any test xs ≡ true
any_at test [] i x there e = absurd (cc there)
any_at test (y ∷ xs) zero x there e = let same : y ≡ x = cc there in ap (λ (b : Bool). b || list_any test xs) (ap test same ∙ e)
any_at test (y ∷ xs) (suc i) x there e = or_right (test y) (list_any test xs) (any_at test xs i x there e)

pub none_any : {A : Type 0} (test : A → Bool) (xs : List A) → ((i : ℕ) (x : A) → slice_get xs i ≡ Some x → test x ≡ false) → list_any test xs ≡ false
none_any test [] h = refl
none_any test (x ∷ xs) h = λ i. h 0 x refl i || none_any test xs (λ j y e. h (suc j) y e) i

pub all_at : {A : Type 0} (P : A → Type 0) (xs : List A) (i : ℕ) (x : A) → AllByRecursion P xs → slice_get xs i ≡ Some x → P x
all_at P [] i x all e = absurd (cc e)
all_at P (y ∷ xs) zero x all e = let same : y ≡ x = cc in subst P same all.0
all_at P (y ∷ xs) (suc i) x all e = all_at P xs i x all.1 e

-- What stands at a place

pub get_append : {A : Type 0} (xs ys : List A) (i : ℕ) (x : A) → slice_get xs i ≡ Some x → slice_get (xs ++ ys) i ≡ Some x
get_append [] ys i x e = absurd (cc e)
get_append (y ∷ xs) ys zero x e = e
get_append (y ∷ xs) ys (suc i) x e = get_append xs ys i x e

pub get_last : {A : Type 0} (xs : List A) (x : A) → slice_get (xs ++ x ∷ []) (length xs) ≡ Some x
get_last [] x = refl
get_last (y ∷ xs) x = get_last xs x

-- in front of the last, or the last
pub get_snoc : {A : Type 0} (xs : List A) (x : A) (j : ℕ) (y : A) → slice_get (xs ++ x ∷ []) j ≡ Some y → (slice_get xs j ≡ Some y) ⊎ ((j ≡ length xs) × (y ≡ x))
get_snoc [] x zero y e = inr (refl, (let same : x ≡ y = cc in sym same))
get_snoc [] x (suc j) y e = absurd (cc e)
get_snoc (z ∷ xs) x zero y e = inl e
get_snoc (z ∷ xs) x (suc j) y e = elim (get_snoc xs x j y e) [ inl f ↦ inl f | inr f ↦ inr (ap suc f.0, f.1) ]

numbered_by : {A : Type 0} (n : ℕ) (zeroth : Bool) (o p : Option (Option A)) (x : Option A) → (n == 0) ≡ zeroth → 1 ≤ n → o ≡ p → p ≡ Some x → cond zeroth None (option_and_then (λ y. y) o) ≡ x
numbered_by n true o p x z some e f = absurd (grind (arith, nat_tests))
numbered_by n false o p x z some e f = ap (option_and_then (λ y. y)) (e ∙ f)

-- what stands at a place has the number behind it
pub number_at : {A : Type 0} (xs : List (Option A)) (n : ℕ) (x : Option A) → 1 ≤ n → slice_get xs (n - 1) ≡ Some x → numbered xs n ≡ x
number_at xs n x some e = numbered_by n (n == 0) (slice_get xs (n - 1)) (slice_get xs (n - 1)) x refl some refl e

pub number_behind : {A : Type 0} (xs : List (Option A)) (i : ℕ) (x : Option A) → slice_get xs i ≡ Some x → numbered xs (suc i) ≡ x
number_behind xs i x e = number_at xs (suc i) x (omega arith) (ap (slice_get xs) (let k : suc i - 1 ≡ i = omega arith in k) ∙ e)

-- Changes

-- a place gets what it had
pub put_back : {A : Type 0} (xs : List A) (i : ℕ) (x : A) → slice_get xs i ≡ Some x → set xs i x ≡ xs
put_back [] i x e = refl
put_back (y ∷ xs) zero x e = let same : y ≡ x = cc in ap (λ z. z ∷ xs) (sym same)
put_back (y ∷ xs) (suc i) x e = ap (λ zs. y ∷ zs) (put_back xs i x e)

pub take_none : {A : Type 0} (xs : List A) → take 0 xs ≡ []
take_none [] = refl
take_none (x ∷ xs) = refl

-- a whole list is replaced
pub overwritten : {A : Type 0} (part whole : List A) → length whole ≡ length part → overwrite 0 part whole ≡ part
overwritten part whole same =
    ap (λ xs. (xs ++ part) ++ drop (0 + length part) whole) (take_none whole)
    ∙ ap (λ xs. part ++ xs) (drop_all (0 + length part) whole (omega (arith, same)))
    ∙ append-nil part

-- Maps

pub map_same : {A B : Type 0} (f g : A → B) (xs : List A) → ((i : ℕ) (x : A) → slice_get xs i ≡ Some x → f x ≡ g x) → map f xs ≡ map g xs
map_same f g [] h = refl
map_same f g (x ∷ xs) h = λ j. h 0 x refl j ∷ map_same f g xs (λ i y e. h (suc i) y e) j

pub then_same : {A B C : Type 0} (f : B → C) (g : A → B) (h : A → C) → ((x : A) → f (g x) ≡ h x) → (xs : List A) → map f (map g xs) ≡ map h xs
then_same f g h e [] = refl
then_same f g h e (x ∷ xs) = λ i. e x i ∷ then_same f g h e xs i

pub some_then : {A B C : Type 0} (f : B → C) (g : A → B) (h : A → C) → ((x : A) → f (g x) ≡ h x) → (o : Option A) → option_map f (option_map g o) ≡ option_map h o
some_then f g h e None = refl
some_then f g h e (Some x) = ap Some (e x)

pub mapped_some : {A B : Type 0} (f : A → B) (o : Option A) (y : B) → option_map f o ≡ Some y → (x : A) × (o ≡ Some x) × (f x ≡ y)
mapped_some f None y e = absurd (cc e)
mapped_some f (Some x) y e = (x, refl, cc e)

pub map-replicate : {A B : Type 0} (f : A → B) (n : ℕ) (x : A) → map f (replicate n x) ≡ replicate n (f x)
map-replicate f zero x = refl
map-replicate f (suc n) x = ap (λ xs. f x ∷ xs) (map-replicate f n x)

pub map-overwrite : {A B : Type 0} (f : A → B) (at : ℕ) (part whole : List A) → map f (overwrite at part whole) ≡ overwrite at (map f part) (map f whole)
map-overwrite f at part whole =
    map-append f (take at whole ++ part) (drop (at + length part) whole)
    ∙ ap (λ xs. xs ++ map f (drop (at + length part) whole)) (map-append f (take at whole) part ∙ ap (λ xs. xs ++ map f part) (sym (take-map f at whole)))
    ∙ ap (λ xs. take at (map f whole) ++ map f part ++ xs) (sym (drop-map f (at + length part) whole) ∙ ap (λ (n : ℕ). drop (at + n) (map f whole)) (sym (length-map part f)))
