-- What holds of each element of a list and each later one.
use Rattle.std.proofs.Common.{◌≡◌, ℕ, zero, suc, List, [], ◌∷◌, ◌++◌, Some, subst, arith}
use Rattle.std.specs.Prelude.{IsPermutation, remove, slice_get}
use Rattle.std.specs.List.{AllByRecursion, AllPairs}
use Rattle.std.proofs.lemmas.List.Elements.{All-from_recursion, recursion_from_All}
use Rattle.std.proofs.lemmas.List.Kept.{AllPairs-cons}
use Rattle.std.proofs.lemmas.List.Sorted.{All-permutation, IsPermutation-cons, IsPermutation-middle, IsPermutation-refl, IsPermutation-sym, IsPermutation-trans}
use Rattle.vm_model.specs.Events.{IsParted}
use Rattle.vm_model.specs.Events.IsParted.{ended, taken, left}

-- each element

pub each_append : {X : Type 0} (P : X → Type 0) (xs ys : List X) → AllByRecursion P xs → AllByRecursion P ys → AllByRecursion P (xs ++ ys)
each_append P [] ys p q = q
each_append P (x ∷ xs) ys p q = (p.0, each_append P xs ys p.1 q)

pub each_front : {X : Type 0} (P : X → Type 0) (xs ys : List X) → AllByRecursion P (xs ++ ys) → AllByRecursion P xs
each_front P [] ys p = tt
each_front P (x ∷ xs) ys p = (p.0, each_front P xs ys p.1)

pub each_back : {X : Type 0} (P : X → Type 0) (xs ys : List X) → AllByRecursion P (xs ++ ys) → AllByRecursion P ys
each_back P [] ys p = p
each_back P (x ∷ xs) ys p = each_back P xs ys p.1

pub each_by : {X : Type 0} (P Q : X → Type 0) → ((x : X) → P x → Q x) → (xs : List X) → AllByRecursion P xs → AllByRecursion Q xs
each_by P Q f [] p = tt
each_by P Q f (x ∷ xs) p = (f x p.0, each_by P Q f xs p.1)

pub each_both : {X : Type 0} (P Q R : X → Type 0) → ((x : X) → P x → Q x → R x) → (xs : List X) → AllByRecursion P xs → AllByRecursion Q xs → AllByRecursion R xs
each_both P Q R f [] p q = tt
each_both P Q R f (x ∷ xs) p q = (f x p.0 q.0, each_both P Q R f xs p.1 q.1)

pub each_permuted : {X : Type 0} (P : X → Type 0) (xs ys : List X) → IsPermutation xs ys → AllByRecursion P xs → AllByRecursion P ys
each_permuted P xs ys h p = recursion_from_All P ys (All-permutation P xs ys h (All-from_recursion P xs p))

-- each two

abbrev pub Pairs : {X : Type 0} → (X → X → Type 0) → List X → Type 0
Pairs R [] = Unit {0}
Pairs R (x ∷ xs) = AllByRecursion (R x) xs × Pairs R xs

-- each of these and each of those
abbrev pub Across : {X : Type 0} → (X → X → Type 0) → List X → List X → Type 0
Across R xs ys = AllByRecursion (λ x. AllByRecursion (R x) ys) xs

pub pairs_all : {X : Type 0} (R : X → X → Type 0) (xs : List X) → Pairs R xs → AllPairs R xs
pairs_all R [] p = λ i j d l m. absurd (omega arith)
pairs_all R (x ∷ xs) p = AllPairs-cons R x xs (All-from_recursion (R x) xs p.0) (pairs_all R xs p.1)

pub pairs_by : {X : Type 0} (R T : X → X → Type 0) → ((x y : X) → R x y → T x y) → (xs : List X) → Pairs R xs → Pairs T xs
pairs_by R T f [] p = tt
pairs_by R T f (x ∷ xs) p = (each_by (R x) (T x) (f x) xs p.0, pairs_by R T f xs p.1)

pub pairs_append : {X : Type 0} (R : X → X → Type 0) (xs ys : List X) → Pairs R xs → Pairs R ys → Across R xs ys → Pairs R (xs ++ ys)
pairs_append R [] ys p q h = q
pairs_append R (x ∷ xs) ys p q h = (each_append (R x) xs ys p.0 h.0, pairs_append R xs ys p.1 q h.1)

pub pairs_front : {X : Type 0} (R : X → X → Type 0) (xs ys : List X) → Pairs R (xs ++ ys) → Pairs R xs
pairs_front R [] ys p = tt
pairs_front R (x ∷ xs) ys p = (each_front (R x) xs ys p.0, pairs_front R xs ys p.1)

pub pairs_back : {X : Type 0} (R : X → X → Type 0) (xs ys : List X) → Pairs R (xs ++ ys) → Pairs R ys
pairs_back R [] ys p = p
pairs_back R (x ∷ xs) ys p = pairs_back R xs ys p.1

pub pairs_across : {X : Type 0} (R : X → X → Type 0) (xs ys : List X) → Pairs R (xs ++ ys) → Across R xs ys
pairs_across R [] ys p = tt
pairs_across R (x ∷ xs) ys p = (each_back (R x) xs ys p.0, pairs_across R xs ys p.1)

-- Between two lists a part may stand that is the old one in another order.
pub pairs_between : {X : Type 0} (R : X → X → Type 0) (front xs ys back : List X) → IsPermutation xs ys → Pairs R ys → Pairs R (front ++ (xs ++ back)) → Pairs R (front ++ (ys ++ back))
pairs_between R front xs ys back same own p =
    let rest = pairs_back R front (xs ++ back) p in
    let across = pairs_across R front (xs ++ back) p in
    pairs_append R front (ys ++ back) (pairs_front R front (xs ++ back) p)
    (pairs_append R ys back own (pairs_back R xs back rest) (each_permuted (λ x. AllByRecursion (R x) back) xs ys same (pairs_across R xs back rest)))
    (each_by (λ x. AllByRecursion (R x) (xs ++ back)) (λ x. AllByRecursion (R x) (ys ++ back))
    (λ x h. each_append (R x) ys back (each_permuted (R x) xs ys same (each_front (R x) xs back h)) (each_back (R x) xs back h)) front across)

-- An element may stand before those that may come behind it.
pub pairs_sooner : {X : Type 0} (R : X → X → Type 0) (xs : List X) (x : X) (ys : List X) → AllByRecursion (R x) xs → Pairs R (xs ++ x ∷ ys) → Pairs R (x ∷ (xs ++ ys))
pairs_sooner R xs x ys h p =
    let rest = pairs_back R xs (x ∷ ys) p in
    let across = pairs_across R xs (x ∷ ys) p in (
      each_append (R x) xs ys h rest.0,
      pairs_append R xs ys (pairs_front R xs (x ∷ ys) p) rest.1 (each_by (λ y. AllByRecursion (R y) (x ∷ ys)) (λ y. AllByRecursion (R y) ys) (λ y q. q.1) xs across),
    )

-- an element is taken out

pub taken_first : {X : Type 0} (R : X → X → Type 0) → ((x y : X) → R x y → R y x) → (xs : List X) (place : ℕ) (x : X) → slice_get xs place ≡ Some x → Pairs R xs → Pairs R (x ∷ remove xs place)
taken_first R flip [] place x e p = absurd (cc e)
taken_first R flip (y ∷ ys) zero x e p = let same : y ≡ x = cc e in subst (λ z. Pairs R (z ∷ ys)) same p
taken_first R flip (y ∷ ys) (suc place) x e p =
    let rest = taken_first R flip ys place x e p.1 in
    ((flip y x (at R ys place x y e p.0), rest.0), (without (R y) ys place p.0, rest.1))
  where
    at : {X : Type 0} (R : X → X → Type 0) (ys : List X) (place : ℕ) (x y : X) → slice_get ys place ≡ Some x → AllByRecursion (R y) ys → R y x
    at R [] place x y e p = absurd (cc e)
    at R (z ∷ ys) zero x y e p = let same : z ≡ x = cc e in subst (R y) same p.0
    at R (z ∷ ys) (suc place) x y e p = at R ys place x y e p.1

    without : {X : Type 0} (P : X → Type 0) (ys : List X) (place : ℕ) → AllByRecursion P ys → AllByRecursion P (remove ys place)
    without P [] zero p = tt
    without P [] (suc place) p = tt
    without P (z ∷ ys) zero p = p.1
    without P (z ∷ ys) (suc place) p = (p.0, without P ys place p.1)

pub taken_permutation : {X : Type 0} (xs : List X) (place : ℕ) (x : X) → slice_get xs place ≡ Some x → IsPermutation xs (x ∷ remove xs place)
taken_permutation [] place x e = absurd (cc e)
taken_permutation (y ∷ ys) zero x e = let same : y ≡ x = cc e in subst (λ z. IsPermutation (y ∷ ys) (z ∷ ys)) same (IsPermutation-refl (y ∷ ys))
taken_permutation (y ∷ ys) (suc place) x e =
    IsPermutation-trans (y ∷ ys) (y ∷ x ∷ remove ys place) (x ∷ y ∷ remove ys place)
    (IsPermutation-cons y ys (x ∷ remove ys place) (taken_permutation ys place x e))
    (IsPermutation-middle (y ∷ []) x (remove ys place))

-- some are taken out

pub parted_permutation : {X : Type 0} {xs ts ls : List X} → IsParted xs ts ls → IsPermutation xs (ts ++ ls)
parted_permutation ended = IsPermutation-refl []
parted_permutation (taken {x = x} {xs = xs} {ts = ts} {ls = ls} p) = IsPermutation-cons x xs (ts ++ ls) (parted_permutation p)
parted_permutation (left {x = x} {xs = xs} {ts = ts} {ls = ls} p) =
    IsPermutation-trans (x ∷ xs) (x ∷ (ts ++ ls)) (ts ++ x ∷ ls) (IsPermutation-cons x xs (ts ++ ls) (parted_permutation p))
    (IsPermutation-sym (ts ++ x ∷ ls) (x ∷ (ts ++ ls)) (IsPermutation-middle ts x ls))

-- an element behind others
pairs_later : {X : Type 0} (R : X → X → Type 0) → ((x y : X) → R x y → R y x) → (xs : List X) (x : X) (ys : List X) → AllByRecursion (R x) (xs ++ ys) → Pairs R (xs ++ ys) → Pairs R (xs ++ x ∷ ys)
pairs_later R flip [] x ys h p = (h, p)
pairs_later R flip (y ∷ xs) x ys h p =
    (each_append (R y) xs (x ∷ ys) (each_front (R y) xs ys p.0) (flip x y h.0, each_back (R y) xs ys p.0), pairs_later R flip xs x ys h.1 p.1)

pub parted_pairs : {X : Type 0} (R : X → X → Type 0) → ((x y : X) → R x y → R y x) → {xs ts ls : List X} → IsParted xs ts ls → Pairs R xs → Pairs R (ts ++ ls)
parted_pairs R flip ended p = tt
parted_pairs R flip (taken {x = x} {xs = xs} {ts = ts} {ls = ls} q) p =
    (each_permuted (R x) xs (ts ++ ls) (parted_permutation q) p.0, parted_pairs R flip q p.1)
parted_pairs R flip (left {x = x} {xs = xs} {ts = ts} {ls = ls} q) p =
    pairs_later R flip ts x ls (each_permuted (R x) xs (ts ++ ls) (parted_permutation q) p.0) (parted_pairs R flip q p.1)
