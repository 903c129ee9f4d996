-- The element at a place of a list, and the list without it.
use Rattle.std.proofs.Common.{◌≡◌, ◌≢◌, ◌+◌, ◌<◌, ℕ, zero, suc, List, [], ◌∷◌, ◌++◌, length, map, take, drop, Some, refl, ap, subst, arith}
use Rattle.std.specs.Prelude.{remove, slice_get}
use Rattle.std.specs.List.{AllByRecursion}
use Rattle.vm_model.proofs.Parts.Pairs.{each_append}
use Rattle.line_service.specs.Serving.{AreDistinct}

pub each_at : {X : Type 0} (P : X → Type 0) (xs : List X) (place : ℕ) (x : X) → slice_get xs place ≡ Some x → AllByRecursion P xs → P x
each_at P [] place x e p = absurd (cc e)
each_at P (y ∷ ys) zero x e p = let same : y ≡ x = cc e in subst P same p.0
each_at P (y ∷ ys) (suc place) x e p = each_at P ys place x e p.1

pub each_without : {X : Type 0} (P : X → Type 0) (xs : List X) (place : ℕ) → AllByRecursion P xs → AllByRecursion P (remove xs place)
each_without P [] zero p = tt
each_without P [] (suc place) p = tt
each_without P (y ∷ ys) zero p = p.1
each_without P (y ∷ ys) (suc place) p = (p.0, each_without P ys place p.1)

pub map_at : {X Y : Type 0} (f : X → Y) (xs : List X) (place : ℕ) (x : X) → slice_get xs place ≡ Some x → slice_get (map f xs) place ≡ Some (f x)
map_at f [] place x e = absurd (cc e)
map_at f (y ∷ ys) zero x e = let same : y ≡ x = cc e in ap (λ z. Some (f z)) same
map_at f (y ∷ ys) (suc place) x e = map_at f ys place x e

pub map_without : {X Y : Type 0} (f : X → Y) (xs : List X) (place : ℕ) → map f (remove xs place) ≡ remove (map f xs) place
map_without f [] zero = refl
map_without f [] (suc place) = refl
map_without f (y ∷ ys) zero = refl
map_without f (y ∷ ys) (suc place) = ap (λ zs. f y ∷ zs) (map_without f ys place)

pub without_length : {X : Type 0} (xs : List X) (place : ℕ) → place < length xs → length (remove xs place) + 1 ≡ length xs
without_length [] place l = absurd (omega (arith, l))
without_length (y ∷ ys) zero l = omega arith
without_length (y ∷ ys) (suc place) l = let n = without_length ys place (omega arith) in omega (arith, n)

-- there is an element at each place of a list
pub some_at : {X : Type 0} (xs : List X) (place : ℕ) → place < length xs → (x : X) × (slice_get xs place ≡ Some x)
some_at [] place l = absurd (omega (arith, l))
some_at (y ∷ ys) zero l = (y, refl)
some_at (y ∷ ys) (suc place) l = some_at ys place (omega arith)

-- what stands at a place and behind it
pub drop_at : {X : Type 0} (xs : List X) (place : ℕ) (x : X) → slice_get xs place ≡ Some x → drop place xs ≡ x ∷ drop (suc place) xs
drop_at [] place x e = absurd (cc e)
drop_at (y ∷ ys) zero x e = let same : y ≡ x = cc e in ap (λ z. z ∷ ys) same
drop_at (y ∷ ys) (suc place) x e = drop_at ys place x e

-- what stands before a place, and there
pub take_at : {X : Type 0} (xs : List X) (place : ℕ) (x : X) → slice_get xs place ≡ Some x → take (suc place) xs ≡ take place xs ++ x ∷ []
take_at [] place x e = absurd (cc e)
take_at (y ∷ ys) zero x e = let same : y ≡ x = cc e in ap (λ z. z ∷ []) same
take_at (y ∷ ys) (suc place) x e = ap (λ zs. y ∷ zs) (take_at ys place x e)

-- without the element at a place
pub take_without : {X : Type 0} (xs : List X) (place : ℕ) → take place (remove xs place) ≡ take place xs
take_without [] zero = refl
take_without [] (suc place) = refl
take_without (y ∷ ys) zero = refl
take_without (y ∷ ys) (suc place) = ap (λ zs. y ∷ zs) (take_without ys place)

pub drop_without : {X : Type 0} (xs : List X) (place : ℕ) → drop place (remove xs place) ≡ drop (suc place) xs
drop_without [] zero = refl
drop_without [] (suc place) = refl
drop_without (y ∷ ys) zero = refl
drop_without (y ∷ ys) (suc place) = drop_without ys place

-- numbers that are apart

pub distinct_without : (ks : List ℕ) (place : ℕ) → AreDistinct ks → AreDistinct (remove ks place)
distinct_without [] zero d = tt
distinct_without [] (suc place) d = tt
distinct_without (k ∷ ks) zero d = d.1
distinct_without (k ∷ ks) (suc place) d = (each_without (λ other. k ≢ other) ks place d.0, distinct_without ks place d.1)

pub distinct_more : (ks : List ℕ) (k : ℕ) → AllByRecursion (λ other. other ≢ k) ks → AreDistinct ks → AreDistinct (ks ++ k ∷ [])
distinct_more [] k h d = (tt, tt)
distinct_more (m ∷ ks) k h d = (each_append (λ other. m ≢ other) ks (k ∷ []) d.0 (h.0, tt), distinct_more ks k h.1 d.1)
