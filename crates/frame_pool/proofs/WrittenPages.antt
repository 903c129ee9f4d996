-- The pages of a region, what a write to one of them leaves, and what is seen behind those that are there.
use Rattle.std.proofs.Common.{◌≡◌, ◌≢◌, ◌⊎◌, inl, inr, ℕ, zero, suc, ◌+◌, ◌-◌, ◌*◌, ◌<◌, ◌≤◌, List, [], ◌∷◌, ◌++◌, length, take, drop, get_or, set, replicate, refl, sym, ap, ◌∙◌, arith, append_assoc}
use Rattle.std.proofs.Math.Nat.{suc-mul, add-mul, zero-mul, add_comm, mul-le-mul_right}
use Rattle.std.proofs.Math.Seq.{take-add}
use Rattle.std.proofs.lemmas.List.{take_at, drop_at, drop-drop, length-append, length-drop, length-take-le, length-replicate, replicate-append-replicate, take-append-drop, get_or_append_left, get_or-append_right, get_or-replicate, set-append_left, nil_from_length}
use Rattle.std.proofs.lemmas.Bool.{cases_lt}
use Rattle.std.specs.Simd.{first_chunks}
use Rattle.frame_pool.specs.Region.{pages_in}

drop_page : (n i : ℕ) (xs : List ℕ) → drop (suc i * n) xs ≡ drop (i * n) (drop n xs)
drop_page n i xs = ap (λ (m : ℕ). drop m xs) (suc-mul i n ∙ add_comm (i * n) n) ∙ sym (drop-drop (i * n) n xs)

take_page : (n i : ℕ) (xs : List ℕ) → take (suc i * n) xs ≡ take n xs ++ take (i * n) (drop n xs)
take_page n i xs = ap (λ (m : ℕ). take m xs) (suc-mul i n ∙ add_comm (i * n) n) ∙ take-add n (i * n) xs

-- page i lies from i * n on
page_at : (n k i : ℕ) (xs : List ℕ) → i < k → get_or (first_chunks n k xs) i [] ≡ take n (drop (i * n) xs)
page_at n zero i xs h = absurd (omega (arith, h))
page_at n (suc k) zero xs h = ap (λ (m : ℕ). take n (drop m xs)) (sym (zero-mul n))
page_at n (suc k) (suc i) xs h = page_at n k i (drop n xs) (omega (arith, h)) ∙ ap (take n) (sym (drop_page n i xs))

front_page : (n k : ℕ) (page rest : List ℕ) → length page ≡ n → first_chunks n (suc k) (page ++ rest) ≡ page ∷ first_chunks n k rest
front_page n k page rest e =
    ap (λ (p : List ℕ). p ∷ first_chunks n k (drop n (page ++ rest))) (take_at page rest n e)
    ∙ ap (λ (xs : List ℕ). page ∷ first_chunks n k xs) (drop_at page rest n e)

-- where page i is written over, the others stay
page_written : (n k i : ℕ) (xs w : List ℕ) → i < k → length xs ≡ k * n → length w ≡ n
    → first_chunks n k (take (i * n) xs ++ (w ++ drop n (drop (i * n) xs))) ≡ set (first_chunks n k xs) i w
page_written n zero i xs w h e l = absurd (omega (arith, h))
page_written n (suc k) zero xs w h e l =
    ap (λ (m : ℕ). first_chunks n (suc k) (take m xs ++ (w ++ drop n (drop m xs)))) (zero-mul n) ∙ front_page n k w (drop n xs) l
page_written n (suc k) (suc i) xs w h e l =
    let rest : List ℕ = drop n xs in
    let all = suc-mul k n in let left = length-drop n xs in
    ap (λ (ys : List ℕ). first_chunks n (suc k) (ys ++ (w ++ drop n (drop (suc i * n) xs)))) (take_page n i xs)
    ∙ ap (λ (ys : List ℕ). first_chunks n (suc k) ((take n xs ++ take (i * n) rest) ++ (w ++ drop n ys))) (drop_page n i xs)
    ∙ ap (first_chunks n (suc k)) (append_assoc (take n xs) (take (i * n) rest) (w ++ drop n (drop (i * n) rest)))
    ∙ front_page n k (take n xs) (take (i * n) rest ++ (w ++ drop n (drop (i * n) rest))) (length-take-le n xs (omega arith))
    ∙ ap (λ (pages : List (List ℕ)). take n xs ∷ pages) (page_written n k i rest w (omega (arith, h)) (omega arith) l)

zero_pages : (n k : ℕ) → first_chunks n k (replicate {A = ℕ} (k * n) 0) ≡ replicate k (replicate {A = ℕ} n 0)
zero_pages n zero = refl
zero_pages n (suc k) =
    let zeros : ℕ → List ℕ = λ m. replicate m 0 in
    ap (λ (m : ℕ). first_chunks n (suc k) (zeros m)) (suc-mul k n ∙ add_comm (k * n) n)
    ∙ ap (first_chunks n (suc k)) (sym (replicate-append-replicate n (k * n) 0))
    ∙ front_page n k (zeros n) (zeros (k * n)) (length-replicate n 0)
    ∙ ap (λ (pages : List (List ℕ)). zeros n ∷ pages) (zero_pages n k)

-- pages behind others
pages_behind : (n k m j : ℕ) (xs ys : List ℕ) → length xs ≡ k * n → j ≡ k + m
    → first_chunks n j (xs ++ ys) ≡ first_chunks n k xs ++ first_chunks n m ys
pages_behind n zero m j xs ys long e =
    ap (λ (zs : List ℕ). first_chunks n j (zs ++ ys)) (nil_from_length xs (long ∙ zero-mul n))
    ∙ ap (λ (i : ℕ). first_chunks n i ys) (omega (arith, e))
pages_behind n (suc k) m zero xs ys long e = absurd (omega (arith, e))
pages_behind n (suc k) m (suc j) xs ys long e =
    let all = suc-mul k n in let left = length-drop n xs in
    ap (λ (zs : List ℕ). first_chunks n (suc j) (zs ++ ys)) (sym (take-append-drop n xs))
    ∙ ap (first_chunks n (suc j)) (append_assoc (take n xs) (drop n xs) ys)
    ∙ front_page n j (take n xs) (drop n xs ++ ys) (length-take-le n xs (omega arith))
    ∙ ap (λ (pages : List (List ℕ)). take n xs ∷ pages) (pages_behind n k m j (drop n xs) ys (omega arith) (omega (arith, e)))

length-pages : (n k : ℕ) (xs : List ℕ) → length (first_chunks n k xs) ≡ k
length-pages n zero xs = refl
length-pages n (suc k) xs = ap (λ (j : ℕ). suc j) (length-pages n k (drop n xs))

pub length-pages_in : (n count k : ℕ) (xs : List ℕ) → k ≤ count → length (pages_in n count k xs) ≡ count
length-pages_in n count k xs h =
    let zeros : List (List ℕ) = replicate (count - k) (replicate n 0) in
    omega (arith, h, length-append (first_chunks n k xs) zeros, length-pages n k xs, length-replicate (count - k) (replicate {A = ℕ} n 0))

-- a page that is there
pub there_at : (n count k i : ℕ) (xs : List ℕ) → i < k → get_or (pages_in n count k xs) i [] ≡ take n (drop (i * n) xs)
there_at n count k i xs h =
    get_or_append_left (first_chunks n k xs) (replicate (count - k) (replicate n 0)) [] i (omega (arith, h, length-pages n k xs))
    ∙ page_at n k i xs h

-- a page that isn't there
pub zeros_at : (n count k i : ℕ) (xs : List ℕ) → k ≤ i → i < count → get_or (pages_in n count k xs) i [] ≡ replicate n 0
zeros_at n count k i xs h below =
    get_or-append_right (first_chunks n k xs) (replicate (count - k) (replicate n 0)) k i [] (length-pages n k xs) h
    ∙ get_or-replicate (count - k) (i - k) (replicate n 0) [] (omega (arith, h, below))

-- where page i is there and is written over, the others stay
pub there_written : (n count k i : ℕ) (xs w : List ℕ) → i < k → length xs ≡ k * n → length w ≡ n
    → pages_in n count k (take (i * n) xs ++ (w ++ drop n (drop (i * n) xs))) ≡ set (pages_in n count k xs) i w
there_written n count k i xs w h long same =
    let zeros : List (List ℕ) = replicate (count - k) (replicate n 0) in
    ap (λ (pages : List (List ℕ)). pages ++ zeros) (page_written n k i xs w h long same)
    ∙ sym (set-append_left (first_chunks n k xs) zeros i w (omega (arith, h, length-pages n k xs)))

-- pages of zeros are seen alike where they are there and where they aren't
pub brought : (n count k j : ℕ) (xs : List ℕ) → length xs ≡ k * n → k ≤ j → j ≤ count
    → pages_in n count j (xs ++ replicate (j * n - length xs) 0) ≡ pages_in n count k xs
brought n count k j xs long more within =
    let pages : ℕ → List (List ℕ) = λ m. replicate m (replicate n 0) in
    let there : List (List ℕ) = first_chunks n k xs in
    let all : j * n ≡ k * n + (j - k) * n = ap (λ (m : ℕ). m * n) (omega (arith, more)) ∙ add-mul k (j - k) n in
    let grown : first_chunks n j (xs ++ replicate (j * n - length xs) 0) ≡ there ++ pages (j - k) =
    ap (λ (m : ℕ). first_chunks n j (xs ++ replicate m 0)) (omega (arith, all, long))
    ∙ pages_behind n k (j - k) j xs (replicate ((j - k) * n) 0) long (omega (arith, more))
    ∙ ap (λ (zeros : List (List ℕ)). there ++ zeros) (zero_pages n (j - k)) in
    ap (λ (front : List (List ℕ)). front ++ pages (count - j)) grown
    ∙ append_assoc there (pages (j - k)) (pages (count - j))
    ∙ ap (λ (zeros : List (List ℕ)). there ++ zeros) (replicate-append-replicate (j - k) (count - j) (replicate n 0))
    ∙ ap (λ (m : ℕ). there ++ pages m) (omega (arith, more, within))

-- two different pages have no byte in common
pub pages_apart : (n i j : ℕ) → i ≢ j → (i * n + n ≤ j * n) ⊎ (j * n + n ≤ i * n)
pages_apart n i j apart = elim (cases_lt i j) [
  | inl less ↦ let room : suc i * n ≤ j * n = mul-le-mul_right n (omega (arith, less)) in inl (omega (arith, suc-mul i n))
  | inr more ↦ let room : suc j * n ≤ i * n = mul-le-mul_right n (omega (arith, more, apart)) in inr (omega (arith, suc-mul j n))
]
