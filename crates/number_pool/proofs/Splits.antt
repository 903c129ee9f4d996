-- What taking a number and giving it back leave of the taken, the returned and the fresh ones.
use Rattle.std.proofs.Common.{◌≡◌, ◌≢◌, ℕ, zero, suc, ◌+◌, ◌-◌, ◌<◌, ◌≤◌, Bool, true, false, cond, List, [], ◌∷◌, ◌++◌, length, replicate, get_or, set, sym, ap, ◌∙◌, refl, subst, inl, inr, arith, append_assoc, length-append, length-set, get_or-set_same, get_or-set_other}
use Rattle.std.proofs.lemmas.Bool.{cases_lt, true≢false}
use Rattle.std.proofs.lemmas.List.{get_or_append_left, get_or_past, get_or_push, length_push, length-replicate, replicate-append-replicate, set-append_left}
use Rattle.std.proofs.lemmas.List.Quantifiers.{all_pairs_push}
use Rattle.std.proofs.lemmas.List.Elements.{All-push}
use Rattle.std.proofs.lemmas.List.Sums.{sum_by-set, sum_by-cons, count_by-le-length}
use Rattle.std.specs.List.{All}
use Rattle.number_pool.specs.Numbers.{is_taken, taken_count}
use Rattle.number_pool.specs.Layout.{IsReturned, IsSplit}

abbrev one_if : Bool → ℕ
one_if t = cond t 1 0

-- where as many are taken as there are, each is
pub each_taken : (xs : List Bool) → length xs ≤ taken_count xs → All (λ taken. taken ≡ true) xs
each_taken [] h k d within = absurd (omega (arith, within))
each_taken (true ∷ xs) h zero d within = refl
each_taken (true ∷ xs) h (suc k) d within =
    each_taken xs (omega (arith, sum_by-cons one_if true xs)) k d (omega (arith, within))
each_taken (false ∷ xs) h k d within =
    absurd (omega (arith, sum_by-cons one_if false xs, count_by-le-length (λ (t : Bool). t) xs))

-- the numbers behind, which were never taken, change nothing
none_taken : (n k : ℕ) → is_taken (replicate n false) k ≡ false
none_taken zero k = refl
none_taken (suc n) zero = refl
none_taken (suc n) (suc k) = none_taken n k

pub seen_taken : (taken : List Bool) (n k : ℕ) → is_taken (taken ++ replicate n false) k ≡ is_taken taken k
seen_taken [] n k = none_taken n k
seen_taken (t ∷ taken) n zero = refl
seen_taken (t ∷ taken) n (suc k) = seen_taken taken n k

none_counted : (n : ℕ) → taken_count (replicate n false) ≡ 0
none_counted zero = refl
none_counted (suc n) = omega (arith, sum_by-cons one_if false (replicate n false), none_counted n)

pub seen_count : (taken : List Bool) (n : ℕ) → taken_count (taken ++ replicate n false) ≡ taken_count taken
seen_count [] n = none_counted n
seen_count (t ∷ taken) n =
    omega (arith, sum_by-cons one_if t (taken ++ replicate n false), sum_by-cons one_if t taken, seen_count taken n)

seen_first : (taken : List Bool) (n : ℕ) → (taken ++ true ∷ []) ++ replicate n false ≡ set (taken ++ replicate (suc n) false) (length taken) true
seen_first [] n = refl
seen_first (t ∷ taken) n = ap (λ (ts : List Bool). t ∷ ts) (seen_first taken n)

-- what a pool is seen as where a number is set, where the first fresh one is taken, and where the bound grows
pub seen_set : (taken : List Bool) (bound k : ℕ) (t : Bool) → k < length taken
    → set taken k t ++ replicate (bound - length (set taken k t)) false ≡ set (taken ++ replicate (bound - length taken) false) k t
seen_set taken bound k t within =
    ap (λ (n : ℕ). set taken k t ++ replicate (bound - n) false) (length-set taken k t)
    ∙ sym (set-append_left taken (replicate (bound - length taken) false) k t within)

pub seen_fresh : (taken : List Bool) (bound : ℕ) → length taken < bound
    → (taken ++ true ∷ []) ++ replicate (bound - length (taken ++ true ∷ [])) false ≡ set (taken ++ replicate (bound - length taken) false) (length taken) true
seen_fresh taken bound within =
    let left : ℕ = bound - length (taken ++ true ∷ []) in
    let one_less : suc left ≡ bound - length taken = omega (arith, length_push taken true, within) in
    seen_first taken left
    ∙ ap (λ (n : ℕ). set (taken ++ replicate n false) (length taken) true) one_less

pub seen_long : (taken : List Bool) (bound : ℕ) → length taken ≤ bound → length (taken ++ replicate (bound - length taken) false) ≡ bound
seen_long taken bound within =
    let free : List Bool = replicate (bound - length taken) false in
    omega (arith, within, length-append taken free, length-replicate (bound - length taken) false)

pub seen_grown : (taken : List Bool) (bound total : ℕ) → length taken ≤ bound → bound ≤ total
    → taken ++ replicate (total - length taken) false
    ≡ (taken ++ replicate (bound - length taken) false) ++ replicate (total - length (taken ++ replicate (bound - length taken) false)) false
seen_grown taken bound total within less =
    let free : ℕ = bound - length taken in
    let more : ℕ = total - length (taken ++ replicate free false) in
    ap (λ (n : ℕ). taken ++ replicate n false) (omega (arith, within, less, seen_long taken bound within))
    ∙ ap (λ (ts : List Bool). taken ++ ts) (sym (replicate-append-replicate free more false))
    ∙ sym (append_assoc taken (replicate free false) (replicate more false))

counted_first : (taken : List Bool) → taken_count (taken ++ true ∷ []) ≡ taken_count taken + 1
counted_first [] = refl
counted_first (t ∷ taken) =
    omega (arith, sum_by-cons one_if t (taken ++ true ∷ []), sum_by-cons one_if t taken, counted_first taken)

-- a number that is free, taken, or the other way round
counted_taken : (xs : List Bool) (k : ℕ) → k < length xs → is_taken xs k ≡ false → taken_count (set xs k true) ≡ taken_count xs + 1
counted_taken xs k within free =
    let e = sum_by-set one_if xs k true false within in
    let none : ◌≡◌ {A = ℕ} (cond (get_or xs k false) 1 0) 0 = ap one_if free in
    omega (arith, e, none)

counted_free : (xs : List Bool) (k : ℕ) → k < length xs → is_taken xs k ≡ true → taken_count (set xs k false) + 1 ≡ taken_count xs
counted_free xs k within taken =
    let e = sum_by-set one_if xs k false false within in
    let one : ◌≡◌ {A = ℕ} (cond (get_or xs k false) 1 0) 1 = ap one_if taken in
    omega (arith, e, one)

-- the last one returned
pub last_returned : (taken : List Bool) (returned : List ℕ) (number : ℕ) → IsSplit taken (returned ++ number ∷ []) → IsReturned taken number
last_returned taken returned number s =
    subst (IsReturned taken) (get_or_push returned number 0 (length returned) refl)
    (s.each (length returned) 0 (omega (arith, length_push returned number)))

pub taken_again : (taken : List Bool) (returned : List ℕ) (number : ℕ) → IsSplit taken (returned ++ number ∷ []) → IsSplit (set taken number true) returned
taken_again taken returned number s =
    let last = last_returned taken returned number s in
    let longer = length_push returned number in
    let within : number < length taken = last.before in
    let item : (k d : ℕ) → k < length returned → get_or (returned ++ number ∷ []) k d ≡ get_or returned k d =
    λ k d h. get_or_append_left returned (number ∷ []) d k h in
    let other : (k d : ℕ) → k < length returned → get_or returned k d ≢ number =
    λ k d h same. s.once k (length returned) d h (omega arith) (item k d h ∙ same ∙ sym (get_or_push returned number d (length returned) refl)) in
    record {
      each = λ k d h.
          let at : IsReturned taken (get_or returned k d) = subst (IsReturned taken) (item k d h) (s.each k d (omega arith)) in
          record {
            before = let b = at.before in omega (arith, length-set taken number true);
            free = get_or-set_other taken number (get_or returned k d) true false (other k d h) ∙ at.free;
          };
      once = λ i j d h l same. s.once i j d h (omega arith) (item i d (omega arith) ∙ same ∙ sym (item j d l));
      counted = let e = counted_taken taken number within last.free in let c = s.counted in omega (arith, length-set taken number true);
    }

pub first_taken : (taken : List Bool) → IsSplit taken [] → IsSplit (taken ++ true ∷ []) []
first_taken taken s =
    record {
      each = λ k d h. absurd (omega (arith, h));
      once = λ i j d h l. absurd (omega (arith, l));
      counted = let c = s.counted in omega (arith, counted_first taken, length_push taken true);
    }

-- a taken number was taken once at least
pub taken_before : (taken : List Bool) (number : ℕ) → is_taken taken number ≡ true → number < length taken
taken_before taken number held =
    elim (cases_lt number (length taken)) [ inl below ↦ below | inr above ↦ absurd (true≢false (sym held ∙ get_or_past taken number false above)) ]

pub returned_one : (taken : List Bool) (returned : List ℕ) (number : ℕ) → IsSplit taken returned → is_taken taken number ≡ true → IsSplit (set taken number false) (returned ++ number ∷ [])
returned_one taken returned number s held =
    let within = taken_before taken number held in
    let long = length-set taken number false in
    let now : List Bool = set taken number false in
    let other : (k d : ℕ) → k < length returned → get_or returned k d ≢ number =
    λ k d h same. true≢false (sym held ∙ ap (is_taken taken) (sym same) ∙ (s.each k d h).free) in
    record {
      each = All-push (IsReturned now) returned number
          (λ k d h. record {
            before = let b = (s.each k d h).before in omega arith;
            free = get_or-set_other taken number (get_or returned k d) false false (other k d h) ∙ (s.each k d h).free;
          })
          (record { before = omega (arith, within); free = get_or-set_same taken number false false within });
      once = all_pairs_push (λ x y. x ≢ y) returned number s.once other;
      counted = let e = counted_free taken number within held in let c = s.counted in omega (arith, length_push returned number);
    }
