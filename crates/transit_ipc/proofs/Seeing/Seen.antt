-- Which of the manager's caches are seen.
use Rattle.std.proofs.Common.{◌≡◌, inl, inr, ℕ, zero, suc, ◌+◌, ◌-◌, Bool, true, false, cond, List, [], ◌∷◌, ◌++◌, length, set, map, Option, Some, None, refl, sym, ap, ◌∙◌, arith}
use Rattle.std.specs.Prelude.{option_and_then, option_map, slice_get}
use Rattle.vm_model.proofs.Parts.ListParts.{at_some, at_zero, zero_or}
use Rattle.interface_callers.proofs.Words.{Cache, Machine, blank_cache, cache_of, numbered}
use Rattle.transit_ipc.specs.Seen.{but_for, memory_seen}
use Rattle.transit_ipc.specs.Transit.{is_transit}
use Rattle.transit_ipc.specs.declared.port.Port.{Port}

-- a cache, unless it is hidden
abbrev pub shown : Bool → Option Cache → Option Cache
shown hidden c = cond hidden None c

next : (k i : ℕ) → k + 1 + i ≡ k + suc i
next k i = omega arith

module _ (hidden : ℕ → Bool) where
  pub length_seen : (k : ℕ) (xs : List (Option Cache)) → length (but_for hidden k xs) ≡ length xs
  length_seen k [] = refl
  length_seen k (x ∷ xs) = ap suc (length_seen (k + 1) xs)

  pub get_seen : (k : ℕ) (xs : List (Option Cache)) (i : ℕ) → slice_get (but_for hidden k xs) i ≡ option_map (shown (hidden (k + i))) (slice_get xs i)
  get_seen k [] i = refl
  get_seen k (x ∷ xs) zero = ap (λ (n : ℕ). Some (shown (hidden n) x)) (let e : k ≡ k + 0 = omega arith in e)
  get_seen k (x ∷ xs) (suc i) = get_seen (k + 1) xs i ∙ ap (λ (n : ℕ). option_map (shown (hidden n)) (slice_get xs i)) (next k i)

  -- one that is seen is replaced
  pub set_seen : (k : ℕ) (xs : List (Option Cache)) (i : ℕ) (v : Option Cache) → hidden (k + i) ≡ false → but_for hidden k (set xs i v) ≡ set (but_for hidden k xs) i v
  set_seen k [] i v e = refl
  set_seen k (x ∷ xs) zero v e =
      ap (λ (b : Bool). shown b v ∷ but_for hidden (k + 1) xs) (ap hidden (let s : k ≡ k + 0 = omega arith in s) ∙ e)
  set_seen k (x ∷ xs) (suc i) v e = ap (λ (ys : List (Option Cache)). shown (hidden k) x ∷ ys) (set_seen (k + 1) xs i v (ap hidden (next k i) ∙ e))

  -- one more
  pub push_seen : (k : ℕ) (xs : List (Option Cache)) (v : Option Cache) → but_for hidden k (xs ++ v ∷ []) ≡ but_for hidden k xs ++ shown (hidden (k + length xs)) v ∷ []
  push_seen k [] v = ap (λ (n : ℕ). shown (hidden n) v ∷ []) (let e : k ≡ k + 0 = omega arith in e)
  push_seen k (x ∷ xs) v =
      ap (λ (ys : List (Option Cache)). shown (hidden k) x ∷ ys)
      (push_seen (k + 1) xs v ∙ ap (λ (n : ℕ). but_for hidden (k + 1) xs ++ shown (hidden n) v ∷ []) (next k (length xs)))

  blank_shown : (b : Bool) (c : Option Cache) → option_map blank_cache (shown b c) ≡ shown b (option_map blank_cache c)
  blank_shown true c = refl
  blank_shown false c = refl

  -- without bytes the same are seen
  pub blank_seen : (k : ℕ) (xs : List (Option Cache)) → map (option_map blank_cache) (but_for hidden k xs) ≡ but_for hidden k (map (option_map blank_cache) xs)
  blank_seen k [] = refl
  blank_seen k (x ∷ xs) = λ i. blank_shown (hidden k) x i ∷ blank_seen (k + 1) xs i

  flat : (b : Bool) (o : Option (Option Cache)) → option_and_then (λ (c : Option Cache). c) (option_map (shown b) o) ≡ shown b (option_and_then (λ (c : Option Cache). c) o)
  flat true None = refl
  flat true (Some c) = refl
  flat false None = refl
  flat false (Some c) = refl

  hidden_none : (b : Bool) → shown b None ≡ None
  hidden_none true = refl
  hidden_none false = refl

  pub numbered_seen : (xs : List (Option Cache)) (n : ℕ) → numbered (but_for hidden 1 xs) n ≡ shown (hidden n) (numbered xs n)
  numbered_seen xs n = elim (zero_or n) [
    | inl e ↦ at_zero (but_for hidden 1 xs) n e ∙ sym (hidden_none (hidden n)) ∙ ap (shown (hidden n)) (sym (at_zero xs n e))
    | inr some ↦ at_some (but_for hidden 1 xs) n some
        ∙ ap (option_and_then (λ (c : Option Cache). c)) (get_seen 1 xs (n - 1))
        ∙ flat (hidden (1 + (n - 1))) (slice_get xs (n - 1))
        ∙ ap (λ (k : ℕ). shown (hidden k) (option_and_then (λ (c : Option Cache). c) (slice_get xs (n - 1)))) (let s : 1 + (n - 1) ≡ n = omega (arith, some) in s)
        ∙ ap (shown (hidden n)) (sym (at_some xs n some))
  ]

pub seen_cache : (m : Machine) (ports : List Port) (n : ℕ) → is_transit ports n ≡ false → cache_of (memory_seen m ports) n ≡ cache_of m n
seen_cache m ports n e = numbered_seen (is_transit ports) m.caches n ∙ ap (λ (b : Bool). shown b (cache_of m n)) e

pub hidden_cache : (m : Machine) (ports : List Port) (n : ℕ) → is_transit ports n ≡ true → cache_of (memory_seen m ports) n ≡ None
hidden_cache m ports n e = numbered_seen (is_transit ports) m.caches n ∙ ap (λ (b : Bool). shown b (cache_of m n)) e
