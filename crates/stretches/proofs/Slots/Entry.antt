-- What a part of memory has after a change of one entry, or after others were put behind its own.
use Rattle.std.proofs.Common.{◌≡◌, ℕ, ◌+◌, ◌-◌, ◌<◌, ◌≤◌, List, ◌++◌, length, get_or, set, take, drop, sym, ap, ◌∙◌, inl, inr, arith, length-set}
use Rattle.std.specs.List.{insert, remove}
use Rattle.std.proofs.lemmas.Bool.{cases_eq, cases_lt}
use Rattle.std.proofs.lemmas.List.{get_or-drop, get_or-set_other, get_or-set_same, get_or_append_left, get_or-append-add, get_or-take, length-append, length-drop, length-take-le, same_lists}
use Rattle.std.proofs.lemmas.List.Edits.{get_or-insert_above, get_or-insert_at, get_or-insert_below, get_or-remove_above, get_or-remove_below, length-insert, length-remove}
use Rattle.stretches.proofs.Slots.Memory.{get_part, length_part}

module _ {X : Type 0} where
  at_same : (xs : List X) (i j : ℕ) (d : X) → i ≡ j → get_or xs i d ≡ get_or xs j d
  at_same xs i j d e = ap (λ (q : ℕ). get_or xs q d) e

  pub part_set : (xs : List X) (b n k : ℕ) (x : X) → b + n ≤ length xs → k < n → take n (drop b (set xs (b + k) x)) ≡ set (take n (drop b xs)) k x
  part_set xs b n k x within less =
      let old = take n (drop b xs) in
      let new = take n (drop b (set xs (b + k) x)) in
      let old_length : length old ≡ n = length_part xs b n within in
      let new_length : length new ≡ n = length_part (set xs (b + k) x) b n (omega (arith, within, length-set xs (b + k) x)) in
      same_lists new (set old k x) (omega (arith, old_length, new_length, length-set old k x)) (λ i d inside.
      let below : i < n = omega (arith, inside, new_length) in
      get_part (set xs (b + k) x) b n i d below
      ∙ elim (cases_eq i k) [
        | inl e ↦ at_same (set xs (b + k) x) (b + i) (b + k) d (ap (λ q. b + q) e) ∙ get_or-set_same xs (b + k) x d (omega (arith, less, within)) ∙ sym (at_same (set old k x) i k d e ∙ get_or-set_same old k x d (omega (arith, less, old_length)))
        | inr other ↦ get_or-set_other xs (b + k) (b + i) x d (λ e. other (omega (arith, e))) ∙ sym (get_or-set_other old k i x d other ∙ get_part xs b n i d below)
      ])

  pub part_insert : (old new : List X) (b n k : ℕ) (x : X) → b + n < length old → k ≤ n → length new ≡ length old
      → ((i : ℕ) (d : X) → i < b + k → get_or new i d ≡ get_or old i d)
      → ((i : ℕ) (d : X) → b + k ≤ i → i < b + n → get_or new (i + 1) d ≡ get_or old i d)
      → take (n + 1) (drop b (set new (b + k) x)) ≡ insert (take n (drop b old)) k x
  part_insert old new b n k x within less same_length below above =
      let had = take n (drop b old) in
      let after = set new (b + k) x in
      let has = take (n + 1) (drop b after) in
      let had_length : length had ≡ n = length_part old b n (omega (arith, within)) in
      let has_length : length has ≡ n + 1 = length_part after b (n + 1) (omega (arith, within, same_length, length-set new (b + k) x)) in
      let place : k ≤ length had = omega (arith, less, had_length) in
      same_lists has (insert had k x) (omega (arith, had_length, has_length, length-insert had k x place)) (λ i d inside.
      let under : i < n + 1 = omega (arith, inside, has_length) in
      get_part after b (n + 1) i d under
      ∙ elim (cases_lt i k) [
        | inl front ↦
            get_or-set_other new (b + k) (b + i) x d (λ e. absurd (omega (arith, e, front))) ∙ below (b + i) d (omega (arith, front))
            ∙ sym (get_or-insert_below had k x d i front place ∙ get_part old b n i d (omega (arith, front, less)))
        | inr not_front ↦ elim (cases_eq i k) [
          | inl e ↦ at_same after (b + i) (b + k) d (ap (λ q. b + q) e) ∙ get_or-set_same new (b + k) x d (omega (arith, within, less, same_length)) ∙ sym (at_same (insert had k x) i k d e ∙ get_or-insert_at had k x d place)
          | inr other ↦
              let p = i - 1 in
              let e : i ≡ p + 1 = omega (arith, not_front, other) in
              let back : p < n = omega (arith, e, under) in
              get_or-set_other new (b + k) (b + i) x d (λ q. other (omega (arith, q)))
              ∙ at_same new (b + i) (b + p + 1) d (omega (arith, e))
              ∙ above (b + p) d (omega (arith, e, not_front, other)) (omega (arith, back))
              ∙ sym (at_same (insert had k x) i (p + 1) d e ∙ get_or-insert_above had k x d p (omega (arith, e, not_front, other)) place ∙ get_part old b n p d back)
        ]
      ])

  pub part_remove : (old new : List X) (b n k : ℕ) → b + n ≤ length old → k < n → length new ≡ length old
      → ((i : ℕ) (d : X) → i < b + k → get_or new i d ≡ get_or old i d)
      → ((i : ℕ) (d : X) → b + k ≤ i → i + 1 < b + n → get_or new i d ≡ get_or old (i + 1) d)
      → take (n - 1) (drop b new) ≡ remove (take n (drop b old)) k
  part_remove old new b n k within less same_length below above =
      let had = take n (drop b old) in
      let has = take (n - 1) (drop b new) in
      let had_length : length had ≡ n = length_part old b n within in
      let has_length : length has ≡ n - 1 = length_part new b (n - 1) (omega (arith, within, same_length, less)) in
      let place : k < length had = omega (arith, less, had_length) in
      same_lists has (remove had k) (omega (arith, had_length, has_length, length-remove had k place, less)) (λ i d inside.
      let under : i < n - 1 = omega (arith, inside, has_length) in
      get_part new b (n - 1) i d under
      ∙ elim (cases_lt i k) [
        | inl front ↦ below (b + i) d (omega (arith, front)) ∙ sym (get_or-remove_below had k d i front place ∙ get_part old b n i d (omega (arith, under)))
        | inr not_front ↦
            above (b + i) d (omega (arith, not_front)) (omega (arith, under))
            ∙ at_same old (b + i + 1) (b + (i + 1)) d (omega arith)
            ∙ sym (get_or-remove_above had k d i not_front place ∙ get_part old b n (i + 1) d (omega (arith, under)))
      ])

  -- a front of a part
  pub part_front : (xs : List X) (b n k : ℕ) → b + n ≤ length xs → k ≤ n → take k (drop b xs) ≡ take k (take n (drop b xs))
  part_front xs b n k within less =
      let old = take n (drop b xs) in
      let old_length : length old ≡ n = length_part xs b n within in
      let front_length : length (take k old) ≡ k = length-take-le k old (omega (arith, less, old_length)) in
      let has_length : length (take k (drop b xs)) ≡ k = length_part xs b k (omega (arith, within, less)) in
      same_lists (take k (drop b xs)) (take k old) (omega (arith, front_length, has_length)) (λ i d inside.
      let under : i < k = omega (arith, inside, has_length) in
      get_part xs b k i d under ∙ sym (get_or-take k old i d under ∙ get_part xs b n i d (omega (arith, under, less))))

  -- entries of another part put behind its own
  pub part_append : (old new : List X) (b n k c m : ℕ) → b + n ≤ length old → k ≤ n → c + m + (n - k) ≤ length old → length new ≡ length old
      → ((i : ℕ) (d : X) → i < c + m → get_or new i d ≡ get_or old i d)
      → ((i : ℕ) (d : X) → i < n - k → get_or new (c + m + i) d ≡ get_or old (b + k + i) d)
      → take (m + (n - k)) (drop c new) ≡ take m (drop c old) ++ drop k (take n (drop b old))
  part_append old new b n k c m within less inside_all same_length below copied =
      let had = take m (drop c old) in
      let other = take n (drop b old) in
      let all = m + (n - k) in
      let has = take all (drop c new) in
      let had_length : length had ≡ m = length_part old c m (omega (arith, inside_all)) in
      let other_length : length other ≡ n = length_part old b n within in
      let has_length : length has ≡ all = length_part new c all (omega (arith, inside_all, same_length)) in
      same_lists has (had ++ drop k other) (omega (arith, has_length, had_length, other_length, length-append had (drop k other), length-drop k other)) (λ i d inside.
      let under : i < all = omega (arith, inside, has_length) in
      get_part new c all i d under
      ∙ elim (cases_lt i m) [
        | inl front ↦ below (c + i) d (omega (arith, front)) ∙ sym (get_or_append_left had (drop k other) d i (omega (arith, front, had_length)) ∙ get_part old c m i d front)
        | inr past ↦
            let p = i - m in
            let e : i ≡ m + p = omega (arith, past) in
            let short : p < n - k = omega (arith, e, under) in
            at_same new (c + i) (c + m + p) d (omega (arith, e)) ∙ copied p d short
            ∙ sym (at_same (had ++ drop k other) i (length had + p) d (omega (arith, e, had_length)) ∙ get_or-append-add had (drop k other) p d ∙ get_or-drop k other p d ∙ get_part old b n (k + p) d (omega (arith, short)) ∙ at_same old (b + (k + p)) (b + k + p) d (omega arith))
      ])
