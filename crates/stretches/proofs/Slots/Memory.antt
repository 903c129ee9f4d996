-- What leaves have after a change of memory in one slot.
use Rattle.std.proofs.Common.{◌≡◌, ◌≢◌, ℕ, zero, suc, ◌+◌, ◌*◌, ◌<◌, ◌≤◌, List, [], ◌∷◌, length, get_or, set, take, drop, refl, sym, ap, subst, ◌∙◌, inl, inr, arith}
use Rattle.std.specs.List.{insert, remove}
use Rattle.std.proofs.lemmas.Bool.{cases_lt}
use Rattle.std.proofs.lemmas.List.{get_or-drop, get_or-take, length-drop, length-take-le, same_lists}
use Rattle.stretches.specs.declared.leaf.Leaf.{Leaf}
use Rattle.stretches.specs.Slots.{AreApart, AreFit, IsFree, KeepsOthers, leaf_of, lists_of}
use Rattle.stretches.proofs.Slots.Free.{free_at}

module _ {X : Type 0} where
  pub length_part : (xs : List X) (b n : ℕ) → b + n ≤ length xs → length (take n (drop b xs)) ≡ n
  length_part xs b n within = length-take-le n (drop b xs) (omega (arith, length-drop b xs, within))

  pub get_part : (xs : List X) (b n k : ℕ) (d : X) → k < n → get_or (take n (drop b xs)) k d ≡ get_or xs (b + k) d
  get_part xs b n k d less = get_or-take n (drop b xs) k d less ∙ get_or-drop b xs k d

  pub same_part : (old new : List X) (b n : ℕ) → b + n ≤ length old → b + n ≤ length new → ((k : ℕ) (d : X) → b ≤ k → k < b + n → get_or new k d ≡ get_or old k d) → take n (drop b new) ≡ take n (drop b old)
  same_part old new b n within inside same = same_lists (take n (drop b new)) (take n (drop b old)) (length_part new b n inside ∙ sym (length_part old b n within)) (λ k d less.
      let below : k < n = omega (arith, less, length_part new b n inside) in
      get_part new b n k d below ∙ same (b + k) d (omega arith) (omega (arith, below)) ∙ sym (get_part old b n k d below))

  pub leaf_other : (old new : List X) (slots slot : ℕ) (l : Leaf) → 128 * slots ≤ length old → KeepsOthers old new slot → l.slot ≢ slot → l.slot < slots → l.len ≤ 128 → leaf_of new l ≡ leaf_of old l
  leaf_other old new slots slot l whole keeps other slot_in short = same_part old new (128 * l.slot) l.len (omega (arith, whole, slot_in, short)) (omega (arith, whole, slot_in, short, keeps.long)) (λ k d from to.
      elim (cases_lt l.slot slot) [
        | inl before ↦ keeps.below k d (omega (arith, before, to, short)) (omega (arith, to, whole, slot_in, short))
        | inr not_before ↦ elim (cases_lt slot l.slot) [
          | inl past ↦ keeps.behind k d (omega (arith, past, from)) (omega (arith, to, whole, slot_in, short))
          | inr not_past ↦ absurd (other (omega (arith, not_before, not_past)))
        ]
      ])

  pub lists_other : (old new : List X) (slots slot : ℕ) (ls : List Leaf) → 128 * slots ≤ length old → KeepsOthers old new slot → IsFree slot ls → AreFit slots ls → lists_of new ls ≡ lists_of old ls
  lists_other old new slots slot [] whole keeps free fit = refl
  lists_other old new slots slot (l ∷ ls) whole keeps free fit =
      ap (λ (q : List X). q ∷ lists_of new ls) (leaf_other old new slots slot l whole keeps free.0 fit.0 fit.1)
      ∙ ap (λ (q : List (List X)). leaf_of old l ∷ q) (lists_other old new slots slot ls whole keeps free.1 fit.2)

  -- a change of the memory of one leaf, and of how many entries it has
  pub lists_set : (old new : List X) (slots : ℕ) (ls : List Leaf) (j : ℕ) (l m : Leaf) → 128 * slots ≤ length old → j < length ls → l ≡ get_or ls j l → KeepsOthers old new l.slot → AreApart ls → AreFit slots ls → lists_of new (set ls j m) ≡ set (lists_of old ls) j (leaf_of new m)
  lists_set old new slots [] j l m whole less is keeps apart fit = absurd (omega arith)
  lists_set old new slots (k ∷ ls) zero l m whole less is keeps apart fit =
      ap (λ (q : List (List X)). leaf_of new m ∷ q) (lists_other old new slots l.slot ls whole keeps (subst (λ (s : ℕ). IsFree s ls) (ap (λ (q : Leaf). q.slot) (sym is)) apart.0) fit.2)
  lists_set old new slots (k ∷ ls) (suc j) l m whole less is keeps apart fit =
      let other = free_at k.slot ls j l (omega arith) is apart.0 in
      ap (λ (q : List X). q ∷ lists_of new (set ls j m)) (leaf_other old new slots l.slot k whole keeps (λ e. other (sym e)) fit.0 fit.1)
      ∙ ap (λ (q : List (List X)). leaf_of old k ∷ q) (lists_set old new slots ls j l m whole (omega arith) is keeps apart.1 fit.2)

  pub length_lists : (cells : List X) (ls : List Leaf) → length (lists_of cells ls) ≡ length ls
  length_lists cells [] = refl
  length_lists cells (l ∷ ls) = ap suc (length_lists cells ls)

  pub leaf_at_is : (cells : List X) (ls : List Leaf) (j : ℕ) (l : Leaf) → j < length ls → l ≡ get_or ls j l → get_or (lists_of cells ls) j [] ≡ leaf_of cells l
  leaf_at_is cells [] j l less is = absurd (omega arith)
  leaf_at_is cells (m ∷ ls) zero l less is = ap (leaf_of cells) (sym is)
  leaf_at_is cells (m ∷ ls) (suc j) l less is = leaf_at_is cells ls j l (omega arith) is

  pub lists_insert : (cells : List X) (ls : List Leaf) (j : ℕ) (l : Leaf) → lists_of cells (insert ls j l) ≡ insert (lists_of cells ls) j (leaf_of cells l)
  lists_insert cells [] zero l = refl
  lists_insert cells [] (suc j) l = refl
  lists_insert cells (m ∷ ls) zero l = refl
  lists_insert cells (m ∷ ls) (suc j) l = ap (λ (q : List (List X)). leaf_of cells m ∷ q) (lists_insert cells ls j l)

  pub lists_remove : (cells : List X) (ls : List Leaf) (j : ℕ) → lists_of cells (remove ls j) ≡ remove (lists_of cells ls) j
  lists_remove cells [] zero = refl
  lists_remove cells [] (suc j) = refl
  lists_remove cells (m ∷ ls) zero = refl
  lists_remove cells (m ∷ ls) (suc j) = ap (λ (q : List (List X)). leaf_of cells m ∷ q) (lists_remove cells ls j)

  -- a leaf in a slot whose memory is all there
  pub length_leaf : (cells : List X) (slots : ℕ) (l : Leaf) → 128 * slots ≤ length cells → l.slot < slots → l.len ≤ 128 → length (leaf_of cells l) ≡ l.len
  length_leaf cells slots l whole slot short = length_part cells (128 * l.slot) l.len (omega (arith, whole, slot, short))
