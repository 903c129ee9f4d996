-- What the pool keeps true, after each change.
use Rattle.std.proofs.Common.{◌≡◌, ℕ, ◌+◌, ◌<◌, ◌≤◌, List, [], ◌∷◌, ◌++◌, length, get_or, set, sym, ap, subst, ◌∙◌, arith, length-set}
use Rattle.std.specs.List.{insert, remove}
use Rattle.std.proofs.lemmas.List.{append_assoc, get_or_append_left, length-append, set-append_left}
use Rattle.std.proofs.lemmas.List.Edits.{insert-append_left, length-insert, length-remove, remove-append_left}
use Rattle.stretches.specs.declared.leaf.Leaf.{Leaf}
use Rattle.stretches.specs.Slots.{AreApart, AreFit, ArePooled, IsFree}
use Rattle.stretches.proofs.Slots.Free.{apart_front, apart_insert, apart_push, apart_remove, apart_set, fit_at, fit_front, fit_insert, fit_last, fit_more, fit_push, fit_remove, fit_set, free_last, free_past, free_removed}

module _ {X : Type 0} (cells : List X) (used spare : List Leaf) (limit a b c : ℕ) (pooled : ArePooled cells used spare limit a b c) where
  pub used_apart : AreApart used
  used_apart = apart_front used spare pooled.apart

  pub used_fit : AreFit (length used + length spare) used
  used_fit = fit_front (length used + length spare) used spare pooled.fit

  pub slot_in : (j : ℕ) (l : Leaf) → j < length used → l ≡ get_or used j l → (l.slot < length used + length spare) × (l.len ≤ 128)
  slot_in j l less is = fit_at (length used + length spare) used j l less is used_fit

  -- other memory of as many slots, and another count of a leaf's entries
  pub pooled_set : (after : List X) (j : ℕ) (l m : Leaf) → length after ≡ length cells → j < length used → l ≡ get_or used j l → m.slot ≡ l.slot → m.len ≤ 128 → ArePooled after (set used j m) spare limit a b c
  pooled_set after j l m same_length less is same short =
      let in_front = sym (set-append_left used spare j m less) in
      let is_all : l ≡ get_or (used ++ spare) j l = is ∙ sym (get_or_append_left used spare l j less) in
      let long = length-set used j m in
      let slots = length used + length spare in
      let less_all : j < length (used ++ spare) = omega (arith, less, length-append used spare) in
      record {
        apart = subst AreApart (set-append_left used spare j m less) (apart_set (used ++ spare) j l m less_all is_all same pooled.apart);
        fit = subst (λ (n : ℕ). AreFit n (set used j m ++ spare)) (ap (λ (q : ℕ). q + length spare) (sym long))
            (subst (AreFit slots) (set-append_left used spare j m less) (fit_set slots (used ++ spare) j m (omega (arith, same, (slot_in j l less is).0)) short pooled.fit));
        whole = omega (arith, same_length, pooled.whole, long);
        few = omega (arith, pooled.few, long);
        cells_room = pooled.cells_room;
        used_room = pooled.used_room;
        spare_room = pooled.spare_room;
      }

  -- a leaf that goes
  pub pooled_closed : (j : ℕ) (l : Leaf) → j < length used → l ≡ get_or used j l → ArePooled cells (remove used j) (spare ++ l ∷ []) limit a b c
  pooled_closed j l less is =
      let rest = remove used j in
      let slots = length used + length spare in
      let is_all : l ≡ get_or (used ++ spare) j l = is ∙ sym (get_or_append_left used spare l j less) in
      let less_all : j < length (used ++ spare) = omega (arith, less, length-append used spare) in
      let gone : remove (used ++ spare) j ≡ rest ++ spare = remove-append_left used spare j less in
      let whole : rest ++ spare ++ l ∷ [] ≡ rest ++ (spare ++ l ∷ []) = append_assoc rest spare (l ∷ []) in
      let fewer = length-remove used j less in
      let longer = length-append spare (l ∷ []) in
      let count : length rest + length (spare ++ l ∷ []) ≡ slots = omega (arith, fewer, longer) in
      let at = slot_in j l less is in
      record {
        apart = subst AreApart whole (apart_push (rest ++ spare) l
            (subst (IsFree l.slot) gone (free_removed (used ++ spare) j l less_all is_all pooled.apart))
            (subst AreApart gone (apart_remove (used ++ spare) j pooled.apart)));
        fit = subst (λ (n : ℕ). AreFit n (rest ++ (spare ++ l ∷ []))) (sym count) (subst (AreFit slots) whole (fit_push slots (rest ++ spare) l at.0 at.1 (subst (AreFit slots) gone (fit_remove slots (used ++ spare) j pooled.fit))));
        whole = omega (arith, pooled.whole, count);
        few = omega (arith, pooled.few, count);
        cells_room = pooled.cells_room;
        used_room = pooled.used_room;
        spare_room = pooled.spare_room;
      }

  -- a leaf in a slot that one had before
  pub pooled_opened : (j : ℕ) (l m : Leaf) (rest : List Leaf) → spare ≡ rest ++ l ∷ [] → j ≤ length used → m.slot ≡ l.slot → m.len ≤ 128 → ArePooled cells (insert used j m) rest limit a b c
  pooled_opened j l m rest was within same short =
      let slots = length used + length spare in
      let all : used ++ spare ≡ used ++ rest ++ l ∷ [] = ap (λ (q : List Leaf). used ++ q) was ∙ sym (append_assoc used rest (l ∷ [])) in
      let apart : AreApart (used ++ rest ++ l ∷ []) = subst AreApart all pooled.apart in
      let fit : AreFit slots (used ++ rest ++ l ∷ []) = subst (AreFit slots) all pooled.fit in
      let free : IsFree m.slot (used ++ rest) = subst (λ (s : ℕ). IsFree s (used ++ rest)) (sym same) (free_last (used ++ rest) l apart) in
      let put : insert (used ++ rest) j m ≡ insert used j m ++ rest = insert-append_left used rest j m within in
      let count : length (insert used j m) + length rest ≡ slots = omega (arith, length-insert used j m within, ap length was, length-append rest (l ∷ [])) in
      record {
        apart = subst AreApart put (apart_insert (used ++ rest) j m free (apart_front (used ++ rest) (l ∷ []) apart));
        fit = subst (λ (n : ℕ). AreFit n (insert used j m ++ rest)) (sym count) (subst (AreFit slots) put (fit_insert slots (used ++ rest) j m (omega (arith, same, fit_last slots (used ++ rest) l fit)) short (fit_front slots (used ++ rest) (l ∷ []) fit)));
        whole = omega (arith, pooled.whole, count);
        few = omega (arith, pooled.few, count);
        cells_room = pooled.cells_room;
        used_room = pooled.used_room;
        spare_room = pooled.spare_room;
      }

  -- a leaf in a slot that is new
  pub pooled_more : (after : List X) (d j : ℕ) (m : Leaf) → a ≤ d → length spare ≡ 0 → length after ≡ length cells + 128 → j ≤ length used → m.slot ≡ length used → m.len ≤ 128 → length used < limit → ArePooled after (insert used j m) spare limit d b c
  pooled_more after d j m larger none longer within same short room =
      let slots = length used + length spare in
      let put : insert (used ++ spare) j m ≡ insert used j m ++ spare = insert-append_left used spare j m within in
      let count : length (insert used j m) + length spare ≡ slots + 1 = omega (arith, length-insert used j m within) in
      let free : IsFree m.slot (used ++ spare) = free_past slots m.slot (used ++ spare) (omega (arith, none, same)) pooled.fit in
      record {
        apart = subst AreApart put (apart_insert (used ++ spare) j m free pooled.apart);
        fit = subst (λ (n : ℕ). AreFit n (insert used j m ++ spare)) (sym count) (subst (AreFit (slots + 1)) put (fit_insert (slots + 1) (used ++ spare) j m (omega (arith, none, same)) short (fit_more slots (slots + 1) (used ++ spare) (omega arith) pooled.fit)));
        whole = omega (arith, pooled.whole, longer, count);
        few = omega (arith, count, none, room);
        cells_room = omega (arith, larger, pooled.cells_room);
        used_room = pooled.used_room;
        spare_room = pooled.spare_room;
      }

-- more memory for as many leaves
pub pooled_limits : {X : Type 0} {cells : List X} {used spare : List Leaf} {limit a b c d e f : ℕ} → ArePooled cells used spare limit a b c → a ≤ d → b ≤ e → c ≤ f → ArePooled cells used spare limit d e f
pooled_limits pooled cells_room used_room spare_room = record {
  apart = pooled.apart;
  fit = pooled.fit;
  whole = pooled.whole;
  few = pooled.few;
  cells_room = omega (arith, pooled.cells_room, cells_room);
  used_room = omega (arith, pooled.used_room, used_room);
  spare_room = omega (arith, pooled.spare_room, spare_room);
}
