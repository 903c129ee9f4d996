-- What a contract sees of the pool, before and after a change.
use Rattle.std.proofs.Common.{◌≡◌, ◌≢◌, ℕ, ◌+◌, ◌*◌, ◌<◌, ◌≤◌, List, [], ◌++◌, length, get_or, set, take, drop, refl, sym, ap, ◌∙◌, arith, length-set}
use Rattle.std.specs.List.{insert, remove}
use Rattle.std.proofs.lemmas.List.{get_or-set_other, get_or_append_left, length-append, set-get_or, take_at}
use Rattle.stretches.specs.declared.leaf.Leaf.{Leaf}
use Rattle.stretches.specs.Slots.{ArePooled, IsIn, KeepsOthers, Pooled, leaf_of, lists_of}
use Rattle.stretches.proofs.Slots.Entry.{part_front}
use Rattle.stretches.proofs.Slots.Free.{apart_slots, free_past}
use Rattle.stretches.proofs.Slots.Memory.{leaf_at_is, leaf_other, length_leaf, length_lists, lists_insert, lists_other, lists_remove, lists_set}
use Rattle.stretches.proofs.Slots.Pooling.{pooled_set, slot_in, used_apart, used_fit}

module _ {X : Type 0} where
  -- where the leaves that a contract sees are in memory
  pub record Sees (cells : List X) (used : List Leaf) (v : Pooled X) : Type 0 where
    pub count : length v.lists ≡ length used
    pub memory : (j : ℕ) (l : Leaf) → j < length v.lists → l ≡ get_or used j l → IsIn cells l
    pub entries : (j : ℕ) (l : Leaf) → j < length v.lists → l ≡ get_or used j l → get_or v.lists j [] ≡ leaf_of cells l
    pub len : (j : ℕ) (l : Leaf) → j < length v.lists → l ≡ get_or used j l → length (get_or v.lists j []) ≡ l.len

  pub sees : {cells : List X} {used spare : List Leaf} {limit a b c : ℕ} {v : Pooled X} → ArePooled cells used spare limit a b c → (record { lists = lists_of cells used; limit = limit }) ≡ v → Sees cells used v
  sees {cells} {used} {spare} {limit} {a} {b} {c} {v} pooled is =
      let lists : lists_of cells used ≡ v.lists = ap (λ (q : Pooled X). q.lists) is in
      let count : length v.lists ≡ length used = sym (ap length lists) ∙ length_lists cells used in
      let slots = length used + length spare in
      let there : (j : ℕ) (l : Leaf) → j < length v.lists → l ≡ get_or used j l → (l.slot < slots) × (l.len ≤ 128) = λ j l less at. slot_in cells used spare limit a b c pooled j l (omega (arith, less, count)) at in
      let entries : (j : ℕ) (l : Leaf) → j < length v.lists → l ≡ get_or used j l → get_or v.lists j [] ≡ leaf_of cells l = λ j l less at. ap (λ (q : List (List X)). get_or q j []) (sym lists) ∙ leaf_at_is cells used j l (omega (arith, less, count)) at in
      record {
        count = count;
        memory = λ j l less at. record { slot = omega (arith, pooled.whole, (there j l less at).0); len = (there j l less at).1 };
        entries = entries;
        len = λ j l less at. ap length (entries j l less at) ∙ length_leaf cells slots l (omega (arith, pooled.whole)) (there j l less at).0 (there j l less at).1;
      }

  -- memory that was lent to a call
  pub given_back : (xs ys : List X) (n : ℕ) → length xs ≡ n → take n (xs ++ drop (length xs) ys) ≡ xs
  given_back xs ys n same = take_at xs (drop (length xs) ys) n same

  keeps_all : (cells : List X) (slot : ℕ) → KeepsOthers cells cells slot
  keeps_all cells slot = record { long = omega arith; below = λ k d less within. refl; behind = λ k d past within. refl }

  module _ (cells : List X) (used spare : List Leaf) (limit a b c : ℕ) (v : Pooled X) (pooled : ArePooled cells used spare limit a b c) (is : (record { lists = lists_of cells used; limit = limit }) ≡ v) where
    lists : lists_of cells used ≡ v.lists
    lists = ap (λ (q : Pooled X). q.lists) is

    -- another leaf in the place of one, in its slot
    pub seen_set : (after : List X) (j : ℕ) (l m : Leaf) → j < length used → l ≡ get_or used j l → KeepsOthers cells after l.slot → lists_of after (set used j m) ≡ set v.lists j (leaf_of after m)
    seen_set after j l m less at keeps =
        lists_set cells after (length used + length spare) used j l m (omega (arith, pooled.whole)) less at keeps (used_apart cells used spare limit a b c pooled) (used_fit cells used spare limit a b c pooled)
        ∙ ap (λ (q : List (List X)). set q j (leaf_of after m)) lists

    pub seen_removed : (j : ℕ) → lists_of cells (remove used j) ≡ remove v.lists j
    seen_removed j = lists_remove cells used j ∙ ap (λ (q : List (List X)). remove q j) lists

    pub seen_opened : (after : List X) (j : ℕ) (m : Leaf) → m.len ≡ 0 → lists_of after used ≡ lists_of cells used → lists_of after (insert used j m) ≡ insert v.lists j []
    seen_opened after j m none same =
        lists_insert after used j m
        ∙ ap (λ (q : List X). insert (lists_of after used) j q) (ap (λ (q : ℕ). take q (drop (128 * m.slot) after)) none)
        ∙ ap (λ (q : List (List X)). insert q j []) (same ∙ lists)

    -- memory behind all that there was
    pub seen_more : (more : List X) → lists_of (cells ++ more) used ≡ lists_of cells used
    seen_more more =
        let slots = length used + length spare in
        let keeps : KeepsOthers cells (cells ++ more) slots = record {
          long = omega (arith, length-append cells more);
          below = λ k d less within. get_or_append_left cells more d k within;
          behind = λ k d past within. get_or_append_left cells more d k within;
        } in
        let fit = used_fit cells used spare limit a b c pooled in
        lists_other cells (cells ++ more) slots slots used (omega (arith, pooled.whole)) keeps (free_past slots slots used (omega arith) fit) fit

    -- an entry in the place of another: the leaf is as it was
    pub seen_same : (after : List X) (j : ℕ) (l : Leaf) → j < length used → l ≡ get_or used j l → KeepsOthers cells after l.slot → lists_of after used ≡ set v.lists j (leaf_of after l)
    seen_same after j l less at keeps =
        ap (lists_of after) (sym (ap (set used j) at ∙ set-get_or used j l)) ∙ seen_set after j l l less at keeps

  -- the rest of a leaf is moved to another one
  module _ (cells : List X) (used spare : List Leaf) (limit a b c : ℕ) (v : Pooled X) (pooled : ArePooled cells used spare limit a b c) (is : (record { lists = lists_of cells used; limit = limit }) ≡ v) (after : List X) (at place to : ℕ) (l m n : Leaf) (at_in : at < length used) (to_in : to < length used) (other : at ≢ to) (l_is : l ≡ get_or used at l) (m_is : m ≡ get_or used to m) (front : place ≤ l.len) (keeps : KeepsOthers cells after m.slot) (same_length : length after ≡ length cells) (n_slot : n.slot ≡ m.slot) (n_len : n.len ≤ 128) where
    first : ArePooled after (set used to n) spare limit a b c
    first = pooled_set cells used spare limit a b c pooled after to m n same_length to_in m_is n_slot n_len

    l_in : (l.slot < length used + length spare) × (l.len ≤ 128)
    l_in = slot_in cells used spare limit a b c pooled at l at_in l_is

    l_still : l ≡ get_or (set used to n) at l
    l_still = l_is ∙ sym (get_or-set_other used to at n l other)

    still_in : at < length (set used to n)
    still_in = omega (arith, at_in, length-set used to n)

    pub pooled_moved : ArePooled after (set (set used to n) at (record { slot = l.slot; len = place })) spare limit a b c
    pooled_moved = pooled_set after (set used to n) spare limit a b c first after at l (record { slot = l.slot; len = place }) refl still_in l_still refl (omega (arith, front, l_in.1))

    pub seen_moved : lists_of after (set (set used to n) at (record { slot = l.slot; len = place })) ≡ set (set v.lists to (leaf_of after n)) at (take place (leaf_of cells l))
    seen_moved =
        let shorter : Leaf = record { slot = l.slot; len = place } in
        let apart : l.slot ≢ m.slot = apart_slots used at to l m at_in to_in l_is m_is other (used_apart cells used spare limit a b c pooled) in
        let whole : 128 * (length used + length spare) ≤ length cells = omega (arith, pooled.whole) in
        let still : leaf_of after shorter ≡ leaf_of cells shorter = leaf_other cells after (length used + length spare) m.slot shorter whole keeps apart l_in.0 (omega (arith, front, l_in.1)) in
        let seen = seen_set after (set used to n) spare limit a b c (record { lists = lists_of after (set used to n); limit = limit }) first refl after at l shorter still_in l_still (keeps_all after l.slot) in
        seen
        ∙ ap (λ (q : List (List X)). set q at (leaf_of after shorter)) (seen_set cells used spare limit a b c v pooled is after to m n to_in m_is keeps)
        ∙ ap (λ (q : List X). set (set v.lists to (leaf_of after n)) at q) (still ∙ part_front cells (128 * l.slot) l.len place (omega (arith, pooled.whole, l_in.0, l_in.1)) front)
