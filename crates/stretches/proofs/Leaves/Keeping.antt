-- What the directory keeps true, after each change.
use Rattle.std.proofs.Common.{◌≡◌, ℕ, ◌+◌, ◌-◌, ◌<◌, ◌≤◌, List, [], length, get_or, set, sym, ap, ◌∙◌, arith, length-set}
use Rattle.std.specs.List.{insert, remove}
use Rattle.std.proofs.lemmas.List.Edits.{length-insert, length-remove}
use Rattle.stretches.specs.Leaves.{AreKept, AreSpread, flat, halved}
use Rattle.stretches.specs.Spots.{index_at}
use Rattle.stretches.proofs.Leaves.Entries.{insert_flat, set_flat}
use Rattle.stretches.proofs.Leaves.Halving.{flat_halved, length_halved, spread_halved}
use Rattle.stretches.proofs.Leaves.Indexes.{index_spot}
use Rattle.stretches.proofs.Leaves.Spread.{few_leaves, spread_more}

module _ {X : Type 0} (ls : List (List X)) (limit count places : ℕ) (kept : AreKept ls limit count places) where
  pub kept_set : (j k : ℕ) (x : X) → j < length ls → k < length (get_or ls j []) → AreKept (set ls j (set (get_or ls j []) k x)) limit count places
  kept_set j k x less within =
      let leaf = get_or ls j [] in
      record {
        spread = spread_more 64 ls j (set leaf k x) (omega (arith, length-set leaf k x)) kept.spread;
        counted = kept.counted ∙ sym (ap length (set_flat ls j k x less within) ∙ length-set (flat ls) (index_at ls j k) x);
        enough = kept.enough;
      }

  pub kept_insert : (j k : ℕ) (x : X) → j < length ls → k ≤ length (get_or ls j []) → AreKept (set ls j (insert (get_or ls j []) k x)) limit (count + 1) places
  kept_insert j k x less within =
      let leaf = get_or ls j [] in
      let all = ap length (insert_flat ls j k x less within) in
      record {
        spread = spread_more 64 ls j (insert leaf k x) (omega (arith, length-insert leaf k x within)) kept.spread;
        counted = omega (arith, kept.counted, all, length-insert (flat ls) (index_at ls j k) x (index_spot ls j k less within));
        enough = kept.enough;
      }

  -- where a full leaf is to be halved, there can be one more
  pub leaf_left : (j : ℕ) → j < length ls → 128 ≤ length (get_or ls j []) → length (flat ls) < places → length ls < limit
  leaf_left j less full room =
      let few = few_leaves 64 (halved ls j) (spread_halved 64 ls j (omega arith) less full kept.spread) in
      omega (arith, few, length_halved ls j less, ap length (flat_halved ls j less), room, kept.enough)

  pub kept_halved : (j : ℕ) → j < length ls → 128 ≤ length (get_or ls j []) → AreKept (halved ls j) limit count places
  kept_halved j less full = record {
    spread = spread_halved 64 ls j (omega arith) less full kept.spread;
    counted = kept.counted ∙ sym (ap length (flat_halved ls j less));
    enough = kept.enough;
  }

  pub kept_removed : (i : ℕ) (less : List (List X)) → i < length (flat ls) → flat less ≡ remove (flat ls) i → AreSpread less → AreKept less limit (count - 1) places
  kept_removed i less within gone spread = record {
    spread = spread;
    counted = omega (arith, kept.counted, ap length gone, length-remove (flat ls) i within, within);
    enough = kept.enough;
  }
