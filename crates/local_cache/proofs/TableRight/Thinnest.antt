-- The tables without nodes, with more room, and the first of the thin nodes.
use Rattle.std.proofs.Common.{◌≡◌, ℕ, ◌≤◌, [], Option, Some, None, refl, sym, ap, ◌∙◌, arith}
use Rattle.std.specs.Prelude.{option_and_then}
use Rattle.std.proofs.lemmas.Option.{none-some}
use Rattle.std.specs.Ordering.{nat_cmp}
use Rattle.std.specs.FinMap.{FinMap, get-empty, len-empty}
use Rattle.std.specs.FinMap as map
use Rattle.stretches.specs.declared.rising.Rising.{Rising}
use Rattle.local_cache.specs.Arena.{Cell}
use Rattle.local_cache.specs.NodeKeys.{key_at, working_number}
use Rattle.local_cache.specs.LinkTable.{IsLeastThin, IsTableRight, IsThin, Table}
use Rattle.local_cache.specs.Thin.{thin_number}
use Rattle.local_cache.specs.ThinNodes.{HasNone, IsFirst, IsLeast, Thin}
use Rattle.local_cache.specs.declared.runs.thin_nodes.FirstThin.TheVariants.{Alone, Among}

-- No node, and more room

abbrev pub no_table : Table
no_table = record { cells = map.empty; slots = map.empty; list = []; count = 0; room = 0 }

abbrev pub no_thin : Thin
no_thin = record { alone = map.empty; among = map.empty; room = 0 }

none_there : {X : Type 0} (n : ℕ) (x : X) → map.get {R = nat_cmp} map.empty n ≡ Some x → ⊥
none_there n x e = none-some x (sym (get-empty nat_cmp n) ∙ e)

none_key : (key : Cell → Option ℕ) (n k : ℕ) → key_at key map.empty n ≡ Some k → ⊥
none_key key n k e = none-some k (sym (ap (option_and_then key) (get-empty nat_cmp n)) ∙ e)

pub none_right : IsTableRight no_table no_thin
none_right = record {
  kept = record {
    alone = λ slot k. ((λ h. absurd (none_there slot k h)), (λ w. absurd (none_key thin_number w.0 k w.2)));
    among = λ k n. ((λ h. absurd (none_there k _ h)), (λ w. absurd (none_key thin_number n k w.1)));
  };
  apart = λ a b k e f. absurd (none_key working_number a k e);
  once = λ a b s e f. absurd (none_there a s e);
  within = λ q s e. absurd (none_there q s e);
  held = λ q s e. absurd (none_there q s e);
  counted = sym (len-empty nat_cmp Cell);
  few = omega arith;
  room = omega arith;
}

pub more_room : (t : Table) (thin : Thin) (R S : ℕ) → IsTableRight t thin → t.room ≤ R → R ≤ S → IsTableRight (record t { room = R }) (record thin { room = S })
more_room t thin R S right more less = record {
  kept = record { alone = right.kept.alone; among = right.kept.among };
  apart = right.apart;
  once = right.once;
  within = λ q s e. omega (arith, right.within q s e, more);
  held = right.held;
  counted = right.counted;
  few = omega (arith, right.few, more);
  room = less;
}

-- The first of the thin nodes

pub least_thin : (t : Table) (thin : Thin) (k : ℕ) → IsTableRight t thin → IsLeast thin k → (other j : ℕ) → IsThin t.cells other j → k ≤ j
least_thin t thin k right least other j is = by_slot (map.get t.slots other) refl where
  by_slot : (o : Option ℕ) → map.get t.slots other ≡ o → k ≤ j
  by_slot (Some slot) e = least.0 slot j ((right.kept.alone slot j).1 (other, e, is))
  by_slot None e = least.1 j _ ((right.kept.among j other).1 (e, is))

pub first_none : (t : Table) (thin : Thin) → IsTableRight t thin → HasNone thin → IsLeastThin t.cells None
first_none t thin right none n k is = by_slot (map.get t.slots n) refl where
  by_slot : (o : Option ℕ) → map.get t.slots n ≡ o → ⊥
  by_slot (Some slot) e = none_there slot k (sym (ap (λ (m : FinMap nat_cmp ℕ). map.get m slot) none.0) ∙ (right.kept.alone slot k).1 (n, e, is))
  by_slot None e = none_there k _ (sym (ap (λ (m : FinMap nat_cmp Rising). map.get m k) none.1) ∙ (right.kept.among k n).1 (e, is))

pub first_alone : (t : Table) (thin : Thin) (slot n : ℕ) → IsTableRight t thin → IsFirst thin (Alone slot) → map.get t.slots n ≡ Some slot → IsLeastThin t.cells (Some (record { 0 = n }))
first_alone t thin slot n right first at =
    let w = (right.kept.alone slot first.0).0 first.1 in
    let here = right.once w.0 n slot w.1 at in
    (first.0, ap (key_at thin_number t.cells) (sym here) ∙ w.2, least_thin t thin first.0 right first.2)

pub first_among : (t : Table) (thin : Thin) (n : ℕ) → IsTableRight t thin → IsFirst thin (Among n) → IsLeastThin t.cells (Some (record { 0 = n }))
first_among t thin n right first = (first.0, ((right.kept.among first.0 n).0 first.1).1, least_thin t thin first.0 right first.2)

-- there is a place in the slot of the first
pub first_there : (t : Table) (thin : Thin) (slot : ℕ) → IsTableRight t thin → IsFirst thin (Alone slot) → (n : ℕ) × (map.get t.slots n ≡ Some slot)
first_there t thin slot right first = (let w = (right.kept.alone slot first.0).0 first.1 in (w.0, w.1))
