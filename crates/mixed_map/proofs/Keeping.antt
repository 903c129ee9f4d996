-- Places that are taken and given back.
use Rattle.std.proofs.Common.{◌≡◌, ◌≢◌, ℕ, ◌+◌, [], Bool, true, Option, Some, None, cond, is_some, refl, sym, ap, subst, ◌∙◌, inl, inr, arith}
use Rattle.std.specs.Prelude.{count_by, IsSome}
use Rattle.std.proofs.lemmas.Bool.{cases_eq}
use Rattle.std.proofs.lemmas.List.Sums.{sum_by-set}
use Rattle.std.specs.Ordering.{nat_cmp}
use Rattle.std.specs.FinMap.{FinMap, get-empty, len-empty}
use Rattle.std.specs.FinMap as map
use Rattle.slab.specs.Slab.{Slab, get, ContainsKey, slab_len, Updates, with_value}
use Rattle.slab.proofs.SlabLemmas.{ContainsKey-within, Updates-with_value}
use Rattle.mixed_map.specs.Lone.{IsKept}
use Rattle.mixed_map.proofs.Maps.{insert_other, insert_same, len_less, len_more, len_some, remove_other, remove_same}

module _ {S : Type 0} where
  -- no number and no slot
  pub none_kept : (places : FinMap nat_cmp ℕ) (slots : Slab S) → places ≡ map.empty → slots.slots ≡ [] → slots.capacity ≡ 0 → IsKept places slots 0
  none_kept places slots no_place no_slot no_room =
      let never : (q r : ℕ) → map.get places q ≢ Some r = λ q r e. (let f : map.get places q ≡ None = ap (λ (m : FinMap nat_cmp ℕ). map.get m q) no_place ∙ get-empty nat_cmp q in absurd (cc)) in
      let short : slab_len slots ≡ 0 = ap (count_by is_some) no_slot in
      let empty : map.len places ≡ 0 = ap map.len no_place ∙ len-empty nat_cmp ℕ in
      record {
        within = λ q r e. absurd (never q r e);
        once = λ q m r e f. absurd (never q r e);
        counted = omega (arith, short, empty);
        exact = no_room;
      }

  module _ (places : FinMap nat_cmp ℕ) (slots : Slab S) (room : ℕ) (k : IsKept places slots room) where
    -- a slot without an entry is no number's place
    pub fresh : (p : ℕ) → get slots p ≡ None → (q r : ℕ) → map.get places q ≡ Some r → r ≢ p
    fresh p vacant q r e at = (let never : is_some (get slots p) ≡ true = subst (λ s. IsSome (get slots s)) at (k.within q r e) in absurd (cc))

    -- the place of a number is no other's
    pub alone : (n p : ℕ) → map.get places n ≡ Some p → (q r : ℕ) → q ≢ n → map.get places q ≡ Some r → r ≢ p
    alone n p at q r other e same = other (k.once q n p (e ∙ ap Some same) at)

    as_many : (p : ℕ) (w : S) → ContainsKey slots p → slab_len (with_value slots p w) ≡ slab_len slots
    as_many p w held =
        let full : ◌≡◌ {A = ℕ} (cond (is_some (get slots p)) 1 0) 1 = ap (λ (b : Bool). cond b 1 0) held in
        omega (arith, full, sum_by-set (λ (o : Option S). cond (is_some o) 1 0) slots.slots p (Some w) None (ContainsKey-within slots p held))

    -- another entry in a slot
    pub kept_set : (p : ℕ) (w : S) → ContainsKey slots p → IsKept places (with_value slots p w) room
    kept_set p w held =
        let updates = Updates-with_value slots p w held in
        record {
          within = λ q r e. elim (cases_eq r p) [
            | inl at ↦ subst IsSome (sym (ap (get (with_value slots p w)) at ∙ updates.changed)) refl
            | inr other ↦ subst IsSome (sym (updates.others r other)) (k.within q r e)
          ];
          once = k.once;
          counted = k.counted ∙ sym (as_many p w held);
          exact = k.exact;
        }

    -- a slot is taken for a number
    pub taken : (new : Slab S) (n p : ℕ) (x : S) → get slots p ≡ None → Updates slots new p (Some x) → slab_len new ≡ slab_len slots + 1 → new.capacity ≡ slots.capacity → map.get places n ≡ None → IsKept (map.insert places n p) new room
    taken new n p x vacant updates long same none =
        let was : (q r : ℕ) → q ≢ n → map.get (map.insert places n p) q ≡ Some r → map.get places q ≡ Some r = λ q r other e. sym (insert_other places n p q other) ∙ e in
        let here : (q r : ℕ) → q ≡ n → map.get (map.insert places n p) q ≡ Some r → r ≡ p = λ q r at e. (let f : Some p ≡ Some r = sym (insert_same places n p q at) ∙ e in cc) in
        record {
          within = λ q r e. elim (cases_eq q n) [
            | inl at ↦ subst IsSome (sym (ap (get new) (here q r at e) ∙ updates.changed)) refl
            | inr other ↦ subst IsSome (sym (updates.others r (fresh p vacant q r (was q r other e)))) (k.within q r (was q r other e))
          ];
          once = λ q m r e f. elim (cases_eq q n) [
            | inl at ↦ elim (cases_eq m n) [
              | inl both ↦ at ∙ sym both
              | inr other ↦ absurd (fresh p vacant m r (was m r other f) (here q r at e))
            ]
            | inr other ↦ elim (cases_eq m n) [
              | inl both ↦ absurd (fresh p vacant q r (was q r other e) (here m r both f))
              | inr others ↦ k.once q m r (was q r other e) (was m r others f)
            ]
          ];
          counted = omega (arith, len_more places n p none, k.counted, long);
          exact = same ∙ k.exact;
        }

    -- a slot is given back
    pub given_back : (new : Slab S) (n p : ℕ) → map.get places n ≡ Some p → Updates slots new p None → slab_len new + 1 ≡ slab_len slots → new.capacity ≡ slots.capacity → IsKept (map.remove places n) new room
    given_back new n p at updates less same =
        let other : (q r : ℕ) → map.get (map.remove places n) q ≡ Some r → q ≢ n = λ q r e at. (let none = remove_same places n q at in absurd (cc)) in
        let was : (q r : ℕ) → map.get (map.remove places n) q ≡ Some r → map.get places q ≡ Some r = λ q r e. sym (remove_other places n q (other q r e)) ∙ e in
        record {
          within = λ q r e. subst IsSome (sym (updates.others r (alone n p at q r (other q r e) (was q r e)))) (k.within q r (was q r e));
          once = λ q m r e f. k.once q m r (was q r e) (was m r f);
          counted = omega (arith, len_less places n p at, len_some places n p at, k.counted, less);
          exact = same ∙ k.exact;
        }
