-- A bound between two stretches in another place.
use Rattle.std.proofs.Common.{◌≡◌, ℕ, zero, suc, ◌+◌, ◌<◌, ◌≤◌, ◌^◌, cond, List, [], ◌∷◌, length, get_or, set, Option, Some, refl, sym, ap, subst, ◌∙◌, arith, length-set}
use Rattle.stretches.specs.declared.says.Says.{Ghosts}
use Rattle.stretches.specs.declared.stretch.Stretch.{Stretch}
use Rattle.stretches.specs.GoingOn.{GoesOn}
use Rattle.stretches.specs.Places.{IsPart}
use Rattle.stretches.specs.Stretch.{Continues, IsFit, behind, is_in, value_at}
use Rattle.stretches.specs.Stretches.{AreInOrder, number_count, said}
use Rattle.stretches.proofs.Changes.Joining.{count_merged, merged, order_merged, said_merged}
use Rattle.stretches.proofs.Changes.Parts.{both}
use Rattle.stretches.proofs.Changes.Replacement.{count_replaced, order_replaced, said_replaced}
use Rattle.stretches.proofs.Changes.Splitting.{count_parted, front_parted, order_parted, parted, said_parted}

module _ {V : Type 0} (S : Ghosts V) where
  -- the bound between the stretch at a place and the next one, r, moved behind the numbers of q
  abbrev pub moved : List (Stretch V) → ℕ → Stretch V → Stretch V → Stretch V → List (Stretch V)
  moved rs at a r q = set (set rs at (both a q)) (suc at) (behind S r q.count)

  -- the list between the steps: r in two parts, and q in place of the first one
  abbrev changed_part : List (Stretch V) → ℕ → Stretch V → Stretch V → List (Stretch V)
  changed_part rs at r q = set (parted S rs (suc at) r q.count) (suc at) q

  -- then q is made one with the stretch before it
  in_steps : (rs : List (Stretch V)) (at : ℕ) (a r q : Stretch V) → suc at < length rs → moved rs at a r q ≡ merged (changed_part rs at r q) at a q
  in_steps [] at a r q less = absurd (omega arith)
  in_steps (x ∷ []) at a r q less = absurd (omega arith)
  in_steps (x ∷ y ∷ rs) zero a r q less = refl
  in_steps (x ∷ y ∷ rs) (suc at) a r q less = ap (λ ts. x ∷ ts) (in_steps (y ∷ rs) at a r q (omega arith))

  -- what stands at the place and behind it between the steps
  longer : (rs : List (Stretch V)) (at : ℕ) (r q : Stretch V) → suc at < length rs → suc at < length (changed_part rs at r q)
  longer [] at r q less = absurd (omega arith)
  longer (x ∷ []) at r q less = absurd (omega arith)
  longer (x ∷ y ∷ rs) zero r q less = omega arith
  longer (x ∷ y ∷ rs) (suc at) r q less = omega (arith, longer (y ∷ rs) at r q (omega arith))

  stays : (rs : List (Stretch V)) (at : ℕ) (a r q : Stretch V) → suc at < length rs → get_or (changed_part rs at r q) at a ≡ get_or rs at a
  stays [] at a r q less = absurd (omega arith)
  stays (x ∷ []) at a r q less = absurd (omega arith)
  stays (x ∷ y ∷ rs) zero a r q less = refl
  stays (x ∷ y ∷ rs) (suc at) a r q less = stays (y ∷ rs) at a r q (omega arith)

  comes : (rs : List (Stretch V)) (at : ℕ) (r q : Stretch V) → suc at < length rs → get_or (changed_part rs at r q) (suc at) q ≡ q
  comes [] at r q less = absurd (omega arith)
  comes (x ∷ []) at r q less = absurd (omega arith)
  comes (x ∷ y ∷ rs) zero r q less = refl
  comes (x ∷ y ∷ rs) (suc at) r q less = comes (y ∷ rs) at r q (omega arith)

module _ {V : Type 0} (S : Ghosts V) (laws : GoesOn S.after S.lasts) (rs : List (Stretch V)) (at : ℕ) (a r q : Stretch V) (order : AreInOrder S 0 rs) (less : suc at < length rs) (first : get_or rs at a ≡ a) (second : get_or rs (suc at) r ≡ r) (begins : r.first ≡ q.first) (fewer : q.count < r.count) (fit : IsFit S q) (follows : Continues S a q) (fits : a.count + q.count < 2 ^ 32) where
  in_two : List (Stretch V)
  in_two = parted S rs (suc at) r q.count

  order_two : AreInOrder S 0 in_two
  unfolding in_two
  order_two = order_parted S laws 0 rs (suc at) q.count r order less second fit.some fewer

  part_two : IsPart in_two q.first q.count (suc at)
  unfolding in_two
  part_two = record {
    within = omega (arith, longer S rs at r q less, length-set {A = Stretch V});
    first = λ d. ap (λ (t : Stretch V). t.first) (front_parted S rs (suc at) q.count r less d) ∙ begins;
    count = λ d. ap (λ (t : Stretch V). t.count) (front_parted S rs (suc at) q.count r less d);
  }

  changed : List (Stretch V)
  changed = set in_two (suc at) q

  order_changed : AreInOrder S 0 changed
  unfolding changed
  order_changed = order_replaced S 0 in_two (suc at) q order_two part_two fit

  pub order_moved : AreInOrder S 0 (moved S rs at a r q)
  unfolding changed in_two
  order_moved = subst (λ (ts : List (Stretch V)). AreInOrder S 0 ts) (sym (in_steps S rs at a r q less)) (order_merged S laws 0 changed at a q order_changed (longer S rs at r q less) (stays S rs at a r q less ∙ first) (comes S rs at r q less) follows fits)

  pub said_moved : (n : ℕ) → said S (moved S rs at a r q) n ≡ cond (is_in q n) (Some (value_at S q n)) (said S rs n)
  unfolding changed in_two
  said_moved n =
      let le : q.count ≤ r.count = omega arith in
      ap (λ (ts : List (Stretch V)). said S ts n) (in_steps S rs at a r q less)
      ∙ said_merged S laws changed at a q (longer S rs at r q less) (stays S rs at a r q less ∙ first) (comes S rs at r q less) follows n
      ∙ said_replaced S 0 in_two (suc at) q order_two part_two n
      ∙ ap (λ (o : Option V). cond (is_in q n) (Some (value_at S q n)) o) (said_parted S laws rs (suc at) q.count r less second le n)

  pub count_moved : number_count (moved S rs at a r q) ≡ number_count rs
  unfolding changed in_two
  count_moved =
      let le : q.count ≤ r.count = omega arith in
      ap number_count (in_steps S rs at a r q less)
      ∙ count_merged changed at a q (longer S rs at r q less) (stays S rs at a r q less ∙ first) (comes S rs at r q less)
      ∙ count_replaced in_two (suc at) q part_two
      ∙ count_parted S rs (suc at) q.count r less second le
