-- The laws of settle and of its steps.
use Rattle.std.proofs.Common.{◌≡◌, ◌≢◌, ℕ, suc, zero, ◌+◌, ◌<◌, ◌≤◌, List, [], ◌∷◌, map, Bool, true, false, cond, T, ◌⊎◌, Option, Some, None, refl, sym, ap, subst, ◌∙◌, inl, inr, arith, filter, lt-ltb}
use Rattle.std.specs.FinMap.Entries.{is_sorted, below_all}
use Rattle.std.specs.declared.cmp.Ordering.{Ordering}
use Rattle.std.specs.declared.cmp.Ordering.TheVariants.{Less, Equal, Greater}
use Rattle.std.specs.Ordering.{is_lt, nat_cmp, MatchOrdering, ordering_then}
use Rattle.std.specs.Cmp.{ranks}
use Rattle.vm_ids.specs.declared.node_name.NodeName.{NodeName}
use Rattle.vm_ids.specs.Forest.Names.{Live, Working, same, name_cmp}
use Rattle.vm_ids.specs.Forest.NameLists.{◌∈◌, first}
use Rattle.vm_ids.specs.Forest.NameMap.{len}
use Rattle.vm_ids.specs.Forest.Nodes.{Forest, child_count, IsNode, is_live}
use Rattle.vm_ids.specs.Forest.Shape.{IsConsistent}
use Rattle.vm_ids.specs.Forest.Reading.{value_of}
use Rattle.vm_ids.specs.Forest.Settling.{is_thin, thin, settle_step, settle_within, settle}
use Rattle.vm_ids.specs.Forest.Laws.Settling.{ThinIsWorking, ThinIsLeast, NothingIsThin, SettledHasNothingThin, StepKeepsConsistency, StepKeepsValues, StepCountsNoCopy, SettleBySteps, SettleEnds, SettleKeepsConsistency, SettleSettles, SettleKeepsLiveValues, SettleKeepsValues, SettledIsBounded, SettleCountsNoCopy}
use Rattle.vm_ids.proofs.Forest.Bound.{both_left, both_right, IsNode-key, thin_none, thin-some, working_count-lt}
use Rattle.vm_ids.proofs.Forest.SettleStep.{settle_step-Settled}
use Rattle.vm_ids.proofs.Forest.Settling.{settle_step-names, settled-shaped, fewer_len, no_keys, settle-Rests}
use Rattle.vm_ids.proofs.Forest.Counters.{settle_step-counters, settle-counters}
use Rattle.vm_ids.proofs.Forest.Agreeing.{value_equal, value_none, counted_from}
use Rattle.vm_ids.proofs.Forest.OneDetached.{by_name}

-- the first name of a sorted list that passes is the least one
below_each : {X : Type 0} (k z : NodeName) (es : List (NodeName × X)) → T (below_all name_cmp k es) → z ∈ map (λ e. e.0) es → T (is_lt (name_cmp k z))
below_each k z [] t i = absurd i
below_each k z (e ∷ es) t i = elim i [ inl q ↦ subst (λ y. T (is_lt (name_cmp k y))) (sym q) (both_left _ _ t) | inr j ↦ below_each k z es (both_right _ _ t) j ]

least_first : {X : Type 0} (test : NodeName → Bool) (es : List (NodeName × X)) (w z : NodeName) → T (is_sorted name_cmp es) → first (filter test (map (λ e. e.0) es)) ≡ Some w → z ∈ map (λ e. e.0) es → test z ≡ true → (z ≡ w) ⊎ T (is_lt (name_cmp w z))
least_first test [] w z t e i pass = absurd i
least_first test (x ∷ es) w z t e i pass = go (test x.0) refl e (λ k j. least_first test es w z (both_right _ _ t) k j pass)
  where
    go : (b : Bool) → test x.0 ≡ b → first (cond b (x.0 ∷ filter test (map (λ e. e.0) es)) (filter test (map (λ e. e.0) es))) ≡ Some w → (first (filter test (map (λ e. e.0) es)) ≡ Some w → z ∈ map (λ e. e.0) es → (z ≡ w) ⊎ T (is_lt (name_cmp w z))) → (z ≡ w) ⊎ T (is_lt (name_cmp w z))
    go true p e more =
        let is : x.0 ≡ w = cc e in
        elim i [ inl q ↦ inl (q ∙ is) | inr j ↦ inr (subst (λ y. T (is_lt (name_cmp y z))) is (below_each x.0 z es (both_left _ _ t) j)) ]
    go false p e more = elim i [ inl q ↦ absurd (cc (p, ap test q, pass)) | inr j ↦ more e j ]

less_working : (k j : ℕ) → T (is_lt (name_cmp (Working k) (Working j))) → k ≤ j
less_working k j t = go (nat_cmp k j) (ranks k j) t
  where
    go : (o : Ordering) → MatchOrdering o (k < j) (k ≡ j) (j < k) → T (is_lt (ordering_then o Equal)) → k ≤ j
    go Less h t = omega arith
    go Equal h t = absurd t
    go Greater h t = absurd t

module _ {P : Type 0} where
  pub thin_is_working : ThinIsWorking P
  thin_is_working f w e = thin-some f w e

  pub thin_is_least : ThinIsLeast P
  unfolding thin
  thin_is_least f k j e is few = elim (least_first (is_thin f) f.nodes.list (Working k) (Working j) f.nodes.sorted e (IsNode-key f (Working j) is) (lt-ltb (child_count f (Working j)) 2 few)) [
    | inl q ↦ (let n : j ≡ k = cc q in omega arith)
    | inr t ↦ less_working k j t
  ]

  pub nothing_is_thin : NothingIsThin P
  nothing_is_thin f e k is = thin_none f e (Working k) is refl

  pub settled_has_nothing_thin : SettledHasNothingThin P
  settled_has_nothing_thin f settled = go (thin f) refl
    where
      two : (w : NodeName) → IsNode f w → is_live w ≡ false → child_count f w < 2 → ⊥
      two (Live c p) is live few = cc live
      two (Working k) is live few = absurd (let m = settled k is in omega arith)

      go : (o : Option NodeName) → thin f ≡ o → o ≡ None
      go None e = refl
      go (Some w) e = let t = thin-some f w e in absurd (two w t.0 t.1 t.2)

  -- one step
  module _ (f : Forest P) (w : NodeName) (c : IsConsistent f) (is_thin : thin f ≡ Some w) where
    pub step-fewer : (z : NodeName) → IsNode (settle_step f w) z → (z ≢ w) × IsNode f z
    step-fewer = let t = thin-some f w is_thin in settle_step-names f c.shaped.linked w t.0

    pub step-consistent : IsConsistent (settle_step f w)
    step-consistent =
        let t = thin-some f w is_thin in record {
          shaped = settled-shaped f (settle_step f w) w c.shaped (settle_step-Settled f c.shaped.linked w t.2) step-fewer;
          counted = counted_from f (settle_step f w) (λ z is. (step-fewer z is).1) (settle_step-counters f w).made c.counted;
        }

    pub step-value : (y : NodeName) → value_of (settle_step f w) y ≡ cond (same y w) None (value_of f y)
    step-value y =
        let t = thin-some f w is_thin in
        let s = settle_step-Settled f c.shaped.linked w t.2 in
        by_name y w (value_of (settle_step f w) y) None (value_of f y)
        (λ e. value_none (settle_step f w) y (λ is. (step-fewer y is).0 e))
        (λ apart. value_equal f (settle_step f w) c.shaped s.shape y y (λ is. (step-fewer y is).1) (λ v r. s.kept y v apart r))

    pub step-len : len (settle_step f w).nodes < len f.nodes
    step-len = let t = thin-some f w is_thin in fewer_len (settle_step f w) f w t.0 step-fewer

  pub step_keeps_consistency : StepKeepsConsistency P
  step_keeps_consistency f w c e = step-consistent f w c e

  pub step_keeps_values : StepKeepsValues P
  step_keeps_values f w y c e = step-value f w c e y

  pub step_counts_no_copy : StepCountsNoCopy P
  step_counts_no_copy f w = (settle_step-counters f w).copies

  within_ends : (n : ℕ) (f : Forest P) → thin f ≡ None → settle_within n f ≡ f
  unfolding settle_within
  within_ends zero f e = refl
  within_ends (suc n) f e = go (thin f) e
    where
      go : (o : Option NodeName) → o ≡ None → ◌≡◌ {A = Forest P} (elim o [ None ↦ f | Some w ↦ settle_within n (settle_step f w) ]) f
      go None e = refl
      go (Some w) e = absurd (cc e)

  -- as many steps as there are nodes are as good as any number above
  within_enough : (n m : ℕ) (f : Forest P) → IsConsistent f → len f.nodes ≤ n → len f.nodes ≤ m → settle_within n f ≡ settle_within m f
  unfolding settle_within
  within_enough zero m f c low high = sym (within_ends m f (no_keys f low))
  within_enough (suc n) zero f c low high = within_ends (suc n) f (no_keys f high)
  within_enough (suc n) (suc m) f c low high = go (thin f) refl (λ g k a b. within_enough n m g k a b)
    where
      go : (o : Option NodeName) → thin f ≡ o → ((g : Forest P) → IsConsistent g → len g.nodes ≤ n → len g.nodes ≤ m → settle_within n g ≡ settle_within m g)
          → ◌≡◌ {A = Forest P} (elim o [ None ↦ f | Some w ↦ settle_within n (settle_step f w) ]) (elim o [ None ↦ f | Some w ↦ settle_within m (settle_step f w) ])
      go None e more = refl
      go (Some w) e more = let l = step-len f w c e in more (settle_step f w) (step-consistent f w c e) (omega arith) (omega arith)

  pub settle_ends : SettleEnds P
  unfolding settle
  settle_ends f e = within_ends (len f.nodes) f e

  within_one : (n : ℕ) (f : Forest P) (w : NodeName) → thin f ≡ Some w → settle_within (suc n) f ≡ settle_within n (settle_step f w)
  unfolding settle_within
  within_one n f w e = go (thin f) e
    where
      go : (o : Option NodeName) → o ≡ Some w → ◌≡◌ {A = Forest P} (elim o [ None ↦ f | Some w ↦ settle_within n (settle_step f w) ]) (settle_within n (settle_step f w))
      go None e = absurd (cc e)
      go (Some v) e = let is : v ≡ w = cc e in ap (λ z. settle_within n (settle_step f z)) is

  pub settle_by_steps : SettleBySteps P
  unfolding settle
  settle_by_steps f w c e =
      let l = step-len f w c e in
      within_enough (len f.nodes) (suc (len (settle_step f w).nodes + len f.nodes)) f c (omega arith) (omega arith)
      ∙ within_one (len (settle_step f w).nodes + len f.nodes) f w e
      ∙ within_enough (len (settle_step f w).nodes + len f.nodes) (len (settle_step f w).nodes) (settle_step f w) (step-consistent f w c e) (omega arith) (omega arith)

  pub settle_keeps_consistency : SettleKeepsConsistency P
  settle_keeps_consistency f c =
      let r = settle-Rests f c.shaped in
      record { shaped = r.shaped; counted = counted_from f (settle f) r.names (settle-counters f).made c.counted }

  pub settle_settles : SettleSettles P
  settle_settles f c k is = thin_none (settle f) (settle-Rests f c.shaped).no_thin (Working k) is refl

  pub settle_keeps_live_values : SettleKeepsLiveValues P
  settle_keeps_live_values f c y live =
      let r = settle-Rests f c.shaped in
      value_equal f (settle f) c.shaped r.shaped.linked y y (r.names y) (λ v k. r.lives y v live k)

  pub settle_keeps_values : SettleKeepsValues P
  settle_keeps_values f c y is =
      let r = settle-Rests f c.shaped in
      value_equal f (settle f) c.shaped r.shaped.linked y y (r.names y) (λ v k. r.kept y v is k)

  pub settled_is_bounded : SettledIsBounded P
  settled_is_bounded f shaped settled = working_count-lt f shaped.linked (λ x is working. two x is working)
    where
      two : (x : NodeName) → IsNode f x → is_live x ≡ false → 2 ≤ child_count f x
      two (Live c p) is live = absurd (cc live)
      two (Working k) is live = settled k is

  pub settle_counts_no_copy : SettleCountsNoCopy P
  settle_counts_no_copy f = (settle-counters f).copies
