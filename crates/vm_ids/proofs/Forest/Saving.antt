-- Saves over a range.
use Rattle.std.proofs.Common.{◌≡◌, ◌≢◌, ℕ, suc, zero, ◌+◌, ◌<◌, ◌≤◌, List, ◌∷◌, length, Bool, true, false, cond, ◌&&◌, Option, Some, None, is_some, is_none, refl, sym, ap, subst, ◌∙◌, inl, inr, arith, filter}
use Rattle.vm_ids.specs.declared.node_name.NodeName.{NodeName}
use Rattle.vm_ids.specs.Forest.NameLists.{◌∈◌}
use Rattle.vm_ids.specs.Forest.NameMap.{len, keys}
use Rattle.vm_ids.specs.Forest.Nodes.{Forest, node, parent_of, IsNode}
use Rattle.vm_ids.specs.Forest.Shape.{IsWellShaped, IsConsistent, IsBounded}
use Rattle.vm_ids.specs.Forest.Reading.{value_of}
use Rattle.vm_ids.specs.Forest.Rules.{heir, heir_gets}
use Rattle.vm_ids.specs.Forest.Saving.{is_unsaved, unsaved, saves, save_range, saved}
use Rattle.vm_ids.specs.Forest.Values.IsValue.{itself}
use Rattle.vm_ids.specs.Forest.Laws.Saving.{SavesKeepConsistency, SavesKeepBound, SavesKeepValues, NextSave, NoMoreSaves, SavesCountCopies, SaveRangeCountsCopies, SaveRangeEnds}
use Rattle.vm_ids.proofs.Forest.NameLists.{first_in, in_filter, filter_in, Once-filter}
use Rattle.vm_ids.proofs.Forest.Fitting.{names_fit, IsNode-parent}
use Rattle.vm_ids.proofs.Forest.Bound.{Once-keys, key-IsNode, IsNode-key}
use Rattle.vm_ids.proofs.Forest.Values.{heir_hangs, handed, heir_own, own_kept, node-count_copy}
use Rattle.vm_ids.proofs.Forest.NamesAfter.{heir_gets-names}
use Rattle.vm_ids.proofs.Forest.Reading.{value-IsValue}
use Rattle.vm_ids.proofs.Forest.Owning.{heir_gets-shaped}
use Rattle.vm_ids.proofs.Forest.Writing.{first_none}
use Rattle.vm_ids.proofs.Forest.Counters.{heir_gets-copies}
use Rattle.vm_ids.proofs.Forest.Agreeing.{subset_le}
use Rattle.vm_ids.proofs.Forest.Laws.Owning.{with_heir, heir_gets_keeps_consistency, heir_gets_keeps_bound, heir_gets_keeps_values}

both : (a b : Bool) → (a && b) ≡ true → (a ≡ true) × (b ≡ true)
both true b e = (refl, e)
both false b e = absurd (cc e)

not_true : (b : Bool) → (b ≡ true → ⊥) → b ≡ false
not_true true out = absurd (out refl)
not_true false out = refl

of_some : {A : Type 0} (o : Option A) → is_some o ≡ true → (v : A) × (o ≡ Some v)
of_some None e = absurd (cc e)
of_some (Some v) e = (v, refl)

module _ {P : Type 0} where
  -- what the node has that is saved next
  pub record Unsaved (f : Forest P) (xs : List NodeName) (x : NodeName) : Type 0 where
    pub there : x ∈ xs
    pub page : P
    pub own_is : (node f x).own ≡ Some page
    pub next : NodeName
    pub heir_is : heir f x ≡ Some next

  pub unsaved-Unsaved : (f : Forest P) (xs : List NodeName) (x : NodeName) → unsaved f xs ≡ Some x → Unsaved f xs x
  unfolding unsaved
  unsaved-Unsaved f xs x e =
      let p = in_filter (is_unsaved f) xs x (first_in _ x e) in
      let t = both _ _ p.1 in
      let page = of_some (node f x).own t.0 in
      let next = of_some (heir f x) t.1 in
      record { there = p.0; page = page.0; own_is = page.1; next = next.0; heir_is = next.1 }

  -- by the next save
  saves-by : (A : Forest P → Type 0) (n : ℕ) (xs : List NodeName) (f : Forest P) → A f → ((f : Forest P) (x : NodeName) → unsaved f xs ≡ Some x → A f → A (heir_gets f x)) → A (saves n xs f)
  unfolding saves
  saves-by A zero xs f start step = start
  saves-by A (suc n) xs f start step = go (unsaved f xs) refl (λ g is. saves-by A n xs g is step)
    where
      go : (o : Option NodeName) → unsaved f xs ≡ o → ((g : Forest P) → A g → A (saves n xs g)) → A (elim o [ None ↦ f | Some x ↦ saves n xs (heir_gets f x) ])
      go None e more = start
      go (Some x) e more = more (heir_gets f x) (step f x e start)

  pub saves_keep_consistency : SavesKeepConsistency P
  saves_keep_consistency n xs f c = saves-by IsConsistent n xs f c (λ g x e is. let u = unsaved-Unsaved g xs x e in heir_gets_keeps_consistency g is x u.page u.own_is)

  -- what saves keep of a forest
  record Saved (f g : Forest P) : Type 0 where
    shaped : IsWellShaped g
    bound : IsBounded f → IsBounded g
    values : (y : NodeName) → value_of g y ≡ value_of f y

  saves-Saved : (n : ℕ) (xs : List NodeName) (f : Forest P) → IsWellShaped f → Saved f (saves n xs f)
  saves-Saved n xs f shaped = saves-by (Saved f) n xs f record { shaped = shaped; bound = λ b. b; values = λ y. refl } (λ g x e is.
      let u = unsaved-Unsaved g xs x e in record {
        shaped = heir_gets-shaped g is.shaped x u.page u.own_is;
        bound = λ b. heir_gets_keeps_bound g is.shaped x u.page u.own_is (is.bound b);
        values = λ y. heir_gets_keeps_values g is.shaped x u.page u.own_is y ∙ is.values y;
      })

  pub saves_keep_bound : SavesKeepBound P
  saves_keep_bound n xs f shaped bound = (saves-Saved n xs f shaped).bound bound

  pub saves_keep_values : SavesKeepValues P
  saves_keep_values n xs f shaped y = (saves-Saved n xs f shaped).values y

  pub next_save : NextSave P
  unfolding saves
  next_save zero xs f x e = go (unsaved f xs) e
    where
      go : (o : Option NodeName) → o ≡ Some x → ◌≡◌ {A = Forest P} (elim o [ None ↦ f | Some x ↦ heir_gets f x ]) (heir_gets f x)
      go None e = absurd (cc e)
      go (Some y) e = let is : y ≡ x = cc e in ap (heir_gets f) is
  next_save (suc n) xs f x e = go (unsaved f xs) refl (λ g. next_save n xs g x) e
    where
      then : Option NodeName → ℕ → Forest P
      then o m = elim o [ None ↦ f | Some x ↦ saves m xs (heir_gets f x) ]

      go : (o : Option NodeName) → unsaved f xs ≡ o → ((g : Forest P) → unsaved (saves n xs g) xs ≡ Some x → saves (suc n) xs g ≡ heir_gets (saves n xs g) x) → unsaved (then o n) xs ≡ Some x → then o (suc n) ≡ heir_gets (then o n) x
      go None none more e = absurd (cc (e, none))
      go (Some y) some more e = more (heir_gets f y) e

  pub no_more_saves : NoMoreSaves P
  unfolding saves
  no_more_saves zero xs f e = go (unsaved f xs) e
    where
      go : (o : Option NodeName) → o ≡ None → ◌≡◌ {A = Forest P} (elim o [ None ↦ f | Some x ↦ heir_gets f x ]) f
      go None e = refl
      go (Some y) e = absurd (cc e)
  no_more_saves (suc n) xs f e = go (unsaved f xs) (λ g. no_more_saves n xs g) e
    where
      then : Option NodeName → ℕ → Forest P
      then o m = elim o [ None ↦ f | Some x ↦ saves m xs (heir_gets f x) ]

      go : (o : Option NodeName) → ((g : Forest P) → unsaved (saves n xs g) xs ≡ None → saves (suc n) xs g ≡ saves n xs g) → unsaved (then o n) xs ≡ None → then o (suc n) ≡ then o n
      go None more e = refl
      go (Some y) more e = more (heir_gets f y) e

  -- so many saves, and how many of them were done
  saves-count : (n : ℕ) (xs : List NodeName) (f : Forest P) → ((m : ℕ) × (saves n xs f ≡ saves m xs f) × ((saves n xs f).copies ≡ f.copies + m)) × ((x : NodeName) → unsaved (saves n xs f) xs ≡ Some x → (saves n xs f).copies ≡ f.copies + n)
  unfolding saves
  saves-count zero xs f = ((zero, refl, omega arith), λ x e. omega arith)
  saves-count (suc n) xs f = go (unsaved f xs) refl (λ g. saves-count n xs g)
    where
      then : Option NodeName → ℕ → Forest P
      then o m = elim o [ None ↦ f | Some x ↦ saves m xs (heir_gets f x) ]

      Count : Forest P → ℕ → Type 0
      Count g n = ((m : ℕ) × (saves n xs g ≡ saves m xs g) × ((saves n xs g).copies ≡ g.copies + m)) × ((x : NodeName) → unsaved (saves n xs g) xs ≡ Some x → (saves n xs g).copies ≡ g.copies + n)

      by_first : (o : Option NodeName) (m : ℕ) → unsaved f xs ≡ o → saves (suc m) xs f ≡ then o m
      by_first o m e = ap (λ u. then u m) e

      copies_of : Forest P → ℕ
      copies_of g = g.copies

      go : (o : Option NodeName) → unsaved f xs ≡ o → ((g : Forest P) → Count g n)
          → ((m : ℕ) × (then o n ≡ saves m xs f) × (copies_of (then o n) ≡ f.copies + m)) × ((x : NodeName) → unsaved (then o n) xs ≡ Some x → copies_of (then o n) ≡ f.copies + suc n)
      go None e more = ((zero, refl, omega arith), λ x some. absurd (cc (some, e)))
      go (Some y) e more =
          let u = unsaved-Unsaved f xs y e in
          let one : (heir_gets f y).copies ≡ f.copies + 1 = heir_gets-copies f y ∙ ap (λ o. f.copies + cond (is_some o) 1 0) u.heir_is in
          let r = more (heir_gets f y) in
          ((suc r.0.0, r.0.1 ∙ sym (by_first (Some y) r.0.0 e), (let c = r.0.2 in omega arith)), λ x some. (let c = r.1 x some in omega arith))

  pub saves_count_copies : SavesCountCopies P
  saves_count_copies n xs f x e = (saves-count n xs f).1 x e

  pub save_range_counts_copies : SaveRangeCountsCopies P
  unfolding save_range
  save_range_counts_copies xs f shaped = (saves-count (len f.nodes) xs f).0

  -- the nodes without an own page
  bare_names : Forest P → List NodeName
  bare_names f = filter (λ x. is_none (node f x).own) (keys f.nodes)

  none_is : (o : Option P) → o ≡ None → is_none o ≡ true
  none_is o e = ap is_none e

  is_none_None : (o : Option P) → is_none o ≡ true → o ≡ None
  is_none_None None e = refl
  is_none_None (Some v) e = absurd (cc e)

  -- each save gives an own page to a node that had none
  save-fewer : (f : Forest P) → IsWellShaped f → (xs : List NodeName) (x : NodeName) → Unsaved f xs x → length (bare_names (heir_gets f x)) < length (bare_names f)
  unfolding bare_names
  save-fewer f shaped xs x u =
      let g = heir_gets f x in
      let h = u.next in
      let linked = shaped.linked in
      let value_is = value-IsValue f linked (itself u.own_is) in
      let hangs = heir_hangs f linked x h u.heir_is in
      let own_h : (node g h).own ≡ Some u.page = ap (λ g. (node g h).own) (with_heir f x h u.heir_is) ∙ ap (λ n. n.own) (node-count_copy (handed f x h) h) ∙ heir_own f linked x h u.page u.heir_is u.own_is value_is in
      let own_other : (y : NodeName) → y ≢ h → (node g y).own ≡ (node f y).own = λ y a. ap (λ g. (node g y).own) (with_heir f x h u.heir_is) ∙ ap (λ n. n.own) (node-count_copy (handed f x h) y) ∙ own_kept f linked x h u.page u.heir_is u.own_is value_is y a in
      subset_le (h ∷ bare_names g) (bare_names f)
      ((λ i. let k = in_filter (λ x. is_none (node g x).own) (keys g.nodes) h i in cc (is_none_None _ k.1, own_h)), Once-filter _ (keys g.nodes) (Once-keys g.nodes.list g.nodes.sorted))
      (λ y i. elim i [
        | inl e ↦ subst (λ z. z ∈ bare_names f) (sym e) (filter_in _ (keys f.nodes) h (IsNode-key f h (heir_there f shaped x h u.heir_is)) (none_is _ hangs.0))
        | inr j ↦
            let k = in_filter (λ x. is_none (node g x).own) (keys g.nodes) y j in
            let apart : y ≢ h = λ e. cc (is_none_None _ k.1, ap (λ z. (node g z).own) e, own_h) in
            filter_in _ (keys f.nodes) y (IsNode-key f y (sym (heir_gets-names f linked x y) ∙ key-IsNode g y k.0)) (ap is_none (sym (own_other y apart)) ∙ k.1)
      ])
    where
      heir_there : (f : Forest P) → IsWellShaped f → (x h : NodeName) → heir f x ≡ Some h → IsNode f h
      heir_there f shaped x h e = let hangs = heir_hangs f shaped.linked x h e in IsNode-parent f h x (elim hangs.1 [ inl t ↦ ap parent_of t | inr s ↦ ap parent_of s ])

  -- so that as many as there are such nodes are enough
  saves-end : (n : ℕ) (xs : List NodeName) (f : Forest P) → IsWellShaped f → length (bare_names f) ≤ n → unsaved (saves n xs f) xs ≡ None
  unfolding saves
  saves-end zero xs f shaped low = go (unsaved f xs) refl
    where
      go : (o : Option NodeName) → unsaved f xs ≡ o → o ≡ None
      go None e = refl
      go (Some x) e = absurd (let l = save-fewer f shaped xs x (unsaved-Unsaved f xs x e) in omega arith)
  saves-end (suc n) xs f shaped low = go (unsaved f xs) refl (λ g. saves-end n xs g)
    where
      then : Option NodeName → Forest P
      then o = elim o [ None ↦ f | Some x ↦ saves n xs (heir_gets f x) ]

      go : (o : Option NodeName) → unsaved f xs ≡ o → ((g : Forest P) → IsWellShaped g → length (bare_names g) ≤ n → unsaved (saves n xs g) xs ≡ None) → unsaved (then o) xs ≡ None
      go None e more = e
      go (Some x) e more =
          let u = unsaved-Unsaved f xs x e in
          let l = save-fewer f shaped xs x u in
          more (heir_gets f x) (heir_gets-shaped f shaped x u.page u.own_is) (omega arith)

  bare_fits : (f : Forest P) → length (bare_names f) ≤ len f.nodes
  unfolding bare_names
  bare_fits f = names_fit f _ (Once-filter _ (keys f.nodes) (Once-keys f.nodes.list f.nodes.sorted)) (λ x i. key-IsNode f x (in_filter _ (keys f.nodes) x i).0)

  pub save_range_ends : SaveRangeEnds P
  unfolding save_range unsaved
  save_range_ends xs f shaped x i = not_true _ (λ t. first_none _ x (filter_in (is_unsaved (save_range xs f)) xs x i t) (saves-end (len f.nodes) xs f shaped (bare_fits f)))

  -- the saves of a named cache, or none
  pub saved-consistent : (named : Bool) (xs : List NodeName) (f : Forest P) → IsConsistent f → IsConsistent (saved named xs f)
  unfolding save_range
  saved-consistent true xs f c = saves_keep_consistency (len f.nodes) xs f c
  saved-consistent false xs f c = c

  pub saved-values : (named : Bool) (xs : List NodeName) (f : Forest P) → IsConsistent f → (y : NodeName) → value_of (saved named xs f) y ≡ value_of f y
  unfolding save_range
  saved-values true xs f c y = saves_keep_values (len f.nodes) xs f c.shaped y
  saved-values false xs f c y = refl
