-- A node may be hung below another one that isn't under it: some rank of the nodes has it higher.
use Rattle.std.proofs.Common.{◌≡◌, ◌⊎◌, ◌<◌, ◌≤◌, ◌+◌, ℕ, zero, suc, Option, Some, None, refl, sym, ◌∙◌, subst, inl, inr, arith}
use Rattle.vm_ids.specs.declared.node_name.NodeName.{NodeName}
use Rattle.vm_ids.specs.Forest.Nodes.{Forest, parent}
use Rattle.vm_ids.specs.Forest.Shape.{IsRanked}
use Rattle.page_stubs.specs.Under.{IsUnder}
use Rattle.page_stubs.specs.Under.IsUnder.{itself, below}

-- r, or more by k where A holds
abbrev raise : {A B : Type 0} → A ⊎ B → ℕ → ℕ → ℕ
raise (inl a) k r = r + k
raise (inr b) k r = r

raise_in : {A : Type 0} (c : A ⊎ (A → ⊥)) (k r : ℕ) → A → raise c k r ≡ r + k
raise_in (inl a) k r is = refl
raise_in (inr out) k r is = absurd (out is)

raise_out : {A : Type 0} (c : A ⊎ (A → ⊥)) (k r : ℕ) → (A → ⊥) → raise c k r ≡ r
raise_out (inl a) k r out = absurd (out a)
raise_out (inr b) k r out = refl

-- a node has no lower rank than one that it is under
pub under_ranked : {P : Type 0} (f : Forest P) (rank : NodeName → ℕ) → IsRanked f rank → {x y : NodeName} → IsUnder f x y → rank y ≤ rank x
under_ranked f rank ranked itself = omega arith
under_ranked f rank ranked {x} {y} (below {p = p} up u) = let low = ranked x p up in let more = under_ranked f rank ranked u in omega arith

module _ {P : Type 0} (f : Forest P) (rank : NodeName → ℕ) (ranked : IsRanked f rank) (Mark : NodeName → Type 0) (decide : (x : NodeName) → Mark x ⊎ (Mark x → ⊥)) where
  -- x is under a node that has the mark
  abbrev pub Marked : NodeName → Type 0
  Marked x = (y : NodeName) × Mark y × IsUnder f x y

  not_root : (x y : NodeName) → (Mark x → ⊥) → parent f x ≡ None → Mark y → IsUnder f x y → ⊥
  not_root x y out e m itself = out m
  not_root x y out e m (below {p = p} up u) = let clash : Some p ≡ None = sym up ∙ e in cc clash

  not_child : (x p y : NodeName) → (Mark x → ⊥) → parent f x ≡ Some p → (Marked p → ⊥) → Mark y → IsUnder f x y → ⊥
  not_child x p y out e none m itself = out m
  not_child x p y out e none m (below {p = q} up u) = let two : Some q ≡ Some p = sym up ∙ e in let same : q ≡ p = cc two in none (y, m, subst (λ z. IsUnder f z y) same u)

  marked_within : (k : ℕ) (x : NodeName) → rank x < k → Marked x ⊎ (Marked x → ⊥)
  marked_within zero x low = absurd (omega arith)
  marked_within (suc k) x low = elim (decide x) [ inl m ↦ inl (x, m, itself) | inr out ↦ go out (λ p lower. marked_within k p lower) (parent f x) refl ]
    where
      go : (Mark x → ⊥) → ((p : NodeName) → rank p < k → Marked p ⊎ (Marked p → ⊥)) → (o : Option NodeName) → parent f x ≡ o → Marked x ⊎ (Marked x → ⊥)
      go out higher None e = inr (λ r. not_root x r.0 out e r.1 r.2)
      go out higher (Some p) e = let lower = ranked x p e in elim (higher p (omega arith)) [
        | inl r ↦ inl (r.0, r.1, below e r.2)
        | inr none ↦ inr (λ r. not_child x p r.0 out e none r.1 r.2)
      ]

  marked : (x : NodeName) → Marked x ⊎ (Marked x → ⊥)
  marked x = marked_within (suc (rank x)) x (omega arith)

  -- all that is under the mark is raised above h
  pub raised : NodeName → NodeName → ℕ
  raised h x = raise (marked x) (suc (rank h)) (rank x)

  pub raised-ranked : (h : NodeName) → IsRanked f (raised h)
  unfolding raised
  raised-ranked h x p up = let low = ranked x p up in elim (marked p) [
    | inl r ↦ let at_p = raise_in (marked p) (suc (rank h)) (rank p) r in let at_x = raise_in (marked x) (suc (rank h)) (rank x) (r.0, r.1, below up r.2) in omega arith
    | inr out ↦ let at_p = raise_out (marked p) (suc (rank h)) (rank p) out in elim (marked x) [
      | inl r ↦ let at_x = raise_in (marked x) (suc (rank h)) (rank x) r in omega arith
      | inr none ↦ let at_x = raise_out (marked x) (suc (rank h)) (rank x) none in omega arith
    ]
  ]

  pub raised-above : (h y : NodeName) → (Marked h → ⊥) → Mark y → raised h h < raised h y
  unfolding raised
  raised-above h y free m =
      let at_h = raise_out (marked h) (suc (rank h)) (rank h) free in
      let at_y = raise_in (marked y) (suc (rank h)) (rank y) (y, m, itself) in
      omega arith
