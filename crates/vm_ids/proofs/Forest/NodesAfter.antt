-- What a forest has at a name after each small change.
use Rattle.std.proofs.Common.{◌≡◌, List, [], ◌∷◌, ◌≢◌, true, cond, ◌⊎◌, Some, None, is_some, refl, sym, ap, subst, ◌∙◌, inl, inr}
use Rattle.vm_ids.specs.Forest.Names.{same}
use Rattle.vm_ids.proofs.Forest.Names.{same_itself, same_apart, name_cases}
use Rattle.vm_ids.specs.Forest.NameLists.{◌∈◌}
use Rattle.vm_ids.specs.Forest.NameMap.{get, contains_key}
use Rattle.vm_ids.proofs.Forest.NameMap.{get-insert, get-remove}
use Rattle.vm_ids.specs.Forest.Nodes.{Hang, Node, Forest, childless, node, IsNode}
use Rattle.vm_ids.specs.Forest.Changes.{put, free, with_hang, with_tree, with_stubs, relist, hang_all}
use Rattle.vm_ids.specs.declared.node_name.NodeName.{NodeName}
use Rattle.vm_ids.specs.Forest.Nodes.Hang.{Root, TreeOf, StubOf}

module _ {P : Type 0} (f : Forest P) where
  at : (x y : NodeName) (n : Node P) → get (put f x n).nodes y ≡ cond (same y x) (Some n) (get f.nodes y)
  unfolding put
  at x y n = get-insert f.nodes x n y

  at_freed : (x y : NodeName) → get (free f x).nodes y ≡ cond (same y x) None (get f.nodes y)
  unfolding free
  at_freed x y = get-remove f.nodes x y

  pub node-put : (x : NodeName) (n : Node P) → node (put f x n) x ≡ n
  unfolding node
  node-put x n = rw (at x x n, same_itself x)

  pub node-put_other : (x y : NodeName) (n : Node P) → y ≢ x → node (put f x n) y ≡ node f y
  unfolding node
  node-put_other x y n apart = rw (at x y n, same_apart y x apart)

  pub node-free : (x : NodeName) → node (free f x) x ≡ childless None Root
  unfolding node
  node-free x = rw (at_freed x x, same_itself x)

  pub node-free_other : (x y : NodeName) → y ≢ x → node (free f x) y ≡ node f y
  unfolding node
  node-free_other x y apart = rw (at_freed x y, same_apart y x apart)

module _ {P : Type 0} where
  -- a column of the nodes that a change keeps
  pub keeps : {A : Type 0} (col : Node P → A) (f : Forest P) (x : NodeName) (n : Node P) → col n ≡ col (node f x) → (y : NodeName) → col (node (put f x n) y) ≡ col (node f y)
  keeps col f x n same_col y = elim (name_cases y x) [
    | inl e ↦ ap (λ z. col (node (put f x n) z)) e ∙ ap col (node-put f x n) ∙ same_col ∙ ap (λ z. col (node f z)) (sym e)
    | inr apart ↦ ap col (node-put_other f x y n apart)
  ]

  pub relist-keeps : {A : Type 0} (col : Node P → A) → ((n : Node P) (xs : List NodeName) → col (with_tree xs n) ≡ col n) → ((n : Node P) (xs : List NodeName) → col (with_stubs xs n) ≡ col n)
      → (f : Forest P) (h : Hang) (change : List NodeName → List NodeName) (y : NodeName) → col (node (relist f h change) y) ≡ col (node f y)
  unfolding relist
  relist-keeps col t s f Root change y = refl
  relist-keeps col t s f (TreeOf p) change y = keeps col f p _ (t (node f p) _) y
  relist-keeps col t s f (StubOf p) change y = keeps col f p _ (s (node f p) _) y

  pub hang_all-keeps : {A : Type 0} (col : Node P → A) → ((n : Node P) (h : Hang) → col (with_hang h n) ≡ col n) → (f : Forest P) (xs : List NodeName) (h : Hang) (y : NodeName) → col (node (hang_all f xs h) y) ≡ col (node f y)
  unfolding hang_all
  hang_all-keeps col w f [] h y = refl
  hang_all-keeps col w f (x ∷ xs) h y = keeps col (hang_all f xs h) x _ (w _ h) y ∙ hang_all-keeps col w f xs h y

  pub hang_all-in : (f : Forest P) (xs : List NodeName) (h : Hang) (y : NodeName) → y ∈ xs → (node (hang_all f xs h) y).hang ≡ h
  unfolding hang_all
  hang_all-in f [] h y is = absurd is
  hang_all-in f (x ∷ xs) h y is = elim (name_cases y x) [
    | inl e ↦ ap (λ z. (node (put (hang_all f xs h) x (with_hang h (node (hang_all f xs h) x))) z).hang) e ∙ ap (λ n. n.hang) (node-put (hang_all f xs h) x _)
    | inr apart ↦ ap (λ n. n.hang) (node-put_other (hang_all f xs h) x y _ apart) ∙ hang_all-in f xs h y (elim is [ inl e ↦ absurd (apart e) | inr later ↦ later ])
  ]

  pub hang_all-out : (f : Forest P) (xs : List NodeName) (h : Hang) (y : NodeName) → (y ∈ xs → ⊥) → (node (hang_all f xs h) y).hang ≡ (node f y).hang
  unfolding hang_all
  hang_all-out f [] h y out = refl
  hang_all-out f (x ∷ xs) h y out = ap (λ n. n.hang) (node-put_other (hang_all f xs h) x y _ (λ e. out (inl e))) ∙ hang_all-out f xs h y (λ is. out (inr is))

  -- which names have nodes
  pub IsNode-put_cases : (f : Forest P) (x y : NodeName) (n : Node P) → IsNode (put f x n) y → (y ≡ x) ⊎ IsNode f y
  IsNode-put_cases f x y n is = elim (name_cases y x) [
    | inl e ↦ inl e
    | inr apart ↦ inr (subst (λ o. is_some o ≡ true) (at f x y n ∙ ap (λ b. cond b (Some n) (get f.nodes y)) (same_apart y x apart)) is)
  ]

  pub IsNode-put : (f : Forest P) (x : NodeName) (n : Node P) → IsNode (put f x n) x
  IsNode-put f x n = rw (at f x x n, same_itself x)

  pub put-IsNode : (f : Forest P) (x y : NodeName) (n : Node P) → IsNode f y → IsNode (put f x n) y
  put-IsNode f x y n is = elim (name_cases y x) [
    | inl e ↦ subst (λ z. IsNode (put f x n) z) (sym e) (IsNode-put f x n)
    | inr apart ↦ rw (at f x y n, same_apart y x apart) is
  ]

  pub has-put : (f : Forest P) (x : NodeName) (n : Node P) → IsNode f x → (y : NodeName) → contains_key (put f x n).nodes y ≡ contains_key f.nodes y
  has-put f x n is y = elim (name_cases y x) [
    | inl e ↦ subst (IsNode (put f x n)) (sym e) (IsNode-put f x n) ∙ sym (subst (IsNode f) (sym e) is)
    | inr apart ↦ ap is_some (at f x y n ∙ ap (λ b. cond b (Some n) (get f.nodes y)) (same_apart y x apart))
  ]

  pub IsNode-free : (f : Forest P) (x y : NodeName) → IsNode (free f x) y → (y ≢ x) × IsNode f y
  IsNode-free f x y is = elim (name_cases y x) [
    | inl e ↦ absurd (cc (subst (IsNode (free f x)) e is, ap is_some (at_freed f x x), ap (λ b. is_some (cond b None (get f.nodes x))) (same_itself x)))
    | inr apart ↦ (apart, sym (ap is_some (at_freed f x y ∙ ap (λ b. cond b None (get f.nodes y)) (same_apart y x apart))) ∙ is)
  ]

  pub free-IsNode : (f : Forest P) (x y : NodeName) → y ≢ x → IsNode f y → IsNode (free f x) y
  free-IsNode f x y apart is = ap is_some (at_freed f x y ∙ ap (λ b. cond b None (get f.nodes y)) (same_apart y x apart)) ∙ is
