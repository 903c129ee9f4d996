-- What the rules' parts leave in each column of the forest.
use Rattle.std.proofs.Common.{◌≡◌, List, [], ◌++◌, ◌≢◌, Bool, true, false, cond, Option, refl, sym, ap, subst, ◌∙◌, ap₂, inl, inr}
use Rattle.vm_ids.specs.declared.node_name.NodeName.{NodeName}
use Rattle.vm_ids.specs.Forest.Names.{same}
use Rattle.vm_ids.proofs.Forest.Names.{name_cases, same_itself, same_apart}
use Rattle.vm_ids.specs.Forest.NameLists.{◌∈◌, without}
use Rattle.vm_ids.specs.Forest.Nodes.{Hang, Node, Forest, node, is_stub}
use Rattle.vm_ids.specs.Forest.Changes.{put, with_hang, with_stubs, with_tree, relist, cut, cut_stub}
use Rattle.vm_ids.specs.Forest.Rules.{gets, hand_stubs}
use Rattle.vm_ids.specs.Forest.Nodes.Hang.{Root, TreeOf, StubOf}
use Rattle.vm_ids.proofs.Forest.NodesAfter.{node-put, node-put_other, keeps, relist-keeps, hang_all-keeps, hang_all-in, hang_all-out}

-- the link that is left when a stub link is taken away
abbrev pub unstub : Hang → Hang
unstub Root = Root
unstub (TreeOf p) = TreeOf p
unstub (StubOf p) = Root

-- the stubs of y, where a node x that hangs by h leaves the list of its stub link
abbrev pub left_stubs : NodeName → Hang → NodeName → List NodeName → List NodeName
left_stubs x Root y xs = xs
left_stubs x (TreeOf p) y xs = xs
left_stubs x (StubOf p) y xs = cond (same p y) (without x xs) xs

module _ {P : Type 0} where
  pub cut_stub-keeps : {A : Type 0} (col : Node P → A) → ((n : Node P) (h : Hang) → col (with_hang h n) ≡ col n) → ((n : Node P) (xs : List NodeName) → col (with_tree xs n) ≡ col n) → ((n : Node P) (xs : List NodeName) → col (with_stubs xs n) ≡ col n)
      → (f : Forest P) (x y : NodeName) → col (node (cut_stub f x) y) ≡ col (node f y)
  unfolding cut_stub cut
  cut_stub-keeps col hs ts ss f x y = go (is_stub (node f x).hang)
    where
      go : (b : Bool) → col (node (cond b (cut f x) f) y) ≡ col (node f y)
      go true = keeps col _ x _ (hs _ _) y ∙ relist-keeps col ts ss f _ _ y
      go false = refl

  pub cut_stub-hang : (f : Forest P) (x : NodeName) → (node (cut_stub f x) x).hang ≡ unstub (node f x).hang
  unfolding cut_stub cut
  cut_stub-hang f x = go (node f x).hang refl
    where
      go : (h : Hang) → (node f x).hang ≡ h → (node (cond (is_stub h) (cut f x) f) x).hang ≡ unstub h
      go Root e = e
      go (TreeOf p) e = e
      go (StubOf p) e = ap (λ n. n.hang) (node-put _ x _)

  pub cut_stub-hang_other : (f : Forest P) (x y : NodeName) → y ≢ x → (node (cut_stub f x) y).hang ≡ (node f y).hang
  unfolding cut_stub cut
  cut_stub-hang_other f x y apart = go (is_stub (node f x).hang)
    where
      go : (b : Bool) → (node (cond b (cut f x) f) y).hang ≡ (node f y).hang
      go true = ap (λ n. n.hang) (node-put_other _ x y _ apart) ∙ relist-keeps (λ n. n.hang) (λ n xs. refl) (λ n xs. refl) f _ _ y
      go false = refl

  pub cut_stub-tree : (f : Forest P) (x y : NodeName) → (node (cut_stub f x) y).tree ≡ (node f y).tree
  unfolding cut_stub cut relist
  cut_stub-tree f x y = go (node f x).hang
    where
      go : (h : Hang) → (node (cond (is_stub h) (put (relist f h (without x)) x (with_hang Root (node (relist f h (without x)) x))) f) y).tree ≡ (node f y).tree
      go Root = refl
      go (TreeOf p) = refl
      go (StubOf p) = keeps (λ n. n.tree) _ x _ refl y ∙ keeps (λ n. n.tree) f p _ refl y

  stubs_of_put : (f : Forest P) (p x y : NodeName) → (node (put f p (with_stubs (without x (node f p).stubs) (node f p))) y).stubs ≡ cond (same p y) (without x (node f y).stubs) (node f y).stubs
  stubs_of_put f p x y = elim (name_cases y p) [
    | inl e ↦ subst (λ z. (node (put f p (with_stubs (without x (node f p).stubs) (node f p))) z).stubs ≡ cond (same p z) (without x (node f z).stubs) (node f z).stubs) (sym e)
        (rw (same_itself p) (ap (λ n. n.stubs) (node-put f p _)))
    | inr apart ↦ rw (same_apart p y (λ e. apart (sym e))) (ap (λ n. n.stubs) (node-put_other f p y _ apart))
  ]

  pub cut_stub-stubs : (f : Forest P) (x y : NodeName) → (node (cut_stub f x) y).stubs ≡ left_stubs x (node f x).hang y (node f y).stubs
  unfolding cut_stub cut relist
  cut_stub-stubs f x y = go (node f x).hang
    where
      go : (h : Hang) → (node (cond (is_stub h) (put (relist f h (without x)) x (with_hang Root (node (relist f h (without x)) x))) f) y).stubs ≡ left_stubs x h y (node f y).stubs
      go Root = refl
      go (TreeOf p) = refl
      go (StubOf p) = keeps (λ n. n.stubs) _ x _ refl y ∙ stubs_of_put f p x y

  -- gets
  pub gets-own : (f : Forest P) (x : NodeName) (v : Option P) → (node (gets f x v) x).own ≡ v
  unfolding gets
  gets-own f x v = cut_stub-keeps (λ n. n.own) (λ n h. refl) (λ n h. refl) (λ n h. refl) _ x x ∙ ap (λ n. n.own) (node-put f x _)

  pub gets-own_other : (f : Forest P) (x y : NodeName) (v : Option P) → y ≢ x → (node (gets f x v) y).own ≡ (node f y).own
  unfolding gets
  gets-own_other f x y v apart = cut_stub-keeps (λ n. n.own) (λ n h. refl) (λ n h. refl) (λ n h. refl) _ x y ∙ ap (λ n. n.own) (node-put_other f x y _ apart)

  pub gets-hang : (f : Forest P) (x : NodeName) (v : Option P) → (node (gets f x v) x).hang ≡ unstub (node f x).hang
  unfolding gets
  gets-hang f x v = cut_stub-hang _ x ∙ ap (λ n. unstub n.hang) (node-put f x _)

  pub gets-hang_other : (f : Forest P) (x y : NodeName) (v : Option P) → y ≢ x → (node (gets f x v) y).hang ≡ (node f y).hang
  unfolding gets
  gets-hang_other f x y v apart = cut_stub-hang_other _ x y apart ∙ ap (λ n. n.hang) (node-put_other f x y _ apart)

  pub gets-tree : (f : Forest P) (x y : NodeName) (v : Option P) → (node (gets f x v) y).tree ≡ (node f y).tree
  unfolding gets
  gets-tree f x y v = cut_stub-tree _ x y ∙ keeps (λ n. n.tree) f x _ refl y

  pub gets-stubs : (f : Forest P) (x y : NodeName) (v : Option P) → (node (gets f x v) y).stubs ≡ left_stubs x (node f x).hang y (node f y).stubs
  unfolding gets
  gets-stubs f x y v = cut_stub-stubs _ x y ∙ ap₂ (λ h xs. left_stubs x h y xs) (ap (λ n. n.hang) (node-put f x _)) (keeps (λ n. n.stubs) f x _ refl y)

  -- hand_stubs
  pub hand_stubs-own : (f : Forest P) (x h y : NodeName) → (node (hand_stubs f x h) y).own ≡ (node f y).own
  unfolding hand_stubs
  hand_stubs-own f x h y = keeps (λ n. n.own) _ x _ refl y ∙ keeps (λ n. n.own) _ h _ refl y ∙ hang_all-keeps (λ n. n.own) (λ n h. refl) f _ _ y

  pub hand_stubs-tree : (f : Forest P) (x h y : NodeName) → (node (hand_stubs f x h) y).tree ≡ (node f y).tree
  unfolding hand_stubs
  hand_stubs-tree f x h y = keeps (λ n. n.tree) _ x _ refl y ∙ keeps (λ n. n.tree) _ h _ refl y ∙ hang_all-keeps (λ n. n.tree) (λ n h. refl) f _ _ y

  pub hand_stubs-hang : (f : Forest P) (x h y : NodeName) → y ∈ (node f x).stubs → (node (hand_stubs f x h) y).hang ≡ StubOf h
  unfolding hand_stubs
  hand_stubs-hang f x h y is = keeps (λ n. n.hang) _ x _ refl y ∙ keeps (λ n. n.hang) _ h _ refl y ∙ hang_all-in f _ _ y is

  pub hand_stubs-hang_other : (f : Forest P) (x h y : NodeName) → (y ∈ (node f x).stubs → ⊥) → (node (hand_stubs f x h) y).hang ≡ (node f y).hang
  unfolding hand_stubs
  hand_stubs-hang_other f x h y out = keeps (λ n. n.hang) _ x _ refl y ∙ keeps (λ n. n.hang) _ h _ refl y ∙ hang_all-out f _ _ y out

  pub hand_stubs-stubs_from : (f : Forest P) (x h : NodeName) → (node (hand_stubs f x h) x).stubs ≡ []
  unfolding hand_stubs
  hand_stubs-stubs_from f x h = ap (λ n. n.stubs) (node-put _ x _)

  pub hand_stubs-stubs_to : (f : Forest P) (x h : NodeName) → h ≢ x → (node (hand_stubs f x h) h).stubs ≡ (node f h).stubs ++ (node f x).stubs
  unfolding hand_stubs
  hand_stubs-stubs_to f x h apart = ap (λ n. n.stubs) (node-put_other _ x h _ apart) ∙ ap (λ n. n.stubs) (node-put _ h _) ∙ ap (λ xs. xs ++ (node f x).stubs) (hang_all-keeps (λ n. n.stubs) (λ n h. refl) f _ _ h)

  pub hand_stubs-stubs_other : (f : Forest P) (x h y : NodeName) → y ≢ x → y ≢ h → (node (hand_stubs f x h) y).stubs ≡ (node f y).stubs
  unfolding hand_stubs
  hand_stubs-stubs_other f x h y a b = ap (λ n. n.stubs) (node-put_other _ x y _ a) ∙ ap (λ n. n.stubs) (node-put_other _ h y _ b) ∙ hang_all-keeps (λ n. n.stubs) (λ n h. refl) f _ _ y
