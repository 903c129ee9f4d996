-- own and heir_gets change no name.
use Rattle.std.proofs.Common.{◌≡◌, List, [], ◌∷◌, Bool, true, false, cond, Option, Some, None, refl, sym, ap, ◌∙◌, inl, inr}
use Rattle.vm_ids.specs.declared.node_name.NodeName.{NodeName}
use Rattle.vm_ids.specs.Forest.NameLists.{◌∈◌, without}
use Rattle.vm_ids.specs.Forest.NameMap.{contains_key}
use Rattle.vm_ids.specs.Forest.Nodes.{Hang, Forest, node, parent, parent_of, IsNode, is_stub}
use Rattle.vm_ids.specs.Forest.Shape.{IsLinked}
use Rattle.vm_ids.specs.Forest.Reading.{value_of}
use Rattle.vm_ids.specs.Forest.Changes.{put, with_own, relist, cut, cut_stub, hang_all, count_copy}
use Rattle.vm_ids.specs.Forest.Rules.{gets, own, hand_stubs, heir, heir_gets}
use Rattle.vm_ids.specs.Forest.Nodes.Hang.{Root, TreeOf, StubOf}
use Rattle.vm_ids.proofs.Forest.NodesAfter.{has-put, keeps}
use Rattle.vm_ids.proofs.Forest.Fitting.{parent-IsNode, IsNode-parent}
use Rattle.vm_ids.proofs.Forest.Values.{heir_hangs, handed}
use Rattle.vm_ids.proofs.Forest.Handing.{gets-linked}

-- g has the names of f
abbrev pub SameNames : {P : Type 0} → Forest P → Forest P → Type 0
SameNames g f = (y : NodeName) → contains_key g.nodes y ≡ contains_key f.nodes y

module _ {P : Type 0} where
  pub relist-names : (f : Forest P) (h : Hang) (change : List NodeName → List NodeName) → ((p : NodeName) → parent_of h ≡ Some p → IsNode f p) → SameNames (relist f h change) f
  unfolding relist
  relist-names f Root change is y = refl
  relist-names f (TreeOf p) change is y = has-put f p _ (is p refl) y
  relist-names f (StubOf p) change is y = has-put f p _ (is p refl) y

  pub cut_stub-names : (f : Forest P) (x : NodeName) → IsNode f x → ((p : NodeName) → parent f x ≡ Some p → IsNode f p) → SameNames (cut_stub f x) f
  unfolding cut_stub cut
  cut_stub-names f x is up y = go (is_stub (node f x).hang)
    where
      old : SameNames (relist f (node f x).hang (without x)) f
      old = relist-names f (node f x).hang (without x) up

      go : (b : Bool) → contains_key (cond b (cut f x) f).nodes y ≡ contains_key f.nodes y
      go true = has-put _ x _ (old x ∙ is) y ∙ old y
      go false = refl

  pub gets-names : (f : Forest P) → IsLinked f → (x : NodeName) (v : Option P) → IsNode f x → SameNames (gets f x v) f
  unfolding gets
  gets-names f linked x v is y =
      let old : SameNames (put f x (with_own v (node f x))) f = has-put f x _ is in
      cut_stub-names _ x (old x ∙ is) (λ p up. old p ∙ parent-IsNode f linked x p (ap parent_of (sym (keeps (λ n. n.hang) f x _ refl x)) ∙ up)) y ∙ old y

  hang_all-names : (f : Forest P) (xs : List NodeName) (h : Hang) → ((y : NodeName) → y ∈ xs → IsNode f y) → SameNames (hang_all f xs h) f
  unfolding hang_all
  hang_all-names f [] h are y = refl
  hang_all-names f (x ∷ xs) h are y =
      let old = hang_all-names f xs h (λ z i. are z (inr i)) in
      has-put _ x _ (old x ∙ are x (inl refl)) y ∙ old y

  pub hand_stubs-names : (f : Forest P) → IsLinked f → (x h : NodeName) → IsNode f x → IsNode f h → ((y : NodeName) → y ∈ (node f x).stubs → IsNode f y) → SameNames (hand_stubs f x h) f
  unfolding hand_stubs
  hand_stubs-names f linked x h is_x is_h are y =
      let old = hang_all-names f (node f x).stubs (StubOf h) are in
      let more : SameNames (put (hang_all f (node f x).stubs (StubOf h)) h _) f = λ z. has-put _ h _ (old h ∙ is_h) z ∙ old z in
      has-put _ x _ (more x ∙ is_x) y ∙ more y

  pub own-names : (f : Forest P) → IsLinked f → (x : NodeName) → IsNode f x → SameNames (own f x) f
  unfolding own
  own-names f linked x is = gets-names f linked x (value_of f x) is

  pub handed-names : (f : Forest P) → IsLinked f → (x h : NodeName) → heir f x ≡ Some h → SameNames (handed f x h) f
  unfolding handed
  handed-names f linked x h e y =
      let hangs = heir_hangs f linked x h e in
      let up : parent f h ≡ Some x = elim hangs.1 [ inl t ↦ ap parent_of t | inr s ↦ ap parent_of s ] in
      let is_h = IsNode-parent f h x up in
      let old = gets-names f linked h (value_of f x) is_h in
      hand_stubs-names (gets f h (value_of f x)) (gets-linked f linked h _) x h (old x ∙ parent-IsNode f linked h x up) (old h ∙ is_h)
      (λ z i. IsNode-parent _ z x (ap parent_of (((gets-linked f linked h _).stub_links z x).0 i))) y ∙ old y

  pub heir_gets-names : (f : Forest P) → IsLinked f → (x : NodeName) → SameNames (heir_gets f x) f
  unfolding heir_gets handed
  heir_gets-names f linked x = go (heir f x) refl
    where
      go : (o : Option NodeName) → heir f x ≡ o → SameNames (elim o [ None ↦ f | Some h ↦ count_copy (hand_stubs (gets f h (value_of f x)) x h) ]) f
      go None e = λ y. refl
      go (Some h) e = handed-names f linked x h e
