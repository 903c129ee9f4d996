-- What own, heir_gets and write do to a well shaped forest.
use Rattle.std.proofs.Common.{◌≡◌, ℕ, suc, zero, ◌<◌, ◌≢◌, Option, Some, None, is_some, refl, sym, ap, ◌∙◌, inl, inr, arith}
use Rattle.std.specs.Option.{IsSome}
use Rattle.vm_ids.specs.declared.node_name.NodeName.{NodeName}
use Rattle.vm_ids.proofs.Forest.Names.{name_cases}
use Rattle.vm_ids.specs.Forest.Nodes.{Forest, node, parent, parent_of, IsNode}
use Rattle.vm_ids.specs.Forest.Shape.{IsLinked, IsWellShaped}
use Rattle.vm_ids.specs.Forest.Reading.{value_of}
use Rattle.vm_ids.specs.Forest.Changes.{count_copy}
use Rattle.vm_ids.specs.Forest.Rules.{gets, hand_stubs, heir, heir_gets, own}
use Rattle.vm_ids.specs.Forest.Values.{IsValue}
use Rattle.vm_ids.proofs.Forest.Values.{heir_hangs, node-count_copy, handed, own_kept, heir_own, handed_hang}
use Rattle.vm_ids.specs.Forest.Values.IsValue.{itself, above}
use Rattle.vm_ids.proofs.Forest.Fitting.{parent-IsNode}
use Rattle.vm_ids.proofs.Forest.Reading.{value-IsValue}
use Rattle.vm_ids.proofs.Forest.Handing.{gets-linked, gets-ranked, hand_stubs-linked}
use Rattle.vm_ids.proofs.Forest.Columns.{unstub, gets-hang, gets-hang_other, gets-own, gets-own_other}
use Rattle.vm_ids.proofs.Forest.NamesAfter.{gets-names, handed-names}

module _ {P : Type 0} where
  -- each node has a value
  value_below : (f : Forest P) → (shaped : IsWellShaped f) → (n : ℕ) (x : NodeName) → IsNode f x → shaped.linked.order.0 x < n → (v : P) × IsValue f x v
  value_below f shaped zero x is low = absurd (omega arith)
  value_below f shaped (suc n) x is low = go (node f x).own (parent f x) refl refl
      (λ p up. value_below f shaped n p (parent-IsNode f shaped.linked x p up) (let lower = shaped.linked.order.1 x p up in omega arith))
    where
      up_from : IsSome (parent f x) → (u : Option NodeName) → parent f x ≡ u → (node f x).own ≡ None → ((p : NodeName) → parent f x ≡ Some p → (v : P) × IsValue f p v) → (v : P) × IsValue f x v
      up_from some None up none more = absurd (cc (some, ap is_some up))
      up_from some (Some p) up none more = let r = more p up in (r.0, above none up r.1)

      go : (o : Option P) → (u : Option NodeName) → (node f x).own ≡ o → parent f x ≡ u → ((p : NodeName) → parent f x ≡ Some p → (v : P) × IsValue f p v) → (v : P) × IsValue f x v
      go (Some v) u own_is up more = (v, itself own_is)
      go None u none up more = up_from (shaped.inherits x is none) u up none more

  pub has_value : (f : Forest P) → IsWellShaped f → (x : NodeName) → IsNode f x → (v : P) × IsValue f x v
  has_value f shaped x is = value_below f shaped (suc (shaped.linked.order.0 x)) x is (omega arith)

  -- the shape goes by the nodes alone
  pub IsLinked-count_copy : (f : Forest P) → IsLinked f → IsLinked (count_copy f)
  unfolding node
  IsLinked-count_copy f l = record { order = l.order; few = l.few; stub_bare = l.stub_bare; tree_links = l.tree_links; stub_links = l.stub_links; once = l.once }

  pub own-linked : (f : Forest P) → IsLinked f → (x : NodeName) → IsLinked (own f x)
  unfolding own
  own-linked f linked x = IsLinked-count_copy _ (gets-linked f linked x (value_of f x))

  pub handed-linked : (f : Forest P) → IsLinked f → (x h : NodeName) → heir f x ≡ Some h → IsLinked (handed f x h)
  unfolding handed
  handed-linked f linked x h is =
      let hangs = heir_hangs f linked x h is in
      let up : parent f h ≡ Some x = elim hangs.1 [ inl t ↦ ap parent_of t | inr s ↦ ap parent_of s ] in
      let low = linked.order.1 h x up in
      hand_stubs-linked (gets f h (value_of f x)) (gets-linked f linked h (value_of f x)) x h (λ e. let same_rank = ap linked.order.0 e in omega arith) linked.order.0 (gets-ranked f linked h _ linked.order.0 linked.order.1) low
      (elim hangs.1 [ inl t ↦ inl (gets-hang f h _ ∙ ap unstub t) | inr s ↦ inr (gets-hang f h _ ∙ ap unstub s) ])

  pub heir_gets-linked : (f : Forest P) → IsLinked f → (x : NodeName) → IsLinked (heir_gets f x)
  unfolding heir_gets handed
  heir_gets-linked f linked x = go (heir f x) refl
    where
      go : (o : Option NodeName) → heir f x ≡ o → IsLinked (elim o [ None ↦ f | Some h ↦ count_copy (hand_stubs (gets f h (value_of f x)) x h) ])
      go None e = linked
      go (Some h) e = IsLinked-count_copy _ (handed-linked f linked x h e)

  pub apart_of_heir : (f : Forest P) → IsLinked f → (x h : NodeName) → heir f x ≡ Some h → x ≢ h
  apart_of_heir f linked x h is e =
      let hangs = heir_hangs f linked x h is in
      let up : parent f h ≡ Some x = elim hangs.1 [ inl t ↦ ap parent_of t | inr s ↦ ap parent_of s ] in
      let low = linked.order.1 h x up in
      let same_rank = ap linked.order.0 e in
      absurd (omega arith)

  pub heir_gets-own : (f : Forest P) → IsLinked f → (x : NodeName) (v : P) → (node f x).own ≡ Some v → (node (heir_gets f x) x).own ≡ Some v
  unfolding heir_gets handed
  heir_gets-own f linked x v own_is = go (heir f x) refl
    where
      go : (o : Option NodeName) → heir f x ≡ o → (node (elim o [ None ↦ f | Some h ↦ count_copy (hand_stubs (gets f h (value_of f x)) x h) ]) x).own ≡ Some v
      go None e = own_is
      go (Some h) e = ap (λ n. n.own) (node-count_copy _ x) ∙ own_kept f linked x h v e own_is (value-IsValue f linked (itself own_is)) x (apart_of_heir f linked x h e) ∙ own_is

  some_or : (o : Option P) → ((v : P) → o ≡ Some v → ⊥) → o ≡ None
  some_or None h = refl
  some_or (Some v) h = absurd (h v refl)

  -- each node has a page or a parent still
  pub own-shaped : (f : Forest P) → IsWellShaped f → (x : NodeName) → IsNode f x → IsWellShaped (own f x)
  unfolding own
  own-shaped f shaped x is = record {
    linked = own-linked f shaped.linked x;
    inherits = λ y is_y none.
        let v = has_value f shaped x is in
        elim (name_cases y x) [
          | inl e ↦ absurd (cc (none, node-count_copy (gets f x (value_of f x)) y, ap (λ z. (node (gets f x (value_of f x)) z).own) e, gets-own f x (value_of f x), value-IsValue f shaped.linked v.1))
          | inr apart ↦
              let old_none : (node f y).own ≡ None = sym (gets-own_other f x y _ apart) ∙ ap (λ n. n.own) (sym (node-count_copy _ y)) ∙ none in
              ap (λ n. is_some (parent_of n.hang)) (node-count_copy _ y) ∙ ap (λ h. is_some (parent_of h)) (gets-hang_other f x y _ apart)
              ∙ shaped.inherits y (sym (gets-names f shaped.linked x (value_of f x) is y) ∙ is_y) old_none
        ];
  }

  handed-shaped : (f : Forest P) → IsWellShaped f → (x h : NodeName) (v : P) → (node f x).own ≡ Some v → heir f x ≡ Some h → IsWellShaped (handed f x h)
  handed-shaped f shaped x h v own_is e = record {
    linked = handed-linked f shaped.linked x h e;
    inherits = λ y is_y none.
        let value_is = value-IsValue f shaped.linked (itself own_is) in
        elim (name_cases y h) [
          | inl k ↦ absurd (cc (none, ap (λ z. (node (handed f x h) z).own) k, heir_own f shaped.linked x h v e own_is value_is))
          | inr apart ↦
              let old_none : (node f y).own ≡ None = sym (own_kept f shaped.linked x h v e own_is value_is y apart) ∙ none in
              let old = shaped.inherits y (sym (handed-names f shaped.linked x h e y) ∙ is_y) old_none in
              elim (handed_hang f shaped.linked x h v e own_is value_is y apart) [
                | inl k ↦ ap (λ l. is_some (parent_of l)) k ∙ old
                | inr k ↦ ap (λ l. is_some (parent_of l)) k.1
              ]
        ];
  }

  pub IsWellShaped-count_copy : (f : Forest P) → IsWellShaped f → IsWellShaped (count_copy f)
  unfolding node
  IsWellShaped-count_copy f s = record { linked = IsLinked-count_copy f s.linked; inherits = s.inherits }

  pub heir_gets-shaped : (f : Forest P) → IsWellShaped f → (x : NodeName) (v : P) → (node f x).own ≡ Some v → IsWellShaped (heir_gets f x)
  unfolding heir_gets handed
  heir_gets-shaped f shaped x v own_is = go (heir f x) refl
    where
      go : (o : Option NodeName) → heir f x ≡ o → IsWellShaped (elim o [ None ↦ f | Some h ↦ count_copy (hand_stubs (gets f h (value_of f x)) x h) ])
      go None e = shaped
      go (Some h) e = IsWellShaped-count_copy _ (handed-shaped f shaped x h v own_is e)
