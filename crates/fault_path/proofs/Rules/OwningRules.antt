-- What own and heir_gets ask of the calls that they make.
use Rattle.std.proofs.Common.{◌≡◌, ◌≢◌, ◌+◌, ◌≤◌, ◌⊎◌, [], Option, Some, None, IsSome, refl, sym, ap, ◌∙◌, subst, inl, inr, arith}
use Rattle.std.proofs.lemmas.Bool.{false≢true}
use Rattle.vm_ids.specs.declared.node_name.NodeName.{NodeName}
use Rattle.vm_ids.specs.declared.numbers.NodeId.{NodeId}
use Rattle.vm_ids.specs.Forest.NameLists.{◌∈◌}
use Rattle.vm_ids.specs.Forest.NameMap.{len}
use Rattle.vm_ids.specs.Forest.Nodes.{Forest, IsNode, node, parent_of}
use Rattle.vm_ids.specs.Forest.Nodes.Hang.{Root, TreeOf, StubOf}
use Rattle.vm_ids.specs.Forest.Changes.{count_copy}
use Rattle.vm_ids.specs.Forest.Reading.{owner_of, value_of}
use Rattle.vm_ids.specs.Forest.Rules.{gets, hand_stubs, heir, heir_gets, own}
use Rattle.vm_ids.specs.Forest.Shape.{IsLinked, IsWellShaped}
use Rattle.vm_ids.specs.Forest.Values.IsValue.{itself}
use Rattle.vm_ids.proofs.Forest.Columns.{gets-hang, unstub}
use Rattle.vm_ids.proofs.Forest.Laws.Owning.{with_heir}
use Rattle.vm_ids.proofs.Forest.Laws.Reading.{owners_own_values}
use Rattle.vm_ids.proofs.Forest.NamesAfter.{gets-names}
use Rattle.vm_ids.proofs.Forest.Owning.{apart_of_heir}
use Rattle.vm_ids.proofs.Forest.Reading.{value-IsValue}
use Rattle.vm_ids.proofs.Forest.Values.{handed, heir_hangs}
use Rattle.local_cache.specs.declared.own_state.OwnState.{OwnState}
use Rattle.local_cache.specs.declared.own_state.OwnState.TheVariants.{Absent, Zero, Resident, Slot, OnSegment}
use Rattle.local_cache.specs.Arena.{Arena, cell, HasNode}
use Rattle.local_cache.specs.Changes.{Like}
use Rattle.local_cache.specs.Reading.{forest_of, name_of, page_of}
use Rattle.local_cache.specs.Sound.{IsSound}
use Rattle.local_cache.proofs.Forest.Reading.{IsNode-forest_of, node-forest_of}
use Rattle.page_stubs.specs.Under.{IsUnder}
use Rattle.page_stubs.specs.Under.IsUnder.{itself as the_same, below as lower}
use Rattle.page_stubs.proofs.Rules.Ranks.{under_ranked}
use Rattle.fault_path.proofs.Rules.ForestSize.{more_names}

module _ {P : Type 0} where
  -- The heir of x, once it has the page, isn't under a stub that is left at x.
  module _ (f : Forest P) (linked : IsLinked f) (x h : NodeName) (is : heir f x ≡ Some h) (v : Option P) (after : IsLinked (gets f h v)) where
    hangs : ((node (gets f h v) h).hang ≡ TreeOf x) ⊎ ((node (gets f h v) h).hang ≡ Root)
    hangs = elim (heir_hangs f linked x h is).1 [ inl t ↦ inl (gets-hang f h v ∙ ap unstub t) | inr s ↦ inr (gets-hang f h v ∙ ap unstub s) ]

    -- a stub that is left at x is above nothing that the heir is under
    below_stub : (y : NodeName) → (node (gets f h v) y).hang ≡ StubOf x → IsUnder (gets f h v) x y → ⊥
    below_stub y s u =
        let high = under_ranked (gets f h v) after.order.0 after.order.1 u in
        let low = after.order.1 y x (ap parent_of s) in
        absurd (omega arith)

    from_heir : (y : NodeName) → (node (gets f h v) y).hang ≡ StubOf x → ((node (gets f h v) h).hang ≡ TreeOf x) ⊎ ((node (gets f h v) h).hang ≡ Root) → IsUnder (gets f h v) h y → ⊥
    from_heir y s (inl t) the_same = let e : TreeOf x ≡ StubOf x = sym t ∙ s in cc e
    from_heir y s (inr r) the_same = let e : Root ≡ StubOf x = sym r ∙ s in cc e
    from_heir y s (inl t) (lower {p = p} up u) = let two : Some p ≡ Some x = sym up ∙ ap parent_of t in let same : p ≡ x = cc two in below_stub y s (subst (λ z. IsUnder (gets f h v) z y) same u)
    from_heir y s (inr r) (lower {p = p} up u) = let two : Some p ≡ None = sym up ∙ ap parent_of r in absurd (cc two)

    pub heir_clear : (y : NodeName) → y ∈ (node (gets f h v) x).stubs → IsUnder (gets f h v) h y → ⊥
    heir_clear y i = from_heir y ((after.stub_links y x).0 i) hangs

  -- heir_gets, where there is an heir, and where there is none
  pub handed_on : (f : Forest P) (x h : NodeName) → heir f x ≡ Some h → count_copy (hand_stubs (gets f h (value_of f x)) x h) ≡ heir_gets f x
  unfolding handed
  handed_on f x h e = sym (with_heir f x h e)

  pub without_heir : (f : Forest P) (x : NodeName) → heir f x ≡ None → f ≡ heir_gets f x
  unfolding heir_gets
  without_heir f x e = go (heir f x) e
    where
      go : (o : Option NodeName) → o ≡ None → ◌≡◌ {A = Forest P} f (elim o [ None ↦ f | Some h ↦ count_copy (hand_stubs (gets f h (value_of f x)) x h) ])
      go None e = refl
      go (Some h) e = absurd (cc e)

-- a page that is got and counted is owned
pub owned : {P : Type 0} (f : Forest P) (x : NodeName) (v : Option P) → v ≡ value_of f x → count_copy (gets f x v) ≡ own f x
unfolding own
owned f x v is = ap (λ w. count_copy (gets f x w)) is

-- The node h is the heir of n, and got its page.
module _ (a b : Arena) (sound : IsSound a) (n h : NodeId) (hn : HasNode a n) (hh : HasNode a h) (is : heir (forest_of a) (name_of a n) ≡ Some (name_of a h)) (s : OwnState)
    (forest : forest_of b ≡ gets (forest_of a) (name_of a h) (page_of s)) (after : IsSound b) (like : Like a b) where
  pub apart : h ≢ n
  apart e = apart_of_heir (forest_of a) sound.linked (name_of a n) (name_of a h) is (sym (ap (name_of a) e))

  pub clear : (y : NodeName) → y ∈ (node (forest_of b) (name_of b n)).stubs → IsUnder (forest_of b) (name_of b h) y → ⊥
  clear y i u =
      heir_clear (forest_of a) sound.linked (name_of a n) (name_of a h) is (page_of s) (subst IsLinked forest after.linked) y
      (subst (λ g. y ∈ (node g (name_of a n)).stubs) forest (subst (λ x. y ∈ (node (forest_of b) x).stubs) (like.name n) i))
      (subst (λ g. IsUnder g (name_of a h) y) forest (subst (λ x. IsUnder (forest_of b) x y) (like.name h) u))
