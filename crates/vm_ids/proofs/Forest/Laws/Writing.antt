-- The laws of write.
use Rattle.std.proofs.Common.{◌≡◌, ◌<◌, true, Option, lt_irrefl, Some, is_some, option_map, refl, sym, ap, subst, ◌∙◌, inl, inr}
use Rattle.vm_ids.specs.declared.node_name.NodeName.{NodeName}
use Rattle.vm_ids.proofs.Forest.Names.{name_cases}
use Rattle.vm_ids.specs.Forest.Nodes.{Forest, node, parent, parent_of, IsNode, is_live}
use Rattle.vm_ids.specs.Forest.Shape.{IsLinked, IsWellShaped, HasPageOrParent}
use Rattle.vm_ids.specs.Forest.Reading.{value_of}
use Rattle.vm_ids.specs.Forest.Changes.{put, with_own}
use Rattle.vm_ids.specs.Forest.Rules.{heir_gets, owned, write}
use Rattle.vm_ids.specs.Forest.Values.IsValue.{itself}
use Rattle.vm_ids.specs.Forest.Laws.Writing.{WriteKeepsConsistency, WriteKeepsBound, WriteChangesItsNode, WriteKeepsOtherValues, WriteOwnsThePage, WriteLeavesNoHeir, WriteCountsAtMostTwoCopies}
use Rattle.vm_ids.proofs.Forest.NodesAfter.{has-put, node-put, node-put_other, keeps}
use Rattle.vm_ids.proofs.Forest.NamesAfter.{SameNames, heir_gets-names}
use Rattle.vm_ids.proofs.Forest.Reading.{value-IsValue}
use Rattle.vm_ids.proofs.Forest.Owning.{heir_gets-shaped, heir_gets-own}
use Rattle.vm_ids.proofs.Forest.Writing.{ReadsNot, owned-Owned, written, write-value, heir_gets-ReadsNot}
use Rattle.vm_ids.proofs.Forest.Detaching.{live_most}
use Rattle.vm_ids.proofs.Forest.Counters.{write-made, write-copies}
use Rattle.vm_ids.proofs.Forest.Agreeing.{value_equal, same_bound, counted_from}
use Rattle.vm_ids.proofs.Forest.Laws.Owning.{no_heir}

module _ {P : Type 0} where
  write-names : (f : Forest P) → IsWellShaped f → (x : NodeName) (change : P → P) → IsNode f x → SameNames (write f x change) f
  unfolding write
  write-names f shaped x change is y =
      let o = owned-Owned f shaped x is in
      let h = heir_gets-names (owned f x) o.shaped.linked x in
      has-put (heir_gets (owned f x) x) x _ (h x ∙ o.names x ∙ is) y ∙ h y ∙ o.names y

  -- the page that is written is x's own
  write-own : (f : Forest P) → IsWellShaped f → (x : NodeName) (change : P → P) → IsNode f x → (node (write f x change) x).own ≡ option_map change (value_of f x)
  unfolding write
  write-own f shaped x change is =
      let o = owned-Owned f shaped x is in
      ap (λ n. n.own) (node-put (heir_gets (owned f x) x) x _) ∙ ap (option_map change) (heir_gets-own (owned f x) o.shaped.linked x o.page o.own_is ∙ sym o.value_is)

  write-inherits : (f : Forest P) → IsWellShaped f → (x : NodeName) (change : P → P) → IsNode f x → (y : NodeName) → IsNode (write f x change) y → HasPageOrParent (write f x change) y
  unfolding write
  write-inherits f shaped x change is y is_y none =
      let o = owned-Owned f shaped x is in
      let g = heir_gets (owned f x) x in
      let g_shaped : IsWellShaped g = heir_gets-shaped (owned f x) o.shaped x o.page o.own_is in
      elim (name_cases y x) [
        | inl e ↦ absurd (cc (none, ap (λ z. (node (write f x change) z).own) e, write-own f shaped x change is, ap (option_map change) o.value_is))
        | inr apart ↦
            let n = node-put_other g x y (with_own (option_map change (node g x).own) (node g x)) apart in
            let h = heir_gets-names (owned f x) o.shaped.linked x in
            ap (λ n. is_some (parent_of n.hang)) n ∙ g_shaped.inherits y (h y ∙ o.names y ∙ sym (write-names f shaped x change is y) ∙ is_y) (sym (ap (λ n. n.own) n) ∙ none)
      ]

  pub write-shaped : (f : Forest P) → IsWellShaped f → (x : NodeName) (change : P → P) → IsNode f x → is_live x ≡ true → IsWellShaped (write f x change)
  write-shaped f shaped x change is live = record { linked = (written f shaped x is (live_most x live) change).0; inherits = write-inherits f shaped x change is }

  pub write_keeps_consistency : WriteKeepsConsistency P
  write_keeps_consistency f c x change is live = record {
    shaped = write-shaped f c.shaped x change is live;
    counted = counted_from f (write f x change) (λ y is_y. sym (write-names f c.shaped x change is y) ∙ is_y) (write-made f x change) c.counted;
  }

  pub write_keeps_bound : WriteKeepsBound P
  write_keeps_bound f shaped x change is live bound = same_bound f (write f x change) (write-names f shaped x change is) bound

  pub write_changes_its_node : WriteChangesItsNode P
  write_changes_its_node f shaped x change is live = write-value f shaped x is (live_most x live) change

  pub write_keeps_other_values : WriteKeepsOtherValues P
  write_keeps_other_values f shaped x change is live y apart =
      value_equal f (write f x change) shaped (write-shaped f shaped x change is live).linked y y (λ is_y. sym (write-names f shaped x change is y) ∙ is_y)
      (λ v r. (written f shaped x is (live_most x live) change).1 y v apart r)

  pub write_owns_the_page : WriteOwnsThePage P
  write_owns_the_page f shaped x change is live = write-own f shaped x change is

  put-ReadsNot : (g : Forest P) → IsLinked g → (x : NodeName) (o : Option P) → ReadsNot g x → ReadsNot (put g x (with_own o (node g x))) x
  put-ReadsNot g linked x o nobody y up none =
      let old : parent g y ≡ Some x = ap parent_of (sym (keeps (λ n. n.hang) g x (with_own o (node g x)) refl y)) ∙ up in
      elim (name_cases y x) [
        | inl e ↦ lt_irrefl (linked.order.0 x) (subst (λ z. linked.order.0 x < linked.order.0 z) e (linked.order.1 y x old))
        | inr apart ↦ nobody y old (sym (ap (λ n. n.own) (node-put_other g x y _ apart)) ∙ none)
      ]

  write-ReadsNot : (f : Forest P) → IsWellShaped f → (x : NodeName) (change : P → P) → IsNode f x → is_live x ≡ true → ReadsNot (write f x change) x
  unfolding write
  write-ReadsNot f shaped x change is live =
      let o = owned-Owned f shaped x is in
      put-ReadsNot (heir_gets (owned f x) x) (heir_gets-shaped (owned f x) o.shaped x o.page o.own_is).linked x _
      (heir_gets-ReadsNot (owned f x) o.shaped.linked x (live_most x live) o.page (value-IsValue (owned f x) o.shaped.linked (itself o.own_is)))

  pub write_leaves_no_heir : WriteLeavesNoHeir P
  write_leaves_no_heir f shaped x change is live = no_heir (write f x change) (write-shaped f shaped x change is live).linked x (write-ReadsNot f shaped x change is live)

  pub write_counts_at_most_two_copies : WriteCountsAtMostTwoCopies P
  write_counts_at_most_two_copies f x change = write-copies f x change
