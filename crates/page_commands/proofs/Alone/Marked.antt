-- A page that is its node's alone is marked, and found again at the end of a rule.
use Rattle.std.proofs.Common.{◌≡◌, ◌≢◌, ◌≤◌, List, [], ◌∷◌, Bool, true, false, Option, Some, None, is_some, refl, sym, ap, subst, ◌∙◌, inl, inr, arith}
use Rattle.std.specs.Prelude.{option_map}
use Rattle.std.specs.Option.{IsSome}
use Rattle.vm_ids.specs.declared.node_name.NodeName.{NodeName}
use Rattle.vm_ids.specs.declared.node_name.NodeName.TheVariants.{Working}
use Rattle.vm_ids.specs.Forest.NameMap.{contains_key}
use Rattle.vm_ids.specs.Forest.Nodes.{Forest, is_live, node, parent}
use Rattle.vm_ids.specs.Forest.Shape.{IsConsistent, IsLinked, IsWellShaped}
use Rattle.vm_ids.specs.Forest.PageMap.{map_pages}
use Rattle.vm_ids.specs.Forest.Reading.{value_of}
use Rattle.vm_ids.specs.Forest.Rules.{heir}
use Rattle.vm_ids.specs.Forest.Values.{IsValue}
use Rattle.vm_ids.specs.Forest.Values.IsValue.{itself, above}
use Rattle.vm_ids.specs.Forest.Forgetting.{forget}
use Rattle.vm_ids.specs.Forest.Laws.Commands.{ArePagesOnce}
use Rattle.vm_ids.proofs.Forest.BareShape.{IsNode-map, map-shaped}
use Rattle.vm_ids.proofs.Forest.Detaching.{live_most}
use Rattle.vm_ids.proofs.Forest.Laws.Owning.{no_heir}
use Rattle.vm_ids.proofs.Forest.LostPages.{IsLost, as_it_was, is_lost, marked, marked-as_it_was, marked-lost, marked-or_else, none_lost, not_lost, or_else, told_again}
use Rattle.vm_ids.proofs.Forest.NodesAfter.{node-put}
use Rattle.vm_ids.proofs.Forest.PageMap.{heir-map, made-map, own-map}
use Rattle.vm_ids.proofs.Forest.Reading.{IsValue-value, value-IsValue}
use Rattle.vm_ids.proofs.Forest.Unseen.{IsUnseen}
use Rattle.vm_ids.proofs.Forest.Writing.{ReadsNot-no_heir}
use Rattle.page_commands.proofs.Forgotten.One.{forget_there}

module _ {P : Type 0} where
  -- the page of x is its node's alone
  pub record HasAlone (f : Forest P) (x : NodeName) : Type 0 where
    pub owned : IsSome (node f x).own
    pub last : heir f x ≡ None

  some_is : (o : Option P) → IsSome o → (v : P) × (o ≡ Some v)
  some_is None s = absurd (cc s)
  some_is (Some v) s = (v, refl)

  -- The page is marked
  module _ (f : Forest P) (c : IsConsistent f) (x : NodeName) (live : is_live x ≡ true) (alone : HasAlone f x) (p q : P) (apart : p ≢ q) where
    pub told : Forest (P × Bool)
    told = marked (x ∷ []) (map_pages not_lost f)

    pub told-as_it_was : map_pages as_it_was told ≡ f
    unfolding told
    told-as_it_was = marked-as_it_was (x ∷ []) (map_pages not_lost f) ∙ told_again as_it_was (λ v. refl) f

    told-or_else : (r : P) → map_pages (or_else r) told ≡ forget f x r
    unfolding told
    told-or_else r = marked-or_else r (x ∷ []) (map_pages not_lost f) ∙ ap (λ g. forget g x r) (told_again (or_else r) (λ v. refl) f)

    told-lost : (y : NodeName) → IsLost told y → y ≡ x
    unfolding told
    told-lost y l = elim (marked-lost (x ∷ []) (map_pages not_lost f) y l) [ inl k ↦ absurd (none_lost f y k) | inr i ↦ elim i [ inl e ↦ e | inr j ↦ absurd j ] ]

    pub told-IsNode : (y : NodeName) → contains_key told.nodes y ≡ contains_key f.nodes y
    told-IsNode y = sym (IsNode-map as_it_was told y) ∙ ap (λ g. contains_key g.nodes y) told-as_it_was

    pub told-consistent : IsConsistent told
    told-consistent = record {
      shaped = map-shaped as_it_was told (subst IsWellShaped (sym told-as_it_was) c.shaped);
      counted = λ k is. subst (λ n. k ≤ n) (ap (λ g. g.made) (sym told-as_it_was) ∙ made-map as_it_was told) (c.counted k (sym (told-IsNode (Working k)) ∙ is));
    }

    pub told-pages : (xs : List NodeName) → ArePagesOnce f xs → ArePagesOnce told xs
    told-pages xs are = record { once = are.once; live = λ y i. let k = are.live y i in (told-IsNode y ∙ k.0, k.1) }

    told-heir : heir told x ≡ None
    told-heir = sym (heir-map as_it_was told x) ∙ ap (λ g. heir g x) told-as_it_was ∙ alone.last

    told-unseen : IsUnseen told (λ y. y ≡ x)
    told-unseen = record {
      place = told-lost;
      few = λ y l. let few = told-consistent.shaped.linked.few y in let one = live_most y (ap is_live (told-lost y l) ∙ live) in omega arith;
      owned = λ y z l up. has_own z (up ∙ ap Some (told-lost y l)) (node told z).own refl;
    }
      where
        has_own : (z : NodeName) → parent told z ≡ Some x → (o : Option (P × Bool)) → (node told z).own ≡ o → IsSome o
        has_own z up None e = absurd (ReadsNot-no_heir told told-consistent.shaped.linked x told-heir z up e)
        has_own z up (Some v) e = refl

    pub told-unread : IsUnseen told (λ y. y ≡ x)
    told-unread = told-unseen

    -- its own page is the marked one
    pub told-own : (v : P) × ((node told x).own ≡ Some (v, true))
    told-own =
        let v = some_is (node f x).own alone.owned in
        (v.0, go v.0 (node told x).own (sym (own-map as_it_was told x) ∙ ap (λ g. (node g x).own) told-as_it_was ∙ v.1) (λ r. sym (own-map (or_else r) told x) ∙ ap (λ g. (node g x).own) (told-or_else r ∙ forget_there f x r v.0 v.1) ∙ ap (λ n. n.own) (node-put f x _)))
      where
        go : (v : P) (o : Option (P × Bool)) → option_map as_it_was o ≡ Some v → ((r : P) → option_map (or_else r) o ≡ Some r) → o ≡ Some (v, true)
        go v None e either = absurd (cc e)
        go v (Some (u, true)) e either = let is : u ≡ v = cc e in λ i. Some (is i, true)
        go v (Some (u, false)) e either = absurd (
            let one : u ≡ p = let k = either p in cc k in
            let two : u ≡ q = let k = either q in cc k in
            apart (sym one ∙ two))

    -- And found again
    module _ (g : Forest (P × Bool)) (linked : IsLinked g) (unread : IsUnseen g (λ y. y ≡ x)) (value : value_of g x ≡ value_of told x) where
      -- the owner has the page
      owner : (u : P × Bool) {y : NodeName} → IsValue g y u → (z : NodeName) × ((node g z).own ≡ Some u)
      owner u {y} (itself e) = (y, e)
      owner u {y} (above none up r) = owner u r

      found : (node g x).own ≡ Some (told-own.0, true)
      found =
          let v = told-own in
          let here = IsValue-value g x (v.0, true) (value ∙ value-IsValue told told-consistent.shaped.linked (itself v.1)) in
          let at = owner (v.0, true) here in
          subst (λ y. (node g y).own ≡ Some (v.0, true)) (unread.place at.0 (ap is_lost at.1)) at.1

      pub found-alone : (h : Forest P) → map_pages as_it_was g ≡ h → HasAlone h x
      found-alone h is = record {
        owned = ap is_some (ap (λ k. (node k x).own) (sym is) ∙ own-map as_it_was g x ∙ ap (option_map as_it_was) found);
        last = ap (λ k. heir k x) (sym is) ∙ heir-map as_it_was g x ∙ no_heir g linked x (λ y up none. cc (unread.owned x y (ap is_lost found) up, ap is_some none));
      }
