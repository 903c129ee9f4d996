-- Forgotten pages, and pages told with whether they are lost: where no node has a lost one, it
-- doesn't matter what stands for it.
use Rattle.std.proofs.Common.{◌≡◌, ◌≢◌, ◌⊎◌, List, [], ◌∷◌, Bool, true, false, cond, Option, Some, None, is_some, option_map, unwrap_or, refl, sym, ap, ◌∙◌, inl, inr}
use Rattle.std.specs.Option.{IsSome}
use Rattle.vm_ids.specs.declared.node_name.NodeName.{NodeName}
use Rattle.vm_ids.specs.Forest.Names.{same}
use Rattle.vm_ids.specs.Forest.NameLists.{◌∈◌}
use Rattle.vm_ids.specs.Forest.NameMap.{get}
use Rattle.vm_ids.specs.Forest.Nodes.{Node, Forest, node, childless, IsNode}
use Rattle.vm_ids.specs.Forest.Nodes.Hang.{Root}
use Rattle.vm_ids.specs.Forest.PageMap.{bare, map_node, map_pages, no_page}
use Rattle.vm_ids.specs.Forest.Changes.{put, edit, with_own}
use Rattle.vm_ids.specs.Forest.Forgetting.{forget, forgotten}
use Rattle.vm_ids.proofs.Forest.Names.{name_cases, same_itself, same_apart}
use Rattle.vm_ids.proofs.Forest.NodesAfter.{node-put_other}
use Rattle.vm_ids.proofs.Forest.Fitting.{IsNode-own}
use Rattle.vm_ids.proofs.Forest.BareShape.{IsNode-map}
use Rattle.vm_ids.proofs.Forest.PageMap.{get-map, get-put, made-map, copies-map, node-map, own-map, put-map, same_forest, node_at}
use Rattle.vm_ids.proofs.Forest.Counters.{put-counters}

module _ {P : Type 0} where
  get_node : (f : Forest P) (x : NodeName) → IsNode f x → get f.nodes x ≡ Some (node f x)
  unfolding node
  get_node f x is = go (get f.nodes x) is
    where
      go : (o : Option (Node P)) → is_some o ≡ true → o ≡ Some (unwrap_or o (childless None Root))
      go None is = absurd (cc is)
      go (Some n) is = refl

  -- a node put where it stands
  put_itself : (f : Forest P) (x : NodeName) → IsNode f x → put f x (node f x) ≡ f
  put_itself f x is = let k = put-counters f x (node f x) in same_forest _ f
      (λ y. get-put f x (node f x) y ∙ elim (name_cases y x) [
        | inl e ↦ ap (λ z. cond (same z x) (Some (node f x)) (get f.nodes y)) e ∙ ap (λ (b : Bool). cond b (Some (node f x)) (get f.nodes y)) (same_itself x) ∙ sym (get_node f x is) ∙ ap (get f.nodes) (sym e)
        | inr a ↦ ap (λ (b : Bool). cond b (Some (node f x)) (get f.nodes y)) (same_apart y x a)
      ]) k.made k.copies

module _ {P : Type 0} where
  -- which nodes have a page stays
  pub forget-bare : (f : Forest P) (x : NodeName) (p : P) → bare (forget f x p) ≡ bare f
  unfolding forget
  forget-bare f x p = go (node f x).own refl
    where
      go : (o : Option P) → (node f x).own ≡ o → bare (elim o [ None ↦ f | Some v ↦ edit f x (with_own (Some p)) ]) ≡ bare f
      go None e = refl
      go (Some v) e =
          put-map no_page f x _
          ∙ (λ i. put (bare f) x (record { own = option_map no_page (sym e i); hang = (node f x).hang; tree = (node f x).tree; stubs = (node f x).stubs }))
          ∙ ap (put (bare f) x) (sym (node-map no_page f x))
          ∙ put_itself (bare f) x (IsNode-map no_page f x ∙ IsNode-own f x v e)

  pub forgotten-bare : (xs : List NodeName) (p : P) (f : Forest P) → bare (forgotten xs p f) ≡ bare f
  forgotten-bare [] p f = refl
  forgotten-bare (x ∷ xs) p f = forgotten-bare xs p (forget f x p) ∙ forget-bare f x p

-- the page is told, and lost
abbrev pub is_lost : {P : Type 0} → Option (P × Bool) → Bool
is_lost None = false
is_lost (Some v) = v.1

pub lost_is_there : {P : Type 0} (o : Option (P × Bool)) → is_lost o ≡ true → IsSome o
lost_is_there None e = absurd (cc e)
lost_is_there (Some v) e = refl

-- a page that isn't lost, what a page was, and the page with p where it is lost
abbrev pub not_lost : {P : Type 0} → P → P × Bool
not_lost v = (v, false)

abbrev pub as_it_was : {P : Type 0} → P × Bool → P
as_it_was v = v.0

abbrev pub or_else : {P : Type 0} → P → P × Bool → P
or_else p v = cond v.1 p v.0

module _ {P : Type 0} where
  abbrev pub IsLost : Forest (P × Bool) → NodeName → Type 0
  IsLost f x = is_lost (node f x).own ≡ true

  -- the page of x is lost, where it has one
  mark : Forest (P × Bool) → NodeName → Forest (P × Bool)
  mark f x = elim (node f x).own [ None ↦ f | Some v ↦ edit f x (with_own (Some (v.0, true))) ]

  pub marked : List NodeName → Forest (P × Bool) → Forest (P × Bool)
  marked [] f = f
  marked (x ∷ xs) f = marked xs (mark f x)

  mark-as_it_was : (f : Forest (P × Bool)) (x : NodeName) → map_pages as_it_was (mark f x) ≡ map_pages as_it_was f
  unfolding mark
  mark-as_it_was f x = go (node f x).own refl
    where
      was : Forest P
      was = map_pages as_it_was f

      go : (o : Option (P × Bool)) → (node f x).own ≡ o → map_pages as_it_was (elim o [ None ↦ f | Some v ↦ edit f x (with_own (Some (v.0, true))) ]) ≡ map_pages as_it_was f
      go None e = refl
      go (Some v) e =
          put-map as_it_was f x _
          ∙ (λ i. put was x (record { own = option_map as_it_was (sym e i); hang = (node f x).hang; tree = (node f x).tree; stubs = (node f x).stubs }))
          ∙ ap (put was x) (sym (node-map as_it_was f x))
          ∙ put_itself was x (IsNode-map as_it_was f x ∙ IsNode-own f x v e)

  mark-or_else : (p : P) (f : Forest (P × Bool)) (x : NodeName) → map_pages (or_else p) (mark f x) ≡ forget (map_pages (or_else p) f) x p
  unfolding mark forget
  mark-or_else p f x = go (node f x).own ∙ ap (λ o. elim o [ None ↦ replaced | Some v ↦ edit replaced x (with_own (Some p)) ]) (sym (own-map (or_else p) f x))
    where
      replaced : Forest P
      replaced = map_pages (or_else p) f

      go : (o : Option (P × Bool)) → map_pages (or_else p) (elim o [ None ↦ f | Some v ↦ edit f x (with_own (Some (v.0, true))) ]) ≡ elim (option_map (or_else p) o) [ None ↦ replaced | Some v ↦ edit replaced x (with_own (Some p)) ]
      go None = refl
      go (Some v) = put-map (or_else p) f x _ ∙ ap (λ n. put replaced x (with_own (Some p) n)) (sym (node-map (or_else p) f x))

  mark-lost : (f : Forest (P × Bool)) (x y : NodeName) → IsLost (mark f x) y → IsLost f y ⊎ (y ≡ x)
  unfolding mark
  mark-lost f x y = elim (name_cases y x) [ inl e ↦ λ l. inr e | inr a ↦ λ l. inl (go a (node f x).own l) ]
    where
      go : y ≢ x → (o : Option (P × Bool)) → IsLost (elim o [ None ↦ f | Some v ↦ edit f x (with_own (Some (v.0, true))) ]) y → IsLost f y
      go a None l = l
      go a (Some v) l = sym (ap (λ n. is_lost n.own) (node-put_other f x y _ a)) ∙ l

  pub marked-as_it_was : (xs : List NodeName) (f : Forest (P × Bool)) → map_pages as_it_was (marked xs f) ≡ map_pages as_it_was f
  unfolding marked
  marked-as_it_was [] f = refl
  marked-as_it_was (x ∷ xs) f = marked-as_it_was xs (mark f x) ∙ mark-as_it_was f x

  pub marked-or_else : (p : P) (xs : List NodeName) (f : Forest (P × Bool)) → map_pages (or_else p) (marked xs f) ≡ forgotten xs p (map_pages (or_else p) f)
  unfolding marked
  marked-or_else p [] f = refl
  marked-or_else p (x ∷ xs) f = marked-or_else p xs (mark f x) ∙ ap (forgotten xs p) (mark-or_else p f x)

  pub marked-lost : (xs : List NodeName) (f : Forest (P × Bool)) (y : NodeName) → IsLost (marked xs f) y → IsLost f y ⊎ (y ∈ xs)
  unfolding marked
  marked-lost [] f y l = inl l
  marked-lost (x ∷ xs) f y l = elim (marked-lost xs (mark f x) y l) [
    | inl k ↦ elim (mark-lost f x y k) [ inl old ↦ inl old | inr e ↦ inr (inl e) ]
    | inr i ↦ inr (inr i)
  ]

  -- pages that aren't lost are read as they are
  pub told_again : (h : P × Bool → P) → ((v : P) → h (not_lost v) ≡ v) → (f : Forest P) → map_pages h (map_pages not_lost f) ≡ f
  told_again h reads f = same_forest _ f
      (λ x. get-map h (map_pages not_lost f) x ∙ ap (option_map (map_node h)) (get-map not_lost f x) ∙ out (get f.nodes x))
      (made-map h (map_pages not_lost f) ∙ made-map not_lost f) (copies-map h (map_pages not_lost f) ∙ copies-map not_lost f)
    where
      page : (o : Option P) → option_map h (option_map not_lost o) ≡ o
      page None = refl
      page (Some v) = ap Some (reads v)

      out : (o : Option (Node P)) → option_map (map_node h) (option_map (map_node not_lost) o) ≡ o
      out None = refl
      out (Some n) = λ i. Some (record { own = page n.own i; hang = n.hang; tree = n.tree; stubs = n.stubs })

  pub none_lost : (f : Forest P) (x : NodeName) → IsLost (map_pages not_lost f) x → ⊥
  none_lost f x l = go (node f x).own (sym (ap is_lost (own-map not_lost f x)) ∙ l)
    where
      go : (o : Option P) → is_lost (option_map not_lost o) ≡ true → ⊥
      go None e = cc e
      go (Some v) e = cc e

  -- where no page is lost, it doesn't matter what stands for lost ones
  pub seen_alike : (p : P) (f : Forest (P × Bool)) → ((x : NodeName) → IsLost f x → ⊥) → map_pages (or_else p) f ≡ map_pages as_it_was f
  seen_alike p f kept = same_forest _ _ (λ x. get-map (or_else p) f x ∙ go x (get f.nodes x) refl ∙ sym (get-map as_it_was f x))
      (made-map (or_else p) f ∙ sym (made-map as_it_was f)) (copies-map (or_else p) f ∙ sym (copies-map as_it_was f))
    where
      page : (o : Option (P × Bool)) → (is_lost o ≡ true → ⊥) → option_map (or_else p) o ≡ option_map as_it_was o
      page None kept = refl
      page (Some v) kept = ap Some (which v.1 kept)
        where
          which : (b : Bool) → (b ≡ true → ⊥) → cond b p v.0 ≡ v.0
          which true kept = absurd (kept refl)
          which false kept = refl

      go : (x : NodeName) (o : Option (Node (P × Bool))) → get f.nodes x ≡ o → option_map (map_node (or_else p)) o ≡ option_map (map_node as_it_was) o
      go x None e = refl
      go x (Some n) e = let own_is = page n.own (λ l. kept x (ap (λ k. is_lost k.own) (node_at f x n e) ∙ l)) in
          λ i. Some (record { own = own_is i; hang = n.hang; tree = n.tree; stubs = n.stubs })
