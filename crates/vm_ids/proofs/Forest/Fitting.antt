-- Names without repeats, all of nodes, are no more than there are nodes.
use Rattle.std.proofs.Common.{◌≡◌, ◌≤◌, List, [], ◌∷◌, length, Bool, true, false, ◌||◌, ◌⊎◌, Option, Some, None, is_some, refl, sym, ap, subst, ◌∙◌, inl, inr, unwrap_or}
use Rattle.std.specs.List.{IsDistinct, list_any, AllByRecursion}
use Rattle.std.specs.Cmp.{IsEquivalence, eq_by_cmp_equiv}
use Rattle.vm_ids.specs.Forest.Names.{same, name_cmp_total}
use Rattle.vm_ids.proofs.Forest.Names.{same_apart, same-true}
use Rattle.vm_ids.specs.Forest.NameLists.{◌∈◌, Once}
use Rattle.vm_ids.specs.Forest.NameMap.{get, entries, len, keys}
use Rattle.vm_ids.proofs.Forest.NameMap.{contains_key-keys}
use Rattle.vm_ids.specs.Forest.Nodes.{Node, Forest, node, parent, parent_of, IsNode, childless, Hang}
use Rattle.vm_ids.specs.Forest.Shape.{IsLinked}
use Rattle.std.proofs.lemmas.Map.Made.{length-le_from_is_member}
use Rattle.std.proofs.lemmas.List.{length-map}
use Rattle.vm_ids.specs.declared.node_name.NodeName.{NodeName}
use Rattle.vm_ids.specs.Forest.Nodes.Hang.{Root, TreeOf, StubOf}
use Rattle.vm_ids.specs.Forest.Values.{IsValue}
use Rattle.vm_ids.specs.Forest.Values.IsValue.{itself, above}

pub same_laws : IsEquivalence same
unfolding same
same_laws = eq_by_cmp_equiv name_cmp_total

or_cases : (a b : Bool) → (a || b) ≡ true → (a ≡ true) ⊎ (b ≡ true)
or_cases true b e = inl refl
or_cases false b e = inr e

pub in_from_any : (xs : List NodeName) (q : NodeName) → list_any (same q) xs ≡ true → q ∈ xs
in_from_any [] q e = absurd (cc e)
in_from_any (x ∷ xs) q e = elim (or_cases (same q x) _ e) [ inl t ↦ inl (same-true q x t) | inr i ↦ inr (in_from_any xs q i) ]

pub distinct : (xs : List NodeName) → Once xs → IsDistinct same xs
unfolding IsDistinct
distinct [] once = tt
distinct (x ∷ xs) once = (apart xs once.0, distinct xs once.1)
  where
    apart : (ys : List NodeName) → (x ∈ ys → ⊥) → AllByRecursion (λ y. same x y ≡ false) ys
    apart [] out = tt
    apart (y ∷ ys) out = (same_apart x y (λ e. out (inl e)), apart ys (λ i. out (inr i)))

module _ {P : Type 0} (f : Forest P) where
  pub names_fit : (xs : List NodeName) → Once xs → ((x : NodeName) → x ∈ xs → IsNode f x) → length xs ≤ len f.nodes
  names_fit xs once all =
      let fits : length xs ≤ length (keys f.nodes) = length-le_from_is_member same_laws xs (keys f.nodes) (distinct xs once) (λ q is. sym (contains_key-keys f.nodes q) ∙ all q (in_from_any xs q is)) in
      subst (λ n. length xs ≤ n) (length-map (entries f.nodes) _) fits

  own_of : Option (Node P) → Option P
  own_of o = (unwrap_or o (childless None Root)).own

  pub IsNode-own : (x : NodeName) (v : P) → (node f x).own ≡ Some v → IsNode f x
  unfolding node
  IsNode-own x v e = go (get f.nodes x) e
    where
      go : (o : Option (Node P)) → (unwrap_or o (childless None Root)).own ≡ Some v → is_some o ≡ true
      go None e = absurd (cc e)
      go (Some n) e = refl

  pub IsNode-parent : (x p : NodeName) → parent f x ≡ Some p → IsNode f x
  unfolding node
  IsNode-parent x p e = go (get f.nodes x) e
    where
      go : (o : Option (Node P)) → parent_of (unwrap_or o (childless None Root)).hang ≡ Some p → is_some o ≡ true
      go None e = absurd (cc e)
      go (Some n) e = refl

  pub IsNode-tree : (x y : NodeName) → y ∈ (node f x).tree → IsNode f x
  unfolding node
  IsNode-tree x y i = go (get f.nodes x) i
    where
      go : (o : Option (Node P)) → y ∈ (unwrap_or o (childless None Root)).tree → is_some o ≡ true
      go None i = absurd i
      go (Some n) i = refl

  pub IsNode-stubs : (x y : NodeName) → y ∈ (node f x).stubs → IsNode f x
  unfolding node
  IsNode-stubs x y i = go (get f.nodes x) i
    where
      go : (o : Option (Node P)) → y ∈ (unwrap_or o (childless None Root)).stubs → is_some o ≡ true
      go None i = absurd i
      go (Some n) i = refl

  -- a parent is a node, and x stands in its list
  pub parent_cases : IsLinked f → (x p : NodeName) → parent f x ≡ Some p → ((node f x).hang ≡ TreeOf p) ⊎ ((node f x).hang ≡ StubOf p)
  parent_cases linked x p up = go (node f x).hang up
    where
      go : (h : Hang) → parent_of h ≡ Some p → (h ≡ TreeOf p) ⊎ (h ≡ StubOf p)
      go Root e = absurd (cc e)
      go (TreeOf q) e = let is : q ≡ p = cc e in inl (ap TreeOf is)
      go (StubOf q) e = let is : q ≡ p = cc e in inr (ap StubOf is)

  pub parent-IsNode : IsLinked f → (x p : NodeName) → parent f x ≡ Some p → IsNode f p
  parent-IsNode linked x p up = elim (parent_cases linked x p up) [
    | inl t ↦ IsNode-tree p x ((linked.tree_links x p).1 t)
    | inr s ↦ IsNode-stubs p x ((linked.stub_links x p).1 s)
  ]

module _ {P : Type 0} where
  -- what has a value is a node
  pub IsNode-IsValue : (f : Forest P) {x : NodeName} {v : P} → IsValue f x v → IsNode f x
  IsNode-IsValue f {x} {v} (itself e) = IsNode-own f x v e
  IsNode-IsValue f {x} (above {p = p} none up r) = IsNode-parent f x p up
