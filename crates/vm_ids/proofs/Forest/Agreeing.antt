-- Equations between the values and the counts of two forests.
use Rattle.std.proofs.Common.{◌≡◌, ℕ, suc, zero, ◌≤◌, List, length, Bool, true, not, Option, Some, None, is_some, refl, sym, ap, subst, ◌∙◌, inl, inr, arith, filter}
use Rattle.std.proofs.lemmas.Map.Made.{length-le_from_is_member}
use Rattle.vm_ids.specs.declared.node_name.NodeName.{NodeName}
use Rattle.vm_ids.specs.Forest.NameLists.{◌∈◌, Once}
use Rattle.vm_ids.specs.Forest.NameMap.{keys}
use Rattle.vm_ids.specs.Forest.Nodes.{Forest, IsNode, is_live}
use Rattle.vm_ids.specs.Forest.Shape.{IsLinked, IsWellShaped, IsCounted, IsBounded}
use Rattle.vm_ids.specs.Forest.Reading.{value_of, live_count, working_count, counts_of}
use Rattle.vm_ids.specs.Forest.Values.{IsValue}
use Rattle.vm_ids.proofs.Forest.Fitting.{same_laws, in_from_any, distinct, IsNode-IsValue}
use Rattle.vm_ids.proofs.Forest.NameLists.{in_filter, filter_in, Once-filter}
use Rattle.vm_ids.proofs.Forest.NamesAfter.{SameNames}
use Rattle.vm_ids.proofs.Forest.Reading.{value-IsValue, IsValue-value}
use Rattle.vm_ids.proofs.Forest.Paths.{IsNode-value}
use Rattle.vm_ids.proofs.Forest.Bound.{Once-keys, key-IsNode, IsNode-key, any_from_in}

pub subset_le : (xs ys : List NodeName) → Once xs → ((x : NodeName) → x ∈ xs → x ∈ ys) → length xs ≤ length ys
subset_le xs ys once sub = length-le_from_is_member same_laws xs ys (distinct xs once) (λ q is. any_from_in ys q (sub q (in_from_any xs q is)))

module _ {P : Type 0} where
  -- y has in g the value that x has in f
  pub value_equal : (f g : Forest P) → IsWellShaped f → IsLinked g → (x y : NodeName) → (IsNode g y → IsNode f x) → ((v : P) → IsValue f x v → IsValue g y v) → value_of g y ≡ value_of f x
  value_equal f g shaped linked x y back kept = go (value_of f x) refl
    where
      none : (o : Option P) → value_of g y ≡ o → (IsNode f x → ⊥) → o ≡ None
      none None e out = refl
      none (Some v) e out = absurd (out (back (IsNode-IsValue g (IsValue-value g y v e))))

      go : (o : Option P) → value_of f x ≡ o → value_of g y ≡ o
      go (Some v) e = value-IsValue g linked (kept v (IsValue-value f x v e))
      go None e = none (value_of g y) refl (λ is. absurd (cc (ap is_some e, (IsNode-value f shaped x).0 is)))

  -- a name without a node has no value
  pub value_none : (f : Forest P) (x : NodeName) → (IsNode f x → ⊥) → value_of f x ≡ None
  value_none f x out = go (value_of f x) refl
    where
      go : (o : Option P) → value_of f x ≡ o → o ≡ None
      go None e = refl
      go (Some v) e = absurd (out (IsNode-IsValue f (IsValue-value f x v e)))

  -- a name with the value of a node is one
  pub IsNode-equal : (f g : Forest P) → IsWellShaped f → (x y : NodeName) → value_of g y ≡ value_of f x → IsNode f x → IsNode g y
  IsNode-equal f g shaped x y e is = go (value_of g y) refl
    where
      go : (o : Option P) → value_of g y ≡ o → IsNode g y
      go None none = absurd (cc (ap is_some none, ap is_some e, (IsNode-value f shaped x).0 is))
      go (Some v) some = IsNode-IsValue g (IsValue-value g y v some)

  key_count : (test : NodeName → Bool) (f g : Forest P) → ((x : NodeName) → IsNode f x → test x ≡ true → IsNode g x) → length (filter test (keys f.nodes)) ≤ length (filter test (keys g.nodes))
  key_count test f g sub = subset_le _ _ (Once-filter test _ (Once-keys f.nodes.list f.nodes.sorted))
      (λ x i. let k = in_filter test (keys f.nodes) x i in filter_in test (keys g.nodes) x (IsNode-key g x (sub x (key-IsNode f x k.0) k.1)) k.1)

  pub live_count-le : (f g : Forest P) → ((x : NodeName) → IsNode f x → is_live x ≡ true → IsNode g x) → live_count f ≤ live_count g
  live_count-le f g sub = key_count is_live f g sub

  pub working_count-le : (f g : Forest P) → ((x : NodeName) → IsNode f x → not (is_live x) ≡ true → IsNode g x) → working_count f ≤ working_count g
  working_count-le f g sub = key_count (λ x. not (is_live x)) f g sub

  pub same_live_count : (f g : Forest P) → SameNames g f → live_count g ≡ live_count f
  same_live_count f g names = let a = live_count-le f g (λ x is t. names x ∙ is) in let b = live_count-le g f (λ x is t. sym (names x) ∙ is) in omega arith

  pub same_working_count : (f g : Forest P) → SameNames g f → working_count g ≡ working_count f
  same_working_count f g names = let a = working_count-le f g (λ x is t. names x ∙ is) in let b = working_count-le g f (λ x is t. sym (names x) ∙ is) in omega arith

  pub same_counts : (f g : Forest P) (c : ℕ) → SameNames g f → g.copies ≡ c → counts_of g ≡ record (counts_of f) { copies = c }
  same_counts f g c names e =
      let l = same_live_count f g names in
      let w = same_working_count f g names in
      λ i. record { live = l i; working = w i; copies = e i }

  pub bounded_from : (f g : Forest P) → working_count g ≤ working_count f → live_count f ≤ live_count g → IsBounded f → IsBounded g
  bounded_from f g w l bound = elim bound [
    | inl less ↦ inl (omega arith)
    | inr none ↦ go (live_count g) refl
  ]
    where
      go : (n : ℕ) → live_count g ≡ n → IsBounded g
      go zero e = inr (elim bound [ inl less ↦ (omega arith) | inr none ↦ (let k = none.0 in omega arith) ], e)
      go (suc n) e = inl (elim bound [ inl less ↦ (omega arith) | inr none ↦ (let k = none.0 in omega arith) ])

  pub same_bound : (f g : Forest P) → SameNames g f → IsBounded f → IsBounded g
  same_bound f g names bound = bounded_from f g (working_count-le g f (λ x is t. sym (names x) ∙ is)) (live_count-le f g (λ x is t. names x ∙ is)) bound

  pub counted_from : (f g : Forest P) → ((x : NodeName) → IsNode g x → IsNode f x) → g.made ≡ f.made → IsCounted f → IsCounted g
  counted_from f g sub made counted k is = subst (λ m. k ≤ m) (sym made) (counted k (sub _ is))
