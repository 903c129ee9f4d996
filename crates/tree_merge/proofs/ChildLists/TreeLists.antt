-- A parent's tree children after one of them went or gave its place to another, by numbers and by
-- names.
use Rattle.std.proofs.Common.{◌≡◌, ◌≢◌, ◌⊎◌, ℕ, ◌==◌, true, false, cond, not, List, [], ◌∷◌, map, Option, Some, None, refl, sym, ap, ◌∙◌, inl, inr, arith}
use Rattle.std.specs.List.{cons_option}
use Rattle.std.proofs.lemmas.Bool.Decides.{nat_tests}
use Rattle.vm_ids.specs.declared.node_name.NodeName.{NodeName}
use Rattle.vm_ids.specs.Forest.Names.{same}
use Rattle.vm_ids.proofs.Forest.Names.{same_itself, same_apart}
use Rattle.vm_ids.specs.Forest.NameLists.{renamed}
use Rattle.vm_ids.specs.Forest.NameLists as names
use Rattle.vm_ids.specs.declared.numbers.NodeId.{NodeId}
use Rattle.local_cache.specs.Arena.{Arena, HasNode}
use Rattle.local_cache.specs.NodeCells.{exchanged, in_place}
use Rattle.local_cache.specs.Reading.{name_of, AreNamesApart}
use Rattle.local_cache.specs.Sound.{◌∈◌}
use Rattle.local_cache.proofs.Changes.SameNodes.{id_cases}

pub equal : (a b : ℕ) → a ≡ b → (a == b) ≡ true
equal a b e = grind (arith, nat_tests)

pub unequal : (a b : ℕ) → a ≢ b → (a == b) ≡ false
unequal a b e = grind (arith, nat_tests)

pub place_same : (n m : NodeId) (o : Option NodeId) → m ≡ n → in_place n o m ≡ o
place_same n m o e = ap (λ b. cond b o (Some m)) (equal m.0 n.0 (ap (λ k. k.0) e))

pub place_other : (n m : NodeId) (o : Option NodeId) → m ≢ n → in_place n o m ≡ Some m
place_other n m o ne = ap (λ b. cond b o (Some m)) (unequal m.0 n.0 (λ e. ne (λ i. record { 0 = e i })))

in_cons : (o : Option NodeId) (ms : List NodeId) (m : NodeId) → m ∈ cons_option o ms → (o ≡ Some m) ⊎ (m ∈ ms)
in_cons None ms m i = inr i
in_cons (Some k) ms m (inl e) = inl (ap Some (sym e))
in_cons (Some k) ms m (inr i) = inr i

-- what stands in the list then
pub exchanged-in : (n : NodeId) (o : Option NodeId) (ms : List NodeId) (m : NodeId) → m ∈ exchanged n o ms → (o ≡ Some m) ⊎ (m ∈ ms)
exchanged-in n o [] m i = absurd i
exchanged-in n o (k ∷ ms) m i = elim (in_cons (in_place n o k) (exchanged n o ms) m i) [
  | inr later ↦ elim (exchanged-in n o ms m later) [ inl e ↦ inl e | inr j ↦ inr (inr j) ]
  | inl e ↦ elim (id_cases k n) [
    | inl is ↦ inl (sym (place_same n k o is) ∙ e)
    | inr ne ↦ (let two : Some k ≡ Some m = sym (place_other n k o ne) ∙ e in let is : k ≡ m = cc two in inr (inl (sym is)))
  ]
]

module _ (a : Arena) (named : AreNamesApart a) (n : NodeId) (hn : HasNode a n) where
  name_apart : (m : NodeId) → HasNode a m → m ≢ n → same (name_of a n) (name_of a m) ≡ false
  name_apart m hm ne = same_apart (name_of a n) (name_of a m) (λ e. ne (named.apart m n hm hn (sym e)))

  pub without-names : (ms : List NodeId) → ((m : NodeId) → m ∈ ms → HasNode a m) → map (name_of a) (exchanged n None ms) ≡ names.without (name_of a n) (map (name_of a) ms)
  without-names [] all = refl
  without-names (m ∷ ms) all =
      let rest = without-names ms (λ k i. all k (inr i)) in
      let later : List NodeName = names.without (name_of a n) (map (name_of a) ms) in
      elim (id_cases m n) [
        | inl e ↦ ap (λ o. map (name_of a) (cons_option o (exchanged n None ms))) (place_same n m None e) ∙ rest
            ∙ sym (ap (λ b. cond (not b) (name_of a m ∷ later) later) (ap (λ k. same (name_of a n) (name_of a k)) e ∙ same_itself (name_of a n)))
        | inr ne ↦ ap (λ o. map (name_of a) (cons_option o (exchanged n None ms))) (place_other n m None ne) ∙ ap (λ xs. name_of a m ∷ xs) rest
            ∙ sym (ap (λ b. cond (not b) (name_of a m ∷ later) later) (name_apart m (all m (inl refl)) ne))
      ]

  pub renamed-names : (y : NodeId) (ms : List NodeId) → ((m : NodeId) → m ∈ ms → HasNode a m) → map (name_of a) (exchanged n (Some y) ms) ≡ map (renamed (name_of a n) (name_of a y)) (map (name_of a) ms)
  renamed-names y [] all = refl
  renamed-names y (m ∷ ms) all =
      let rest = renamed-names y ms (λ k i. all k (inr i)) in
      elim (id_cases m n) [
        | inl e ↦ ap (λ o. map (name_of a) (cons_option o (exchanged n (Some y) ms))) (place_same n m (Some y) e) ∙ ap (λ xs. name_of a y ∷ xs) rest
            ∙ sym (ap (λ b. cond b (name_of a y) (name_of a m) ∷ map (renamed (name_of a n) (name_of a y)) (map (name_of a) ms)) (ap (λ k. same (name_of a n) (name_of a k)) e ∙ same_itself (name_of a n)))
        | inr ne ↦ ap (λ o. map (name_of a) (cons_option o (exchanged n (Some y) ms))) (place_other n m (Some y) ne) ∙ ap (λ xs. name_of a m ∷ xs) rest
            ∙ sym (ap (λ b. cond b (name_of a y) (name_of a m) ∷ map (renamed (name_of a n) (name_of a y)) (map (name_of a) ms)) (name_apart m (all m (inl refl)) ne))
      ]
