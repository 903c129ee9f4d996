-- The plain forest of a machine agrees with it.
use Rattle.std.proofs.Common.{◌≡◌, ℕ, suc, ◌+◌, ◌-◌, ◌<◌, ◌≤◌, Bool, true, false, cond, List, [], ◌∷◌, ◌++◌, Option, Some, None, refl, sym, ap, ◌∙◌, inl, inr, arith}
use Rattle.std.specs.Prelude.{option_map, option_and_then, slice_get}
use Rattle.std.specs.Option.{option_or}
use Rattle.std.proofs.lemmas.Bool.{cases_eq}
use Rattle.vm_ids.specs.declared.node_name.NodeName.{NodeName}
use Rattle.vm_ids.specs.declared.numbers.CacheId.{CacheId}
use Rattle.vm_ids.specs.Forest.Names.{same}
use Rattle.vm_ids.specs.Forest.NameMap.{empty}
use Rattle.vm_ids.specs.Forest.Nodes.{no_forest}
use Rattle.vm_ids.specs.Forest.Reading.{value_within, value_of}
use Rattle.vm_ids.specs.Forest.Commands.{page_name}
use Rattle.vm_ids.specs.Forest.Laws.Commands.{given}
use Rattle.vm_ids.proofs.Forest.Laws.Copying.{no_forest_is_consistent, make_gives_pages}
use Rattle.vm_model.specs.Machine.{Machine, Cache, Page}
use Rattle.vm_model.specs.PageForest.{told, nodes_of, nodes_from, page_in, plain_forest}
use Rattle.vm_model.specs.Laws.{PlainForestFollows}
use Rattle.vm_model.proofs.Parts.ListParts.{at_zero, at_some, zero_or}
use Rattle.vm_model.proofs.Forests.Plain.{id_of, fresh, from_caches, of_cache, one_cache, plain_consistent}
use Rattle.vm_model.proofs.Forests.CachesFollowed.{by_values, given_none, given_page, or_none}

given_append : {A : Type 0} (xs ys : List (NodeName × A)) (y : NodeName) → given (xs ++ ys) y ≡ option_or (given xs y) (given ys y)
given_append [] ys y = refl
given_append {A} (x ∷ xs) ys y = go (same y x.0) (given_append xs ys y)
  where
    go : (b : Bool) → given (xs ++ ys) y ≡ option_or (given xs y) (given ys y) → cond b (Some x.1) (given (xs ++ ys) y) ≡ option_or (cond b (Some x.1) (given xs y)) (given ys y)
    go true e = refl
    go false e = e

none_before : (n : ℕ) (cs : List (Option Cache)) (k page : ℕ) → k < n → given (nodes_from n cs) (page_name (id_of k) page) ≡ None
none_before n cs k page less = given_none (nodes_from n cs) (page_name (id_of k) page) (λ i. let at = from_caches n cs (page_name (id_of k) page) i in let q : k ≡ at.number = one_cache k at.number page at.is.page at.is.is in absurd (omega (arith, q, at.from, less)))

given_here : (n page : ℕ) (c : Option Cache) → given (nodes_of n c) (page_name (id_of n) page) ≡ option_map told (option_and_then (λ (c : Cache). slice_get c.pages page) c)
given_here n page None = refl
given_here n page (Some c) = given_page n c page

given_from : (n : ℕ) (cs : List (Option Cache)) (k page : ℕ) → n ≤ k → given (nodes_from n cs) (page_name (id_of k) page) ≡ option_map told (option_and_then (λ (c : Cache). slice_get c.pages page) (option_and_then (λ x. x) (slice_get cs (k - n))))
given_from n [] k page low = refl
given_from n (c ∷ cs) k page low =
    given_append (nodes_of n c) (nodes_from (n + 1) cs) (page_name (id_of k) page)
    ∙ elim (cases_eq k n) [
      | inl e ↦
          ap (λ (j : ℕ). option_or (given (nodes_of n c) (page_name (id_of j) page)) (given (nodes_from (n + 1) cs) (page_name (id_of j) page))) e
          ∙ ap (λ (o : Option (Option Page)). option_or (given (nodes_of n c) (page_name (id_of n) page)) o) (none_before (n + 1) cs n page (omega arith))
          ∙ or_none (given (nodes_of n c) (page_name (id_of n) page))
          ∙ given_here n page c
          ∙ ap (λ (j : ℕ). option_map told (option_and_then (λ (c : Cache). slice_get c.pages page) (option_and_then (λ x. x) (slice_get (c ∷ cs) j)))) (let s : 0 ≡ k - n = omega (arith, e) in s)
      | inr d ↦
          ap (λ (o : Option (Option Page)). option_or o (given (nodes_from (n + 1) cs) (page_name (id_of k) page))) (given_none (nodes_of n c) (page_name (id_of k) page) (λ i. let at = of_cache n c (page_name (id_of k) page) i in d (one_cache k n page at.page at.is)))
          ∙ given_from (n + 1) cs k page (omega (arith, low, d))
          ∙ ap (λ (j : ℕ). option_map told (option_and_then (λ (c : Cache). slice_get c.pages page) (option_and_then (λ x. x) (slice_get (c ∷ cs) j)))) (let s : suc (k - (n + 1)) ≡ k - n = omega (arith, low, d) in s)
    ]

no_value : (y : NodeName) → value_of (no_forest {P = Option Page}) y ≡ None
unfolding value_of value_within empty
no_value y = refl

given_all : (m : Machine) (k page : ℕ) → given (nodes_from 1 m.caches) (page_name (id_of k) page) ≡ option_map told (page_in m k page)
given_all m k page = elim (zero_or k) [
  | inl e ↦ none_before 1 m.caches k page (omega (arith, e)) ∙ sym (ap (λ (o : Option Cache). option_map told (option_and_then (λ (c : Cache). slice_get c.pages page) o)) (at_zero m.caches k e))
  | inr some ↦ given_from 1 m.caches k page some ∙ sym (ap (λ (o : Option Cache). option_map told (option_and_then (λ (c : Cache). slice_get c.pages page) o)) (at_some m.caches k some))
]

plain_value : (m : Machine) (cache : CacheId) (page : ℕ) → value_of (plain_forest m) (page_name cache page) ≡ option_map told (page_in m cache.0 page)
unfolding plain_forest
plain_value m cache page =
    let es = nodes_from 1 m.caches in
    let y = page_name cache page in
    make_gives_pages es no_forest (no_forest_is_consistent (Option Page)) (fresh m) y
    ∙ ap (λ (o : Option (Option Page)). option_or (given es y) o) (no_value y)
    ∙ or_none (given es y)
    ∙ given_all m cache.0 page

pub plain_forest_follows : PlainForestFollows
plain_forest_follows m = by_values m (plain_forest m) (plain_consistent m) (plain_value m)
