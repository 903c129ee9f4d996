-- The plain forest of a machine: its chains, its counts, and that it agrees with the machine.
use Rattle.std.proofs.Common.{◌≡◌, ℕ, zero, suc, ◌+◌, ◌-◌, ◌<◌, ◌≤◌, Bool, true, false, cond, not, List, [], ◌∷◌, ◌++◌, length, map, filter, Option, Some, None, refl, sym, ap, subst, ◌∙◌, inl, inr, arith}
use Rattle.std.specs.Prelude.{slice_get, sum_by}
use Rattle.std.proofs.lemmas.List.{length-append, length-map, map-append}
use Rattle.std.proofs.lemmas.List.Sums.{sum_by-cons}
use Rattle.vm_ids.specs.declared.node_name.NodeName.{NodeName}
use Rattle.vm_ids.specs.declared.node_name.NodeName.TheVariants.{Live, Working}
use Rattle.vm_ids.specs.declared.numbers.CacheId.{CacheId}
use Rattle.vm_ids.specs.Forest.NameLists.{◌∈◌, Once}
use Rattle.vm_ids.specs.Forest.NameMap.{keys, len, get, empty, contains_key}
use Rattle.vm_ids.specs.Forest.Nodes.{Node, node, parent_of, no_forest, childless, IsNode, is_live, child_count}
use Rattle.vm_ids.specs.Forest.Nodes.Hang.{Root}
use Rattle.vm_ids.specs.Forest.Changes.{put}
use Rattle.vm_ids.specs.Forest.Reading.{path_of, chain_of, counts_of, live_count, working_count, names_above}
use Rattle.vm_ids.specs.Forest.Commands.{page_name, page_names, pages_at, firsts, make}
use Rattle.vm_ids.specs.Forest.Laws.Commands.{AreFresh}
use Rattle.vm_ids.specs.Forest.Shape.{IsConsistent}
use Rattle.vm_ids.proofs.Forest.Names.{name_cases}
use Rattle.vm_ids.proofs.Forest.NameLists.{in_append, append_in, Once-append}
use Rattle.vm_ids.proofs.Forest.NameMap.{len-insert}
use Rattle.vm_ids.proofs.Forest.NodesAfter.{node-put, node-put_other, IsNode-put, IsNode-put_cases, put-IsNode}
use Rattle.vm_ids.proofs.Forest.Bound.{key-IsNode, split_length}
use Rattle.vm_ids.proofs.Forest.Counters.{put-counters}
use Rattle.vm_ids.proofs.Forest.Laws.Ranges.{ranges_hold_their_pages, ranges_hold_pages_once, pages_have_their_names}
use Rattle.vm_ids.proofs.Forest.Laws.Reading.{paths_by_cases}
use Rattle.vm_ids.proofs.Forest.Laws.Copying.{no_forest_is_consistent, make_keeps_consistency}
use Rattle.vm_model.specs.Machine.{Machine, Cache, Page, cache_of, live_pages, pages_in}
use Rattle.vm_model.proofs.Parts.Lists.{numbered_place}
use Rattle.vm_model.specs.PageForest.{PageForest, told, nodes_of, nodes_from, plain_forest}

abbrev pub id_of : ℕ → CacheId
id_of n = record { 0 = n }

-- The names of the pages of caches

pub names_of : (n : ℕ) (c : Cache) → firsts (nodes_of n (Some c)) ≡ page_names (id_of n) 0 (length c.pages)
names_of n c = pages_have_their_names (id_of n) 0 (map told c.pages) ∙ ap (page_names (id_of n) 0) (length-map c.pages told)

-- x is a page of a cache with this number
pub record IsPageOf (n : ℕ) (x : NodeName) : Type 0 where
  pub page : ℕ
  pub is : x ≡ page_name (id_of n) page

pub of_cache : (n : ℕ) (o : Option Cache) (x : NodeName) → x ∈ firsts (nodes_of n o) → IsPageOf n x
of_cache n None x i = absurd i
of_cache n (Some c) x i =
    let at = (ranges_hold_their_pages (id_of n) 0 (length c.pages) x).0 (subst (λ xs. x ∈ xs) (names_of n c) i) in
    record { page = 0 + at.0; is = at.2 }

-- or with a later one
pub record IsPageFrom (n : ℕ) (x : NodeName) : Type 0 where
  pub number : ℕ
  pub from : n ≤ number
  pub is : IsPageOf number x

firsts_append : (xs ys : List (NodeName × Option Page)) → firsts (xs ++ ys) ≡ firsts xs ++ firsts ys
firsts_append xs ys = map-append (λ e. e.0) xs ys

pub from_caches : (n : ℕ) (cs : List (Option Cache)) (x : NodeName) → x ∈ firsts (nodes_from n cs) → IsPageFrom n x
from_caches n [] x i = absurd i
from_caches n (c ∷ cs) x i = elim (in_append (firsts (nodes_of n c)) (firsts (nodes_from (n + 1) cs)) x (subst (λ xs. x ∈ xs) (firsts_append (nodes_of n c) (nodes_from (n + 1) cs)) i)) [
  | inl j ↦ record { number = n; from = omega arith; is = of_cache n c x j }
  | inr j ↦ let later = from_caches (n + 1) cs x j in record { number = later.number; from = omega (arith, later.from); is = later.is }
]

abbrev number_in : NodeName → ℕ
number_in (Live c p) = c.0
number_in (Working k) = 0

pub one_cache : (n k p q : ℕ) → page_name (id_of n) p ≡ page_name (id_of k) q → n ≡ k
one_cache n k p q e = ap number_in e

pub once_cache : (n : ℕ) (o : Option Cache) → Once (firsts (nodes_of n o))
once_cache n None = tt
once_cache n (Some c) = subst Once (sym (names_of n c)) (ranges_hold_pages_once (id_of n) 0 (length c.pages))

apart : (n : ℕ) (x : NodeName) → IsPageOf n x → IsPageFrom (n + 1) x → ⊥
apart n x a b = let same : n ≡ b.number = one_cache n b.number a.page b.is.page (sym a.is ∙ b.is.is) in absurd (omega (arith, same, b.from))

once_caches : (n : ℕ) (cs : List (Option Cache)) → Once (firsts (nodes_from n cs))
once_caches n [] = tt
once_caches n (c ∷ cs) = subst Once (sym (firsts_append (nodes_of n c) (nodes_from (n + 1) cs)))
    (Once-append (firsts (nodes_of n c)) (firsts (nodes_from (n + 1) cs)) (once_cache n c) (once_caches (n + 1) cs) (λ x i j. apart n x (of_cache n c x i) (from_caches (n + 1) cs x j)))

live_page : (n : ℕ) (x : NodeName) → IsPageFrom n x → is_live x ≡ true
live_page n x a = ap is_live a.is.is

-- a page of a cache is among them
page_there : (n i : ℕ) (cs : List (Option Cache)) (c : Cache) (p : ℕ) → slice_get cs i ≡ Some (Some c) → p < length c.pages → page_name (id_of (n + i)) p ∈ firsts (nodes_from n cs)
page_there n i [] c p e less = absurd (cc e)
page_there n zero (o ∷ cs) c p e less =
    let is : o ≡ Some c = cc e in
    let here : page_name (id_of n) p ∈ firsts (nodes_of n (Some c)) = subst (λ xs. page_name (id_of n) p ∈ xs) (sym (names_of n c)) ((ranges_hold_their_pages (id_of n) 0 (length c.pages) (page_name (id_of n) p)).1 (p, less, ap (page_name (id_of n)) (omega arith))) in
    subst (λ xs. page_name (id_of (n + 0)) p ∈ xs) (sym (firsts_append (nodes_of n o) (nodes_from (n + 1) cs)))
    (append_in (firsts (nodes_of n o)) _ _ (inl (subst (λ (k : ℕ). page_name (id_of k) p ∈ firsts (nodes_of n o)) (omega arith) (subst (λ (a : Option Cache). page_name (id_of n) p ∈ firsts (nodes_of n a)) (sym is) here))))
page_there n (suc i) (o ∷ cs) c p e less =
    subst (λ xs. page_name (id_of (n + suc i)) p ∈ xs) (sym (firsts_append (nodes_of n o) (nodes_from (n + 1) cs)))
    (append_in (firsts (nodes_of n o)) _ _ (inr (subst (λ (k : ℕ). page_name (id_of k) p ∈ firsts (nodes_from (n + 1) cs)) (omega arith) (page_there (n + 1) i cs c p e less))))

-- What making nodes leaves

abbrev Pages : Type 0
Pages = List (NodeName × Option Page)

abbrev made : Pages → PageForest
made es = make es no_forest

made_node : (es : Pages) (x : NodeName) → x ∈ firsts es → (v : Option Page) × (node (made es) x ≡ childless (Some v) Root)
made_node [] x i = absurd i
made_node (e ∷ es) x i = elim (name_cases x e.0) [
  | inl q ↦ (e.1, ap (node (made (e ∷ es))) q ∙ node-put (made es) e.0 (childless (Some e.1) Root))
  | inr d ↦ let r = made_node es x (elim i [ inl q ↦ absurd (d q) | inr j ↦ j ]) in (r.0, node-put_other (made es) e.0 x (childless (Some e.1) Root) d ∙ r.1)
]

nowhere : (x : NodeName) → IsNode (made []) x → ⊥
unfolding get empty
nowhere x is = cc is

no_nodes : len (made []).nodes ≡ 0
unfolding empty
no_nodes = refl

node_made : (es : Pages) (x : NodeName) → IsNode (made es) x → x ∈ firsts es
node_made [] x is = nowhere x is
node_made (e ∷ es) x is = elim (IsNode-put_cases (made es) e.0 x (childless (Some e.1) Root) is) [ inl q ↦ inl q | inr old ↦ inr (node_made es x old) ]

made_is_node : (es : Pages) (x : NodeName) → x ∈ firsts es → IsNode (made es) x
made_is_node [] x i = absurd i
made_is_node (e ∷ es) x i = elim i [ inl q ↦ subst (IsNode (made (e ∷ es))) (sym q) (IsNode-put (made es) e.0 _) | inr j ↦ put-IsNode (made es) e.0 x _ (made_is_node es x j) ]

no_copies : (es : Pages) → (made es).copies ≡ 0
no_copies [] = refl
no_copies (e ∷ es) = (put-counters (made es) e.0 (childless (Some e.1) Root)).copies ∙ no_copies es

no_key : (b : Bool) → (b ≡ true → ⊥) → b ≡ false
no_key true h = absurd (h refl)
no_key false h = refl

len_put : (f : PageForest) (x : NodeName) (n : Node (Option Page)) → (IsNode f x → ⊥) → len (put f x n).nodes ≡ len f.nodes + 1
unfolding put
len_put f x n out = len-insert f.nodes x n ∙ ap (λ b. cond b (len f.nodes) (len f.nodes + 1)) (no_key (contains_key f.nodes x) out)

made_len : (es : Pages) → Once (firsts es) → len (made es).nodes ≡ length es
made_len [] once = no_nodes
made_len (e ∷ es) once = omega (arith, len_put (made es) e.0 (childless (Some e.1) Root) (λ is. once.0 (node_made es e.0 is)), made_len es once.1)

none_left : (xs : List NodeName) → ((x : NodeName) → x ∈ xs → is_live x ≡ true) → length (filter (λ x. not (is_live x)) xs) ≡ 0
none_left [] live = refl
none_left (x ∷ xs) live = ap (λ b. length (cond (not b) (x ∷ filter (λ x. not (is_live x)) xs) (filter (λ x. not (is_live x)) xs))) (live x (inl refl)) ∙ none_left xs (λ y i. live y (inr i))

-- The plain forest

nodes_length : (n : ℕ) (cs : List (Option Cache)) → length (nodes_from n cs) ≡ sum_by pages_in cs
nodes_length n [] = refl
nodes_length n (c ∷ cs) = omega (arith, length-append (nodes_of n c) (nodes_from (n + 1) cs), of c, nodes_length (n + 1) cs, sum_by-cons pages_in c cs)
  where
    at : (k : ℕ) (vs : List (Option Page)) → length (pages_at (id_of n) k vs) ≡ length vs
    at k [] = refl
    at k (v ∷ vs) = ap suc (at (k + 1) vs)

    of : (o : Option Cache) → length (nodes_of n o) ≡ pages_in o
    of None = refl
    of (Some c) = at 0 (map told c.pages) ∙ length-map c.pages told

pub plain_counts : (m : Machine) → counts_of (plain_forest m) ≡ record { live = live_pages m; working = 0; copies = 0 }
unfolding plain_forest
plain_counts m =
    let es = nodes_from 1 m.caches in
    let f = made es in
    let once : Once (firsts es) = once_caches 1 m.caches in
    let none : working_count f ≡ 0 = none_left (keys f.nodes) (λ x i. live_page 1 x (from_caches 1 m.caches x (node_made es x (key-IsNode f x i)))) in
    let all : live_count f ≡ live_pages m = omega (arith, split_length is_live (keys f.nodes), none, length-map f.nodes.list (λ e. e.0), made_len es once, nodes_length 1 m.caches) in
    λ i. record { live = all i; working = none i; copies = no_copies es i }

pub fresh : (m : Machine) → AreFresh no_forest (nodes_from 1 m.caches)
fresh m = record {
  once = once_caches 1 m.caches;
  fresh = λ x i. ((λ is. node_made [] x is), live_page 1 x (from_caches 1 m.caches x i));
}

pub plain_consistent : (m : Machine) → IsConsistent (plain_forest m)
unfolding plain_forest
plain_consistent m = make_keeps_consistency (nodes_from 1 m.caches) no_forest (no_forest_is_consistent (Option Page)) (fresh m)

page_of_number : (m : Machine) (n p : ℕ) (c : Cache) → slice_get m.caches (n - 1) ≡ Some (Some c) → 1 ≤ n → p < length c.pages → page_name (id_of n) p ∈ firsts (nodes_from 1 m.caches)
page_of_number m n p c e some less = subst (λ (k : ℕ). page_name (id_of k) p ∈ firsts (nodes_from 1 m.caches)) (omega (arith, some)) (page_there 1 (n - 1) m.caches c p e less)

pub plain_chain : (m : Machine) (cache : CacheId) (p : ℕ) (c : Cache) → cache_of m cache.0 ≡ Some c → p < length c.pages → chain_of (plain_forest m) (page_name cache p) ≡ record { name = page_name cache p; children = 0 } ∷ []
unfolding plain_forest chain_of
plain_chain m cache p c there less =
    let es = nodes_from 1 m.caches in
    let f = made es in
    let x = page_name cache p in
    let at = numbered_place m.caches cache.0 c there in
    let in_es : x ∈ firsts es = page_of_number m cache.0 p c at.1 at.0 less in
    let n = made_node es x in_es in
    let path : path_of f x ≡ x ∷ [] = paths_by_cases f (plain_consistent m).shaped x (made_is_node es x in_es) ∙ ap (λ (k : Node (Option Page)). x ∷ names_above k.own (parent_of k.hang) (path_of f)) n.1 in
    ap (map (λ y. record { name = y; children = child_count f y })) path ∙ ap (λ (k : Node (Option Page)). record { name = x; children = length k.tree + length k.stubs } ∷ []) n.1
