-- How many live and working nodes there are.
use Rattle.std.proofs.Common.{◌≡◌, ◌≢◌, ℕ, ◌+◌, true, List, [], ◌∷◌, length, filter, Option, Some, None, IsSome, is_some, refl, ap, sym, subst, ◌∙◌, inl, inr, arith}
use Rattle.std.specs.Prelude.{option_and_then}
use Rattle.std.proofs.lemmas.Bool.{cases_eq, false≢true}
use Rattle.std.proofs.lemmas.List.{length-map}
use Rattle.std.proofs.lemmas.Option.{none-some}
use Rattle.std.specs.Ordering.{nat_cmp}
use Rattle.std.specs.FinMap.{FinMap}
use Rattle.std.specs.FinMap as ids
use Rattle.vm_ids.specs.declared.node_name.NodeName.{NodeName}
use Rattle.vm_ids.specs.declared.node_name.NodeName.TheVariants.{Live, Working}
use Rattle.vm_ids.specs.declared.numbers.NodeId.{NodeId}
use Rattle.vm_ids.specs.Forest.NameLists.{◌∈◌, Once}
use Rattle.vm_ids.specs.Forest.NameMap.{keys, len}
use Rattle.vm_ids.specs.Forest.Nodes.{Forest, IsNode, is_live}
use Rattle.vm_ids.specs.Forest.Reading.{counts_of, live_count, working_count}
use Rattle.vm_ids.proofs.Forest.Bound.{IsNode-key, Once-keys, key-IsNode, split_length}
use Rattle.vm_ids.proofs.Forest.NameLists.{Once-filter, filter_in, in_filter}
use Rattle.local_cache.specs.declared.own_state.OwnState.{OwnState}
use Rattle.local_cache.specs.Arena.{Arena, Cell, HasNode}
use Rattle.local_cache.specs.ArenaBy.{CacheRows, arena_by}
use Rattle.local_cache.specs.NodeKeys.{key_at, page_key, page_number, page_of_name}
use Rattle.local_cache.specs.PageNodes.{ArePaged, PageNodes}
use Rattle.local_cache.specs.Reading.{AreNamesApart, at_key, forest_of, name_of}
use Rattle.local_cache.proofs.ArenaBy.Nodes.{cell_by}
use Rattle.local_cache.proofs.Changes.SameNodes.{forest_of-copies}
use Rattle.local_cache.proofs.Forest.Reading.{IsNode-forest_of, forest_of-IsNode}
use Rattle.local_cache.proofs.NewCache.FoundPages.{some_of}
use Rattle.local_cache.proofs.NodeCells.{removed_here, removed_other, some_number}
use Rattle.local_cache.proofs.PagesKept.{key_there, same_node}
use Rattle.local_cache.proofs.Singles.{len_remove_old}

-- Names and numbers

-- what is still there wasn't the one that went
still_some : {V : Type 0} (m : FinMap nat_cmp V) (k q : ℕ) → IsSome (ids.get (ids.remove m k) q)
    → (q ≢ k) × IsSome (ids.get m q)
still_some m k q some = elim (cases_eq q k) [
  | inl same ↦
      absurd (false≢true (sym (ap is_some (ap (ids.get (ids.remove m k)) same ∙ removed_here m k)) ∙ some))
  | inr other ↦ (other, sym (ap is_some (removed_other m k q other)) ∙ some)
]

-- a map has as many numbers as there are names, where each name goes with one of its numbers
module _ {V : Type 0} (R : NodeName → ℕ → Type 0)
    (left : (x : NodeName) (j k : ℕ) → R x j → R x k → j ≡ k)
    (right : (x y : NodeName) (k : ℕ) → R x k → R y k → x ≡ y) where
  pub len_named : (xs : List NodeName) (m : FinMap nat_cmp V) → Once xs
      → ((x : NodeName) → x ∈ xs → (k : ℕ) × R x k × IsSome (ids.get m k))
      → ((k : ℕ) → IsSome (ids.get m k) → (x : NodeName) × (x ∈ xs) × R x k)
      → length xs ≡ ids.len m
  len_named [] m once into onto = elim (cases_eq (ids.len m) 0) [
    | inl none ↦ sym none
    | inr some ↦ let one = some_number m (omega (arith, some)) in absurd ((onto one.0 (ap is_some one.2)).1)
  ]
  len_named (x ∷ xs) m once into onto =
      let at = into x (inl refl) in
      let rest = len_named xs (ids.remove m at.0) once.1
      (λ y is.
      let there = into y (inr is) in (
        there.0,
        there.1,
        ap is_some (removed_other m at.0 there.0
            (λ e. once.0 (subst (λ z. z ∈ xs) (right y x at.0 (subst (R y) e there.1) at.1) is)))
            ∙ there.2,
      ))
      (λ k some.
      let was = still_some m at.0 k some in
      let found = onto k was.1 in (
        found.0,
        elim found.1 [
          | inl e ↦ absurd (was.0 (left x k at.0 (subst (λ z. R z k) e found.2) at.1))
          | inr is ↦ is
        ],
        found.2,
      )) in
      omega (arith, rest, len_remove_old m at.0 at.2)

-- The forest

live_by_page : (x : NodeName) (k : ℕ) → page_of_name x ≡ Some k → is_live x ≡ true
live_by_page (Live cache page) k is = refl
live_by_page (Working j) k is = absurd (none-some k is)

page_by_live : (x : NodeName) → is_live x ≡ true → (k : ℕ) × (page_of_name x ≡ Some k)
page_by_live (Live cache page) is = (page_number cache.0 page.0, refl)
page_by_live (Working j) is = absurd (false≢true is)

module _ (m : PageNodes) (c : CacheRows) (named : AreNamesApart (arena_by m c)) where
  abbrev a : Arena
  a = arena_by m c

  abbrev f : Forest OwnState
  f = forest_of a

  all_names : length (keys f.nodes) ≡ ids.len m.cells
  all_names =
      len_named (λ x k. HasNode a (at_key k) × (name_of a (at_key k) ≡ x))
      (λ x j k one other. ap (λ (n : NodeId). n.0) (named.apart (at_key j) (at_key k) one.0 other.0 (one.1 ∙ sym other.1)))
      (λ x y k one other. sym one.1 ∙ other.1)
      (keys f.nodes) m.cells (Once-keys f.nodes.list f.nodes.sorted)
      (λ x is.
      let found = forest_of-IsNode a x (key-IsNode f x is) in
      (found.0.0, (found.1, found.2), found.1))
      (λ k some. (
        name_of a (at_key k),
        IsNode-key f (name_of a (at_key k)) (IsNode-forest_of a named (at_key k) some),
        (some, refl),
      ))

  -- the forest has as many nodes as there are cells
  pub forest_len_by : len f.nodes ≡ ids.len m.cells
  forest_len_by = sym (length-map f.nodes.list (λ e. e.0)) ∙ all_names

  module _ (paged : ArePaged m.cells m.pages) where
    -- the page of a node that has this name
    key_named : (n : NodeId) (x : NodeName) (k : ℕ) → HasNode a n → name_of a n ≡ x
        → page_of_name x ≡ Some k → key_at page_key m.cells n.0 ≡ Some k
    key_named n x k held is page =
        key_there (ids.get m.cells n.0) held ∙ ap (λ (d : Cell). page_of_name d.name) (cell_by m c n) ∙ ap page_of_name is ∙ page

    live_names : live_count f ≡ ids.len m.pages
    live_names =
        len_named (λ x k. (page_of_name x ≡ Some k) × IsNode f x)
        (λ x j k one other. let same : Some j ≡ Some k = sym one.0 ∙ other.0 in cc same)
        (λ x y k one other.
        let n = forest_of-IsNode a x one.1 in
        let i = forest_of-IsNode a y other.1 in
        let same : n.0.0 ≡ i.0.0 = same_node n.0.0 i.0.0
        (sym ((paged k n.0.0).1 (key_named n.0 x k n.1 n.2 one.0)) ∙ (paged k i.0.0).1 (key_named i.0 y k i.1 i.2 other.0)) in
        sym n.2 ∙ ap (λ (j : ℕ). name_of a (at_key j)) same ∙ i.2)
        (filter is_live (keys f.nodes)) m.pages
        (Once-filter is_live (keys f.nodes) (Once-keys f.nodes.list f.nodes.sorted))
        (λ x is.
        let both = in_filter is_live (keys f.nodes) x is in
        let node = key-IsNode f x both.0 in
        let n = forest_of-IsNode a x node in
        let page = page_by_live x both.1 in (
          page.0,
          (page.1, node),
          ap is_some ((paged page.0 n.0.0).1 (key_named n.0 x page.0 n.1 n.2 page.1)),
        ))
        (λ k some.
        let v = some_of (ids.get m.pages k) some in
        let n : NodeId = at_key v.0.0 in
        let key : key_at page_key m.cells n.0 ≡ Some k =
        (paged k v.0.0).0 v.1 in
        let held : HasNode a n = held_by (ids.get m.cells n.0) k key in
        let page : page_of_name (name_of a n) ≡ Some k =
        ap (λ (d : Cell). page_of_name d.name) (sym (cell_by m c n)) ∙ sym (key_there (ids.get m.cells n.0) held) ∙ key in
        let node = IsNode-forest_of a named n held in (
          name_of a n,
          filter_in is_live (keys f.nodes) (name_of a n) (IsNode-key f (name_of a n) node)
              (live_by_page (name_of a n) k page),
          (page, node),
        ))
      where
        held_by : (o : Option Cell) (k : ℕ) → option_and_then page_key o ≡ Some k → IsSome o
        held_by None k e = absurd (none-some k e)
        held_by (Some d) k e = refl

    -- the counts of the forest
    pub counts_by : (live working : ℕ) → live ≡ ids.len m.pages
        → working + ids.len m.pages ≡ ids.len m.cells
        → record { live = live; working = working; copies = c.copies } ≡ counts_of f
    counts_by live working live_is sum =
        let as_live : live ≡ live_count f = live_is ∙ sym live_names in
        let as_working : working ≡ working_count f =
        omega (arith, sum, live_names, all_names, split_length is_live (keys f.nodes)) in
        let copies : c.copies ≡ f.copies = sym (forest_of-copies a) in
        λ i. record { live = as_live i; working = as_working i; copies = copies i }
