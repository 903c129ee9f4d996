-- A node under another name: its name is another one wherever it is named.
use Rattle.std.proofs.Common.{◌≡◌, ◌≢◌, ℕ, ◌+◌, ◌≤◌, List, [], ◌∷◌, map, Bool, true, false, Option, Some, None, option_map, IsSome, is_some, unwrap_or, refl, sym, ap, ◌∙◌, subst, inl, inr, arith}
use Rattle.vm_ids.specs.declared.node_name.NodeName.{NodeName}
use Rattle.vm_ids.specs.declared.node_name.NodeName.TheVariants.{Live, Working}
use Rattle.vm_ids.specs.Forest.Names.{name_cmp}
use Rattle.vm_ids.proofs.Forest.Names.{same_itself, same_apart}
use Rattle.vm_ids.specs.Forest.NameMap.{get, contains_key}
use Rattle.vm_ids.proofs.Forest.NameMap.{get-from_entries}
use Rattle.std.specs.FinMap.Entries.{find as find_entry}
use Rattle.vm_ids.specs.Forest.Nodes.{Forest, Node, node, childless}
use Rattle.vm_ids.specs.Forest.Changes.{rename, swapped_node, swapped_hang, count_working}
use Rattle.vm_ids.specs.Forest.NameLists.{swapped}
use Rattle.vm_ids.specs.Forest.Nodes.Hang.{Root, TreeOf, StubOf}
use Rattle.vm_ids.proofs.Forest.Renaming.{back, node-rename, find_across}
use Rattle.vm_ids.specs.declared.numbers.NodeId.{NodeId}
use Rattle.local_cache.specs.declared.own_state.OwnState.{OwnState}
use Rattle.local_cache.specs.Arena.{Arena, cell, find, HasNode, as_working, Table, IsVacant, entry_at, node_at, tables_with, with_name}
use Rattle.local_cache.specs.Reading.{name_of, node_of, page_of, forest_of, hang_by, stubs_of, AreNamesApart}
use Rattle.local_cache.specs.Threads.{IsThreaded}
use Rattle.local_cache.specs.Sound.{IsKept, IsListed, ◌∈◌}
use Rattle.local_cache.proofs.Nodes.Cells.{cell-put, cell-put_other, find-put, find-put_other}
use Rattle.local_cache.proofs.Changes.SameNodes.{id_cases, same_node, copies-put, forest_of-copies, forest_of-made, made-put}
use Rattle.vm_ids.specs.declared.numbers.CacheId.{CacheId}
use Rattle.vm_ids.specs.declared.numbers.PageNo.{PageNo}
use Rattle.vm_ids.proofs.Forest.Names.{name_cases}
use Rattle.local_cache.proofs.NewNode.FreshNode.{next-unnamed, vacant-there, vacant-unnamed}
use Rattle.local_cache.proofs.Tables.Listing.{left-node, node_in, other-entry, other-node, page_name, set-node}
use Rattle.local_cache.proofs.Forest.StubRows.{threaded_is, threaded-kept, keeps_links, row-each}
use Rattle.local_cache.proofs.Forest.Reading.{reads_as, forest_of-IsNode, IsNode-forest_of, node-forest_of}

has-rename : {P : Type 0} (f : Forest P) (o x y : NodeName) → contains_key (rename f o x).nodes y ≡ contains_key f.nodes (swapped o x y)
unfolding rename get
has-rename {P} f o x y = ap is_some (get-from_entries _ y ∙ find_across o x y f.nodes.list) ∙ out (find_entry name_cmp (swapped o x y) f.nodes.list)
  where
    out : (e : Option (Node P)) → is_some (option_map (swapped_node o x) e) ≡ is_some e
    out None = refl
    out (Some n) = refl

module _ (a : Arena) (kept : IsKept a) (n : NodeId) (h : HasNode a n) (x : NodeName) (fresh : (m : NodeId) → HasNode a m → name_of a m ≢ x)
    (b : Arena) (held_is : (m : NodeId) → is_some (find b m) ≡ is_some (find a m))
    (at_n : cell b n ≡ record (cell a n) { name = x }) (other : (m : NodeId) → m ≢ n → cell b m ≡ cell a m)
    (made : (k : ℕ) → x ≡ Working k → k ≤ b.made) (more : a.made ≤ b.made)
    (caches : (cache page : ℕ) → node_at b cache page ≡ node_in (tables_with (tables_with a.caches (name_of a n) None) x (Some n)) cache page)
    (has : (cache page : ℕ) → x ≡ page_name cache page → IsSome (entry_at a.caches cache page)) where
  name_is : (m : NodeId) → HasNode a m → name_of b m ≡ swapped (name_of a n) x (name_of a m)
  name_is m hm = elim (id_cases m n) [
    | inl e ↦ ap (name_of b) e ∙ ap (λ c. c.name) at_n ∙ sym (ap (swapped (name_of a n) x) (ap (name_of a) e) ∙ rw (same_itself (name_of a n)))
    | inr ne ↦ ap (λ c. c.name) (other m ne) ∙ sym (rw (same_apart (name_of a n) (name_of a m) (λ e. ne (kept.named.apart m n hm h (sym e))), same_apart x (name_of a m) (λ e. fresh m hm (sym e))))
  ]

  links_same : (m : NodeId) → (cell b m).links ≡ (cell a m).links
  links_same m = elim (id_cases m n) [ inl e ↦ ap (λ k. (cell b k).links) e ∙ ap (λ c. c.links) at_n ∙ ap (λ k. (cell a k).links) (sym e) | inr ne ↦ ap (λ c. c.links) (other m ne) ]

  tree_same : (m : NodeId) → (cell b m).tree ≡ (cell a m).tree
  tree_same m = elim (id_cases m n) [ inl e ↦ ap (λ k. (cell b k).tree) e ∙ ap (λ c. c.tree) at_n ∙ ap (λ k. (cell a k).tree) (sym e) | inr ne ↦ ap (λ c. c.tree) (other m ne) ]

  own_same : (m : NodeId) → (cell b m).own ≡ (cell a m).own
  own_same m = elim (id_cases m n) [ inl e ↦ ap (λ k. (cell b k).own) e ∙ ap (λ c. c.own) at_n ∙ ap (λ k. (cell a k).own) (sym e) | inr ne ↦ ap (λ c. c.own) (other m ne) ]

  lists : (m : NodeId) → HasNode a m → IsThreaded b m (stubs_of a m)
  lists m hm = threaded-kept a b m (stubs_of a m) (λ y i. keeps_links a b y (λ k. held_is y ∙ k) (links_same y)) (ap (λ l. l.first) (links_same m)) (ap (λ l. l.last) (links_same m)) (ap (λ l. l.stubs) (links_same m)) (kept.threaded m hm)

  stubs_are : (m : NodeId) → HasNode a m → stubs_of b m ≡ stubs_of a m
  stubs_are m hm = threaded_is b m (stubs_of a m) (lists m hm)

  map_is : (ms : List NodeId) → ((m : NodeId) → m ∈ ms → HasNode a m) → map (name_of b) ms ≡ map (swapped (name_of a n) x) (map (name_of a) ms)
  map_is [] all = refl
  map_is (m ∷ ms) all = λ i. name_is m (all m (inl refl)) i ∷ map_is ms (λ k j. all k (inr j)) i

  hang_is : (p : Option NodeId) (t : Bool) → ((q : NodeId) → p ≡ Some q → HasNode a q) → hang_by b p t ≡ swapped_hang (name_of a n) x (hang_by a p t)
  hang_is None t all = refl
  hang_is (Some p) true all = ap StubOf (name_is p (all p refl))
  hang_is (Some p) false all = ap TreeOf (name_is p (all p refl))

  node_is : (m : NodeId) → HasNode a m → node_of b m ≡ swapped_node (name_of a n) x (node_of a m)
  node_is m hm = same_node (node_of b m) (swapped_node (name_of a n) x (node_of a m))
      (ap page_of (own_same m))
      (ap (λ l. hang_by b l.parent l.by_stub) (links_same m) ∙ hang_is (cell a m).links.parent (cell a m).links.by_stub (λ q e. kept.parents m q hm e))
      (ap (map (name_of b)) (tree_same m) ∙ map_is (cell a m).tree (λ k i. kept.children m k hm i))
      (ap (map (name_of b)) (stubs_are m hm) ∙ map_is (stubs_of a m) (λ k i. (row-each a m None (stubs_of a m) None (kept.threaded m hm).row k i).0))

  was : (m : NodeId) → HasNode b m → HasNode a m
  was m hm = sym (held_is m) ∙ hm

  pub named-renamed : AreNamesApart b
  named-renamed = record {
    apart = λ m k hm hk e. kept.named.apart m k (was m hm) (was k hk)
        (sym (back (name_of a n) x (name_of a m)) ∙ ap (swapped (name_of a n) x) (sym (name_is m (was m hm)) ∙ e ∙ name_is k (was k hk)) ∙ back (name_of a n) x (name_of a k));
    counted = λ m k hm e. elim (id_cases m n) [
      | inl is ↦ made k (sym (ap (name_of b) is ∙ ap (λ c. c.name) at_n) ∙ e)
      | inr ne ↦ (let low = kept.named.counted m k (was m hm) (sym (ap (λ c. c.name) (other m ne)) ∙ e) in omega arith)
    ];
  }

  abbrev cleared : List (Option Table)
  cleared = tables_with a.caches (name_of a n) None

  set-there : (cache page : ℕ) → x ≡ page_name cache page → node_in (tables_with cleared x (Some n)) cache page ≡ Some n
  set-there cache page e =
      ap (λ y. node_in (tables_with cleared y (Some n)) cache page) e
      ∙ set-node cleared cache page n (subst IsSome (sym (other-entry a.caches cache page (name_of a n) None (λ q. fresh n h (q ∙ sym e)))) (has cache page e))

  name_n : name_of b n ≡ x
  name_n = ap (λ c. c.name) at_n

  name_other : (m : NodeId) → m ≢ n → name_of b m ≡ name_of a m
  name_other m ne = ap (λ c. c.name) (other m ne)

  listed-renamed : IsListed b
  listed-renamed = record {
    nodes = λ cache page m is. elim (name_cases x (page_name cache page)) [
      | inl e ↦
          let two : Some n ≡ Some m = sym (set-there cache page e) ∙ sym (caches cache page) ∙ is in
          let same : n ≡ m = cc two in
          subst (λ k. HasNode b k × (name_of b k ≡ page_name cache page)) same (held_is n ∙ h, name_n ∙ e)
      | inr ne ↦
          let old = left-node a.caches cache page (name_of a n) m (name_cases (name_of a n) (page_name cache page)) (sym (other-node cleared cache page x (Some n) ne) ∙ sym (caches cache page) ∙ is) in
          let there = kept.listed.nodes cache page m old.1 in
          let apart : m ≢ n = λ e. old.0 (sym (ap (name_of a) e) ∙ there.1) in
          (held_is m ∙ there.0, name_other m apart ∙ there.1)
    ];
    pages = λ cache page m hm e. elim (id_cases m n) [
      | inl m_n ↦ caches cache page ∙ set-there cache page (sym (ap (name_of b) m_n ∙ name_n) ∙ e) ∙ ap Some (sym m_n)
      | inr apart ↦
          let ha = was m hm in
          let name_m : name_of a m ≡ page_name cache page = sym (name_other m apart) ∙ e in
          caches cache page
          ∙ other-node cleared cache page x (Some n) (λ q. fresh m ha (name_m ∙ sym q))
          ∙ other-node a.caches cache page (name_of a n) None (λ q. apart (kept.named.apart m n ha h (name_m ∙ sym q)))
          ∙ kept.listed.pages cache page m ha name_m
    ];
  }

  pub kept-renamed : IsKept b
  kept-renamed = record {
    named = named-renamed;
    listed = listed-renamed;
    parents = λ m p hm up. held_is p ∙ kept.parents m p (was m hm) (sym (ap (λ l. l.parent) (links_same m)) ∙ up);
    children = λ m k hm i. held_is k ∙ kept.children m k (was m hm) (subst (λ ts. k ∈ ts) (tree_same m) i);
    threaded = λ m hm. subst (IsThreaded b m) (sym (stubs_are m (was m hm))) (lists m (was m hm));
  }

  pub forest-renamed : (g : Forest OwnState) → b.made ≡ g.made → b.copies ≡ g.copies → g.nodes ≡ (rename (forest_of a) (name_of a n) x).nodes → forest_of b ≡ g
  unfolding node
  forest-renamed g made copies nodes = reads_as b named-renamed g made copies
      (λ m hm.
      let y_is = name_is m (was m hm) in
      let across : swapped (name_of a n) x (name_of b m) ≡ name_of a m = ap (swapped (name_of a n) x) y_is ∙ back (name_of a n) x (name_of a m) in (
        ap (λ k. contains_key k (name_of b m)) nodes ∙ has-rename (forest_of a) (name_of a n) x (name_of b m) ∙ ap (contains_key (forest_of a).nodes) across ∙ IsNode-forest_of a kept.named m (was m hm),
        ap (λ k. unwrap_or (get k (name_of b m)) (childless None Root)) nodes ∙ node-rename (name_of a n) x (forest_of a) (name_of b m) ∙ ap (λ k. swapped_node (name_of a n) x (node (forest_of a) k)) across
            ∙ ap (swapped_node (name_of a n) x) (node-forest_of a kept.named m (was m hm)) ∙ sym (node_is m (was m hm)),
      ))
      (λ y is.
      let f = forest_of-IsNode a (swapped (name_of a n) x y) (sym (ap (λ k. contains_key k y) nodes ∙ has-rename (forest_of a) (name_of a n) x y) ∙ is) in
      (f.0, held_is f.0 ∙ f.1, name_is f.0 f.1 ∙ ap (swapped (name_of a n) x) f.2 ∙ back (name_of a n) x y))

module _ (a : Arena) (n : NodeId) (x : NodeName) where
  held-with_name : HasNode a n → (m : NodeId) → is_some (find (with_name a n x) m) ≡ is_some (find a m)
  held-with_name h m = elim (id_cases m n) [
    | inl e ↦ ap (λ k. is_some (find (with_name a n x) k)) e ∙ ap is_some (find-put a n (record (cell a n) { name = x })) ∙ sym h ∙ ap (λ k. is_some (find a k)) (sym e)
    | inr ne ↦ ap is_some (find-put_other a n m (record (cell a n) { name = x }) ne)
  ]

  cell-with_name : cell (with_name a n x) n ≡ record (cell a n) { name = x }
  unfolding cell
  cell-with_name = cell-put a n (record (cell a n) { name = x })

  cell-with_name_other : (m : NodeId) → m ≢ n → cell (with_name a n x) m ≡ cell a m
  unfolding cell
  cell-with_name_other m ne = cell-put_other a n m (record (cell a n) { name = x }) ne

-- a node becomes the next working node
module _ (a : Arena) (kept : IsKept a) (n : NodeId) (h : HasNode a n) where
  abbrev w : NodeName
  w = Working (a.made + 1)

  low : (k : ℕ) → w ≡ Working k → k ≤ a.made + 1
  low k e = let same : a.made + 1 ≡ k = cc e in omega arith

  no_page : (cache page : ℕ) → w ≡ page_name cache page → IsSome (entry_at a.caches cache page)
  no_page cache page e = absurd (cc e)

  counts-made : a.made + 1 ≡ (count_working (rename (forest_of a) (name_of a n) w)).made
  unfolding rename
  counts-made = ap (λ k. k + 1) (sym (forest_of-made a))

  counts-copies : (as_working a n).copies ≡ (count_working (rename (forest_of a) (name_of a n) w)).copies
  unfolding rename
  counts-copies = copies-put a n (record (cell a n) { name = w }) ∙ sym (forest_of-copies a)

  pub working-forest : forest_of (as_working a n) ≡ count_working (rename (forest_of a) (name_of a n) (Working (a.made + 1)))
  unfolding cell
  working-forest = forest-renamed a kept n h w (next-unnamed a kept) (as_working a n) (held-with_name a n w h) (cell-with_name a n w) (cell-with_name_other a n w) low (omega arith) (λ cache page. refl) no_page
      (count_working (rename (forest_of a) (name_of a n) w)) counts-made counts-copies refl

  pub working-kept : IsKept (as_working a n)
  unfolding cell
  working-kept = kept-renamed a kept n h w (next-unnamed a kept) (as_working a n) (held-with_name a n w h) (cell-with_name a n w) (cell-with_name_other a n w) low (omega arith) (λ cache page. refl) no_page

-- a node becomes that of a page
module _ (a : Arena) (kept : IsKept a) (n : NodeId) (h : HasNode a n) (cache : CacheId) (page : PageNo) (vacant : IsVacant a cache page) where
  abbrev live : NodeName
  live = Live cache page

  uncounted : (k : ℕ) → live ≡ Working k → k ≤ (with_name a n live).made
  uncounted k e = absurd (cc e)

  more : a.made ≤ (with_name a n live).made
  more = subst (λ k. a.made ≤ k) (sym (made-put a n (record (cell a n) { name = live }))) (omega arith)

  live-made : (with_name a n live).made ≡ (rename (forest_of a) (name_of a n) live).made
  unfolding rename
  live-made = made-put a n (record (cell a n) { name = live }) ∙ sym (forest_of-made a)

  live-copies : (with_name a n live).copies ≡ (rename (forest_of a) (name_of a n) live).copies
  unfolding rename
  live-copies = copies-put a n (record (cell a n) { name = live }) ∙ sym (forest_of-copies a)

  pub page-renamed-forest : forest_of (with_name a n (Live cache page)) ≡ rename (forest_of a) (name_of a n) (Live cache page)
  page-renamed-forest = forest-renamed a kept n h live (vacant-unnamed a kept cache page vacant) (with_name a n live) (held-with_name a n live h) (cell-with_name a n live) (cell-with_name_other a n live) uncounted more (λ c p. refl) (vacant-there a cache page vacant)
      (rename (forest_of a) (name_of a n) live) live-made live-copies refl

  pub page-renamed-kept : IsKept (with_name a n (Live cache page))
  page-renamed-kept = kept-renamed a kept n h live (vacant-unnamed a kept cache page vacant) (with_name a n live) (held-with_name a n live h) (cell-with_name a n live) (cell-with_name_other a n live) uncounted more (λ c p. refl) (vacant-there a cache page vacant)
