-- A new node.
use Rattle.std.proofs.Common.{◌≡◌, ◌≢◌, ℕ, ◌≤◌, List, [], ◌∷◌, map, Bool, true, false, Option, Some, None, IsSome, is_some, unwrap_or, refl, sym, ap, ◌∙◌, subst, inl, inr, arith}
use Rattle.std.proofs.lemmas.Bool.{false≢true}
use Rattle.vm_ids.specs.declared.node_name.NodeName.{NodeName}
use Rattle.vm_ids.specs.declared.node_name.NodeName.TheVariants.{Working}
use Rattle.vm_ids.specs.declared.numbers.NodeId.{NodeId}
use Rattle.vm_ids.specs.Forest.Nodes.{Forest, node, IsNode, childless}
use Rattle.vm_ids.specs.Forest.Nodes.Hang.{Root, TreeOf, StubOf}
use Rattle.vm_ids.specs.Forest.Changes.{put}
use Rattle.vm_ids.specs.Forest.NameMap.{contains_key, get}
use Rattle.vm_ids.proofs.Forest.Names.{name_cases}
use Rattle.vm_ids.proofs.Forest.NodesAfter.{node-put, node-put_other, IsNode-put, put-IsNode, IsNode-put_cases}
use Rattle.local_cache.specs.declared.own_state.OwnState.{OwnState}
use Rattle.local_cache.specs.Arena.{Arena, blank, cell, entry_at, find, HasNode, new_cell, node_at, tables_with, with_new}
use Rattle.local_cache.specs.Reading.{name_of, node_of, page_of, forest_of, hang_by, stubs_of, AreNamesApart}
use Rattle.local_cache.specs.Threads.{IsThreaded, AreThreaded}
use Rattle.local_cache.specs.Sound.{IsKept, IsListed, ◌∈◌}
use Rattle.local_cache.proofs.Nodes.Numbers.{tied, apart}
use Rattle.local_cache.proofs.Nodes.Cells.{find-with_new}
use Rattle.local_cache.proofs.Tables.Listing.{node_in, other-node, page_name, set-node}
use Rattle.local_cache.proofs.Changes.SameNodes.{id_cases, same_node}
use Rattle.local_cache.proofs.Forest.StubRows.{threaded_is, threaded-kept, keeps_links, row-each}
use Rattle.local_cache.proofs.Forest.Reading.{reads_as, forest_of-IsNode, IsNode-forest_of, node-forest_of}

pub map-names : (a b : Arena) (ns : List NodeId) → ((m : NodeId) → m ∈ ns → name_of b m ≡ name_of a m) → map (name_of b) ns ≡ map (name_of a) ns
map-names a b [] same = refl
map-names a b (n ∷ ns) same = λ i. same n (inl refl) i ∷ map-names a b ns (λ m h. same m (inr h)) i

pub hang-names : (a b : Arena) (p : Option NodeId) (t : Bool) → ((m : NodeId) → p ≡ Some m → name_of b m ≡ name_of a m) → hang_by b p t ≡ hang_by a p t
hang-names a b None t same = refl
hang-names a b (Some p) true same = ap StubOf (same p refl)
hang-names a b (Some p) false same = ap TreeOf (same p refl)

-- the arena with a new node, and so many working nodes counted
abbrev pub with_counted : Arena → NodeId → NodeName → OwnState → ℕ → Arena
with_counted a w x s made = record (with_new a w x s) { made = made }

module _ (a : Arena) (w : NodeId) (free : find a w ≡ None) (x : NodeName) (s : OwnState) (made : ℕ) where
  find-new : find (with_counted a w x s made) w ≡ Some (new_cell x s)
  find-new = find-with_new a w w x s ∙ rw (tied w.0 w.0 refl)

  find-old : (m : NodeId) → m ≢ w → find (with_counted a w x s made) m ≡ find a m
  find-old m ne = find-with_new a w m x s ∙ rw (apart m.0 w.0 (λ e. ne (λ i. record { 0 = e i })))

  pub added-cell : cell (with_counted a w x s made) w ≡ new_cell x s
  unfolding cell
  added-cell = ap (λ o. unwrap_or o blank) find-new

  pub other-cell : (m : NodeId) → m ≢ w → cell (with_counted a w x s made) m ≡ cell a m
  unfolding cell
  other-cell m ne = ap (λ o. unwrap_or o blank) (find-old m ne)

  copies_is : (with_counted a w x s made).copies ≡ a.copies
  unfolding with_new
  copies_is = refl

  caches_is : (cache page : ℕ) → node_at (with_counted a w x s made) cache page ≡ node_in (tables_with a.caches x (Some w)) cache page
  unfolding with_new
  caches_is cache page = refl

  pub not_added : (m : NodeId) → HasNode a m → m ≢ w
  not_added m h e = false≢true (sym (ap (λ k. is_some (find a k)) e ∙ ap is_some free) ∙ h)

  pub still_held : (m : NodeId) → HasNode a m → HasNode (with_counted a w x s made) m
  still_held m h = ap is_some (find-old m (not_added m h)) ∙ h

  pub added_held : HasNode (with_counted a w x s made) w
  added_held = ap is_some find-new

  pub was_held : (m : NodeId) → HasNode (with_counted a w x s made) m → m ≢ w → HasNode a m
  was_held m h ne = sym (ap is_some (find-old m ne)) ∙ h

  pub still_cell : (m : NodeId) → HasNode a m → cell (with_counted a w x s made) m ≡ cell a m
  still_cell m h = other-cell m (not_added m h)

  pub added_name : name_of (with_counted a w x s made) w ≡ x
  added_name = ap (λ c. c.name) added-cell

  pub still_name : (m : NodeId) → HasNode a m → name_of (with_counted a w x s made) m ≡ name_of a m
  still_name m h = ap (λ c. c.name) (still_cell m h)

  -- where the name is new, and a page that it names is there
  module _ (kept : IsKept a) (unnamed : (m : NodeId) → HasNode a m → name_of a m ≢ x) (counted : (k : ℕ) → x ≡ Working k → k ≤ made) (more : a.made ≤ made)
      (has : (cache page : ℕ) → x ≡ page_name cache page → IsSome (entry_at a.caches cache page)) where
    abbrev b : Arena
    b = with_counted a w x s made

    named : AreNamesApart b
    named = record {
      apart = λ n m hn hm e. elim (id_cases n w) [
        | inl n_w ↦ elim (id_cases m w) [
          | inl m_w ↦ n_w ∙ sym m_w
          | inr m_old ↦ absurd (unnamed m (was_held m hm m_old) (sym (still_name m (was_held m hm m_old)) ∙ sym e ∙ ap (name_of b) n_w ∙ added_name))
        ]
        | inr n_old ↦ elim (id_cases m w) [
          | inl m_w ↦ absurd (unnamed n (was_held n hn n_old) (sym (still_name n (was_held n hn n_old)) ∙ e ∙ ap (name_of b) m_w ∙ added_name))
          | inr m_old ↦ kept.named.apart n m (was_held n hn n_old) (was_held m hm m_old) (sym (still_name n (was_held n hn n_old)) ∙ e ∙ still_name m (was_held m hm m_old))
        ]
      ];
      counted = λ n k h e. elim (id_cases n w) [
        | inl n_w ↦ counted k (sym (ap (name_of b) n_w ∙ added_name) ∙ e)
        | inr n_old ↦ (let low = kept.named.counted n k (was_held n h n_old) (sym (still_name n (was_held n h n_old)) ∙ e) in omega arith)
      ];
    }

    listed : IsListed b
    listed = record {
      nodes = λ cache page n is. elim (name_cases x (page_name cache page)) [
        | inl e ↦
            let two : Some w ≡ Some n = sym (ap (λ y. node_in (tables_with a.caches y (Some w)) cache page) e ∙ set-node a.caches cache page w (has cache page e)) ∙ sym (caches_is cache page) ∙ is in
            let same : w ≡ n = cc two in
            subst (λ k. HasNode b k × (name_of b k ≡ page_name cache page)) same (added_held, added_name ∙ e)
        | inr ne ↦
            let was = kept.listed.nodes cache page n (sym (other-node a.caches cache page x (Some w) ne) ∙ sym (caches_is cache page) ∙ is) in
            (still_held n was.0, still_name n was.0 ∙ was.1)
      ];
      pages = λ cache page n h e. elim (id_cases n w) [
        | inl n_w ↦
            let is : x ≡ page_name cache page = sym (ap (name_of b) n_w ∙ added_name) ∙ e in
            caches_is cache page ∙ ap (λ y. node_in (tables_with a.caches y (Some w)) cache page) is ∙ set-node a.caches cache page w (has cache page is) ∙ ap Some (sym n_w)
        | inr old ↦
            let ha = was_held n h old in
            let was : name_of a n ≡ page_name cache page = sym (still_name n ha) ∙ e in
            caches_is cache page ∙ other-node a.caches cache page x (Some w) (λ q. unnamed n ha (was ∙ sym q)) ∙ kept.listed.pages cache page n ha was
      ];
    }

    threaded_old : (m : NodeId) → HasNode a m → IsThreaded b m (stubs_of a m)
    threaded_old m h =
        let t = kept.threaded m h in
        let c = still_cell m h in
        threaded-kept a b m (stubs_of a m)
        (λ y i. let hy = (row-each a m None (stubs_of a m) None t.row y i).0 in keeps_links a b y (still_held y) (ap (λ c. c.links) (still_cell y hy)))
        (ap (λ c. c.links.first) c) (ap (λ c. c.links.last) c) (ap (λ c. c.links.stubs) c) t

    threaded_new : IsThreaded b w []
    threaded_new = let c = added-cell in record { row = tt; first = ap (λ c. c.links.first) c; last = ap (λ c. c.links.last) c; count = ap (λ c. c.links.stubs) c }

    lists : AreThreaded b
    lists m h = elim (id_cases m w) [
      | inl e ↦ subst (λ y. IsThreaded b y (stubs_of b y)) (sym e) (subst (IsThreaded b w) (sym (threaded_is b w [] threaded_new)) threaded_new)
      | inr old ↦ let ha = was_held m h old in subst (IsThreaded b m) (sym (threaded_is b m (stubs_of a m) (threaded_old m ha))) (threaded_old m ha)
    ]

    node_old : (n : NodeId) → HasNode a n → node_of b n ≡ node_of a n
    node_old n h =
        let c = still_cell n h in
        same_node (node_of b n) (node_of a n)
        (ap (λ c. page_of c.own) c)
        (ap (λ l. hang_by b l.parent l.by_stub) (ap (λ c. c.links) c)
        ∙ hang-names a b (cell a n).links.parent (cell a n).links.by_stub (λ m e. still_name m (kept.parents n m h e)))
        (ap (λ c. map (name_of b) c.tree) c ∙ map-names a b (cell a n).tree (λ m i. still_name m (kept.children n m h i)))
        (ap (map (name_of b)) (threaded_is b n (stubs_of a n) (threaded_old n h))
        ∙ map-names a b (stubs_of a n) (λ m i. still_name m (row-each a n None (stubs_of a n) None (kept.threaded n h).row m i).0))

    node_new : node_of b w ≡ childless (page_of s) Root
    node_new =
        let c = added-cell in
        same_node (node_of b w) (childless (page_of s) Root)
        (ap (λ c. page_of c.own) c)
        (ap (λ l. hang_by b l.parent l.by_stub) (ap (λ c. c.links) c))
        (ap (λ c. map (name_of b) c.tree) c)
        (ap (map (name_of b)) (threaded_is b w [] threaded_new))

    abbrev target : Forest OwnState
    target = put (forest_of a) x (childless (page_of s) Root)

    pub added-forest : (g : Forest OwnState) → g.nodes ≡ (put (forest_of a) x (childless (page_of s) Root)).nodes → made ≡ g.made → a.copies ≡ g.copies → forest_of b ≡ g
    unfolding node
    added-forest g nodes made_is copied = reads_as b named g made_is (copies_is ∙ copied)
        (λ n h. elim (id_cases n w) [
          | inl e ↦
              let name_is : name_of b n ≡ x = ap (name_of b) e ∙ added_name in (
                ap (λ k. contains_key k (name_of b n)) nodes ∙ subst (IsNode target) (sym name_is) (IsNode-put (forest_of a) x (childless (page_of s) Root)),
                ap (λ k. unwrap_or (get k (name_of b n)) (childless None Root)) nodes ∙ ap (node target) name_is ∙ node-put (forest_of a) x (childless (page_of s) Root) ∙ sym node_new ∙ ap (node_of b) (sym e),
              )
          | inr old ↦
              let ha = was_held n h old in
              let name_is = still_name n ha in (
                ap (λ k. contains_key k (name_of b n)) nodes ∙ subst (IsNode target) (sym name_is) (put-IsNode (forest_of a) x (name_of a n) (childless (page_of s) Root) (IsNode-forest_of a kept.named n ha)),
                ap (λ k. unwrap_or (get k (name_of b n)) (childless None Root)) nodes ∙ ap (node target) name_is ∙ node-put_other (forest_of a) x (name_of a n) (childless (page_of s) Root) (unnamed n ha)
                    ∙ node-forest_of a kept.named n ha ∙ sym (node_old n ha),
              )
        ])
        (λ y is. elim (IsNode-put_cases (forest_of a) x y (childless (page_of s) Root) (sym (ap (λ k. contains_key k y) nodes) ∙ is)) [
          | inl e ↦ (w, added_held, added_name ∙ sym e)
          | inr old ↦ let f = forest_of-IsNode a y old in (f.0, still_held f.0 f.1, still_name f.0 f.1 ∙ f.2)
        ])

    pub added-kept : IsKept b
    added-kept = record {
      named = named;
      listed = listed;
      parents = λ n p h up. elim (id_cases n w) [
        | inl e ↦ absurd (let clash : Some p ≡ None = sym up ∙ ap (λ m. (cell b m).links.parent) e ∙ ap (λ c. c.links.parent) added-cell in cc clash)
        | inr old ↦ let ha = was_held n h old in still_held p (kept.parents n p ha (sym (ap (λ c. c.links.parent) (still_cell n ha)) ∙ up))
      ];
      children = λ n m h i. elim (id_cases n w) [
        | inl e ↦ absurd (subst (λ ts. m ∈ ts) (ap (λ k. (cell b k).tree) e ∙ ap (λ c. c.tree) added-cell) i)
        | inr old ↦ let ha = was_held n h old in still_held m (kept.children n m ha (subst (λ ts. m ∈ ts) (ap (λ c. c.tree) (still_cell n ha)) i))
      ];
      threaded = lists;
    }
