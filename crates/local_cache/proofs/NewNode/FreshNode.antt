-- A new working node, and a new node of a page.
use Rattle.std.proofs.Common.{◌≡◌, ◌≢◌, ℕ, ◌+◌, ◌≤◌, Some, None, IsSome, is_some, refl, sym, ap, ◌∙◌, subst, arith}
use Rattle.vm_ids.specs.declared.node_name.NodeName.{NodeName}
use Rattle.vm_ids.specs.declared.node_name.NodeName.TheVariants.{Live, Working}
use Rattle.vm_ids.specs.declared.numbers.CacheId.{CacheId}
use Rattle.vm_ids.specs.declared.numbers.NodeId.{NodeId}
use Rattle.vm_ids.specs.declared.numbers.PageNo.{PageNo}
use Rattle.vm_ids.specs.Forest.Shape.{IsLinked}
use Rattle.vm_ids.specs.Forest.Nodes.{IsNode, childless}
use Rattle.vm_ids.specs.Forest.Nodes.Hang.{Root}
use Rattle.vm_ids.specs.Forest.Changes.{put, count_working}
use Rattle.vm_ids.proofs.Forest.Linking.{IsLinked-count_working}
use Rattle.vm_ids.proofs.Forest.Detaching.{fresh-linked}
use Rattle.local_cache.specs.declared.own_state.OwnState.{OwnState}
use Rattle.local_cache.specs.declared.own_state.OwnState.TheVariants.{Absent}
use Rattle.local_cache.specs.Arena.{Arena, cell, entry_at, find, HasNode, IsVacant, new_cell, node_at, with_new, with_working}
use Rattle.local_cache.specs.Reading.{name_of, page_of, forest_of}
use Rattle.local_cache.specs.Sound.{IsKept, IsSound}
use Rattle.local_cache.proofs.NewNode.Addition.{added-cell, added-forest, added-kept, added_held, added_name, not_added, other-cell, still_held, still_name}
pub use Rattle.local_cache.proofs.NewNode.Addition.{hang-names, map-names}
use Rattle.local_cache.proofs.Tables.Listing.{node_by_entry, node_of_entry, page_name}
use Rattle.local_cache.proofs.Forest.Reading.{forest_of-IsNode}

module _ (a : Arena) (w : NodeId) (free : find a w ≡ None) where
  pub cell-new : cell (with_working a w) w ≡ new_cell (Working (a.made + 1)) Absent
  cell-new = added-cell a w free (Working (a.made + 1)) Absent (a.made + 1)

  pub cell-old : (m : NodeId) → m ≢ w → cell (with_working a w) m ≡ cell a m
  cell-old = other-cell a w free (Working (a.made + 1)) Absent (a.made + 1)

-- the next working name is new
pub next-unnamed : (a : Arena) → IsKept a → (m : NodeId) → HasNode a m → name_of a m ≢ Working (a.made + 1)
next-unnamed a kept m h e = let low = kept.named.counted m (a.made + 1) h e in omega arith

module _ (a : Arena) (sound : IsSound a) (w : NodeId) (free : find a w ≡ None) where
  abbrev x : NodeName
  x = Working (a.made + 1)

  pub not_w : (m : NodeId) → HasNode a m → m ≢ w
  not_w = not_added a w free x Absent (a.made + 1)

  pub held_old : (m : NodeId) → HasNode a m → HasNode (with_working a w) m
  held_old = still_held a w free x Absent (a.made + 1)

  pub held_new : HasNode (with_working a w) w
  held_new = added_held a w free x Absent (a.made + 1)

  pub new_name : name_of (with_working a w) w ≡ Working (a.made + 1)
  new_name = added_name a w free x Absent (a.made + 1)

  pub old_name : (m : NodeId) → HasNode a m → name_of (with_working a w) m ≡ name_of a m
  old_name = still_name a w free x Absent (a.made + 1)

  counted : (k : ℕ) → x ≡ Working k → k ≤ a.made + 1
  counted k e = let same : a.made + 1 ≡ k = cc e in omega arith

  no_page : (cache page : ℕ) → x ≡ page_name cache page → IsSome (entry_at a.caches cache page)
  no_page cache page e = absurd (cc e)

  target-made : a.made + 1 ≡ (put (count_working (forest_of a)) x (childless None Root)).made
  unfolding put forest_of
  target-made = refl

  target-copies : a.copies ≡ (put (count_working (forest_of a)) x (childless None Root)).copies
  unfolding put forest_of
  target-copies = refl

  target-nodes : (put (count_working (forest_of a)) x (childless None Root)).nodes ≡ (put (forest_of a) x (childless None Root)).nodes
  unfolding put
  target-nodes = refl

  pub forest-fresh : forest_of (with_working a w) ≡ put (count_working (forest_of a)) (Working (a.made + 1)) (childless None Root)
  forest-fresh = added-forest a w free x Absent (a.made + 1) sound.kept (next-unnamed a sound.kept) counted (omega arith) no_page
      (put (count_working (forest_of a)) x (childless None Root)) target-nodes target-made target-copies

  pub kept-fresh : IsKept (with_working a w)
  kept-fresh = added-kept a w free x Absent (a.made + 1) sound.kept (next-unnamed a sound.kept) counted (omega arith) no_page

  new_not_node : IsNode (forest_of a) x → ⊥
  new_not_node is = let f = forest_of-IsNode a x is in next-unnamed a sound.kept f.0 f.1 f.2

  pub sound-fresh : IsSound (with_working a w)
  sound-fresh = record { kept = kept-fresh; linked = subst IsLinked (sym forest-fresh) (fresh-linked (count_working (forest_of a)) (IsLinked-count_working (forest_of a) sound.linked) x new_not_node None) }

-- a page without a node is the name of none
pub vacant-unnamed : (a : Arena) → IsKept a → (cache : CacheId) (page : PageNo) → IsVacant a cache page → (m : NodeId) → HasNode a m → name_of a m ≢ Live cache page
vacant-unnamed a kept cache page vacant m h e =
    let some : node_at a cache.0 page.0 ≡ Some m = kept.listed.pages cache.0 page.0 m h e in
    let none : node_at a cache.0 page.0 ≡ None = node_by_entry a.caches cache.0 page.0 ∙ ap node_of_entry vacant in
    let clash : Some m ≡ None = sym some ∙ none in
    cc clash

pub vacant-there : (a : Arena) (cache : CacheId) (page : PageNo) → IsVacant a cache page → (c p : ℕ) → Live cache page ≡ page_name c p → IsSome (entry_at a.caches c p)
vacant-there a cache page vacant c p e =
    let cache_is : cache.0 ≡ c = cc e in
    let page_is : page.0 ≡ p = cc e in
    ap is_some (ap (λ k. entry_at a.caches k p) (sym cache_is) ∙ ap (entry_at a.caches cache.0) (sym page_is) ∙ vacant)

module _ (a : Arena) (kept : IsKept a) (w : NodeId) (free : find a w ≡ None) (cache : CacheId) (page : PageNo) (vacant : IsVacant a cache page) (s : OwnState) where
  abbrev live : NodeName
  live = Live cache page

  uncounted : (k : ℕ) → live ≡ Working k → k ≤ a.made
  uncounted k e = absurd (cc e)

  is_new : with_new a w live s ≡ record (with_new a w live s) { made = a.made }
  unfolding with_new
  is_new = refl

  page-made : a.made ≡ (put (forest_of a) live (childless (page_of s) Root)).made
  unfolding put forest_of
  page-made = refl

  page-copies : a.copies ≡ (put (forest_of a) live (childless (page_of s) Root)).copies
  unfolding put forest_of
  page-copies = refl

  pub page-forest : forest_of (with_new a w (Live cache page) s) ≡ put (forest_of a) (Live cache page) (childless (page_of s) Root)
  page-forest = ap forest_of is_new ∙ added-forest a w free live s a.made kept (vacant-unnamed a kept cache page vacant) uncounted (omega arith) (vacant-there a cache page vacant)
      (put (forest_of a) live (childless (page_of s) Root)) refl page-made page-copies

  pub page-kept : IsKept (with_new a w (Live cache page) s)
  page-kept = subst IsKept (sym is_new) (added-kept a w free live s a.made kept (vacant-unnamed a kept cache page vacant) uncounted (omega arith) (vacant-there a cache page vacant))

  pub page-not_node : IsNode (forest_of a) (Live cache page) → ⊥
  page-not_node is = let f = forest_of-IsNode a live is in vacant-unnamed a kept cache page vacant f.0 f.1 f.2

  pub page-sound : IsLinked (forest_of a) → IsSound (with_new a w (Live cache page) s)
  page-sound linked = record { kept = page-kept; linked = subst IsLinked (sym page-forest) (fresh-linked (forest_of a) linked live page-not_node (page_of s)) }
