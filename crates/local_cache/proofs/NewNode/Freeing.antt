-- A node that nothing names is freed.
use Rattle.std.proofs.Common.{◌≡◌, ◌≢◌, ℕ, ◌≤◌, map, Some, None, is_some, unwrap_or, refl, sym, ap, ◌∙◌, subst}
use Rattle.std.proofs.lemmas.Bool.{false≢true}
use Rattle.std.specs.Cmp.{nat_cmp_total}
use Rattle.std.specs.FinMap.{get-remove}
use Rattle.vm_ids.specs.Forest.Changes as forest
use Rattle.vm_ids.specs.Forest.Nodes.{node, IsNode}
use Rattle.vm_ids.proofs.Forest.NodesAfter.{node-free_other, IsNode-free, free-IsNode}
use Rattle.vm_ids.specs.declared.numbers.NodeId.{NodeId}
use Rattle.local_cache.specs.Arena.{Arena, cell, find, HasNode, without, blank, node_at, tables_with}
use Rattle.local_cache.specs.Reading.{name_of, node_of, page_of, forest_of, hang_by, stubs_of, AreNamesApart}
use Rattle.local_cache.specs.Threads.{IsThreaded}
use Rattle.local_cache.specs.Sound.{IsKept, IsListed, ◌∈◌}
use Rattle.local_cache.proofs.Nodes.Numbers.{tied, apart}
use Rattle.local_cache.proofs.Changes.SameNodes.{same_node, forest_of-made, forest_of-copies}
use Rattle.local_cache.proofs.Forest.StubRows.{threaded_is, threaded-kept, keeps_links}
use Rattle.local_cache.proofs.Forest.Reading.{reads_as, forest_of-IsNode, IsNode-forest_of, node-forest_of}
use Rattle.local_cache.proofs.NewNode.Addition.{map-names, hang-names}
use Rattle.local_cache.proofs.Tables.Listing.{left-node, node_in, other-node, page_name}
use Rattle.vm_ids.proofs.Forest.Names.{name_cases}

-- no other node names n
pub record IsLoose (a : Arena) (n : NodeId) : Type 0 where
  pub parents : (m p : NodeId) → HasNode a m → (cell a m).links.parent ≡ Some p → p ≢ n
  pub children : (m k : NodeId) → HasNode a m → k ∈ (cell a m).tree → k ≢ n
  pub stubs : (m k : NodeId) → HasNode a m → k ∈ stubs_of a m → k ≢ n

module _ (a : Arena) (kept : IsKept a) (n : NodeId) (h : HasNode a n) (loose : IsLoose a n) where
  find-gone : find (without a n) n ≡ None
  unfolding without
  find-gone = get-remove nat_cmp_total a.cells n.0 n.0 ∙ rw (tied n.0 n.0 refl)

  find-left : (m : NodeId) → m ≢ n → find (without a n) m ≡ find a m
  unfolding without
  find-left m ne = get-remove nat_cmp_total a.cells n.0 m.0 ∙ rw (apart m.0 n.0 (λ e. ne (λ i. record { 0 = e i })))

  left : (m : NodeId) → m ≢ n → cell (without a n) m ≡ cell a m
  unfolding cell
  left m ne = ap (λ o. unwrap_or o blank) (find-left m ne)

  counts : ((without a n).made ≡ a.made) × ((without a n).copies ≡ a.copies)
  unfolding without
  counts = (refl, refl)

  not_n : (m : NodeId) → HasNode (without a n) m → m ≢ n
  not_n m hm e = false≢true (sym (ap (λ k. is_some (find (without a n) k)) e ∙ ap is_some find-gone) ∙ hm)

  was : (m : NodeId) → HasNode (without a n) m → HasNode a m
  was m hm = sym (ap is_some (find-left m (not_n m hm))) ∙ hm

  still : (m : NodeId) → HasNode a m → m ≢ n → HasNode (without a n) m
  still m hm ne = ap is_some (find-left m ne) ∙ hm

  name_left : (m : NodeId) → m ≢ n → name_of (without a n) m ≡ name_of a m
  name_left m ne = ap (λ c. c.name) (left m ne)

  named : AreNamesApart (without a n)
  named = record {
    apart = λ m k hm hk e. kept.named.apart m k (was m hm) (was k hk) (sym (name_left m (not_n m hm)) ∙ e ∙ name_left k (not_n k hk));
    counted = λ m k hm e. subst (λ j. k ≤ j) (sym counts.0) (kept.named.counted m k (was m hm) (sym (name_left m (not_n m hm)) ∙ e));
  }

  caches_is : (cache page : ℕ) → node_at (without a n) cache page ≡ node_in (tables_with a.caches (name_of a n) None) cache page
  unfolding without
  caches_is cache page = refl

  listed : IsListed (without a n)
  listed = record {
    nodes = λ cache page m is.
        let old = left-node a.caches cache page (name_of a n) m (name_cases (name_of a n) (page_name cache page)) (sym (caches_is cache page) ∙ is) in
        let was = kept.listed.nodes cache page m old.1 in
        let ne : m ≢ n = λ e. old.0 (sym (ap (name_of a) e) ∙ was.1) in
        (still m was.0 ne, name_left m ne ∙ was.1);
    pages = λ cache page m hm e.
        let ha = was m hm in
        let ne = not_n m hm in
        let name_is : name_of a m ≡ page_name cache page = sym (name_left m ne) ∙ e in
        caches_is cache page ∙ other-node a.caches cache page (name_of a n) None (λ q. ne (kept.named.apart m n ha h (name_is ∙ sym q))) ∙ kept.listed.pages cache page m ha name_is;
  }

  lists : (m : NodeId) → HasNode a m → m ≢ n → IsThreaded (without a n) m (stubs_of a m)
  lists m hm ne =
      let t = kept.threaded m hm in
      let c = left m ne in
      threaded-kept a (without a n) m (stubs_of a m)
      (λ y i. let y_n = loose.stubs m y hm i in keeps_links a (without a n) y (λ hy. still y hy y_n) (ap (λ c. c.links) (left y y_n)))
      (ap (λ c. c.links.first) c) (ap (λ c. c.links.last) c) (ap (λ c. c.links.stubs) c) t

  node_left : (m : NodeId) → HasNode a m → m ≢ n → node_of (without a n) m ≡ node_of a m
  node_left m hm ne =
      let c = left m ne in
      same_node (node_of (without a n) m) (node_of a m)
      (ap (λ c. page_of c.own) c)
      (ap (λ l. hang_by (without a n) l.parent l.by_stub) (ap (λ c. c.links) c) ∙ hang-names a (without a n) (cell a m).links.parent (cell a m).links.by_stub (λ k e. name_left k (loose.parents m k hm e)))
      (ap (λ c. map (name_of (without a n)) c.tree) c ∙ map-names a (without a n) (cell a m).tree (λ k i. name_left k (loose.children m k hm i)))
      (ap (map (name_of (without a n))) (threaded_is (without a n) m (stubs_of a m) (lists m hm ne)) ∙ map-names a (without a n) (stubs_of a m) (λ k i. name_left k (loose.stubs m k hm i)))

  free-made : (forest.free (forest_of a) (name_of a n)).made ≡ a.made
  unfolding forest.free
  free-made = forest_of-made a

  free-copies : (forest.free (forest_of a) (name_of a n)).copies ≡ a.copies
  unfolding forest.free
  free-copies = forest_of-copies a

  pub freed-forest : forest_of (without a n) ≡ forest.free (forest_of a) (name_of a n)
  freed-forest = reads_as (without a n) named (forest.free (forest_of a) (name_of a n)) (counts.0 ∙ sym free-made) (counts.1 ∙ sym free-copies)
      (λ m hm.
      let ne = not_n m hm in
      let ha = was m hm in
      let far : name_of a m ≢ name_of a n = λ e. ne (kept.named.apart m n ha h e) in (
        subst (IsNode (forest.free (forest_of a) (name_of a n))) (sym (name_left m ne)) (free-IsNode (forest_of a) (name_of a n) (name_of a m) far (IsNode-forest_of a kept.named m ha)),
        ap (node (forest.free (forest_of a) (name_of a n))) (name_left m ne) ∙ node-free_other (forest_of a) (name_of a n) (name_of a m) far ∙ node-forest_of a kept.named m ha ∙ sym (node_left m ha ne),
      ))
      (λ x is.
      let old = IsNode-free (forest_of a) (name_of a n) x is in
      let f = forest_of-IsNode a x old.1 in
      let ne : f.0 ≢ n = λ e. old.0 (sym f.2 ∙ ap (name_of a) e) in
      (f.0, still f.0 f.1 ne, name_left f.0 ne ∙ f.2))

  pub freed-kept : IsKept (without a n)
  freed-kept = record {
    named = named;
    listed = listed;
    parents = λ m p hm e. let ha = was m hm in let up : (cell a m).links.parent ≡ Some p = sym (ap (λ c. c.links.parent) (left m (not_n m hm))) ∙ e in still p (kept.parents m p ha up) (loose.parents m p ha up);
    children = λ m k hm i. let ha = was m hm in let j : k ∈ (cell a m).tree = subst (λ ts. k ∈ ts) (ap (λ c. c.tree) (left m (not_n m hm))) i in still k (kept.children m k ha j) (loose.children m k ha j);
    threaded = λ m hm. let ha = was m hm in let ne = not_n m hm in subst (IsThreaded (without a n) m) (sym (threaded_is (without a n) m (stubs_of a m) (lists m ha ne))) (lists m ha ne);
  }
