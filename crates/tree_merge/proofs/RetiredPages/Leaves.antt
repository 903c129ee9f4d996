-- Pages are retired at once on which nothing hangs: their nodes leave their parents, and go.
use Rattle.std.proofs.Common.{◌≡◌, ◌≢◌, ℕ, zero, suc, ◌+◌, ◌<◌, ◌≤◌, [], ◌∷◌, Option, Some, None, is_some, refl, sym, ap, ◌∙◌, subst, arith}
use Rattle.std.specs.Prelude.{IfSome}
use Rattle.vm_ids.specs.declared.node_name.NodeName.TheVariants.{Live}
use Rattle.vm_ids.specs.declared.numbers.CacheId.{CacheId}
use Rattle.vm_ids.specs.declared.numbers.NodeId.{NodeId}
use Rattle.vm_ids.specs.declared.numbers.PageNo.{PageNo}
use Rattle.local_cache.specs.Arena.{Arena, Cell, HasNode, cell, find, node_at, without}
use Rattle.local_cache.specs.Many.{HaveNodes}
use Rattle.local_cache.specs.ManyNodes.{each, next_if, next_node}
use Rattle.local_cache.specs.OnCells.{cut_from}
use Rattle.local_cache.specs.Own.{own_of}
use Rattle.local_cache.specs.Reading.{name_of}
use Rattle.local_cache.specs.Sound.{IsSound}
use Rattle.local_cache.proofs.Nodes.Cells.{find-put_other}
use Rattle.tree_merge.specs.declared.released.Released.TheVariants.{Dropped}
use Rattle.tree_merge.specs.Copying.{IsEmpty, IsLeafOf, page_after}
use Rattle.tree_merge.specs.Retiring.{CanRetireMany, retired_many}
use Rattle.tree_merge.specs.Stepping.{AreRetired, AreRetiredBare, IsRetiredBare}
use Rattle.tree_merge.proofs.CopiedPages.Changes.{cell_by, change_without, find-without_other}
use Rattle.tree_merge.proofs.CopiedPages.Kinds.{Kind, Passes, each_kind, on}
use Rattle.tree_merge.proofs.CopiedPages.Linking.{left_by}
use Rattle.tree_merge.proofs.CopiedPages.Rows.{Pass}
use Rattle.tree_merge.proofs.LeafRenewed.{leaf_retired, parent_listed}
use Rattle.tree_merge.proofs.RetiredPages.InTurn.{all_retired, retired_bare}

-- One kind after the other

abbrev pub gone : NodeId → Kind
gone d i x = without x (next_node d i)

-- cells that are changed, and nodes that go
pub on_gone : (n m : NodeId) (count : ℕ) → Pass n m count → (change : ℕ → Cell → Cell) → Passes (on n change) (gone m) count
on_gone n m count pass change x i j less below =
    sym (change_without x (next_node n j) (next_node m i) (pass j i below (omega (arith, less, below)) (λ same. (let bad : ⊥ = omega (arith, less, same) in bad))) (change j))

-- a node leaves its parent, and goes
abbrev leaf_goes : Option NodeId → NodeId → Kind
leaf_goes parent d k x = without (cut_from x (next_if parent k) (next_node d k) None) (next_node d k)

in_kinds : (a : Arena) (parent : Option NodeId) (d : NodeId) (count : ℕ) → ((p : NodeId) → parent ≡ Some p → Pass p d count) → each (leaf_goes parent d) count a ≡ retired_many a parent d count
in_kinds a None d count pass = refl
in_kinds a (Some p) d count pass = each_kind (on p (left_by d) ∷ gone d ∷ []) count ((on_gone p d count (pass p refl) (left_by d), tt), (tt, tt)) a

-- what is found beside the parent
found_beside : (x : Arena) (o : Option NodeId) (n m : NodeId) → ((q : NodeId) → o ≡ Some q → m ≢ q) → find (cut_from x o n None) m ≡ find x m
found_beside x None n m apart = refl
found_beside x (Some q) n m apart = find-put_other x q m _ (apart q refl)

-- Many pages

module _ (a : Arena) (parent : Option NodeId) (d : NodeId) (cache : CacheId) (page : PageNo) (count : ℕ) (can : CanRetireMany a parent d cache page count) where
  abbrev done : ℕ → Arena
  done k = each (leaf_goes parent d) k a

  -- no node hangs on one of them
  parents_apart : (i j : ℕ) → i < count → j < count → (q : NodeId) → next_if parent i ≡ Some q → next_node d j ≢ q
  parents_apart i j low high q is e =
      parent_listed a can.sound (next_node d i) q (can.pages i low).0 (subst (λ o. IsLeafOf o (cell a (next_node d i))) is (can.leaves i low))
      (ap (λ n. (cell a n).tree) (sym e) ∙ (can.leaves j high).tree)

  nodes_apart : (i j : ℕ) → i ≢ j → next_node d i ≢ next_node d j
  nodes_apart i j other e = let same : d.0 + i ≡ d.0 + j = ap (λ (n : NodeId). n.0) e in other (omega (arith, same))

  -- those that come later are as they were
  later : (k j : ℕ) → k ≤ j → j < count → find (done k) (next_node d j) ≡ find a (next_node d j)
  later zero j le high = refl
  later (suc k) j le high =
      let b = done k in
      let c = cut_from b (next_if parent k) (next_node d k) None in
      find-without_other c (next_node d k) (next_node d j) (nodes_apart j k (λ same. (let bad : ⊥ = omega (arith, le, same) in bad)))
      ∙ found_beside b (next_if parent k) (next_node d k) (next_node d j) (parents_apart k j (omega (arith, le, high)) high)
      ∙ later k j (omega (arith, le)) high

  next_page : (k : ℕ) → k < count → IsSound (done k) → IsRetiredBare (done k) (done (suc k)) cache (page_after page k)
  next_page k less sound =
      let b = done k in
      let n = next_node d k in
      let found : find b n ≡ find a n = later k k (omega arith) less in
      let same : cell b n ≡ cell a n = cell_by a b n found in
      let held : HasNode b n = ap is_some found ∙ (can.pages k less).0 in
      let named : name_of b n ≡ Live cache (page_after page k) = ap (λ (c : Cell). c.name) same ∙ (can.pages k less).1 in
      let leaf : IsLeafOf (next_if parent k) (cell b n) = subst (IsLeafOf (next_if parent k)) (sym same) (can.leaves k less) in
      let empty : IsEmpty (own_of b n) = subst (λ (c : Cell). IsEmpty c.own) (sym same) (can.empty k less) in
      let at : node_at b cache.0 (page.0 + k) ≡ Some n = sound.kept.listed.pages cache.0 (page.0 + k) n held named in
      retired_bare b (done (suc k)) n cache (page_after page k) (Dropped n (own_of b n)) at empty
      (leaf_retired b sound n held (next_if parent k) leaf cache (page_after page k) named)

  in_turn : (k : ℕ) → k ≤ count → AreRetiredBare a (done k) cache page k
  in_turn zero le = refl
  in_turn (suc k) le =
      let before = in_turn k (omega (arith, le)) in
      (done k, before, next_page k (omega (arith, le)) (all_retired a cache page can.sound k (done k) before).sound)

  pub leaves_retired : AreRetired a (retired_many a parent d count) cache page count
  leaves_retired =
      subst (λ b. AreRetired a b cache page count)
      (in_kinds a parent d count (λ p is i j low high other e. parents_apart i j low high (next_node p i) (ap (λ o. next_if o i) is) (sym e)))
      (all_retired a cache page can.sound count (done count) (in_turn count (omega arith)))

-- the parents of so many nodes are there
pub parents_held : (a : Arena) → IsSound a → (o : Option NodeId) (d : NodeId) (count : ℕ) → HaveNodes a d count → ((k : ℕ) → k < count → IsLeafOf (next_if o k) (cell a (next_node d k)))
    → IfSome o (λ p. HaveNodes a p count)
parents_held a sound None d count held leaves = tt
parents_held a sound (Some p) d count held leaves = λ k less. sound.kept.parents (next_node d k) (next_node p k) (held k less) (ap (λ l. l.parent) (leaves k less).links)
