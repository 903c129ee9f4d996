-- Pages are retired at once on which others hang: their nodes become working nodes.
use Rattle.std.proofs.Common.{◌≡◌, ℕ, zero, suc, ◌+◌, ◌<◌, ◌≤◌, Some, is_some, refl, sym, ap, ◌∙◌, subst, arith}
use Rattle.vm_ids.specs.declared.node_name.NodeName.TheVariants.{Live}
use Rattle.vm_ids.specs.declared.numbers.CacheId.{CacheId}
use Rattle.vm_ids.specs.declared.numbers.NodeId.{NodeId}
use Rattle.vm_ids.specs.declared.numbers.PageNo.{PageNo}
use Rattle.local_cache.specs.Arena.{Arena, Cell, HasNode, cell, find, node_at}
use Rattle.local_cache.specs.Many.{as_working_many}
use Rattle.local_cache.specs.ManyNodes.{next_node}
use Rattle.local_cache.specs.Own.{own_of}
use Rattle.local_cache.specs.Reading.{name_of}
use Rattle.local_cache.specs.Sound.{IsSound}
use Rattle.local_cache.proofs.Nodes.Cells.{find-put_other}
use Rattle.tree_merge.specs.declared.released.Released.TheVariants.{Nothing}
use Rattle.tree_merge.specs.Copying.{IsEmpty, page_after}
use Rattle.tree_merge.specs.Sharing.{CanShareMany, HasTreeChild}
use Rattle.tree_merge.specs.Stepping.{AreRetired, AreRetiredBare, IsRetiredBare}
use Rattle.tree_merge.proofs.CopiedPages.Changes.{cell_by}
use Rattle.tree_merge.proofs.RetiredPages.InTurn.{all_retired, retired_bare}
use Rattle.tree_merge.proofs.RetiredPages.SharedPage.{shared_alone}

module _ (a : Arena) (d : NodeId) (cache : CacheId) (page : PageNo) (count : ℕ) (can : CanShareMany a d cache page count) where
  abbrev done : ℕ → Arena
  done k = as_working_many a d k

  -- those that come later are as they were
  later : (k j : ℕ) → k ≤ j → find (done k) (next_node d j) ≡ find a (next_node d j)
  later zero j le = refl
  later (suc k) j le =
      find-put_other (done k) (next_node d k) (next_node d j) _ (λ e. (let same : d.0 + j ≡ d.0 + k = ap (λ (n : NodeId). n.0) e in let bad : ⊥ = omega (arith, le, same) in bad))
      ∙ later k j (omega (arith, le))

  next_page : (k : ℕ) → k < count → IsSound (done k) → IsRetiredBare (done k) (done (suc k)) cache (page_after page k)
  next_page k less sound =
      let b = done k in
      let n = next_node d k in
      let found : find b n ≡ find a n = later k k (omega arith) in
      let same : cell b n ≡ cell a n = cell_by a b n found in
      let held : HasNode b n = ap is_some found ∙ (can.pages k less).0 in
      let named : name_of b n ≡ Live cache (page_after page k) = ap (λ (c : Cell). c.name) same ∙ (can.pages k less).1 in
      let empty : IsEmpty (own_of b n) = subst (λ (c : Cell). IsEmpty c.own) (sym same) (can.empty k less) in
      let shared : HasTreeChild (cell b n) = subst HasTreeChild (sym same) (can.shared k less) in
      let at : node_at b cache.0 (page.0 + k) ≡ Some n = sound.kept.listed.pages cache.0 (page.0 + k) n held named in
      retired_bare b (done (suc k)) n cache (page_after page k) Nothing at empty
      (shared_alone b n cache (page_after page k) (record { sound = sound; held = held; shared = shared; named = named }))

  in_turn : (k : ℕ) → k ≤ count → AreRetiredBare a (done k) cache page k
  in_turn zero le = refl
  in_turn (suc k) le =
      let before = in_turn k (omega (arith, le)) in
      (done k, before, next_page k (omega (arith, le)) (all_retired a cache page can.sound k (done k) before).sound)

  pub pages_shared : AreRetired a (as_working_many a d count) cache page count
  pages_shared = all_retired a cache page can.sound count (done count) (in_turn count (omega arith))
