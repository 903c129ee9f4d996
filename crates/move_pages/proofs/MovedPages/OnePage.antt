-- One page is moved whose old node has no children, and is none or zeros: that is the source's node
-- as new.
use Rattle.std.proofs.Common.{◌≡◌, ◌≢◌, Option, Some, None, is_some, refl, sym, ap, ◌∙◌, subst}
use Rattle.vm_ids.specs.declared.node_name.NodeName.{NodeName}
use Rattle.vm_ids.specs.declared.node_name.NodeName.TheVariants.{Live}
use Rattle.vm_ids.specs.declared.numbers.CacheId.{CacheId}
use Rattle.vm_ids.specs.declared.numbers.NodeId.{NodeId}
use Rattle.vm_ids.specs.declared.numbers.PageNo.{PageNo}
use Rattle.vm_ids.specs.Forest.Laws.Linking.{ArePages}
use Rattle.vm_ids.specs.Forest.Nodes.{IsNode}
use Rattle.vm_ids.specs.Forest.Shape.{IsConsistent}
use Rattle.local_cache.specs.declared.own_state.OwnState.TheVariants.{Zero}
use Rattle.local_cache.specs.Arena.{Arena, Cell, HasNode, cell, find}
use Rattle.local_cache.specs.NodeCells.{exchanged, named, over, renewed}
use Rattle.local_cache.specs.OnCells.{cut_from, exchanged_names, on_cell}
use Rattle.local_cache.specs.Own.{own_of}
use Rattle.local_cache.specs.Reading.{forest_of, name_of}
use Rattle.local_cache.specs.Sound.{IsSound}
use Rattle.local_cache.proofs.Forest.Reading.{IsNode-forest_of}
use Rattle.local_cache.proofs.Nodes.Cells.{cell-put, find-put, find-put_other}
use Rattle.tree_merge.specs.declared.released.Released.TheVariants.{Dropped}
use Rattle.tree_merge.specs.Copying.{IsEmpty, IsLeafOf}
use Rattle.tree_merge.specs.Stepping.{IsDetachedAlone}
use Rattle.tree_merge.proofs.CopiedPages.Changes.{cell_by}
use Rattle.tree_merge.proofs.LeafRenewed.{leaf_detached, left_like}
use Rattle.move_pages.specs.Moved.{IsMovedAlone, IsMovedBare}
use Rattle.move_pages.proofs.MovedPages.Exchanged.{fresh_is, moved_alone}

-- What it needs: d is the node of the destination, and s that of the source.
pub record CanMoveLeaf (a : Arena) (parent : Option NodeId) (d s : NodeId) (to : CacheId) (to_page : PageNo) (from : CacheId) (from_page : PageNo) : Type 0 where
  pub sound : IsSound a
  pub consistent : IsConsistent (forest_of a)
  pub held_d : HasNode a d
  pub leaf : IsLeafOf parent (cell a d)
  pub empty : IsEmpty (own_of a d)
  pub named_d : name_of a d ≡ Live to to_page
  pub held_s : HasNode a s
  pub named_s : name_of a s ≡ Live from from_page
  pub apart : Live from from_page ≢ Live to to_page

-- What it does: nothing is changed but at both nodes and a parent, which keeps its name.
pub record LeafMoved (a b : Arena) (parent : Option NodeId) (d s : NodeId) (to : CacheId) (to_page : PageNo) (from : CacheId) (from_page : PageNo) : Type 0 where
  pub bare : IsMovedBare a b from from_page to to_page
  pub same : (n : NodeId) → n ≢ d → n ≢ s → (parent ≡ Some n → ⊥) → find b n ≡ find a n
  pub held : (n : NodeId) → n ≢ d → n ≢ s → is_some (find b n) ≡ is_some (find a n)
  pub name : (n : NodeId) → n ≢ d → n ≢ s → name_of b n ≡ name_of a n

module _ (a : Arena) (parent : Option NodeId) (d s : NodeId) (to : CacheId) (to_page : PageNo) (from : CacheId) (from_page : PageNo) (can : CanMoveLeaf a parent d s to to_page from from_page) where
  abbrev left : Arena
  left = cut_from a parent d None

  abbrev b : Arena
  b = on_cell (cut_from a parent d None) d (renewed Zero)

  detached : IsDetachedAlone a (on_cell (cut_from a parent d None) d (renewed Zero)) to to_page Zero (Dropped d (own_of a d))
  detached = leaf_detached a can.sound d can.held_d parent can.leaf to to_page can.named_d Zero

  name_b : name_of b d ≡ Live to to_page
  name_b =
      ap (λ (c : Cell). c.name) (cell-put left d (renewed Zero (cell left d)))
      ∙ (left_like a can.sound d can.held_d parent can.leaf).like.name d ∙ can.named_d

  -- its number is that of the fresh node
  fresh : d ≡ detached.fresh
  fresh = fresh_is a b to to_page (Dropped d (own_of a d)) detached d
      (detached.sound.kept.listed.pages to.0 to_page.0 d (ap is_some (find-put left d (renewed Zero (cell left d)))) name_b)

  is_page : (q : NodeId) (x : NodeName) → HasNode a q → name_of a q ≡ x → IsNode (forest_of a) x
  is_page q x held named = subst (IsNode (forest_of a)) named (IsNode-forest_of a can.sound.kept.named q held)

  pages : ArePages (forest_of a) (Live to to_page) (Live from from_page)
  pages = record {
    destination = is_page d (Live to to_page) can.held_d can.named_d;
    source = is_page s (Live from from_page) can.held_s can.named_s;
    apart = λ e. can.apart (sym e);
    live_destination = refl;
    live_source = refl;
  }

  left_find : (n : NodeId) → (parent ≡ Some n → ⊥) → find (cut_from a parent d None) n ≡ find a n
  left_find n ne = go parent ne
    where
      go : (o : Option NodeId) → (o ≡ Some n → ⊥) → find (cut_from a o d None) n ≡ find a n
      go None other = refl
      go (Some p) other = find-put_other a p n (over (exchanged d None (cell a p).tree) (cell a p)) (λ e. other (ap Some (sym e)))

  -- the nodes that are neither
  past : (n : NodeId) → n ≢ d → n ≢ s → find (exchanged_names b d s) n ≡ find left n
  past n n_d n_s =
      find-put_other (on_cell b d (named (cell b s).name)) s n (named (cell b d).name (cell (on_cell b d (named (cell b s).name)) s)) n_s
      ∙ find-put_other b d n (named (cell b s).name (cell b d)) n_d
      ∙ find-put_other left d n (renewed Zero (cell left d)) n_d

  pub leaf_moved : LeafMoved a (exchanged_names (on_cell (cut_from a parent d None) d (renewed Zero)) d s) parent d s to to_page from from_page
  leaf_moved =
      let like = (left_like a can.sound d can.held_d parent can.leaf).like in
      record {
        bare = record {
          pages = pages;
          node = d;
          at = can.sound.kept.listed.pages to.0 to_page.0 d can.held_d can.named_d;
          empty = can.empty;
          alone = subst (λ n. IsMovedAlone a (exchanged_names b n s) from from_page to to_page (Dropped d (own_of a d))) (sym fresh)
              (moved_alone a b can.sound can.consistent to to_page from from_page (Dropped d (own_of a d)) detached s can.held_s can.named_s pages);
        };
        same = λ n n_d n_s other. past n n_d n_s ∙ left_find n other;
        held = λ n n_d n_s. ap is_some (past n n_d n_s) ∙ like.held n;
        name = λ n n_d n_s. ap (λ (c : Cell). c.name) (cell_by left (exchanged_names b d s) n (past n n_d n_s)) ∙ like.name n;
      }
