-- A node leaves its parent's list, and goes, or is as new.
use Rattle.std.proofs.Common.{◌≡◌, ◌≢◌, ℕ, ◌+◌, ◌<◌, false, true, List, [], ◌∷◌, length, Option, Some, None, is_some, unwrap_or, refl, sym, ap, ◌∙◌, subst, arith}
use Rattle.std.specs.Prelude.{option_and_then, slice_get}
use Rattle.std.proofs.lemmas.Bool.{false≢true}
use Rattle.vm_ids.specs.declared.node_name.NodeName.TheVariants.{Live}
use Rattle.vm_ids.specs.declared.numbers.CacheId.{CacheId}
use Rattle.vm_ids.specs.declared.numbers.NodeId.{NodeId}
use Rattle.vm_ids.specs.declared.numbers.PageNo.{PageNo}
use Rattle.vm_ids.specs.Forest.Changes.{cut, cut_stub, free}
use Rattle.vm_ids.specs.Forest.Nodes.{child_count, is_live}
use Rattle.vm_ids.specs.Forest.Rules.{retire}
use Rattle.local_cache.specs.declared.own_state.OwnState.{OwnState}
use Rattle.local_cache.specs.declared.page_entry.PageEntry.{PageEntry}
use Rattle.local_cache.specs.Arena.{Arena, Cell, HasNode, IsVacant, Table, as_working, blank, cell, find, hung, new_cell, node_at, table_at, with_links, with_new, with_tree, without}
use Rattle.local_cache.specs.Changes.{Relinked, Rehung}
use Rattle.local_cache.specs.ManyNodes.{next_if, next_node}
use Rattle.local_cache.specs.NodeCells.{exchanged, renewed, with_child}
use Rattle.local_cache.specs.OnCells.{cut_from, leaf_renewed, on_cell, on_cells, replaced}
use Rattle.local_cache.specs.Own.{own_of}
use Rattle.local_cache.specs.PageNodes.{IsFreeLeaf}
use Rattle.local_cache.specs.Reading.{forest_of, name_of, stubs_of}
use Rattle.local_cache.specs.Sound.{IsSound}
use Rattle.local_cache.specs.Threads.{head_or}
use Rattle.local_cache.proofs.Changes.SameNodes.{caches-put, irreflexive}
use Rattle.local_cache.proofs.Names.WorkingName.{vacated}
use Rattle.local_cache.proofs.Nodes.Cells.{cell-put, find-put_other, held-new, stays-put}
use Rattle.page_stubs.specs.Threading.{loose}
use Rattle.page_stubs.proofs.Lists.NoStubs.{no_stubs, same_links}
use Rattle.history_tree.proofs.OnCells.{on_swap}
use Rattle.tree_merge.specs.declared.released.Released.TheVariants.{Dropped, Nothing}
use Rattle.tree_merge.specs.Releasing.{IsRetired}
use Rattle.tree_merge.specs.Staying.{HasLeft}
use Rattle.tree_merge.specs.Stepping.{IsDetachedAlone, IsRetiredAlone}
use Rattle.tree_merge.proofs.ChildLists.Names.{counted}
use Rattle.tree_merge.proofs.CopiedPages.Changes.{find-new, find-without, without_put}
use Rattle.tree_merge.proofs.LeafRenewed.{new_again}
use Rattle.tree_merge.proofs.Leaving.Detached.{detached-forest, detached-sound, retired_vacant}
use Rattle.tree_merge.proofs.Leaving.Freed.{Freed, drop-Freed}
use Rattle.tree_merge.proofs.Leaving.Retired.{retire_none, retired-forest, retired-sound, retired_leaf, retired_parent}
use Rattle.tree_merge.proofs.Place.Cut.{cut_stub-Step, no_parent-Step}
use Rattle.tree_merge.proofs.Place.TreeCut.{cut_tree-Step, one_exchanged}
use Rattle.tree_merge.proofs.Releases.{retire_released}

-- Whichever way it hung

module _ (a : Arena) (sound : IsSound a) (n : NodeId) (hn : HasNode a n) where
  pub left_root : (cell a n).links.parent ≡ None → HasLeft a a n
  left_root none =
      let step = no_parent-Step a sound n hn none in
      let same : with_links a n (cell a n).links ≡ a = same_links a n (cell a n).links hn refl in
      record {
        links = (cell a n).links;
        forest = ap forest_of same ∙ step.forest;
        sound = subst IsSound (sym same) sound;
        rehung = subst (Rehung a) (sym same) step.rehung;
        held = hn;
      }

  module _ (p : NodeId) (up : (cell a n).links.parent ≡ Some p) where
    under : (cell a n).links.by_stub ≡ false → HasLeft a (with_tree a p (exchanged n None (cell a p).tree)) n
    under by_tree =
        let b = with_tree a p (exchanged n None (cell a p).tree) in
        let step = cut_tree-Step a sound n p hn up by_tree b (hung b n None) refl refl in
        record {
          links = record (cell b n).links { parent = None; by_stub = false };
          forest = step.forest;
          sound = step.sound;
          rehung = step.rehung;
          held = stays-put a b p _ refl n hn;
        }

    pub left_tree : (cell a n).links.by_stub ≡ false → (b : Arena) → b ≡ on_cells a p (λ k. with_child (next_node n k) (next_if None k)) 1 → HasLeft a b n
    left_tree by_tree b is = subst (λ x. HasLeft a x n) (sym (is ∙ one_exchanged a p n None)) (under by_tree)

    pub left_stub : (cell a n).links.by_stub ≡ true → (b : Arena) → forest_of (loose b n) ≡ cut_stub (forest_of a) (name_of a n) → IsSound (loose b n) → Relinked a (loose b n)
        → (loose b n).room ≡ a.room → HasNode b n → HasLeft a b n
    left_stub by_stub b forest is_sound links room held =
        let step = cut_stub-Step a sound n p hn up by_stub (loose b n) forest is_sound links room in
        record {
          links = record (cell b n).links { parent = None; by_stub = false; before = None; behind = None };
          forest = step.forest;
          sound = step.sound;
          rehung = step.rehung;
          held = held;
        }

  -- a node without children
  pub no_children : (cell a n).tree ≡ [] → (cell a n).links.first ≡ None → child_count (forest_of a) (name_of a n) ≡ 0
  no_children tree first =
      let list = sound.kept.threaded n hn in
      counted a sound n hn ∙ omega (arith, ap length tree, list.count, ap length (no_stubs a n _ list first))

  pub some_child : ((cell a n).tree ≡ [] → (cell a n).links.first ≡ None → ⊥) → 0 < child_count (forest_of a) (name_of a n)
  some_child some =
      let list = sound.kept.threaded n hn in
      subst (λ k. 0 < k) (sym (counted a sound n hn)) (go (cell a n).tree refl (stubs_of a n) list.first (cell a n).links.stubs list.count)
    where
      go : (ts : List NodeId) → (cell a n).tree ≡ ts → (ys : List NodeId) → (cell a n).links.first ≡ head_or ys None → (k : ℕ) → k ≡ length ys → 0 < length ts + k
      go [] e [] first k count = absurd (some e first)
      go [] e (y ∷ ys) first k count = omega (arith, count)
      go (t ∷ ts) e ys first k count = omega arith

-- The fresh node is that of the page

cell_there : (x : Arena) (n : NodeId) (c : Cell) → find x n ≡ Some c → cell x n ≡ c
unfolding cell
cell_there x n c e = ap (λ (o : Option Cell). unwrap_or o blank) e

pub new_page : (b c : Arena) (n : NodeId) (cache : CacheId) (page : PageNo) (s : OwnState) → IsSound c → c ≡ with_new b n (Live cache page) s → node_at c cache.0 page.0 ≡ Some n
new_page b c n cache page s sound is =
    sound.kept.listed.pages cache.0 page.0 n (held-new b c n (Live cache page) s is)
    (ap (λ x. name_of x n) is ∙ ap (λ (k : Cell). k.name) (cell_there (with_new b n (Live cache page) s) n (new_cell (Live cache page) s) (find-new b n (Live cache page) s)))

-- It goes, or is as new

module _ (a b : Arena) (sound : IsSound a) (n : NodeId) (hn : HasNode a n) (left : HasLeft a b n) (leaf : child_count (forest_of a) (name_of a n) ≡ 0) where
  abbrev cut_off : Arena
  cut_off = with_links b n left.links

  pub left_went : (c : Arena) → c ≡ without b n → Freed a c n (free (cut (forest_of a) (name_of a n)) (name_of a n))
  left_went c is =
      let same : c ≡ without cut_off n = is ∙ sym (without_put b n (record (cell b n) { links = left.links }) refl) in
      drop-Freed a cut_off c sound n hn leaf left.forest left.sound left.rehung same

  name : name_of b n ≡ name_of a n
  name = ap (λ (c : Cell). c.name) (sym (cell-put b n (record (cell b n) { links = left.links }))) ∙ left.rehung.like.name n

  tables : b.caches ≡ a.caches
  tables = sym (caches-put b n (record (cell b n) { links = left.links })) ∙ left.rehung.like.caches

  went : Freed a (without b n) n (free (cut (forest_of a) (name_of a n)) (name_of a n))
  went = left_went (without b n) refl

  retired : IsRetired a (without b n) n (Dropped n (own_of a n))
  retired = retired_leaf a (without b n) n (Dropped n (own_of a n)) leaf refl went.gone went.owns

  module _ (cache : CacheId) (page : PageNo) (named : name_of a n ≡ Live cache page) where
    at : node_at a cache.0 page.0 ≡ Some n
    at = sound.kept.listed.pages cache.0 page.0 n hn named

    vacant : IsVacant (without b n) cache page
    vacant = retired_vacant a sound cache page n at (without b n) (Dropped n (own_of a n)) retired

    pub left_retired : IsRetiredAlone a (without b n) cache page (Dropped n (own_of a n))
    left_retired = record {
      forest = went.forest ∙ sym (retire_none (forest_of a) (name_of a n) leaf) ∙ ap (retire (forest_of a)) named;
      sound = went.sound;
      vacant = vacant;
      node = n;
      at = at;
      retired = retired;
      told = retire_released a (without b n) n hn (Dropped n (own_of a n)) retired;
    }

    same_page : node_at b cache.0 page.0 ≡ node_at a cache.0 page.0
    same_page = ap (λ (ts : List (Option Table)). option_and_then (λ (t : Table). option_and_then (λ (x : PageEntry). x.node) (slice_get t.pages page.0)) (table_at ts cache.0)) tables

    comes_again : (s : OwnState) (c : Arena) → c ≡ on_cell b n (renewed s) → c ≡ with_new (without b n) n (Live cache page) s
    comes_again s c c_is = c_is ∙ sym (new_again b n cache page s (name ∙ named) (same_page ∙ at))

    pub left_detached : (s : OwnState) (c : Arena) → c ≡ on_cell b n (renewed s) → IsDetachedAlone a c cache page s (Dropped n (own_of a n))
    left_detached s c c_is =
        let free : find (without b n) n ≡ None = find-without b n in
        let is = comes_again s c c_is in
        record {
          forest = detached-forest a (without b n) c n cache page s went.sound left_retired.forest vacant free is;
          sound = detached-sound (without b n) c n cache page s went.sound vacant free is;
          between = without b n;
          retired = left_retired;
          fresh = n;
          free = free;
          is = is;
        }

    pub left_page : (s : OwnState) (c : Arena) → c ≡ on_cell b n (renewed s) → node_at c cache.0 page.0 ≡ Some n
    left_page s c c_is = new_page (without b n) c n cache page s (left_detached s c c_is).sound (comes_again s c c_is)

-- One that hangs by a tree link, or on nothing

module _ (a : Arena) (sound : IsSound a) (n : NodeId) (hn : HasNode a n) (is_leaf : IsFreeLeaf (cell a n)) where
  leaf_left : (o : Option NodeId) → (cell a n).links.parent ≡ o → HasLeft a (cut_from a o n None) n
  leaf_left None up = left_root a sound n hn up
  leaf_left (Some p) up = under a sound n hn p up is_leaf.by_stub

  leaf_after : (s : OwnState) (o : Option NodeId) → (cell a n).links.parent ≡ o → cut_from (on_cell a n (renewed s)) o n None ≡ on_cell (cut_from a o n None) n (renewed s)
  leaf_after s None up = refl
  leaf_after s (Some p) up =
      on_swap a n p (renewed s) (with_child n None)
      (λ same. irreflexive a sound.kept.named sound.linked n hn (up ∙ ap Some (sym same)))

  pub free_leaf : child_count (forest_of a) (name_of a n) ≡ 0
  free_leaf = no_children a sound n hn is_leaf.tree is_leaf.stubs

  pub leaf_page : (cache : CacheId) (page : PageNo) → name_of a n ≡ Live cache page → (s : OwnState) (c : Arena) → c ≡ leaf_renewed a n s → node_at c cache.0 page.0 ≡ Some n
  leaf_page cache page named s c c_is =
      left_page a (cut_from a (cell a n).links.parent n None) sound n hn (leaf_left (cell a n).links.parent refl) free_leaf cache page named s c
      (c_is ∙ leaf_after s (cell a n).links.parent refl)

  pub leaf_detached : (cache : CacheId) (page : PageNo) → name_of a n ≡ Live cache page → (s : OwnState) (c : Arena) → c ≡ leaf_renewed a n s → IsDetachedAlone a c cache page s (Dropped n (own_of a n))
  leaf_detached cache page named s c c_is =
      left_detached a (cut_from a (cell a n).links.parent n None) sound n hn (leaf_left (cell a n).links.parent refl) free_leaf cache page named s c
      (c_is ∙ leaf_after s (cell a n).links.parent refl)

-- One with children is a working node, and the page gets a fresh one

module _ (a : Arena) (sound : IsSound a) (n : NodeId) (hn : HasNode a n) (children : 0 < child_count (forest_of a) (name_of a n)) (cache : CacheId) (page : PageNo) (named : name_of a n ≡ Live cache page) where
  page_at : node_at a cache.0 page.0 ≡ Some n
  page_at = sound.kept.listed.pages cache.0 page.0 n hn named

  parent : IsRetired a (as_working a n) n Nothing
  parent = retired_parent a (as_working a n) n children refl

  pub parent_retired : IsRetiredAlone a (as_working a n) cache page Nothing
  parent_retired = record {
    forest = retired-forest a sound n hn (ap is_live named) children ∙ ap (retire (forest_of a)) named;
    sound = retired-sound a sound n hn (ap is_live named) children;
    vacant = vacated a n cache page named page_at;
    node = n;
    at = page_at;
    retired = parent;
    told = retire_released a (as_working a n) n hn Nothing parent;
  }

  comes_new : (s : OwnState) (new : NodeId) (c : Arena) → c ≡ replaced a n new s → c ≡ with_new (as_working a n) new (Live cache page) s
  comes_new s new c c_is = c_is ∙ ap (λ x. with_new (as_working a n) new x s) named

  pub parent_detached : (s : OwnState) (new : NodeId) → find a new ≡ None → (c : Arena) → c ≡ replaced a n new s → IsDetachedAlone a c cache page s Nothing
  parent_detached s new none c c_is =
      let apart : new ≢ n = λ e. none_held (find a n) (ap (find a) (sym e) ∙ none) hn in
      let free : find (as_working a n) new ≡ None = find-put_other a n new _ apart ∙ none in
      let is = comes_new s new c c_is in
      record {
        forest = detached-forest a (as_working a n) c new cache page s parent_retired.sound parent_retired.forest parent_retired.vacant free is;
        sound = detached-sound (as_working a n) c new cache page s parent_retired.sound parent_retired.vacant free is;
        between = as_working a n;
        retired = parent_retired;
        fresh = new;
        free = free;
        is = is;
      }
    where
      none_held : (o : Option Cell) → o ≡ None → is_some o ≡ true → ⊥
      none_held None e h = false≢true h
      none_held (Some c) e h = absurd (cc e)

  pub parent_page : (s : OwnState) (new : NodeId) → find a new ≡ None → (c : Arena) → c ≡ replaced a n new s → node_at c cache.0 page.0 ≡ Some new
  parent_page s new none c c_is = new_page (as_working a n) c new cache page s (parent_detached s new none c c_is).sound (comes_new s new c c_is)
