-- A node without children leaves its parent, and is as new: as if it went, and a fresh one came for
-- its page under the same number.
use Rattle.std.proofs.Common.{◌≡◌, ℕ, zero, suc, ◌+◌, ◌-◌, false, set, get_or, List, [], ◌∷◌, length, map, Option, Some, None, option_map, refl, sym, ap, ◌∙◌, subst, arith}
use Rattle.std.specs.Prelude.{option_and_then, slice_get, slice_set}
use Rattle.std.proofs.lemmas.List.{set-get_or, set-set}
use Rattle.std.specs.FinMap as map
use Rattle.vm_ids.specs.declared.node_name.NodeName.{NodeName}
use Rattle.vm_ids.specs.declared.node_name.NodeName.TheVariants.{Live}
use Rattle.vm_ids.specs.declared.numbers.CacheId.{CacheId}
use Rattle.vm_ids.specs.declared.numbers.NodeId.{NodeId}
use Rattle.vm_ids.specs.declared.numbers.PageNo.{PageNo}
use Rattle.vm_ids.specs.Forest.Changes.{cut, free}
use Rattle.vm_ids.specs.Forest.NameLists as names
use Rattle.vm_ids.specs.Forest.Nodes.{child_count, node}
use Rattle.vm_ids.specs.Forest.Nodes.Hang.{TreeOf}
use Rattle.vm_ids.specs.Forest.Rules.{retire}
use Rattle.local_cache.specs.declared.own_state.OwnState.{OwnState}
use Rattle.local_cache.specs.declared.page_entry.PageEntry.{PageEntry}
use Rattle.local_cache.specs.Arena.{Arena, HasNode, IsVacant, Table, cache_with, cell, entry_at, find, hung, new_cell, node_at, put, table_at, table_with, tables_with, with_new, without}
use Rattle.local_cache.specs.Changes.{Rehung}
use Rattle.local_cache.specs.NodeCells.{exchanged, renewed}
use Rattle.local_cache.specs.OnCells.{cut_from, on_cell}
use Rattle.local_cache.specs.Own.{own_of}
use Rattle.local_cache.specs.Reading.{forest_of, hang_by, name_of}
use Rattle.local_cache.specs.Sound.{IsSound}
use Rattle.local_cache.proofs.Changes.SameNodes.{rehung-tree, rehung_itself}
use Rattle.local_cache.proofs.Forest.Reading.{node-forest_of}
use Rattle.local_cache.proofs.Tables.Listing.{node_by_entry, node_of_entry}
use Rattle.tree_merge.specs.declared.released.Released.TheVariants.{Dropped}
use Rattle.tree_merge.specs.Copying.{IsLeafOf}
use Rattle.tree_merge.specs.Releasing.{IsRetired}
use Rattle.tree_merge.specs.Stepping.{IsDetachedAlone, IsRetiredAlone}
use Rattle.tree_merge.proofs.ChildLists.Names.{counted}
use Rattle.tree_merge.proofs.CopiedPages.Changes.{changed_twice, find-without, inserted_for, without_put}
use Rattle.tree_merge.proofs.Leaving.Detached.{detached-forest, detached-sound, retired_vacant}
use Rattle.tree_merge.proofs.Leaving.Freed.{Freed, drop-Freed}
use Rattle.tree_merge.proofs.Leaving.Retired.{retire_none, retired_leaf}
use Rattle.tree_merge.proofs.Place.Cut.{no_parent-Step}
use Rattle.tree_merge.proofs.Place.Step.{Step}
use Rattle.tree_merge.proofs.Place.TreeCut.{cut_tree-Step}
use Rattle.tree_merge.proofs.Releases.{retire_released}

-- In the tables

put_back : (es : List PageEntry) (p : ℕ) (e : PageEntry) → slice_get es p ≡ Some e → slice_set es p e ≡ es
put_back [] zero e is = absurd (cc is)
put_back [] (suc p) e is = absurd (cc is)
put_back (x ∷ es) zero e is = let same : x ≡ e = cc is in ap (λ y. y ∷ es) (sym same)
put_back (x ∷ es) (suc p) e is = ap (λ ys. x ∷ ys) (put_back es p e is)

module _ (page : ℕ) (d : NodeId) where
  back_in : (t : Table) → slice_get t.pages page ≡ Some (record { node = Some d }) → table_with page (Some d) (table_with page None t) ≡ t
  back_in t is =
      let pages : slice_set (slice_set t.pages page (record { node = None })) page (record { node = Some d }) ≡ t.pages =
      set-set t.pages page (record { node = None }) (record { node = Some d }) ∙ put_back t.pages page (record { node = Some d }) is in
      λ i. record t { pages = pages i }

  back_in_some : (o : Option Table) → ◌≡◌ {A = Option PageEntry} (option_and_then (λ t. slice_get t.pages page) o) (Some (record { node = Some d })) → option_map (table_with page (Some d)) (option_map (table_with page None) o) ≡ o
  back_in_some None is = refl
  back_in_some (Some t) is = ap Some (back_in t is)

  -- the node of a page goes, and comes again
  tables_back : (ts : List (Option Table)) (cache : ℕ) → ◌≡◌ {A = Option PageEntry} (entry_at ts cache page) (Some (record { node = Some d })) → cache_with (cache_with ts cache page None) cache page (Some d) ≡ ts
  tables_back ts zero is = refl
  tables_back ts (suc k) is =
      changed_twice ts k (table_with page None) (table_with page (Some d))
      ∙ ap (set ts k) (back_in_some (get_or ts k None) is)
      ∙ set-get_or ts k None

entry_of : (a : Arena) (cache page : ℕ) (d : NodeId) → node_at a cache page ≡ Some d → ◌≡◌ {A = Option PageEntry} (entry_at a.caches cache page) (Some (record { node = Some d }))
entry_of a cache page d at = go (entry_at a.caches cache page) (sym (node_by_entry a.caches cache page) ∙ at)
  where
    go : (o : Option PageEntry) → node_of_entry o ≡ Some d → ◌≡◌ {A = Option PageEntry} o (Some (record { node = Some d }))
    go None e = absurd (cc e)
    go (Some p) e =
        let same : ◌≡◌ {A = PageEntry} p (record { node = Some d }) = λ i. record { node = e i } in
        ap Some same

-- In the caches

-- a node that goes, and comes again for its page
pub new_again : (e : Arena) (d : NodeId) (cache : CacheId) (page : PageNo) (s : OwnState) → (cell e d).name ≡ Live cache page → node_at e cache.0 page.0 ≡ Some d
    → with_new (without e d) d (Live cache page) s ≡ on_cell e d (renewed s)
unfolding put with_new without
new_again e d cache page s name at =
    let cells : map.insert (map.remove e.cells d.0) d.0 (new_cell (Live cache page) s) ≡ map.insert e.cells d.0 (new_cell (cell e d).name s) =
    inserted_for e.cells d.0 (new_cell (Live cache page) s) ∙ ap (λ (x : NodeName). map.insert e.cells d.0 (new_cell x s)) (sym name) in
    let caches : tables_with (tables_with e.caches (cell e d).name None) (Live cache page) (Some d) ≡ e.caches =
    ap (λ (x : NodeName). tables_with (tables_with e.caches x None) (Live cache page) (Some d)) name ∙ tables_back page.0 d e.caches cache.0 (entry_of e cache.0 page.0 d at) in
    let nodes : e.room.nodes + 1 - 1 ≡ e.room.nodes = omega arith in
    λ i. record e { cells = cells i; caches = caches i; room = record e.room { nodes = nodes i } }

-- One leaf

module _ (a : Arena) (sound : IsSound a) (d : NodeId) (held : HasNode a d) (parent : Option NodeId) (leaf : IsLeafOf parent (cell a d)) where
  childless : child_count (forest_of a) (name_of a d) ≡ 0
  childless = counted a sound d held ∙ omega (arith, ap (λ (ms : List NodeId). length ms) leaf.tree, ap (λ l. l.stubs) leaf.links)

  -- cut off, it goes as it does without its parent's child alone
  record IsLoose (b c : Arena) : Type 0 where
    pub step : Step a c (cut (forest_of a) (name_of a d))
    pub same : without b d ≡ without c d

  loose : (o : Option NodeId) → IsLeafOf o (cell a d) → (c : Arena) × IsLoose (cut_from a o d None) c
  loose None is = (a, record { step = no_parent-Step a sound d held (ap (λ l. l.parent) is.links); same = refl })
  loose (Some p) is =
      let b : Arena = cut_from a (Some p) d None in
      let c : Arena = hung b d None in (
        c,
        record {
          step = cut_tree-Step a sound d p held (ap (λ l. l.parent) is.links) (ap (λ l. l.by_stub) is.links) b c refl refl;
          same = sym (without_put b d (record (cell b d) { links = record (cell b d).links { parent = None; by_stub = false } }) refl);
        },
      )

  went : Freed a (without (cut_from a parent d None) d) d (free (cut (forest_of a) (name_of a d)) (name_of a d))
  went =
      let c = loose parent leaf in
      subst (λ (x : Arena). Freed a x d (free (cut (forest_of a) (name_of a d)) (name_of a d))) (sym c.1.same)
      (drop-Freed a c.0 (without c.0 d) sound d held childless c.1.step.forest c.1.step.sound c.1.step.rehung refl)

  -- links alone are changed before it goes
  pub left_like : Rehung a (cut_from a parent d None)
  left_like = go parent leaf
    where
      go : (o : Option NodeId) → IsLeafOf o (cell a d) → Rehung a (cut_from a o d None)
      go None is = rehung_itself a
      go (Some p) is = rehung-tree a p (exchanged d None (cell a p).tree) (sound.kept.parents d p held (ap (λ l. l.parent) is.links))

  module _ (cache : CacheId) (page : PageNo) (named : name_of a d ≡ Live cache page) where
    at : node_at a cache.0 page.0 ≡ Some d
    at = sound.kept.listed.pages cache.0 page.0 d held named

    retired : IsRetired a (without (cut_from a parent d None) d) d (Dropped d (own_of a d))
    retired = retired_leaf a (without (cut_from a parent d None) d) d (Dropped d (own_of a d)) childless refl went.gone went.owns

    vacant : IsVacant (without (cut_from a parent d None) d) cache page
    vacant = retired_vacant a sound cache page d at (without (cut_from a parent d None) d) (Dropped d (own_of a d)) retired

    -- its page is retired alone
    pub leaf_retired : IsRetiredAlone a (without (cut_from a parent d None) d) cache page (Dropped d (own_of a d))
    leaf_retired = record {
      forest = went.forest ∙ sym (retire_none (forest_of a) (name_of a d) childless) ∙ ap (retire (forest_of a)) named;
      sound = went.sound;
      vacant = vacant;
      node = d;
      at = at;
      retired = retired;
      told = retire_released a (without (cut_from a parent d None) d) d held (Dropped d (own_of a d)) retired;
    }

    same_page : (b : Arena) → b.caches ≡ a.caches → node_at b cache.0 page.0 ≡ node_at a cache.0 page.0
    same_page b e = ap (λ (ts : List (Option Table)). option_and_then (λ (t : Table). option_and_then (λ (x : PageEntry). x.node) (slice_get t.pages page.0)) (table_at ts cache.0)) e

    -- and it is as new
    pub leaf_detached : (s : OwnState) → IsDetachedAlone a (on_cell (cut_from a parent d None) d (renewed s)) cache page s (Dropped d (own_of a d))
    leaf_detached s =
        let e : Arena = cut_from a parent d None in
        let free : find (without e d) d ≡ None = find-without e d in
        let is : on_cell e d (renewed s) ≡ with_new (without e d) d (Live cache page) s =
        sym (new_again e d cache page s (left_like.like.name d ∙ named) (same_page e left_like.like.caches ∙ at)) in
        record {
          forest = detached-forest a (without e d) (on_cell e d (renewed s)) d cache page s went.sound leaf_retired.forest vacant free is;
          sound = detached-sound (without e d) (on_cell e d (renewed s)) d cache page s went.sound vacant free is;
          between = without e d;
          retired = leaf_retired;
          fresh = d;
          free = free;
          is = is;
        }

-- a node that others hang on has tree children
pub parent_listed : (a : Arena) → IsSound a → (d p : NodeId) → HasNode a d → IsLeafOf (Some p) (cell a d) → (cell a p).tree ≡ [] → ⊥
parent_listed a sound d p held leaf none =
    let held_p : HasNode a p = sound.kept.parents d p held (ap (λ l. l.parent) leaf.links) in
    let hang : (node (forest_of a) (name_of a d)).hang ≡ TreeOf (name_of a p) =
    ap (λ n. n.hang) (node-forest_of a sound.kept.named d held) ∙ ap (λ l. hang_by a l.parent l.by_stub) leaf.links in
    let listed = (sound.linked.tree_links (name_of a d) (name_of a p)).1 hang in
    subst (λ xs. names.◌∈◌ (name_of a d) xs) (ap (λ n. n.tree) (node-forest_of a sound.kept.named p held_p) ∙ ap (map (name_of a)) none) listed
