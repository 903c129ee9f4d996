-- The page of a retired node, and the fresh node that it gets.
use Rattle.std.proofs.Common.{◌≡◌, ℕ, zero, suc, ◌+◌, ◌-◌, ◌≤◌, Option, Some, None, IsSome, option_map, refl, sym, ap, ◌∙◌, subst, arith}
use Rattle.vm_ids.specs.declared.node_name.NodeName.{NodeName}
use Rattle.vm_ids.specs.declared.node_name.NodeName.TheVariants.{Live}
use Rattle.vm_ids.specs.declared.numbers.CacheId.{CacheId}
use Rattle.vm_ids.specs.declared.numbers.NodeId.{NodeId}
use Rattle.vm_ids.specs.declared.numbers.PageNo.{PageNo}
use Rattle.vm_ids.specs.Forest.Nodes.{child_count, childless}
use Rattle.vm_ids.specs.Forest.Nodes.Hang.{Root}
use Rattle.vm_ids.specs.Forest.Changes.{put}
use Rattle.vm_ids.specs.Forest.Rules.{detach, retire}
use Rattle.local_cache.specs.declared.own_state.OwnState.{OwnState}
use Rattle.local_cache.specs.declared.page_entry.PageEntry.{PageEntry}
use Rattle.local_cache.specs.Arena.{Arena, HasNode, IsVacant, as_working, entry_at, find, node_at, tables_with, with_new}
use Rattle.local_cache.specs.Reading.{name_of, forest_of, page_of}
use Rattle.local_cache.specs.Sound.{IsSound}
use Rattle.local_cache.proofs.NewNode.FreshNode.{page-forest, page-sound}
use Rattle.local_cache.proofs.Tables.Listing.{entry-cache_with, node_by_entry, node_of_entry}
use Rattle.tree_merge.specs.declared.released.Released.{Released}
use Rattle.tree_merge.specs.Releasing.{IsRetired}
use Rattle.local_cache.proofs.Names.WorkingName.{room-as_working, room-with_new}

-- the node of a page
module _ (a : Arena) (sound : IsSound a) (cache : CacheId) (page : PageNo) (n : NodeId) (is : node_at a cache.0 page.0 ≡ Some n) where
  pub page_held : HasNode a n
  page_held = (sound.kept.listed.nodes cache.0 page.0 n is).0

  pub page_name : name_of a n ≡ Live cache page
  page_name = (sound.kept.listed.nodes cache.0 page.0 n is).1

  has_entry : IsSome (entry_at a.caches cache.0 page.0)
  has_entry = go (entry_at a.caches cache.0 page.0) (sym (node_by_entry a.caches cache.0 page.0) ∙ is)
    where
      go : (o : Option PageEntry) → node_of_entry o ≡ Some n → IsSome o
      go None e = absurd (cc e)
      go (Some p) e = refl

  emptied : (o : Option PageEntry) → IsSome o → ◌≡◌ {A = Option PageEntry} (option_map (λ _. record { node = None }) o) (Some (record { node = None }))
  emptied None h = absurd (cc h)
  emptied (Some p) h = refl

  -- tables without the node of this page
  emptied_page : (b : Arena) → b.caches ≡ tables_with a.caches (name_of a n) None → IsVacant b cache page
  emptied_page b e =
      ap (λ ts. entry_at ts cache.0 page.0) (e ∙ ap (λ x. tables_with a.caches x None) page_name)
      ∙ entry-cache_with a.caches cache.0 page.0 None ∙ emptied (entry_at a.caches cache.0 page.0) has_entry

  working_tables : (as_working a n).caches ≡ tables_with a.caches (name_of a n) None
  working_tables = refl

  pub retired_vacant : (b : Arena) (released : Released) → IsRetired a b n released → IsVacant b cache page
  retired_vacant b released r = go (child_count (forest_of a) (name_of a n)) refl
    where
      go : (k : ℕ) → child_count (forest_of a) (name_of a n) ≡ k → IsVacant b cache page
      go zero e = emptied_page b (r.leaf e).1.caches
      go (suc k) e = emptied_page b (ap (λ c. c.caches) (r.parent (omega arith)).1 ∙ working_tables)

-- there is as much room as before
pub retired_room : (a b : Arena) (n : NodeId) (released : Released) → IsRetired a b n released → a.room.nodes ≤ b.room.nodes
retired_room a b n released r = go (child_count (forest_of a) (name_of a n)) refl
  where
    go : (k : ℕ) → child_count (forest_of a) (name_of a n) ≡ k → a.room.nodes ≤ b.room.nodes
    go zero e = let more : b.room.nodes ≡ a.room.nodes + 1 = ap (λ k. k.nodes) (r.leaf e).1.room in omega arith
    go (suc k) e =
        let same : b.room.nodes ≡ a.room.nodes = ap (λ c. c.room.nodes) (r.parent (omega arith)).1 ∙ ap (λ k. k.nodes) (room-as_working a n) in
        omega arith

-- and with a fresh node there is room for one fewer
pub new_room : (b c : Arena) (d : NodeId) (x : NodeName) (s : OwnState) → c ≡ with_new b d x s → b.room.nodes ≤ c.room.nodes + 1
new_room b c d x s is = let less : c.room.nodes ≡ b.room.nodes - 1 = ap (λ (k : Arena). k.room.nodes) is ∙ room-with_new b d x s in omega arith

pub detached-forest : (a b c : Arena) (d : NodeId) (cache : CacheId) (page : PageNo) (s : OwnState) → IsSound b → forest_of b ≡ retire (forest_of a) (Live cache page) → IsVacant b cache page → find b d ≡ None → c ≡ with_new b d (Live cache page) s
    → forest_of c ≡ detach (forest_of a) (Live cache page) (page_of s)
unfolding detach
detached-forest a b c d cache page s sound forest vacant free is =
    ap forest_of is ∙ page-forest b sound.kept d free cache page vacant s ∙ ap (λ f. put f (Live cache page) (childless (page_of s) Root)) forest

pub detached-sound : (b c : Arena) (d : NodeId) (cache : CacheId) (page : PageNo) (s : OwnState) → IsSound b → IsVacant b cache page → find b d ≡ None → c ≡ with_new b d (Live cache page) s → IsSound c
detached-sound b c d cache page s sound vacant free is = subst IsSound (sym is) (page-sound b sound.kept d free cache page vacant s sound.linked)
