-- A page whose node became a working node, and the room that is left.
use Rattle.std.proofs.Common.{◌≡◌, ℕ, ◌-◌, Option, Some, None, option_map, unwrap_or, refl, sym, ap, ◌∙◌}
use Rattle.std.specs.Prelude.{option_and_then}
use Rattle.vm_ids.specs.declared.node_name.NodeName.{NodeName}
use Rattle.vm_ids.specs.declared.node_name.NodeName.TheVariants.{Live}
use Rattle.vm_ids.specs.declared.numbers.CacheId.{CacheId}
use Rattle.vm_ids.specs.declared.numbers.NodeId.{NodeId}
use Rattle.vm_ids.specs.declared.numbers.PageNo.{PageNo}
use Rattle.local_cache.specs.declared.own_state.OwnState.{OwnState}
use Rattle.local_cache.specs.declared.page_entry.PageEntry.{PageEntry}
use Rattle.local_cache.specs.Arena.{Arena, Cell, HasPage, IsVacant, as_working, blank, cell, entry_at, node_at, put, tables_with, with_new}
use Rattle.local_cache.proofs.Tables.Listing.{entry-cache_with, node_by_entry}
use Rattle.local_cache.proofs.NewCache.FoundPages.{page_node}

pub room-with_new : (a : Arena) (n : NodeId) (x : NodeName) (s : OwnState) → (with_new a n x s).room.nodes ≡ a.room.nodes - 1
unfolding with_new
room-with_new a n x s = refl

pub room-as_working : (a : Arena) (n : NodeId) → (as_working a n).room ≡ a.room
unfolding put
room-as_working a n = refl

abbrev no_node : PageEntry → PageEntry
no_node e = record { node = None }

pub vacated : (a : Arena) (n : NodeId) (cache : CacheId) (page : PageNo) → (cell a n).name ≡ Live cache page → node_at a cache.0 page.0 ≡ Some n → IsVacant (as_working a n) cache page
vacated a n cache page name at =
    ap (λ (x : NodeName). entry_at (tables_with a.caches x None) cache.0 page.0) name
    ∙ entry-cache_with a.caches cache.0 page.0 None
    ∙ go (entry_at a.caches cache.0 page.0) (sym (node_by_entry a.caches cache.0 page.0) ∙ at)
  where
    go : (o : Option PageEntry) → option_and_then (λ (e : PageEntry). e.node) o ≡ Some n → option_map no_node o ≡ Some (record { node = None })
    go None e = absurd (cc e)
    go (Some entry) e = refl
