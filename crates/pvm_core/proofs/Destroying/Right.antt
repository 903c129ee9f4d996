-- A cache goes of which no node is left: the store is right still.
use Rattle.std.proofs.Common.{◌≡◌, ◌≢◌, ℕ, false, Option, Some, None, is_some, unwrap_or, refl, sym, ap, ◌∙◌}
use Rattle.std.specs.Prelude.{option_and_then, option_map, slice_get}
use Rattle.vm_ids.specs.declared.node_name.NodeName.{NodeName}
use Rattle.vm_ids.specs.declared.node_name.NodeName.TheVariants.{Live, Working}
use Rattle.vm_ids.specs.declared.numbers.CacheId.{CacheId}
use Rattle.vm_ids.specs.declared.numbers.NodeId.{NodeId}
use Rattle.vm_ids.specs.declared.numbers.PageNo.{PageNo}
use Rattle.vm_ids.specs.Held.{slot_of}
use Rattle.local_cache.specs.declared.home.Home.{Home}
use Rattle.local_cache.specs.Arena.{Arena, Cell, Table, cell, find, blank, node_at, without_cache}
use Rattle.local_cache.specs.Home.{home_of}
use Rattle.local_cache.specs.Own.{own_of}
use Rattle.local_cache.specs.Reading as arena
use Rattle.local_cache.specs.Reading.{name_of}
use Rattle.local_cache.specs.ReadingBy.{forest_by}
use Rattle.local_cache.specs.Sound.{IsListed}
use Rattle.local_cache.proofs.Names.Homes.{home-without_cache}
use Rattle.residency.specs.StoreForest.{store_forest}
use Rattle.residency.specs.World.{IsStoreRight, World, frame_page, home_page, is_name_granted, own_page, page_at, page_by, zero_page}
use Rattle.pvm_core.proofs.Destroying.Tables.{other_table}

-- no node has the name of a page without one
pub not_named : (a : Arena) (c : CacheId) → IsListed a → ((page : ℕ) → node_at a c.0 page ≡ None) → (n : NodeId) (page : PageNo) → name_of a n ≢ Live c page
unfolding cell
not_named a c listed none n page name = go (find a n) refl
  where
    go : (o : Option Cell) → find a n ≡ o → ⊥
    go None is = (let e : Working 0 ≡ Live c page = sym (ap (λ (o : Option Cell). (unwrap_or o blank).name) is) ∙ name in cc e)
    go (Some x) is = (let e : None ≡ Some n = sym (none page.0) ∙ listed.pages c.0 page.0 n (ap is_some is) name in cc e)

module _ (w : World) (c : CacheId) (others : (n : NodeId) (page : PageNo) → name_of w.caches n ≢ Live c page) (right : IsStoreRight w) where
  abbrev v : World
  v = record w { caches = without_cache w.caches c }

  home : (n : NodeId) → home_of (without_cache w.caches c) n ≡ home_of w.caches n
  home n = home-without_cache w.caches c n (others n)

  home_page_same : (n : NodeId) → home_page v n ≡ home_page w n
  home_page_same n = ap (λ (o : Option Home). option_and_then (λ h. option_and_then (page_at h) o) w.told) (home n)

  own_same : (n : NodeId) → own_page v n ≡ own_page w n
  unfolding cell
  own_same n = ap (λ x. page_by (option_map (λ _. zero_page w) w.told) (option_map (λ _. frame_page w n) w.told) (λ k. option_and_then (λ h. slot_of h k) w.told) x (own_of w.caches n)) (home_page_same n)

  -- and each node has its own page still
  pub without_store : store_forest (record w { caches = without_cache w.caches c }) ≡ store_forest w
  unfolding store_forest forest_by cell arena.stubs_of
  without_store = λ i. forest_by (λ n. own_same n i) (without_cache w.caches c)

  granted_named : (x : NodeName) → ((page : PageNo) → x ≢ Live c page) → is_name_granted (without_cache w.caches c) x ≡ is_name_granted w.caches x
  granted_named (Working k) other = refl
  granted_named (Live k page) other = ap (λ (o : Option Table). unwrap_or (option_and_then (λ t. slice_get t.grants page.0) o) false) (other_table w.caches.caches c.0 k.0 (λ e. other page (λ i. Live (record { 0 = e i }) page)))

  granted_same : (n : NodeId) → is_name_granted (without_cache w.caches c) (name_of (without_cache w.caches c) n) ≡ is_name_granted w.caches (name_of w.caches n)
  unfolding cell
  granted_same n = granted_named (name_of w.caches n) (others n)

  pub without_right : IsStoreRight (record w { caches = without_cache w.caches c })
  unfolding cell
  without_right = record {
    tied = record {
      placed = record {
        bound = right.tied.placed.bound;
        held = right.tied.placed.held;
        slots = right.tied.placed.slots;
        in_slots = right.tied.placed.in_slots;
      };
      backed = record {
        there = right.tied.backed.there;
        homes = λ n clean. ap is_some (home n) ∙ right.tied.backed.homes n clean;
        apart = λ n m at e f. right.tied.backed.apart n m at (sym (home n) ∙ e) (sym (home m) ∙ f);
        lies = λ n at e. right.tied.backed.lies n at (sym (home n) ∙ e);
        clean = λ n clean. own_same n ∙ right.tied.backed.clean n clean ∙ ap Some (sym (home_page_same n));
      };
      fitted = right.tied.fitted;
    };
    granted = record {
      granted = λ n some clean. granted_same n ∙ right.granted.granted n (sym (ap is_some (home n)) ∙ some) clean;
      allowed = λ n at e granted. right.granted.allowed n at (sym (home n) ∙ e) (sym (granted_same n) ∙ granted);
    };
    capacity = right.capacity;
  }
