-- A cache of zeros is made: the forest of the store gets its nodes.
use Rattle.std.proofs.Common.{◌≡◌, ℕ, zero, suc, ◌+◌, ◌<◌, Bool, List, ◌∷◌, map, replicate, Option, Some, None, unwrap_or, refl, sym, ap, ◌∙◌}
use Rattle.std.specs.Prelude.{option_map, option_and_then}
use Rattle.vm_ids.specs.Held.{Held, slot_of}
use Rattle.vm_ids.specs.declared.node_name.NodeName.{NodeName}
use Rattle.vm_ids.specs.declared.numbers.CacheId.{CacheId}
use Rattle.vm_ids.specs.declared.numbers.NodeId.{NodeId}
use Rattle.vm_ids.specs.Forest.Commands.{make, page_name, page_names, pages_at}
use Rattle.vm_ids.specs.Forest.NameLists.{◌∈◌}
use Rattle.vm_ids.specs.Forest.Nodes.{IsNode}
use Rattle.vm_ids.specs.Forest.PageMap.{bare}
use Rattle.local_cache.specs.declared.own_state.OwnState.TheVariants.{Zero}
use Rattle.local_cache.specs.Arena.{Arena, HasPage, HasNode, Room, blank, cell, find, new_cell}
use Rattle.local_cache.specs.Own.{own_of}
use Rattle.local_cache.specs.Reading as arena
use Rattle.local_cache.specs.Sound.{IsSound}
use Rattle.local_cache.proofs.Forest.ReadingBy.{lifted}
use Rattle.local_cache.specs.Home.{home_of}
use Rattle.local_cache.specs.declared.home.Home.{Home}
use Rattle.residency.specs.declared.store.Store.{Store}
use Rattle.residency.specs.StoreForest.{store_forest}
use Rattle.residency.specs.World.{frame_page, own_page, page_by, world, home_page, page_at}
use Rattle.residency.proofs.Worlds.Telling.{tells}
use Rattle.pvm_core.proofs.Opening.Forest.{made_forest}
use Rattle.fault_path.proofs.Calls.Kept.{store_bare, store_page}

abbrev pub all_with : {P : Type 0} → P → List NodeName → List (NodeName × P)
all_with v xs = map (λ x. (x, v)) xs

-- More room

module _ (h : Option Held) (a : Arena) (s : Store) (r : Room) (slots : List Bool) (sound : IsSound a) (then : IsSound (record a { room = r })) (same : arena.forest_of (record a { room = r }) ≡ arena.forest_of a) where
  -- room and slots are no part of the forest
  pub roomier_store : store_forest (world h None (record a { room = r }) (record s { slots = slots })) ≡ store_forest (world h None a s)
  unfolding store_forest cell
  roomier_store = lifted (own_page (world h None (record a { room = r }) (record s { slots = slots }))) (record a { room = r }) then.kept.named (tells (world h None (record a { room = r }) (record s { slots = slots }))) (store_forest (world h None a s))
      (ap bare same ∙ sym (store_bare (world h None a s) sound)) (λ n held. sym (store_page (world h None a s) sound n held))

-- The nodes of a new cache

module _ (h : Option Held) (a b : Arena) (s : Store) (cache : CacheId) (n : ℕ) (has : (page : ℕ) → page < n → HasPage b cache page Zero) (stays : (m : NodeId) → HasNode a m → find b m ≡ find a m) (homes : (m : NodeId) → HasNode a m → home_of b m ≡ home_of a m)
    (forest : arena.forest_of b ≡ make (all_with Zero (page_names cache 0 n)) (arena.forest_of a)) (sound : IsSound a) (then : IsSound b) (fresh : (x : NodeName) → x ∈ page_names cache 0 n → IsNode (arena.forest_of a) x → ⊥) where
  abbrev zeros : Option (List ℕ)
  zeros = option_map (λ _. replicate s.frames.page 0) h

  zero_is : (m : NodeId) → own_of b m ≡ Zero → own_page (world h None b s) m ≡ Some zeros
  zero_is m e = ap (page_by zeros (option_map (λ _. frame_page (world h None b s) m) h) (λ slot. option_and_then (λ k. slot_of k slot) h) (home_page (world h None b s) m)) e

  cell_stays : (m : NodeId) → HasNode a m → cell b m ≡ cell a m
  unfolding cell
  cell_stays m k = ap (λ o. unwrap_or o blank) (stays m k)

  page_stays : (m : NodeId) → HasNode a m → own_page (world h None b s) m ≡ own_page (world h None a s) m
  page_stays m k =
      ap (λ (o : Option Home). page_by zeros (option_map (λ _. frame_page (world h None a s) m) h) (λ slot. option_and_then (λ k. slot_of k slot) h) (option_and_then (λ g. option_and_then (page_at g) o) h) (own_of b m)) (homes m k)
      ∙ ap (λ c. page_by zeros (option_map (λ _. frame_page (world h None a s) m) h) (λ slot. option_and_then (λ k. slot_of k slot) h) (home_page (world h None a s) m) c.own) (cell_stays m k)

  of_cell : (m : NodeId) (x : NodeName) → find b m ≡ Some (new_cell x Zero) → own_of b m ≡ Zero
  unfolding cell
  of_cell m x e = ap (λ o. (unwrap_or o blank).own) e

  -- the forest of the store gets a page of zeros for each page of the cache
  pub made_store : store_forest (world h None b s) ≡ make (all_with (option_map (λ _. replicate s.frames.page 0) h) (page_names cache 0 n)) (store_forest (world h None a s))
  made_store = made_forest h a b s cache n Zero (λ _. zeros) has stays (λ m page low is. zero_is m (of_cell m (page_name cache page) is)) page_stays forest sound then fresh

-- the pages of a cache of so many equal pages
pub equal_pages : {P : Type 0} (cache : CacheId) (first n : ℕ) (v : P) → pages_at cache first (replicate n v) ≡ all_with v (page_names cache first n)
equal_pages cache first zero v = refl
equal_pages cache first (suc n) v = ap (λ es. (page_name cache first, v) ∷ es) (equal_pages cache (first + 1) n v)
