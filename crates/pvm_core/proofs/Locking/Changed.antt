-- A page has other locks, or a frame that has a node is pinned or not: the store is right still,
-- and each page reads as it did.
use Rattle.std.proofs.Common.{◌≡◌, ℕ, Bool, false, ◌||◌, List, length, count_by, Option, Some, None, is_some, refl, sym, ap, ◌∙◌, subst, arith}
use Rattle.std.specs.Prelude.{option_map, option_and_then}
use Rattle.std.specs.List.{slice_index_or}
use Rattle.vm_ids.specs.Held.{Held, slot_of}
use Rattle.vm_ids.specs.declared.node_name.NodeName.{NodeName}
use Rattle.vm_ids.specs.declared.node_name.NodeName.TheVariants.{Live, Working}
use Rattle.vm_ids.specs.declared.numbers.NodeId.{NodeId}
use Rattle.vm_ids.specs.Forest.Nodes.{node}
use Rattle.vm_ids.specs.Forest.PageMap.{bare}
use Rattle.vm_ids.proofs.Places.{bit}
use Rattle.frame_pool.specs.Pool.{is_pinned}
use Rattle.global_map.specs.Pairs.{node_of}
use Rattle.local_cache.specs.declared.home.Home.{Home}
use Rattle.local_cache.specs.declared.own_state.OwnState.{OwnState}
use Rattle.local_cache.specs.Arena.{Arena, find, with_locks}
use Rattle.local_cache.specs.Home.{home_of}
use Rattle.local_cache.specs.Own.{is_in_slot, is_resident, is_slot, own_of, own_states}
use Rattle.local_cache.specs.Reading.{name_of}
use Rattle.local_cache.specs.Sound.{IsSound}
use Rattle.local_cache.specs.Whole.{IsWhole}
use Rattle.local_cache.proofs.Changes.Locked.{locked_cell, locked_forest, locked_grants, locked_sound}
use Rattle.local_cache.proofs.Forest.ReadingBy.{lifted}
use Rattle.local_cache.proofs.Names.Homes.{home-with_locks}
use Rattle.local_cache.proofs.Tables.Sizes.{sizes_locked}
use Rattle.local_cache.proofs.Whole.LivePages.{whole_same}
use Rattle.residency.specs.declared.store.Store.{Store}
use Rattle.residency.specs.StoreForest.{store_forest}
use Rattle.residency.specs.World.{IsStoreRight, World, frame_page, home_page, is_clean, is_name_granted, own_page, page_at, page_by, world, zero_page}
use Rattle.residency.proofs.Worlds.Telling.{tells}
use Rattle.fault_path.proofs.Calls.Kept.{store_bare, store_page}
use Rattle.pvm_core.specs.Holding.{KeepsPages}
use Rattle.pvm_core.proofs.Locking.Alike.{alike_still}
use Rattle.pvm_core.proofs.Translating.Cells.{cells_right}
use Rattle.pvm_core.proofs.Translating.Writable.{granted_writable}

-- A page has other locks

module _ (w : World) (b : Arena) (cache page count : ℕ) (is : b ≡ with_locks w.caches cache page count) where
  pub relocked_owns : (n : NodeId) → own_of b n ≡ own_of w.caches n
  relocked_owns n = ap (λ c. c.own) (locked_cell w.caches b cache page count is n)

  pub relocked_names : (n : NodeId) → name_of b n ≡ name_of w.caches n
  relocked_names n = ap (λ c. c.name) (locked_cell w.caches b cache page count is n)

  homes : (n : NodeId) → home_of b n ≡ home_of w.caches n
  homes n = ap (λ x. home_of x n) is ∙ home-with_locks w.caches cache page count n

  states : own_states b ≡ own_states w.caches
  states = ap own_states is

  granted : (x : NodeName) → is_name_granted b x ≡ is_name_granted w.caches x
  granted (Live c p) = locked_grants w.caches b cache page count is c.0 p.0
  granted (Working k) = refl

  granted_at : (n : NodeId) → is_name_granted b (name_of b n) ≡ is_name_granted w.caches (name_of w.caches n)
  granted_at n = granted (name_of b n) ∙ ap (is_name_granted w.caches) (relocked_names n)

  home_pages : (n : NodeId) → home_page (record w { caches = b }) n ≡ home_page w n
  home_pages n = ap (λ (o : Option Home). option_and_then (λ h. option_and_then (page_at h) o) w.told) (homes n)

  pages : (n : NodeId) → own_page (record w { caches = b }) n ≡ own_page w n
  pages n =
      ap (λ (p : Option (List ℕ)). page_by (option_map (λ _. zero_page w) w.told) (option_map (λ _. frame_page w n) w.told) (λ k. option_and_then (λ h. slot_of h k) w.told) p (own_of b n)) (home_pages n)
      ∙ ap (page_by (option_map (λ _. zero_page w) w.told) (option_map (λ _. frame_page w n) w.told) (λ k. option_and_then (λ h. slot_of h k) w.told) (home_page w n)) (relocked_owns n)

  pub relocked_right : IsStoreRight w → IsStoreRight (record w { caches = b })
  relocked_right right = record {
    tied = record {
      placed = record {
        bound = λ n. right.tied.placed.bound n ∙ ap (λ (x : OwnState). bit (is_resident x)) (sym (relocked_owns n));
        held = right.tied.placed.held;
        slots = λ s. ap (λ (xs : List OwnState). count_by (is_slot s) xs) states ∙ right.tied.placed.slots s;
        in_slots = right.tied.placed.in_slots ∙ ap (λ (xs : List OwnState). count_by is_in_slot xs) (sym states);
      };
      backed = record {
        there = right.tied.backed.there;
        homes = λ n clean. ap is_some (homes n) ∙ right.tied.backed.homes n (sym (ap is_clean (relocked_owns n)) ∙ clean);
        apart = λ n m home e q. right.tied.backed.apart n m home (sym (homes n) ∙ e) (sym (homes m) ∙ q);
        lies = λ n home e. right.tied.backed.lies n home (sym (homes n) ∙ e);
        clean = λ n clean. pages n ∙ right.tied.backed.clean n (sym (ap is_clean (relocked_owns n)) ∙ clean) ∙ ap Some (sym (home_pages n));
      };
      fitted = right.tied.fitted;
    };
    granted = record {
      granted = λ n home clean. granted_at n ∙ right.granted.granted n (sym (ap is_some (homes n)) ∙ home) (sym (ap is_clean (relocked_owns n)) ∙ clean);
      allowed = λ n home e g. right.granted.allowed n home (sym (homes n) ∙ e) (sym (granted_at n) ∙ g);
    };
    capacity = omega (arith, right.capacity, ap (λ (xs : List OwnState). length xs) states);
  }

  pub relocked_whole : IsWhole w.caches → IsWhole b
  relocked_whole whole = whole_same w.caches b whole (locked_sound w.caches b cache page count is whole.sound) (locked_forest w.caches b cache page count is) (sizes_locked w.caches b cache page count is)

  -- no page is another one
  pub relocked_forest : IsSound w.caches → store_forest (record w { caches = b }) ≡ store_forest w
  unfolding store_forest
  relocked_forest sound =
      let after = locked_sound w.caches b cache page count is sound in
      lifted (own_page (record w { caches = b })) b after.kept.named (tells (record w { caches = b })) (store_forest w)
      (ap bare (locked_forest w.caches b cache page count is) ∙ sym (store_bare w sound))
      (λ n held. pages n ∙ sym (store_page w sound n (sym (ap (λ x. is_some (find x n)) is) ∙ held)) ∙ ap (λ x. (node (store_forest w) x).own) (sym (relocked_names n)))

-- Frames are pinned or not

-- pins alone changed, of frames that have nodes
pub record Repins (s t : Store) : Type 0 where
  pub pins : List Bool
  pub is : t ≡ record s { frames = record s.frames { pinned = pins } }
  pub long : length pins ≡ length s.frames.pinned
  pub others : (f : ℕ) → node_of s.map f ≡ None → slice_index_or pins f false ≡ is_pinned s.frames f

module _ (w : World) (pins : List Bool) (long : length pins ≡ length w.frames.pinned) (others : (f : ℕ) → node_of w.map f ≡ None → slice_index_or pins f false ≡ is_pinned w.frames f) where
  pub repinned_right : IsStoreRight w → IsStoreRight (record w { frames = record w.frames { pinned = pins } })
  repinned_right right = record {
    tied = record {
      placed = record {
        bound = right.tied.placed.bound;
        held = λ f. right.tied.placed.held f ∙ held f (node_of w.map f) refl;
        slots = right.tied.placed.slots;
        in_slots = right.tied.placed.in_slots;
      };
      backed = record {
        there = right.tied.backed.there;
        homes = right.tied.backed.homes;
        apart = right.tied.backed.apart;
        lies = right.tied.backed.lies;
        clean = right.tied.backed.clean;
      };
      fitted = record {
        map_frames = right.tied.fitted.map_frames;
        bytes_frames = right.tied.fitted.bytes_frames;
        pinned_frames = long ∙ right.tied.fitted.pinned_frames;
        marks_frames = right.tied.fitted.marks_frames;
        places_frames = right.tied.fitted.places_frames;
        few = right.tied.fitted.few;
        page = right.tied.fitted.page;
      };
    };
    granted = record { granted = right.granted.granted; allowed = right.granted.allowed };
    capacity = right.capacity;
  }
    where
      held : (f : ℕ) (o : Option NodeId) → node_of w.map f ≡ o → (is_some (node_of w.map f) || is_pinned w.frames f) ≡ (is_some (node_of w.map f) || slice_index_or pins f false)
      held f None at = ap (λ b. is_some (node_of w.map f) || b) (sym (others f at))
      held f (Some n) at = (λ i. is_some (at i) || is_pinned w.frames f) ∙ sym (λ i. is_some (at i) || slice_index_or pins f false)

-- Both

module _ (a b : Arena) (s t : Store) (cache page count : ℕ) (is : b ≡ with_locks a cache page count) (re : Repins s t) (whole : IsWhole a) where
  abbrev before : Option Held → Option ℕ → World
  before told size = world told size a s

  abbrev middle : Option Held → Option ℕ → World
  middle told size = record (world told size a s) { caches = b }

  abbrev then : Option Held → Option ℕ → World
  then told size = record (world told size b s) { frames = record s.frames { pinned = re.pins } }

  at_end : (told : Option Held) (size : Option ℕ) → world told size b t ≡ then told size
  at_end told size = ap (world told size b) re.is

  changed_right : (told : Option Held) (size : Option ℕ) → IsStoreRight (world told size a s) → IsStoreRight (world told size b t)
  changed_right told size right = subst IsStoreRight (sym (at_end told size)) (repinned_right (middle told size) re.pins re.long re.others (relocked_right (before told size) b cache page count is right))

  -- no page reads differently where frames are pinned
  pins_unread : (told : Option Held) (size : Option ℕ) → store_forest (then told size) ≡ store_forest (middle told size)
  unfolding store_forest
  pins_unread told size = refl

  changed_forest : (told : Option Held) (size : Option ℕ) → store_forest (world told size b t) ≡ store_forest (world told size a s)
  changed_forest told size = ap store_forest (at_end told size) ∙ pins_unread told size ∙ relocked_forest (before told size) b cache page count is whole.sound

  pub changed_pages : KeepsPages a b s t
  changed_pages = record {
    alike = λ told size counts right. alike_still (world told size a s) (world told size b t) counts (changed_right told size right) (relocked_whole (before told size) b cache page count is whole)
        (sizes_locked a b cache page count is) (λ n. ap (λ (x : Arena). is_some (find x n)) is) (relocked_names (before told size) b cache page count is) (changed_forest told size)
        (ap (λ (x : Arena). x.made) is) (ap (λ (u : Store). length u.frames.held) re.is) (ap (λ (u : Store). u.frames.page) re.is) refl (ap (λ (u : Store). length u.slots) re.is) refl;
    forest = changed_forest;
    cells = ap (λ (x : Arena). x.cells) is;
    map = ap (λ (u : Store). u.map) re.is;
    tables = ap (λ (u : Store). u.tables) re.is;
    translated = cells_right a b (ap (λ (x : Arena). x.cells) is) (ap (λ (x : Arena). x.made) is) (ap (λ (x : Arena). x.copies) is) s t (ap (λ (u : Store). u.tables) re.is) (ap (λ (u : Store). u.map) re.is)
        (granted_writable a b (sizes_locked a b cache page count is) (λ c p e. locked_grants a b cache page count is c p ∙ e));
  }
