-- A cache that is made: the manager before and after.
use Rattle.std.proofs.Common.{◌≡◌, ℕ, zero, suc, ◌+◌, ◌*◌, ◌≤◌, Bool, false, List, [], ◌∷◌, ◌++◌, length, get_or, map, replicate, Option, Some, None, refl, sym, ap, ◌∙◌, subst, arith}
use Rattle.std.specs.Prelude.{IfSome, option_map, sum_by, count_by}
use Rattle.std.proofs.lemmas.List.{length-append, length-map}
use Rattle.std.proofs.lemmas.List.Sums.{sum_by_push}
use Rattle.vm_ids.specs.Held.{Held}
use Rattle.vm_ids.specs.declared.numbers.CacheId.{CacheId}
use Rattle.vm_ids.specs.declared.numbers.NodeId.{NodeId}
use Rattle.vm_ids.specs.declared.numbers.SegId.{SegId}
use Rattle.local_cache.specs.declared.own_state.OwnState.TheVariants.{Zero}
use Rattle.local_cache.specs.Arena.{Arena, CellsStay, IsMade, locks_of, Room, Table, cell, entry_for, new_table, page_count, table_at}
use Rattle.local_cache.specs.Reading as arena
use Rattle.local_cache.specs.Sound as arena_sound
use Rattle.residency.specs.declared.store.Store.{Store}
use Rattle.residency.specs.StoreForest.{store_forest}
use Rattle.residency.specs.World.{IsStoreRight, World, world}
use Rattle.residency.proofs.Worlds.After.{slots_right}
use Rattle.residency.proofs.NewCaches.Made.{made_right}
use Rattle.local_cache.specs.Whole.{SameCaches, segment_of, size_of}
use Rattle.local_cache.proofs.NewCache.Whole.{pages_with, whole_begun}
use Rattle.local_cache.proofs.Tables.Sizes.{sizes_same}
use Rattle.local_cache.proofs.Whole.LivePages.{whole_same}
use Rattle.vm_ids.specs.Forest.Commands.{make}
use Rattle.vm_ids.specs.Forest.Shape.{IsBounded}
use Rattle.vm_ids.proofs.Forest.Laws.Copying.{make_keeps_bound}
use Rattle.vm_model.specs.Machine.{Machine}
use Rattle.vm_model.specs.Outcome.{HasWholePages}
use Rattle.vm_model.specs.PageForest.{PageForest}
use Rattle.contexts.specs.Actors.{Actors}
use Rattle.contexts.specs.Placed.{AreRight}
use Rattle.contexts.proofs.Placing.{right_weaker}
use Rattle.pvm_core.proofs.Homes.Full.{full_same}
use Rattle.pvm_core.proofs.Homes.Sized.{apart_same, sized_same}
use Rattle.pvm_core.specs.Manager.{AreFull, AreSized, IsManagerSound, IsValid, caches_shown, forest_of, live_in, machine_by, machine_of}
use Rattle.local_cache.proofs.Nodes.Count.{forest_len}
use Rattle.pvm_core.proofs.Answering.Kept.{seen}
use Rattle.pvm_core.proofs.Holding.Made.{held_by_cells, held_by_store, held_made}
use Rattle.pvm_core.proofs.Meaning.Live.{nodes_most}
use Rattle.pvm_core.proofs.NewCaches.Making.{roomier_store}
use Rattle.pvm_core.proofs.NewCaches.NewCache.{fresh_zeros}

-- More room

room_right : (w : World) (r : Room) → IsStoreRight w → IsStoreRight (record w { caches = record w.caches { room = r } })
unfolding cell
room_right w r right = record {
  tied = record {
    placed = record {
      bound = right.tied.placed.bound;
      held = right.tied.placed.held;
      slots = right.tied.placed.slots;
      in_slots = right.tied.placed.in_slots;
    };
    backed = record {
      there = right.tied.backed.there;
      homes = right.tied.backed.homes;
      apart = right.tied.backed.apart;
      lies = right.tied.backed.lies;
      clean = right.tied.backed.clean;
    };
    fitted = right.tied.fitted;
  };
  granted = record { granted = right.granted.granted; allowed = right.granted.allowed };
  capacity = right.capacity;
}

module _ (a b : Arena) (s u : Store) (t : Actors) (live : ℕ) (room : b ≡ record a { room = b.room }) (slots : u ≡ record s { slots = u.slots }) (more : (k : ℕ) × (u.slots ≡ s.slots ++ replicate k false)) (no_less : a.room.nodes ≤ b.room.nodes)
    (forest : arena.forest_of b ≡ arena.forest_of a) (sound : arena_sound.IsSound b) (i : IsManagerSound a s t live) where
  tables : b.caches ≡ a.caches
  tables = ap (λ k. k.caches) room

  same : SameCaches a b
  same = sizes_same a b tables

  -- the manager with more room
  pub roomy_sound : IsManagerSound b u t live
  roomy_sound = record {
    nodes = whole_same a b i.nodes sound forest same;
    apart = apart_same a b same.segments i.apart;
    bounded = subst IsBounded (sym forest) i.bounded;
    slots = omega (arith, i.slots, ap (λ (xs : List Bool). length xs) more.1, length-append s.slots (replicate more.0 false));
    counted = i.counted ∙ sym (ap (sum_by page_count) tables);
    few = i.few;
    loose = subst (λ (s : Store). count_by (λ p. p) s.frames.pinned + 3 ≤ length s.frames.pinned) (sym slots) i.loose;
    locked = held_by_cells a b u t.actors (ap (λ (k : Arena). k.cells) room) (λ cache page. ap (λ (k : Arena). locks_of k cache page) room) i.nodes.sound.kept.listed sound.kept.listed
        (held_by_store a s u t.actors (ap (λ (s : Store). s.frames.pinned) slots) (ap (λ (s : Store). s.map) slots) (ap (λ (s : Store). length s.frames.held) slots) i.locked);
    actors = subst (λ (ts : List (Option Table)). AreRight (λ n. option_map (λ (t : Table). length t.pages) (table_at ts n)) t) (sym tables) i.actors;
    page = i.page ∙ sym (ap (λ (s : Store). s.frames.page) slots);
  }

  pub roomy_forest : (h : Option Held) → forest_of (seen b u t) h ≡ forest_of (seen a s t) h
  roomy_forest h = (λ j. store_forest (world h None (room j) (slots j)))
      ∙ roomier_store h a s b.room u.slots i.nodes.sound (subst arena_sound.IsSound room sound) (sym (ap arena.forest_of room) ∙ forest)

  pub roomy_machine : (h : Option Held) → machine_of (seen b u t) h ≡ machine_of (seen a s t) h
  roomy_machine h = λ j. record {
    page_bytes = t.page_bytes;
    frames = ap (λ (s : Store). length s.frames.held) slots j;
    caches = caches_shown (roomy_forest h j) 1 (tables j);
    actors = t.actors;
    regions_made = t.regions_made;
  }

  pub roomy_by : (f : PageForest) → machine_by (seen b u t) f ≡ machine_by (seen a s t) f
  roomy_by f = λ j. record {
    page_bytes = t.page_bytes;
    frames = ap (λ (s : Store). length s.frames.held) slots j;
    caches = caches_shown f 1 (tables j);
    actors = t.actors;
    regions_made = t.regions_made;
  }

  pub roomy_valid : (h : Option Held) → IsValid (seen a s t) h → IsValid (seen b u t) h
  roomy_valid h v = record {
    right = subst (λ (s : Store). IsStoreRight (world h None b s)) (sym slots) (subst (λ (k : Arena). IsStoreRight (world h None k (record s { slots = u.slots }))) (sym room)
        (room_right (world h None a (record s { slots = u.slots })) b.room (subst (λ (xs : List Bool). IsStoreRight (record (world h None a s) { slots = xs })) (sym more.1) (slots_right (world h None a s) more.0 v.right))));
    sized = sized_same a b h same.segments same.sizes v.sized;
    full = full_same a b t.page_bytes h same.segments v.full;
    whole = subst (λ (m : Machine). IfSome h (λ _. HasWholePages m)) (sym (roomy_machine h)) v.whole;
  }

-- Regions stay placed where a cache is added

size : Option Table → Option ℕ
size o = option_map (λ (t : Table). length t.pages) o

get_more : (ts : List (Option Table)) (x : Option Table) (k n : ℕ) → option_map (λ (t : Table). length t.pages) (get_or ts k None) ≡ Some n → option_map (λ (t : Table). length t.pages) (get_or (ts ++ x ∷ []) k None) ≡ Some n
get_more [] x k n e = absurd (cc e)
get_more (t ∷ ts) x zero n e = e
get_more (t ∷ ts) x (suc k) n e = get_more ts x k n e

pub size_more : (ts : List (Option Table)) (x : Option Table) (c n : ℕ) → option_map (λ (t : Table). length t.pages) (table_at ts c) ≡ Some n → option_map (λ (t : Table). length t.pages) (table_at (ts ++ x ∷ []) c) ≡ Some n
size_more ts x zero n e = absurd (cc e)
size_more ts x (suc k) n e = get_more ts x k n e

abbrev segment : Option Table → Option (Option SegId)
segment o = option_map (λ (t : Table). t.segment) o

-- a cache that is named was there before a temporary one came
named_get : (ts : List (Option Table)) (t : Table) (k : ℕ) (s : SegId) → t.segment ≡ None → segment (get_or (ts ++ Some t ∷ []) k None) ≡ Some (Some s) → segment (get_or ts k None) ≡ Some (Some s)
named_get [] t zero s none e = absurd (let q : Some (Some s) ≡ Some None = sym e ∙ ap (λ (z : Option SegId). Some z) none in cc q)
named_get [] t (suc k) s none e = absurd (cc e)
named_get (x ∷ ts) t zero s none e = e
named_get (x ∷ ts) t (suc k) s none e = named_get ts t k s none e

named_before : (ts : List (Option Table)) (t : Table) (c : ℕ) (s : SegId) → t.segment ≡ None → segment (table_at (ts ++ Some t ∷ []) c) ≡ Some (Some s) → segment (table_at ts c) ≡ Some (Some s)
named_before ts t zero s none e = absurd (cc e)
named_before ts t (suc k) s none e = named_get ts t k s none e

some_size : (o : Option Table) (s : SegId) → segment o ≡ Some (Some s) → (n : ℕ) × (option_map (λ (t : Table). length t.pages) o ≡ Some n)
some_size None s e = absurd (cc e)
some_size (Some t) s e = (length t.pages, refl)

-- A cache more

module _ (b d : Arena) (u : Store) (t : Actors) (live n : ℕ) (cache : CacheId) (nodes : List NodeId) (size : length nodes ≡ n) (made : IsMade b d cache None Zero nodes) (forest : arena.forest_of d ≡ make (pages_with Zero cache n) (arena.forest_of b)) (sound : arena_sound.IsSound d) (stays : CellsStay b d)
    (i : IsManagerSound b u t live) (few : live + n ≤ Rattle.vm_model.specs.declared.limits.TheConstants.LIVE_PAGES) (room : 2 * (live + n) ≤ b.room.nodes) (slots : 2 * (live + n) ≤ length u.slots) where
  abbrev table : Table
  table = new_table None nodes

  named_there : (c : ℕ) (s : SegId) → segment_of d c ≡ Some (Some s) → segment_of b c ≡ Some (Some s)
  named_there c s e = named_before b.caches (new_table None nodes) c s refl (ap (λ (ts : List (Option Table)). option_map (λ (t : Table). t.segment) (table_at ts c)) (sym made.caches) ∙ e)

  pub begun_sized : (h : Option Held) → AreSized b h → AreSized d h
  begun_sized None sized c s e = tt
  begun_sized (Some h) sized c s e =
      let was = named_there c s e in
      let long = some_size (table_at b.caches c) s was in
      sized c s was ∙ long.1 ∙ sym (ap (λ (ts : List (Option Table)). option_map (λ (t : Table). length t.pages) (table_at ts c)) made.caches ∙ size_more b.caches (Some (new_table None nodes)) c long.0 long.1)

  pub begun_full : (h : Option Held) → AreFull b t.page_bytes h → AreFull d t.page_bytes h
  begun_full None full c s e = tt
  begun_full (Some h) full c s e = full c s (named_there c s e)

  pub begun_sound : IsManagerSound d u t (live + n)
  begun_sound = record {
    nodes = whole_begun b d i.nodes cache n None Zero nodes size made forest sound (omega (arith, forest_len b, nodes_most i, few));
    apart = λ one two s e q. i.apart one two s (named_there one s e) (named_there two s q);
    bounded = subst IsBounded (sym forest) (make_keeps_bound (pages_with Zero cache n) (arena.forest_of b) (fresh_zeros b d cache n nodes i.nodes made) i.bounded);
    slots = slots;
    counted = (
        let total : live_in d ≡ live_in b + length (map entry_for nodes) = ap (sum_by page_count) made.caches ∙ sum_by_push page_count b.caches (Some table) in
        omega (arith, total, i.counted, length-map nodes entry_for, size));
    few = few;
    loose = i.loose;
    locked = held_made b d u t.actors cache None Zero nodes made stays i.nodes.sound.kept.listed sound.kept.listed i.locked;
    actors = subst (λ (ts : List (Option Table)). AreRight (λ k. option_map (λ (t : Table). length t.pages) (table_at ts k)) t) (sym made.caches)
        (right_weaker (size_of b) (λ k. option_map (λ (t : Table). length t.pages) (table_at (b.caches ++ Some table ∷ []) k)) t (size_more b.caches (Some table)) i.actors);
    page = i.page;
  }

  pub begun_right : (h : Option Held) → IsStoreRight (world h None b u) → IsStoreRight (world h None d u)
  begun_right h right = made_right (world h None b u) d cache nodes right made (omega (arith, nodes_most i, size, slots))
