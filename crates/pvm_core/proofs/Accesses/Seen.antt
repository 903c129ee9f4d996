-- Accesses that leave translations and marks, and nothing else.
use Rattle.std.proofs.Common.{◌≡◌, ℕ, ◌+◌, ◌/◌, ◌%◌, true, false, List, length, Option, Some, None, refl, sym, ap, subst, ◌∙◌}
use Rattle.std.specs.Prelude.{IfSome, IsSome, Ok, nat_lt, option_map, slice_set}
use Rattle.std.proofs.lemmas.List.{length-set}
use Rattle.vm_ids.specs.Held.{Held}
use Rattle.vm_ids.specs.declared.numbers.ActorId.{ActorId}
use Rattle.vm_ids.specs.declared.numbers.FrameId.{FrameId}
use Rattle.vm_ids.specs.declared.node_name.NodeName.{NodeName}
use Rattle.vm_ids.specs.declared.numbers.NodeId.{NodeId}
use Rattle.vm_ids.specs.Forest.Nodes.{node}
use Rattle.vm_ids.specs.Forest.Reading.{owner_of, value_of}
use Rattle.vm_ids.specs.Forest.Shape.{IsWellShaped}
use Rattle.vm_ids.proofs.Forest.Laws.Reading.{owners_own_themselves}
use Rattle.global_map.specs.Pairs.{node_of}
use Rattle.local_cache.specs.Arena.{Arena, HasNode, Table}
use Rattle.local_cache.specs.declared.own_state.OwnState.{OwnState}
use Rattle.local_cache.specs.Own.{own_of}
use Rattle.local_cache.specs.Reading.{forest_of, name_of}
use Rattle.local_cache.specs.Sound as arena
use Rattle.local_cache.specs.Whole.{size_of}
use Rattle.page_tables.specs.Translations.{entry_at}
use Rattle.page_tables.specs.declared.entry.Entry.{Entry}
use Rattle.page_tables.specs.declared.entry.Translation.{Translation}
use Rattle.page_tables.proofs.EachEntry.{each-entered}
use Rattle.residency.specs.Seeing.{IsAlone, seen_in}
use Rattle.residency.specs.StoreForest.{store_forest}
use Rattle.residency.specs.World.{ArePlaced, IsStoreRight, Still, World, world}
use Rattle.residency.specs.declared.store.Store.{Store}
use Rattle.residency.proofs.Forests.StillForest.{still_caches_sound, still_like}
use Rattle.residency.proofs.Translations.Owners.{owner_seen, owner_value, owners}
use Rattle.fault_path.specs.Faults.{IsFound, IsOwner}
use Rattle.fault_path.proofs.Calls.Kept.{still_owner, still_shaped}
use Rattle.page_commands.specs.Homes.{IsWritable}
use Rattle.contexts.specs.Actors.{Actors}
use Rattle.contexts.specs.Placed.{AreRight, IsAligned}
use Rattle.contexts.proofs.Placing.{each_at}
use Rattle.vm_model.specs.Machine.{Machine, numbered}
use Rattle.vm_model.specs.Outcome.{HasWholePages}
use Rattle.vm_model.specs.PageForest.{PageForest}
use Rattle.vm_model.specs.Place.{Place, place_of_actor}
use Rattle.pvm_core.specs.Manager as manager
use Rattle.pvm_core.specs.Manager.{IsManagerSound, IsValid, machine_by, machine_of, state_at}
use Rattle.pvm_core.specs.Translated.{AreTranslationsRight, IsTranslationRight, Leads, LeadsFound, MayBeWritten, OnlySeen, found_for, frame_to_write, name_at}
use Rattle.pvm_core.proofs.Accesses.AccessedPages.{page_of_access}
use Rattle.pvm_core.proofs.Answering.Kept.{seen}
use Rattle.pvm_core.proofs.Translating.Tables.{led_sound}
use Rattle.pvm_core.proofs.Translating.Alike.{still_right}

pub same_seen : (s : Store) → OnlySeen s s
same_seen s = record { same = refl; places = refl; marks = refl }

-- a frame is marked
pub marked : (s t : Store) (f : ℕ) → t ≡ record s { marks = slice_set s.marks f true } → OnlySeen s t
marked s t f e = record {
  same = e ∙ (λ i. record s { tables = ap (λ (u : Store). u.tables) (sym e) i; marks = ap (λ (u : Store). u.marks) (sym e) i });
  places = ap (λ (u : Store). length u.tables) e;
  marks = ap (λ (u : Store). length u.marks) e ∙ length-set s.marks f true;
}

pub led_found : (b : ℕ) (actor : ActorId) (address : ℕ) (found : Option FrameId) (s t : Store) → LeadsFound b actor address found s t → OnlySeen s t
led_found b actor address None s t e = subst (OnlySeen s) (sym e) (same_seen s)
led_found b actor address (Some f) s t l = l.only

module _ (s t : Store) (only : OnlySeen s t) where
  pub seen_world : (h : Option Held) (size : Option ℕ) (a : Arena) → world h size a t ≡ world h size a s
  seen_world h size a = (λ i. world h size a (only.same i)) ∙ (λ i. record (world h size a s) { marks = only.marks i; places = only.places i })

  pub seen_sound : (a : Arena) (u : Actors) (live : ℕ) → IsManagerSound a s u live → IsManagerSound a t u live
  seen_sound a u live k = subst (λ (x : Store). IsManagerSound a x u live) (sym only.same) (led_sound a s t.tables t.marks u live k)

  module _ (a : Arena) (u : Actors) (h : Option Held) where
    pub seen_forest : manager.forest_of (seen a t u) h ≡ manager.forest_of (seen a s u) h
    seen_forest = ap store_forest (seen_world h None a)

    pub seen_by : (f : PageForest) → machine_by (seen a t u) f ≡ machine_by (seen a s u) f
    seen_by f = λ i. machine_by (seen a (only.same i) u) f

    pub seen_machine : machine_of (seen a t u) h ≡ machine_of (seen a s u) h
    seen_machine = ap (machine_by (seen a t u)) seen_forest ∙ seen_by (manager.forest_of (seen a s u) h)

    pub seen_state : state_at (seen a t u) h ≡ state_at (seen a s u) h
    seen_state = λ i. record { machine = seen_machine i; forest = Some (seen_forest i); segments = (state_at (seen a s u) h).segments }

    pub seen_valid : IsValid (seen a s u) h → IsValid (seen a t u) h
    seen_valid v = record {
      right = subst IsStoreRight (sym (seen_world h None a)) v.right;
      sized = v.sized;
      full = v.full;
      whole = subst (λ (m : Machine). IfSome h (λ _. HasWholePages m)) (sym seen_machine) v.whole;
    }

  same_map : t.map ≡ s.map
  same_map = ap (λ (x : Store). x.map) only.same

  moved : (a : Arena) (u : Actors) (e : Entry) → IsTranslationRight a s u e → IsTranslationRight a t u e
  moved a u e r = still_right a a s t u e r (λ there. ap (λ (m : List (Option NodeId)). seen_in a m (name_at r.at)) same_map ∙ there) (λ w alone. alone) (λ granted. granted)

  -- where no translation came
  pub seen_right : (a : Arena) (u : Actors) → t.tables ≡ s.tables → AreTranslationsRight a s u → AreTranslationsRight a t u
  seen_right a u same all place e is = moved a u e (all place e (ap (λ (ts : List (Option Entry)). entry_at ts place) (sym same) ∙ is))

-- a translation that is right was entered
pub led_right : (actor : ActorId) (address : ℕ) (to : Translation) (a : Arena) (s t : Store) (u : Actors) → Leads u.page_bytes actor address to s t → AreTranslationsRight a s u
    → IsTranslationRight a s u (record { actor = actor; page = address / u.page_bytes; to = to }) → AreTranslationsRight a t u
led_right actor address to a s t u l all new place e is =
    let entry : Entry = record { actor = actor; page = address / u.page_bytes; to = to } in
    let i = l.entered in
    moved s t l.only a u e (each-entered (IsTranslationRight a s u) s.tables i.0 entry i.2.0.below all new place e (ap (λ (ts : List (Option Entry)). entry_at ts place) (sym i.2.1) ∙ is))

-- Calls that bring pages in

-- a page may be written still where the tables of the caches are the same
pub same_grants : (a b : Arena) → b.caches ≡ a.caches → (x : NodeName) → IsWritable a x → IsWritable b x
same_grants a b same x w = subst (λ (ts : List (Option Table)). IsWritable (record a { caches = ts }) x) (sym same) w

-- the frames have pages of the size that the mapper takes
pub fits_frames : (told : Option ℕ) (m n : ℕ) → m ≡ n → IfSome told (λ size. size ≡ m) → IfSome told (λ size. size ≡ n)
fits_frames None m n e f = tt
fits_frames (Some size) m n e f = f ∙ e

-- A translation for the page of an access is right that leads to where the page is seen.
pub led_page : (sizes : ℕ → Option ℕ) (a : Arena) (s : Store) (u : Actors) (actor : ActorId) (address n : ℕ) (to : Translation) (at : Place) → AreRight sizes u → place_of_actor u.page_bytes (numbered u.actors actor.0) address n ≡ Ok at
    → seen_in a s.map (name_at at) ≡ Some to.frame.0 → (to.writable ≡ true → MayBeWritten a at) → IsTranslationRight a s u (record { actor = actor; page = address / u.page_bytes; to = to })
led_page sizes a s u actor address n to at right is seen written = record {
  at = record at { byte = 0 };
  place = page_of_access u.page_bytes address right.some n (numbered u.actors actor.0) at (each_at (IsAligned u.page_bytes) u.actors actor.0 right.aligned) is;
  seen = seen;
  written = λ w. (let m = written w in record { allowed = m.allowed; alone = m.alone; granted = m.granted });
}

-- The page of an access is seen where its owner was found.
module _ (told now : Option Held) (size then : Option ℕ) (a b : Arena) (s t : Store) (still : Still (world told size a s) (world now then b t)) (sound : arena.IsSound a) (shaped : IsWellShaped (forest_of a)) (n o : NodeId) (there : HasNode a n) (owner : IsOwner a n o) where
  seen_there : (f : ℕ) → node_of t.map f ≡ Some o → seen_in b t.map (name_of a n) ≡ Some f
  seen_there f at =
      let old : World = world told size a s in
      let new : World = world now then b t in
      let like = still_like a b still.stays.caches in
      let named = (still_caches_sound old new still sound).kept.named in
      let own = still_owner old new still sound n o owner in
      let owns : value_of (owners b) (name_of a n) ≡ Some o = ap (value_of (owners b)) (sym (like.name n)) ∙ owner_value b named (still_shaped old new still sound shaped) n o (like.held n ∙ there) own.held own.name in
      owner_seen b t.frames t.slots t.map still.stays.right.tied.placed (name_of a n) f (record { owner = o; owns = owns; at = at })

  -- so a translation may lead there
  pub found_seen : (u : Actors) (actor : ActorId) (address bytes : ℕ) (at : Place) → AreRight (size_of b) u → place_of_actor u.page_bytes (numbered u.actors actor.0) address bytes ≡ Ok at → name_of a n ≡ name_at at
      → (found : Option FrameId) → IsFound (world now then b t) o (own_of a o) found
      → IfSome found (λ f. IsTranslationRight b t u (record { actor = actor; page = address / u.page_bytes; to = record { frame = f; writable = false } }))
  found_seen u actor address bytes at right is name None f = tt
  found_seen u actor address bytes at right is name (Some x) f =
      led_page (size_of b) b t u actor address bytes (record { frame = x; writable = false }) at right is (ap (seen_in b t.map) (sym name) ∙ seen_there x.0 f.bound.1) (λ w. absurd (cc w))

-- those that a load leaves
pub found_right : (actor : ActorId) (address : ℕ) (found : Option FrameId) (a : Arena) (s t : Store) (u : Actors) → LeadsFound u.page_bytes actor address found s t → AreTranslationsRight a s u
    → IfSome found (λ f. IsTranslationRight a s u (record { actor = actor; page = address / u.page_bytes; to = record { frame = f; writable = false } })) → AreTranslationsRight a t u
found_right actor address None a s t u l all new = subst (λ (x : Store). AreTranslationsRight a x u) (sym l) all
found_right actor address (Some f) a s t u l all new = led_right actor address (record { frame = f; writable = false }) a s t u l all new

-- and the next load finds it
pub found_led : (b : ℕ) (actor : ActorId) (address n : ℕ) (found : Option FrameId) (s t : Store) → LeadsFound b actor address found s t → nat_lt b (address % b + n) ≡ false
    → IfSome found (λ f. option_map (λ (to : Translation). to.frame) (found_for b t.tables actor.0 address n) ≡ Some f)
found_led b actor address n None s t l short = tt
found_led b actor address n (Some f) s t l short = rw short (ap (option_map (λ (to : Translation). to.frame)) l.found)

-- A page that is a node's alone

pub alone_owner : (a : Arena) → IsWellShaped (forest_of a) → (x : NodeName) → IsAlone a x → owner_of (forest_of a) x ≡ x
alone_owner a shaped x alone = go (node (forest_of a) x).own refl alone.owned
  where
    go : (o : Option OwnState) → (node (forest_of a) x).own ≡ o → IsSome o → owner_of (forest_of a) x ≡ x
    go None e some = absurd (cc some)
    go (Some v) e some = owners_own_themselves (forest_of a) shaped x v e

-- it is seen in the node's frame
pub alone_seen : (a : Arena) (s : Store) → ArePlaced a s.frames s.slots s.map → arena.IsSound a → IsWellShaped (forest_of a) → (n : NodeId) → HasNode a n → IsAlone a (name_of a n) → (f : ℕ) → node_of s.map f ≡ Some n
    → seen_in a s.map (name_of a n) ≡ Some f
alone_seen a s placed sound shaped n there alone f at =
    owner_seen a s.frames s.slots s.map placed (name_of a n) f
    (record { owner = n; owns = owner_value a sound.kept.named shaped n n there there (sym (alone_owner a shaped (name_of a n) alone)); at = at })

-- A store finds the translation that one before it left.
pub led_writes : (b : ℕ) (actor : ActorId) (address n : ℕ) (to : Translation) (s t : Store) → Leads b actor address to s t → to.writable ≡ true → nat_lt b (address % b + n) ≡ false
    → IsSome (frame_to_write (found_for b t.tables actor.0 address n))
led_writes b actor address n to s t l writable short =
    let found : found_for b t.tables actor.0 address n ≡ Some to = rw short l.found in
    subst (λ (o : Option Translation). IsSome (frame_to_write o)) (sym found) (rw writable refl)
