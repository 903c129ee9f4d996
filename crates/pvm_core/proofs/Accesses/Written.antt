-- A store to a page which a translation for writing leads to: nothing is owned, and nothing handed
-- over.
use Rattle.pvm_core.proofs.Accesses.Ready.{here_hand}
use Rattle.pvm_core.proofs.Accesses.AtHand.{dirtied_hand}
use Rattle.pvm_core.specs.Access.{is_page_at_hand}
use Rattle.vm_ids.specs.declared.node_name.NodeName.{NodeName}
use Rattle.std.proofs.Common.{◌≡◌, ℕ, ◌%◌, ◌<◌, Bool, true, false, cond, List, length, Option, Some, None, refl, sym, ap, subst, ◌∙◌, arith, inl}
use Rattle.std.specs.Prelude.{Ok, option_map, slice_set}
use Rattle.vm_ids.specs.Counting.{MapperCounts}
use Rattle.vm_ids.specs.Held.{Held}
use Rattle.vm_ids.specs.declared.command.Command.TheVariants as commands
use Rattle.vm_ids.specs.declared.numbers.ActorId.{ActorId}
use Rattle.vm_ids.specs.declared.numbers.FrameId.{FrameId}
use Rattle.vm_ids.specs.declared.reply.Reply.TheVariants as replies
use Rattle.vm_ids.specs.Forest.Reading.{owner_of}
use Rattle.vm_ids.specs.Forest.Rules.{heir, write}
use Rattle.frame_pool.specs.Pool.{bytes_of, with_bytes}
use Rattle.local_cache.specs.declared.own_state.OwnState.{OwnState}
use Rattle.local_cache.specs.declared.own_state.OwnState.TheVariants.{Absent, Zero, Resident, Slot, OnSegment}
use Rattle.local_cache.specs.Arena.{Arena, Table, table_at, table_of, with_own}
use Rattle.local_cache.specs.Own.{is_absent, is_resident, own_of}
use Rattle.local_cache.specs.Reading as arena
use Rattle.local_cache.specs.Reading.{name_of}
use Rattle.local_cache.proofs.Nodes.OwnStates.{own_same, own_other}
use Rattle.page_tables.specs.Translations.{entry_at}
use Rattle.page_tables.specs.declared.entry.Translation.{Translation}
use Rattle.residency.specs.Seeing.{IsAlone}
use Rattle.residency.specs.StoreForest.{store_forest}
use Rattle.residency.specs.World.{Still, World, world}
use Rattle.residency.specs.declared.store.Store.{Store}
use Rattle.residency.proofs.Forests.StillForest.{still_copies, still_forest}
use Rattle.residency.proofs.Translations.Kept.{stays_drops}
use Rattle.residency.proofs.Translations.Lost.{tables_same}
use Rattle.residency.proofs.Worlds.Homes.{IsHome, home}
use Rattle.fault_path.specs.Faults.{Kept, readied}
use Rattle.fault_path.proofs.Calls.Kept.{still_kept}
use Rattle.fault_path.proofs.OnePage.DirtyPage.{dirtied, dirty_still}
use Rattle.fault_path.proofs.Rules.ReadyForest.{kept_ready}
use Rattle.vm_model.specs.Answering.{overwrite}
use Rattle.vm_model.specs.Following.{written_at}
use Rattle.vm_model.specs.Laws.{IsFollowed}
use Rattle.vm_model.specs.PageForest.{PageForest}
use Rattle.vm_model.specs.Place.{place}
use Rattle.vm_model.specs.Run.{CallIs, State}
use Rattle.contexts.specs.Actors.{Actors}
use Rattle.pvm_core.specs.Manager.{IsManagerSound, IsValid, Manager, forest_of, machine_by, machine_of, state_at}
use Rattle.pvm_core.specs.Reaching.{Reach}
use Rattle.pvm_core.specs.Translated.{AreTranslationsRight, MayBeWritten, OnlySeen, frame_to_write, name_at}
use Rattle.pvm_core.proofs.Accesses.Loading.{sized_table}
use Rattle.pvm_core.proofs.Accesses.Seen.{alone_owner, marked, same_grants, seen_sound, seen_state, seen_valid}
use Rattle.pvm_core.proofs.Accesses.Stored.{bytes_right, bytes_sound, dirty_here, stored, undenied, whole_stored}
use Rattle.pvm_core.proofs.Accesses.Storing.{stored_forest}
use Rattle.pvm_core.proofs.Accesses.There.{IsThere}
use Rattle.pvm_core.proofs.Answering.Answered.{call_is}
use Rattle.pvm_core.proofs.Answering.Kept.{kept_by, kept_sound, seen}
use Rattle.pvm_core.proofs.Answering.Reaching.{reach_none}
use Rattle.pvm_core.proofs.Homes.Full.{full_after}
use Rattle.pvm_core.proofs.Homes.Sized.{sized_after}
use Rattle.pvm_core.proofs.Meaning.Values.{followed_of}
use Rattle.pvm_core.proofs.Readiness.Granted.{writable_node}
use Rattle.pvm_core.proofs.Translating.Dropped.{dropped_right, fewer_right}

-- a translation for writing, by its frame
pub record IsWritten (o : Option Translation) (f : FrameId) : Type 0 where
  pub to : Translation
  pub is : o ≡ Some to
  pub writable : to.writable ≡ true
  pub frame : to.frame ≡ f

pub is_written : (o : Option Translation) (f : FrameId) → Some f ≡ frame_to_write o → IsWritten o f
is_written None f e = absurd (cc e)
is_written (Some to) f e = go to.writable refl e
  where
    go : (b : Bool) → to.writable ≡ b → Some f ≡ cond b (Some to.frame) None → IsWritten (Some to) f
    go true w e = record { to = to; is = refl; writable = w; frame = (let same : f ≡ to.frame = cc e in sym same) }
    go false w e = absurd (cc e)

here_own : (x : OwnState) → is_resident x ≡ true → is_absent x ≡ false
here_own Absent e = absurd (cc e)
here_own Zero e = refl
here_own (Resident d) e = refl
here_own (Slot s) e = refl
here_own OnSegment e = refl

module _ (a : Arena) (s : Store) (t : Actors) (live : ℕ) (sound : IsManagerSound a s t live) (all : AreTranslationsRight a s t) (h : Option Held) (valid : IsValid (seen a s t) h) (actor : ActorId) (address : ℕ) (bytes : List ℕ) (to : Translation)
    (k : IsThere a s t actor.0 address (length bytes) to) (writable : to.writable ≡ true) where
  -- the page is dirty
  abbrev pub dirty : Arena
  dirty = with_own a k.owner (Resident true)

  abbrev new : List ℕ
  new = overwrite (address % t.page_bytes) bytes (bytes_of s.frames to.frame.0)

  -- and has other bytes
  abbrev put : Store
  put = record s { frames = with_bytes s.frames to.frame.0 new }

  abbrev p : Manager
  p = seen a s t

  abbrev q : Manager
  q = seen dirty put t

  abbrev w : World
  w = world h None a s

  may : MayBeWritten a k.at
  may = k.written writable

  owner_is : owner_of (arena.forest_of a) (name_of a k.node) ≡ name_of a k.node
  owner_is = alone_owner a sound.nodes.consistent.shaped (name_of a k.node) (subst (IsAlone a) (sym k.name) may.alone)

  -- the page is the node's own
  name : name_of a k.owner ≡ name_at k.at
  name = k.owns.name ∙ owner_is ∙ k.name

  here : IsHome (world h None a s) to.frame.0 k.owner
  here = home w to.frame.0 k.owner valid.right k.below k.bound

  still : Still (world h None a s) (dirtied (world h None a s) k.owner)
  still = dirty_still w k.owner valid.right k.owns.held here.resident (writable_node a k.owner (record { 0 = k.at.region.cache }) k.at.page name may.granted)

  kept : Kept (world h None a s) (dirtied (world h None a s) k.owner)
  kept = still_kept w (dirtied w k.owner) still sound.nodes.sound sound.nodes.consistent.shaped refl

  last : heir (arena.forest_of a) (name_of a k.owner) ≡ None
  last = ap (heir (arena.forest_of a)) name ∙ may.alone.last

  ready : store_forest (dirtied (world h None a s) k.owner) ≡ readied (store_forest (world h None a s)) (name_at k.at)
  ready = still_forest w (dirtied w k.owner) still
      ∙ kept_ready w sound.nodes.sound sound.nodes.consistent.shaped k.owner k.owns.held (record { node = k.owns.held; own_page = here_own (own_of a k.owner) here.resident }) last
      ∙ ap (readied (store_forest w)) name

  sound_put : IsManagerSound dirty put t live
  sound_put = bytes_sound dirty s put t live to.frame.0 new refl (kept_sound a dirty s s h h None None kept t live sound valid.right.tied.placed.bound)

  by : (f : PageForest) → machine_by q f ≡ machine_by p f
  by f = kept_by a dirty s s h h None None kept t f

  rule : forest_of q h ≡ write (forest_of p h) (name_at k.at) (option_map (overwrite k.at.byte bytes))
  rule = (λ i. store_forest (world h None dirty (record s { frames = with_bytes s.frames to.frame.0 (overwrite (sym k.byte i) bytes (bytes_of s.frames to.frame.0)) })))
      ∙ stored_forest w (dirtied w k.owner) to.frame.0 k.owner (name_at k.at) k.at.byte bytes kept ready (kept.nodes.name k.owner ∙ name) k.below k.bound

  table : (x : Table) × (table_of a k.at.region.cache ≡ Some x) × (length x.pages ≡ k.count)
  table = sized_table (table_of a k.at.region.cache) k.count k.size

  less : k.at.page < length table.0.pages
  less = omega (arith, k.less, table.2)

  followed : IsFollowed (machine_of (seen a s t) h) (forest_of (seen a s t) h)
  followed = followed_of p h sound.nodes sound.actors.some valid.whole

  is : (f : PageForest) → Ok k.at ≡ place (machine_by p f) actor.0 address (length bytes)
  is f = sym k.is

  reach : (c : MapperCounts) → Reach (machine_of (seen a s t) h) h h c c
  reach = reach_none (machine_of p h) h

  valid_put : MapperCounts → IsValid q h
  valid_put counts = record {
    right = bytes_right h dirty s put to.frame.0 new refl still.stays.right (dirty_here dirty s to.frame.0 k.owner k.bound (own_same a k.owner (Resident true)));
    sized = sized_after p dirty h h (λ cache. ap (λ (ts : List (Option Table)). option_map (λ (t : Table). t.segment) (table_at ts cache)) kept.nodes.caches) (λ cache. ap (λ (ts : List (Option Table)). option_map (λ (t : Table). length t.pages) (table_at ts cache)) kept.nodes.caches) (reach counts).pushes (reach counts).rule valid.sized;
    full = full_after p dirty h h (λ cache. ap (λ (ts : List (Option Table)). option_map (λ (t : Table). t.segment) (table_at ts cache)) kept.nodes.caches) (reach counts).pushes (reach counts).rule valid.whole valid.full;
    whole = whole_stored p q h h actor address k.at bytes table.0 table.1 less k.fits sound.actors.some kept.nodes.caches (refl, refl, refl, refl) sound.nodes sound_put.nodes valid.whole followed rule refl by;
  }

  answer_put : (counts : MapperCounts) → CallIs counts counts (state_at (seen a s t) h) (commands.Store actor address bytes) (Ok replies.Done) (state_at q h)
  answer_put counts = call_is counts counts p q h h (commands.Store actor address bytes) (Ok replies.Done) (reach counts) (valid_put counts) tt tt (rule ∙ ap (λ at. written_at (forest_of p h) at bytes) (is (forest_of p h)))
      (stored p q h h actor address k.at bytes table.0 table.1 less k.fits sound.actors.some kept.nodes.caches (refl, refl, refl, refl) sound.nodes sound_put.nodes valid.whole followed rule refl by
      is may.allowed (λ f s told. undenied p h sound.nodes valid.right (record { 0 = k.at.region.cache }) k.at.page k.count k.size k.less may.granted f h s refl told) _)

  module _ (u : Store) (written : u ≡ record s { frames = with_bytes s.frames to.frame.0 (overwrite (address % t.page_bytes) bytes (bytes_of s.frames to.frame.0)); marks = slice_set s.marks to.frame.0 true }) where
    only : OnlySeen put u
    only = marked put u to.frame.0 written

    pub written_sound : IsManagerSound dirty u t live
    written_sound = seen_sound put u only dirty t live sound_put

    pub written_translated : AreTranslationsRight dirty u t
    written_translated =
        let drops = stays_drops h h None None a dirty s s valid.right.tied still.stays (tables_same s s refl refl) (λ n. ⊥) (λ f n at. inl at) in
        let moved = dropped_right (λ n. ⊥) a dirty s s t drops (same_grants a dirty kept.nodes.caches) all in
        fewer_right dirty s u t (ap (λ (v : Store). v.map) written) (λ place e is. ap (λ (v : Store). entry_at v.tables place) (sym written) ∙ is) moved

    pub written_valid : MapperCounts → IsValid (seen dirty u t) h
    written_valid counts = seen_valid put u only dirty t h (valid_put counts)

    pub written_answer : (counts : MapperCounts) → CallIs counts counts (state_at (seen a s t) h) (commands.Store actor address bytes) (Ok replies.Done) (state_at (seen dirty u t) h)
    written_answer counts = subst (λ (x : State). CallIs counts counts (state_at p h) (commands.Store actor address bytes) (Ok replies.Done) x) (sym (seen_state put u only dirty t h)) (answer_put counts)

  pub written_copies : dirty.copies ≡ a.copies
  written_copies = still_copies a dirty still.stays.caches

  pub written_made : dirty.made ≡ a.made
  written_made = kept.made

  -- no more pages are at hand
  pub written_hands : (x : NodeName) → is_page_at_hand (with_own a k.owner (Resident true)) x ≡ true → is_page_at_hand a x ≡ true
  written_hands = dirtied_hand (world h None a s) (dirtied (world h None a s) k.owner) still sound.nodes.sound sound.nodes.consistent.shaped k.owner (here_hand (own_of a k.owner) here.resident) (λ m d. own_other a k.owner m (Resident true) d)

  pub written_tables : dirty.caches ≡ a.caches
  written_tables = kept.nodes.caches
