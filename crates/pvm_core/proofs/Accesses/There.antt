-- What a translation says of an access: its place, and the owner of its page in the frame.
use Rattle.std.proofs.Common.{◌≡◌, ℕ, ◌+◌, ◌/◌, ◌%◌, ◌<◌, ◌≤◌, Bool, true, false, cond, List, length, take, drop, Option, Some, None, refl, sym, ap, subst, ◌∙◌, inl, inr}
use Rattle.std.specs.Prelude.{Ok, if◌then◌else◌, nat_lt, option_map}
use Rattle.std.proofs.lemmas.Bool.{cases_lt}
use Rattle.std.proofs.lemmas.List.{get_or_past}
use Rattle.vm_ids.specs.Counting.{MapperCounts, RoseBy}
use Rattle.vm_ids.specs.Held.{Held}
use Rattle.vm_ids.specs.declared.command.Command.TheVariants as commands
use Rattle.vm_ids.specs.declared.numbers.ActorId.{ActorId}
use Rattle.vm_ids.specs.declared.numbers.NodeId.{NodeId}
use Rattle.vm_ids.specs.declared.node_name.NodeName.{NodeName}
use Rattle.vm_ids.specs.declared.reply.Reply.TheVariants as replies
use Rattle.vm_ids.specs.Forest.Reading.{owner_of, value_of}
use Rattle.frame_pool.specs.Pool.{bytes_of}
use Rattle.global_map.specs.Pairs.{node_of}
use Rattle.local_cache.specs.Arena.{Arena, HasNode}
use Rattle.local_cache.specs.declared.own_state.OwnState.{OwnState}
use Rattle.local_cache.specs.declared.own_state.OwnState.TheVariants.{Absent, Zero, Resident, Slot, OnSegment}
use Rattle.local_cache.specs.Own.{is_resident, own_of}
use Rattle.local_cache.specs.Reading.{name_of}
use Rattle.local_cache.specs.Whole.{size_of}
use Rattle.local_cache.proofs.Forest.Reading.{forest_of-IsNode}
use Rattle.page_tables.specs.Translations.{translation}
use Rattle.page_tables.specs.declared.entry.Entry.{Entry}
use Rattle.page_tables.specs.declared.entry.Translation.{Translation}
use Rattle.page_tables.proofs.EachEntry.{seen_entry}
use Rattle.residency.specs.StoreForest.{store_forest}
use Rattle.residency.specs.World.{ArePlaced, IsStoreRight, World, is_pulled, world}
use Rattle.residency.specs.declared.store.Store.{Store}
use Rattle.residency.proofs.Translations.Owners.{owner_value, owners, seen_owner}
use Rattle.residency.proofs.Worlds.Homes.{home, page_here}
use Rattle.fault_path.specs.Faults.{IsOwner, found_page}
use Rattle.fault_path.proofs.Calls.Kept.{value_at}
use Rattle.vm_model.specs.Machine.{numbered}
use Rattle.vm_model.specs.Place.{Place, place_of_actor}
use Rattle.vm_model.specs.Run.{CallIs}
use Rattle.regions.specs.AddressSpace.{access_to, place_told}
use Rattle.contexts.specs.Actors.{Actors}
use Rattle.contexts.specs.Placed.{IsAligned}
use Rattle.contexts.proofs.Placing.{each_at, spot}
use Rattle.pvm_core.specs.Access.{IsLoaded}
use Rattle.pvm_core.specs.Manager as manager
use Rattle.pvm_core.specs.Manager.{IsManagerSound, IsValid, Manager, machine_of, nodes_of, state_at}
use Rattle.pvm_core.specs.Translated.{AreTranslationsRight, IsTranslationRight, MayBeWritten, OnlySeen, found_for, name_at, place_of_page}
use Rattle.pvm_core.proofs.Accesses.Found.{no_rise}
use Rattle.pvm_core.proofs.Accesses.Loading.{loaded, owner_there}
use Rattle.pvm_core.proofs.Accesses.AccessedPages.{access_of_page}
use Rattle.pvm_core.proofs.Accesses.Seen.{seen_by, seen_forest, seen_machine, seen_valid, seen_world}
use Rattle.pvm_core.proofs.Answering.Answered.{call_is}
use Rattle.pvm_core.proofs.Answering.Kept.{seen}
use Rattle.pvm_core.proofs.Answering.Reaching.{reach_none}

-- The place of an access, and the node that owns the page there, in the frame of a translation.
pub record IsThere (a : Arena) (s : Store) (t : Actors) (actor address n : ℕ) (to : Translation) : Type 0 where
  pub at : Place
  pub is : place_of_actor t.page_bytes (numbered t.actors actor) address n ≡ Ok at
  pub byte : at.byte ≡ address % t.page_bytes
  pub count : ℕ
  pub size : size_of a at.region.cache ≡ Some count
  pub less : at.page < count
  pub fits : at.byte + n ≤ t.page_bytes
  pub node : NodeId
  pub there : HasNode a node
  pub name : name_of a node ≡ name_at at
  pub owner : NodeId
  pub owns : IsOwner a node owner
  pub bound : node_of s.map to.frame.0 ≡ Some owner
  pub below : to.frame.0 < length s.map
  pub written : to.writable ≡ true → MayBeWritten a at

below_map : (m : List (Option NodeId)) (f : ℕ) (n : NodeId) → node_of m f ≡ Some n → f < length m
below_map m f n at = elim (cases_lt f (length m)) [
  | inl h ↦ h
  | inr h ↦ absurd (let none : None ≡ Some n = sym (get_or_past m f None h) ∙ at in cc none)
]

module _ (a : Arena) (s : Store) (t : Actors) (live : ℕ) (sound : IsManagerSound a s t live) (placed : ArePlaced a s.frames s.slots s.map) (actor address n : ℕ) (to : Translation) where
  by_entry : (e : Entry) → IsTranslationRight a s t e → e.actor.0 ≡ actor → e.page ≡ address / t.page_bytes → e.to ≡ to → nat_lt t.page_bytes (address % t.page_bytes + n) ≡ false → IsThere a s t actor address n to
  by_entry e r of on leads short =
      let at : Place = record r.at { byte = address % t.page_bytes } in
      let first : place_of_page t actor (address / t.page_bytes) ≡ Ok r.at = (λ i. place_of_page t (sym of i) (sym on i)) ∙ r.place in
      let is : place_of_actor t.page_bytes (numbered t.actors actor) address n ≡ Ok at =
      access_of_page t.page_bytes address sound.actors.some n (numbered t.actors actor) r.at (each_at (IsAligned t.page_bytes) t.actors actor sound.actors.aligned) short first in
      let p = spot (size_of a) t actor address n (access_to at) sound.actors (sym (ap place_told is)) in
      let x : NodeName = name_at at in
      let node = forest_of-IsNode a x (sound.nodes.pages (record { 0 = at.region.cache }) at.page p.count p.there p.less) in
      let o = owner_there a sound.nodes node.0 node.1 in
      let held = seen_owner a s.frames s.slots s.map placed x to.frame.0 (r.seen ∙ ap (λ (k : Translation). Some k.frame.0) leads) in
      let both : Some held.owner ≡ Some o.0 = sym held.owns ∙ ap (value_of (owners a)) (sym node.2) ∙ owner_value a sound.nodes.sound.kept.named sound.nodes.consistent.shaped node.0 o.0 node.1 o.1.held o.1.name in
      let bound : node_of s.map to.frame.0 ≡ Some o.0 = held.at ∙ both in
      record {
        at = at;
        is = is;
        byte = refl;
        count = p.count;
        size = p.there;
        less = p.less;
        fits = p.fits;
        node = node.0;
        there = node.1;
        name = node.2;
        owner = o.0;
        owns = o.1;
        bound = bound;
        below = below_map s.map to.frame.0 o.0 bound;
        written = λ w. (let m = r.written (ap (λ (k : Translation). k.writable) leads ∙ w) in record { allowed = m.allowed; alone = m.alone; granted = m.granted });
      }

  pub there_is : AreTranslationsRight a s t → found_for t.page_bytes s.tables actor address n ≡ Some to → IsThere a s t actor address n to
  there_is all found = go (nat_lt t.page_bytes (address % t.page_bytes + n)) refl found
    where
      go : (c : Bool) → nat_lt t.page_bytes (address % t.page_bytes + n) ≡ c → cond c None (translation s.tables actor (address / t.page_bytes)) ≡ Some to → IsThere a s t actor address n to
      go true e f = absurd (cc f)
      go false e f =
          let x = seen_entry (IsTranslationRight a s t) s.tables actor (address / t.page_bytes) to all f in
          by_entry x.0 x.4 x.1 x.2 x.3 e

module _ (a : Arena) (s : Store) (t : Actors) (live : ℕ) (sound : IsManagerSound a s t live) (actor address n : ℕ) (to : Translation) (k : IsThere a s t actor address n to) (h : Option Held) (right : IsStoreRight (world h None a s)) where
  -- what the access reads is what the frame holds
  pub there_value : value_of (store_forest (world h None a s)) (name_at k.at) ≡ Some (found_page (world h None a s) (Some to.frame))
  there_value =
      let w : World = world h None a s in
      let here = home w to.frame.0 k.owner right k.below k.bound in
      ap (value_of (store_forest w)) (sym k.name) ∙ value_at w sound.nodes.sound sound.nodes.consistent.shaped k.node k.owner k.there k.owns ∙ page_here w to.frame.0 k.owner (own_of a k.owner) here.resident here.place

-- A load whose page a translation leads to

not_pulled : (x : OwnState) → is_resident x ≡ true → is_pulled x ≡ false
not_pulled Absent e = absurd (cc e)
not_pulled Zero e = absurd (cc e)
not_pulled (Resident dirty) e = refl
not_pulled (Slot k) e = absurd (cc e)
not_pulled OnSegment e = absurd (cc e)

module _ (a : Arena) (s u : Store) (t : Actors) (live : ℕ) (sound : IsManagerSound a s t live) (all : AreTranslationsRight a s t) (h : Option Held) (valid : IsValid (seen a s t) h) (actor : ActorId) (address n : ℕ) (to : Translation)
    (found : found_for t.page_bytes s.tables actor.0 address n ≡ Some to) (only : OnlySeen s u) (piece : List ℕ) (is : piece ≡ take n (drop (address % t.page_bytes) (bytes_of u.frames to.frame.0))) (counts : MapperCounts) where
  k : IsThere a s t actor.0 address n to
  k = there_is a s t live sound valid.right.tied.placed actor.0 address n to all found

  abbrev p : Manager
  p = seen a s t

  abbrev q : Manager
  q = seen a u t

  here : piece ≡ take n (drop k.at.byte (bytes_of u.frames to.frame.0))
  here = is ∙ ap (λ byte. take n (drop byte (bytes_of u.frames to.frame.0))) (sym k.byte)

  pub load_there : length piece ≡ n → CallIs counts counts (state_at (seen a s t) h) (commands.Load actor address n) (Ok (replies.Bytes piece)) (state_at (seen a u t) h)
  load_there long =
      let value : value_of (manager.forest_of p h) (name_at k.at) ≡ Some (found_page (world h None a u) (Some to.frame)) =
      there_value a s t live sound actor.0 address n to k h valid.right ∙ ap (λ (w : World). Some (found_page w (Some to.frame))) (sym (seen_world s u only h None a)) in
      call_is counts counts p q h h (commands.Load actor address n) (Ok (replies.Bytes piece)) (reach_none (machine_of p h) h counts) (seen_valid s u only a t h valid) tt tt (seen_forest s u only a t h)
      (loaded p q h h None a u actor address n k.at (record { 0 = k.at.region.cache }) k.at.page k.count (Some to.frame) piece _ sound.nodes (λ f. sym k.is) refl refl k.size k.less k.fits
      here long value refl (seen_by s u only a t h) (seen_machine s u only a t h))

  pub loaded_there : (given : Option (List ℕ)) → u.tables ≡ s.tables → IsLoaded counts counts given (seen a s t) (seen a u t) actor.0 address n piece
  loaded_there given same =
      let home_there = home (world h None a s) to.frame.0 k.owner valid.right k.below k.bound in
      record {
        at = k.at;
        place = k.is;
        owner = k.owner;
        has = record { held = k.owns.held; owner = k.owns.name ∙ ap (owner_of (nodes_of p)) k.name };
        frame = Some to.frame;
        found = (home_there.resident, ap (λ (x : Store). node_of x.map to.frame.0) only.same ∙ k.bound);
        bytes = here;
        pulled = subst (λ (b : Bool). RoseBy (if b then 1 else 0) counts.pulls counts.pulls) (sym (not_pulled (own_of a k.owner) home_there.resident)) (no_rise counts.pulls);
        given = λ pulled. absurd (let e : true ≡ false = sym pulled ∙ not_pulled (own_of a k.owner) home_there.resident in cc e);
        translated = ap (λ (ts : List (Option Entry)). option_map (λ (to : Translation). to.frame) (found_for t.page_bytes ts actor.0 address n)) same ∙ ap (option_map (λ (to : Translation). to.frame)) found;
      }
