-- Which accesses are ready, and which are admitted, from one manager to the next.
use Rattle.std.proofs.Common.{◌≡◌, ℕ, ◌+◌, ◌≤◌, Bool, true, false, cond, Option, Some, None, length, refl, sym, ap, subst, ◌∙◌, mod-lt, arith}
use Rattle.std.specs.Prelude.{◌%◌, Result, Ok, Err, IsOk, nat_lt}
use Rattle.std.specs.Result.{IsOkAnd}
use Rattle.std.proofs.lemmas.Bool.{false≢true}
use Rattle.vm_ids.specs.declared.command.Command.TheVariants as commands
use Rattle.vm_ids.specs.declared.node_name.NodeName.{NodeName}
use Rattle.vm_ids.specs.declared.refusal.Refusal.{Refusal}
use Rattle.vm_ids.specs.declared.refusal.Refusal.TheVariants as refusals
use Rattle.local_cache.specs.Arena.{Arena, HasNode}
use Rattle.residency.specs.declared.store.Store.{Store}
use Rattle.page_commands.specs.Homes.{IsWritable}
use Rattle.vm_model.specs.Machine.{Actor, numbered}
use Rattle.vm_model.specs.Place.{Place, place_of_actor, placed, region_at}
use Rattle.contexts.specs.Actors.{Actors}
use Rattle.gmi_calls.specs.Parking.{NoMoreReady, StillAdmits}
use Rattle.pvm_core.specs.Access.{Admits, IsFoundIn, is_page_at_hand, is_ready, is_ready_at, place_of}
use Rattle.pvm_core.specs.Manager.{Manager}
use Rattle.pvm_core.specs.Translated.{name_at}
use Rattle.pvm_core.proofs.Accesses.AccessedPages.{ends_within, lt_none}
use Rattle.pvm_core.proofs.Answering.Kept.{seen}
use Rattle.vm_ids.specs.Held.{Held}
use Rattle.vm_ids.specs.declared.numbers.FrameId.{FrameId}
use Rattle.vm_ids.specs.declared.numbers.NodeId.{NodeId}
use Rattle.local_cache.specs.declared.own_state.OwnState.{OwnState}
use Rattle.local_cache.specs.declared.own_state.OwnState.TheVariants.{Absent, Zero, Resident, Slot, OnSegment}
use Rattle.local_cache.specs.Own.{is_resident, own_of}
use Rattle.page_tables.specs.declared.entry.Translation.{Translation}
use Rattle.residency.specs.World.{IsStoreRight, world}
use Rattle.residency.proofs.Worlds.Homes.{home}
use Rattle.fault_path.specs.Faults.{is_at_hand, IsOwner}
use Rattle.pvm_core.specs.Manager.{IsManagerSound}
use Rattle.pvm_core.proofs.Accesses.AtHand.{owner_hand}
use Rattle.local_cache.specs.Reading.{name_of}
use Rattle.pvm_core.proofs.Accesses.Seen.{same_grants}
use Rattle.pvm_core.proofs.Accesses.There.{IsThere}

-- one byte at an address has the place that more bytes have there
pub place_one : (b address n : ℕ) → 1 ≤ b → (o : Option Actor) (at : Place) → place_of_actor b o address n ≡ Ok at → place_of_actor b o address 1 ≡ Ok at
place_one b address n some None at e = absurd (cc e)
place_one b address n some (Some rs) at e =
    let within : nat_lt b (address % b + n) ≡ false = ends_within b address n (Some rs) at e in
    let one : nat_lt b (address % b + 1) ≡ false = lt_none b (address % b + 1) (let low = mod-lt address some in omega (arith, low)) in
    let there : placed b address (region_at b address rs) ≡ Ok at = sym (ap (λ (c : Bool). cond c (Err refusals.Crosses) (placed b address (region_at b address rs))) within) ∙ e in
    ap (λ (c : Bool). cond c (Err refusals.Crosses) (placed b address (region_at b address rs))) one ∙ there

-- so an access is ready where the page at its place is at hand
pub ready_is : (a : Arena) (s : Store) (t : Actors) → 1 ≤ t.page_bytes → (actor address n : ℕ) (at : Place) → place_of_actor t.page_bytes (numbered t.actors actor) address n ≡ Ok at → is_ready (seen a s t) actor address ≡ is_page_at_hand a (name_at at)
ready_is a s t some actor address n at e = ap (is_ready_at (seen a s t)) (place_one t.page_bytes address n some (numbered t.actors actor) at e)

-- and where the owner of that page is
pub ready_hand : (a : Arena) (s : Store) (t : Actors) (live : ℕ) → IsManagerSound a s t live → (p : Manager) → seen a s t ≡ p → (actor address n : ℕ) (at : Place) → place_of_actor t.page_bytes (numbered t.actors actor) address n ≡ Ok at → (node owner : NodeId) → HasNode a node → IsOwner a node owner → name_of a node ≡ name_at at
    → is_ready p actor address ≡ is_at_hand (own_of a owner)
ready_hand a s t live sound p view actor address n at e node owner held owns name = subst (λ (p : Manager). is_ready p actor address ≡ is_at_hand (own_of a owner)) view
    (ready_is a s t sound.actors.some actor address n at e ∙ ap (is_page_at_hand a) (sym name) ∙ owner_hand a sound.nodes.sound sound.nodes.consistent.shaped node owner held owns)

module _ (p q : Manager) (bytes : q.page_bytes ≡ p.page_bytes) (actors : q.actors ≡ p.actors) where
  same_place : (actor address n : ℕ) → place_of q actor address n ≡ place_of p actor address n
  same_place actor address n = λ i. place_of_actor (bytes i) (numbered (actors i) actor) address n

  -- no more pages are at hand
  pub no_more : ((x : NodeName) → is_page_at_hand q.caches x ≡ true → is_page_at_hand p.caches x ≡ true) → NoMoreReady is_ready p q
  no_more hands actor address e = go (place_of p actor address 1) (ap (is_ready_at q) (sym (same_place actor address 1)) ∙ e)
    where
      go : (r : Result Place Refusal) → is_ready_at q r ≡ true → is_ready_at p r ≡ true
      go (Ok at) e = hands (name_at at) e
      go (Err r) e = absurd (false≢true e)

  -- and what may be written still may
  pub still_admits : ((x : NodeName) → IsWritable p.caches x → IsWritable q.caches x) → StillAdmits Admits p q
  still_admits writable (commands.Load actor address n) e = subst IsOk (sym (same_place actor.0 address n)) e
  still_admits writable (commands.Store actor address piece) e = subst (λ (r : Result Place Refusal). IsOkAnd r (λ at. (at.region.may_write ≡ true) × IsWritable q.caches (name_at at))) (sym (same_place actor.0 address (length piece))) (go (place_of p actor.0 address (length piece)) e)
    where
      go : (r : Result Place Refusal) → IsOkAnd r (λ at. (at.region.may_write ≡ true) × IsWritable p.caches (name_at at)) → IsOkAnd r (λ at. (at.region.may_write ≡ true) × IsWritable q.caches (name_at at))
      go (Ok at) e = (e.0, writable (name_at at) e.1)
      go (Err r) e = e
  still_admits writable command e = e

-- of managers that are seen
module _ (a b : Arena) (s u : Store) (t : Actors) {p : Manager} (view : seen a s t ≡ p) where
  pub seen_no_more : ((x : NodeName) → is_page_at_hand b x ≡ true → is_page_at_hand a x ≡ true) → NoMoreReady is_ready p (seen b u t)
  seen_no_more hands = subst (λ (p : Manager). NoMoreReady is_ready p (seen b u t)) view (no_more (seen a s t) (seen b u t) refl refl hands)

  pub seen_admits : b.caches ≡ a.caches → StillAdmits Admits p (seen b u t)
  seen_admits tables = subst (λ (p : Manager). StillAdmits Admits p (seen b u t)) view (still_admits (seen a s t) (seen b u t) refl refl (same_grants a b tables))

pub here_hand : (x : OwnState) → is_resident x ≡ true → is_at_hand x ≡ true
here_hand Absent e = absurd (cc e)
here_hand Zero e = refl
here_hand (Resident d) e = refl
here_hand (Slot k) e = absurd (cc e)
here_hand OnSegment e = absurd (cc e)

-- and so is the page of a node that was found
pub found_hand : (p : Manager) (o : NodeId) (found : Option FrameId) → IsFoundIn p o found → is_at_hand (own_of p.caches o) ≡ true
found_hand p o None zero = ap is_at_hand zero
found_hand p o (Some f) there = here_hand (own_of p.caches o) there.0

-- an access whose page a translation leads to is ready
pub there_ready : (a : Arena) (s : Store) (t : Actors) (live : ℕ) → IsManagerSound a s t live → (h : Option Held) → IsStoreRight (world h None a s) → (actor address n : ℕ) (to : Translation) → IsThere a s t actor address n to → is_ready (seen a s t) actor address ≡ true
there_ready a s t live sound h right actor address n to k =
    let here = home (world h None a s) to.frame.0 k.owner right k.below k.bound in
    ready_hand a s t live sound (seen a s t) refl actor address n k.at k.is k.node k.owner k.there k.owns k.name ∙ here_hand (own_of a k.owner) here.resident
