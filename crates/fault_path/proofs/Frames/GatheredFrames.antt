-- Frames that are gathered: one is taken beside another, and a taken one is filled.
use Rattle.std.proofs.Common.{◌≡◌, ◌≢◌, ℕ, zero, suc, ◌<◌, ◌||◌, Bool, true, false, List, [], ◌∷◌, length, set, get_or, Option, Some, None, is_some, refl, sym, ap, ◌∙◌, arith, inl, inr, length-set}
use Rattle.std.specs.Prelude.{option_map}
use Rattle.std.proofs.lemmas.Bool.{cases_lt}
use Rattle.std.proofs.lemmas.List.{get_or-set_same, get_or-set_other, get_or_past}
use Rattle.vm_ids.specs.Counting.{MapperCounts}
use Rattle.vm_ids.specs.declared.numbers.NodeId.{NodeId}
use Rattle.vm_ids.proofs.Places.{back, true_below}
use Rattle.frame_pool.specs.Pool.{bytes_of, is_held, is_pinned, with_bytes}
use Rattle.global_map.specs.Pairs.{node_of}
use Rattle.local_cache.specs.Own.{is_resident, own_of}
use Rattle.residency.specs.Causes.{Later}
use Rattle.residency.specs.Pushing.{TellsOn}
use Rattle.residency.specs.World.{IsMadeFree, IsStoreRight, PagesStay, PinnedStays, Still, World, is_bound}
use Rattle.residency.proofs.Worlds.After.{pin_right, pin_set, written_right}
use Rattle.residency.proofs.Moves.GivenUp.{given_page}
use Rattle.residency.proofs.Moves.Brought.{place_other}
use Rattle.residency.proofs.Worlds.Composed.{still_then}
use Rattle.residency.proofs.Worlds.Homes.{IsHome, home, page_here}
use Rattle.residency.proofs.Worlds.Nodes.{same}
use Rattle.residency.proofs.Pushes.PushedPages.{tells_as, tells_none}
use Rattle.residency.proofs.Pushes.Told.{tells_then}
use Rattle.fault_path.specs.Faults.{StaysHome}
use Rattle.fault_path.specs.Gathering.{HasPageOf, IsGathered, NoneGathered}

pub set_comm : {X : Type 0} (xs : List X) (i j : ℕ) (a b : X) → i ≢ j → set (set xs i a) j b ≡ set (set xs j b) i a
set_comm [] i j a b ne = refl
set_comm (x ∷ xs) zero zero a b ne = absurd (ne refl)
set_comm (x ∷ xs) zero (suc j) a b ne = refl
set_comm (x ∷ xs) (suc i) zero a b ne = refl
set_comm (x ∷ xs) (suc i) (suc j) a b ne = ap (λ ys. x ∷ ys) (set_comm xs i j a b (λ e. ne (ap (λ k. suc k) e)))

bound_of : (b p : Bool) → p ≡ false → true ≡ (b || p) → b ≡ true
bound_of true p e h = refl
bound_of false p e h = absurd (cc)

-- Frame h, which no one pinned, was pinned for the time in which another was made free.
module _ (old w : World) (h : ℕ) (right : IsStoreRight old) (held : is_held old.frames h ≡ true) (loose : is_pinned old.frames h ≡ false) (still : Still (pin_set old h true) w) where
  within : h < length old.frames.pinned
  within = omega (arith, true_below old.frames.held h held, right.tied.fitted.pinned_frames)

  is_bound_h : is_bound old h ≡ true
  is_bound_h = bound_of (is_bound old h) (is_pinned old.frames h) loose (sym held ∙ right.tied.placed.held h)

  pinned_h : get_or (set old.frames.pinned h true) h false ≡ true
  pinned_h = get_or-set_same old.frames.pinned h true false within

  stays_h : PinnedStays (pin_set old h true) w h
  stays_h = still.pinned h pinned_h

  other_h : (g : ℕ) → is_pinned old.frames g ≡ true → g ≢ h
  other_h g p e = absurd (let t : is_pinned old.frames g ≡ false = ap (is_pinned old.frames) e ∙ loose in cc)

  pub beside_still : Still old (pin_set w h false)
  beside_still = record {
    stays = record {
      right = pin_right w h false still.stays.right (ap is_some stays_h.node ∙ is_bound_h);
      pages = still.stays.pages;
      caches = still.stays.caches;
      page_bytes = still.stays.page_bytes;
      frames = still.stays.frames;
      page = still.stays.page;
      slots = still.stays.slots;
    };
    pinned = λ g p.
        let q = still.pinned g (get_or-set_other old.frames.pinned h g true false (other_h g p) ∙ p) in
        record { pinned = get_or-set_other w.frames.pinned h g false false (other_h g p) ∙ q.pinned; bytes = q.bytes; node = q.node };
  }

  pub beside_none : w.frames.pinned ≡ set old.frames.pinned h true → NoneGathered old (pin_set w h false)
  beside_none e = record { still = beside_still; pinned = ap (λ ps. set ps h false) e ∙ back old.frames.pinned h loose }

  pub beside_told : (c d : MapperCounts) → Later c d → TellsOn (pin_set old h true) w c d → TellsOn old (pin_set w h false) c d
  beside_told c d later told =
      let stays : PagesStay old (pin_set old h true) = record { right = pin_right old h true right is_bound_h; pages = λ n. refl; caches = same old.caches; page_bytes = refl; frames = refl; page = refl; slots = refl } in
      tells_as old w (pin_set w h false) c d refl (tells_then old (pin_set old h true) stays w c c d later (tells_none old (pin_set old h true) c c refl (omega arith)) told)

  module _ (f : ℕ) (free : IsMadeFree f (pin_set old h true) w) where
    apart : f ≢ h
    apart e = absurd (let t : get_or (set old.frames.pinned h true) h false ≡ false = ap (λ (k : ℕ). get_or (set old.frames.pinned h true) k false) (sym e) ∙ free.loose in let u = pinned_h in cc)

    pub beside_gathered : IsGathered f old (pin_set w h false)
    beside_gathered = record {
      still = beside_still;
      taken = record {
        within = omega (arith, free.within, still.stays.frames);
        pinned = get_or-set_other w.frames.pinned h f false false apart ∙ ap (λ ps. get_or ps f false) free.pinned
            ∙ get_or-set_same (set old.frames.pinned h true) f true false (omega (arith, free.within, right.tied.fitted.pinned_frames, length-set old.frames.pinned h true));
        unbound = free.unbound;
      };
      loose = sym (get_or-set_other old.frames.pinned h f true false apart) ∙ free.loose;
      pinned = ap (λ ps. set ps h false) free.pinned ∙ set_comm (set old.frames.pinned h true) f h true false apart ∙ ap (λ ps. set ps f true) (back old.frames.pinned h loose);
    }

-- a frame that was made free was gathered
pub free_gathered : (old w : World) (f : ℕ) → IsStoreRight old → Still old w → IsMadeFree f old w → IsGathered f old w
free_gathered old w f right still free = record {
  still = still;
  taken = record {
    within = omega (arith, free.within, still.stays.frames);
    pinned = ap (λ ps. get_or ps f false) free.pinned ∙ get_or-set_same old.frames.pinned f true false (omega (arith, free.within, right.tied.fitted.pinned_frames));
    unbound = free.unbound;
  };
  loose = free.loose;
  pinned = free.pinned;
}

-- and then other bytes were put in it
pub filled_gathered : (old w : World) (f : ℕ) (bytes : List ℕ) → IsGathered f old w → IsGathered f old (record w { frames = with_bytes w.frames f bytes })
filled_gathered old w f bytes g = record {
  still = record {
    stays = record {
      right = written_right w f bytes g.still.stays.right (λ m here. absurd (cc (here, g.taken.unbound)));
      pages = λ m. given_page w f bytes m (own_of w.caches m) (λ r. place_other w f m g.still.stays.right g.taken.unbound r) ∙ g.still.stays.pages m;
      caches = g.still.stays.caches;
      page_bytes = g.still.stays.page_bytes;
      frames = g.still.stays.frames;
      page = g.still.stays.page;
      slots = g.still.stays.slots;
    };
    pinned = λ k p.
        let q = g.still.pinned k p in
        record { pinned = q.pinned; bytes = get_or-set_other w.frames.bytes f k bytes [] (λ e. absurd (let t : is_pinned old.frames k ≡ false = ap (is_pinned old.frames) e ∙ g.loose in cc)) ∙ q.bytes; node = q.node };
  };
  taken = record { within = g.taken.within; pinned = g.taken.pinned; unbound = g.taken.unbound };
  loose = g.loose;
  pinned = g.pinned;
}

-- a frame with the bytes of a node's frame has the node's page
pub doubled_page : (w : World) (f h : ℕ) (n : NodeId) → IsStoreRight w → h < length w.map → node_of w.map h ≡ Some n → bytes_of w.frames f ≡ bytes_of w.frames h → HasPageOf w f n
doubled_page w f h n right within node same =
    let at : IsHome w h n = home w h n right within node in
    page_here w h n (own_of w.caches n) at.resident at.place ∙ ap (λ (b : List ℕ). Some (option_map (λ _. b) w.told)) (sym same)

-- a node is at one frame alone
pub bound_below : (map : List (Option NodeId)) (k : ℕ) (n : NodeId) → node_of map k ≡ Some n → k < length map
bound_below map k n e = elim (cases_lt k (length map)) [
  | inl b ↦ b
  | inr b ↦ absurd (let t : node_of map k ≡ None = get_or_past map k None b in let s : Some n ≡ None = sym e ∙ t in cc s)
]

pub same_home : (w : World) (k h : ℕ) (n : NodeId) → IsStoreRight w → node_of w.map k ≡ Some n → node_of w.map h ≡ Some n → k ≡ h
same_home w k h n right a b =
    let x = home w k n right (bound_below w.map k n a) a in
    let y = home w h n right (bound_below w.map h n b) b in
    sym x.place ∙ y.place

-- a node stays in its frame, where the map stays whose node has its page in one
pub brought_home : (old new : World) (n : NodeId) → IsStoreRight old → (is_resident (own_of old.caches n) ≡ true → new.map ≡ old.map) → StaysHome n old.map new.map
brought_home old new n right idle f at =
    let here = home old f n right (bound_below old.map f n at) at in
    ap (λ (m : List (Option NodeId)). node_of m f) (idle here.resident) ∙ at

-- a frame that is gathered where every page was still before
pub then_gathered : (a b c : World) (f : ℕ) → Still a b → b.frames.pinned ≡ a.frames.pinned → IsGathered f b c → IsGathered f a c
then_gathered a b c f first pins gathered = record {
  still = still_then a b c first gathered.still;
  taken = gathered.taken;
  loose = ap (λ ps. get_or ps f false) (sym pins) ∙ gathered.loose;
  pinned = gathered.pinned ∙ ap (λ ps. set ps f true) pins;
}
