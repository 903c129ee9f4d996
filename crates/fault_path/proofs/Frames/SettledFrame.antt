-- A frame that was gathered becomes a node's, whose caches were changed for it.
use Rattle.std.proofs.Common.{◌≡◌, ◌≢◌, ℕ, true, false, not, List, [], length, set, Option, Some, None, is_some, refl, sym, ap, ◌∙◌, subst, arith}
use Rattle.std.specs.Prelude.{option_map, option_and_then}
use Rattle.std.specs.List.{count_by}
use Rattle.std.proofs.lemmas.List.{get_or-set_other, set-get_or}
use Rattle.vm_ids.specs.Held.{slot_of}
use Rattle.vm_ids.specs.declared.numbers.NodeId.{NodeId}
use Rattle.frame_pool.specs.Pool.{bytes_of, is_pinned}
use Rattle.local_cache.specs.declared.home.Home.{Home}
use Rattle.local_cache.specs.declared.own_state.OwnState.{OwnState}
use Rattle.local_cache.specs.declared.own_state.OwnState.TheVariants.{Absent, Resident}
use Rattle.local_cache.specs.Arena.{Arena, HasNode, find, with_own}
use Rattle.local_cache.specs.Changes.{Like}
use Rattle.local_cache.specs.Home.{home_of}
use Rattle.local_cache.specs.Own.{is_in_slot, is_resident, is_slot, own_of, own_states}
use Rattle.local_cache.proofs.Nodes.Values.{same_own_states}
use Rattle.local_cache.proofs.Names.Homes.{home-like}
use Rattle.residency.specs.World.{IsStoreRight, IsTaken, PinnedStays, World, frame_page, home_page, is_clean, own_page, page_at, page_by, zero_page}
use Rattle.residency.proofs.Moves.Brought.{brought, brought_right, page_here, pages_elsewhere, slots_same}
use Rattle.residency.proofs.Worlds.Nodes.{granted_like, still_like, with_own_same}
use Rattle.vm_ids.proofs.Places.{bit}

home_pages : (w : World) (b : Arena) (n : NodeId) → Like w.caches b → home_page (record w { caches = b }) n ≡ home_page w n
home_pages w b n like = ap (λ (o : Option Home). option_and_then (λ h. option_and_then (page_at h) o) w.told) (home-like w.caches b like n)

pub caches_pages : (w : World) (b : Arena) (n : NodeId) → Like w.caches b → own_of b n ≡ own_of w.caches n → own_page (record w { caches = b }) n ≡ own_page w n
caches_pages w b n like owns =
    ap (λ (p : Option (List ℕ)). page_by (option_map (λ _. zero_page w) w.told) (option_map (λ _. frame_page w n) w.told) (λ k. option_and_then (λ h. slot_of h k) w.told) p (own_of b n)) (home_pages w b n like)
    ∙ ap (page_by (option_map (λ _. zero_page w) w.told) (option_map (λ _. frame_page w n) w.told) (λ k. option_and_then (λ h. slot_of h k) w.told) (home_page w n)) owns

-- the caches b in place of those of a world, with the same names, tables and own states
pub caches_right : (w : World) (b : Arena) → IsStoreRight w → Like w.caches b → ((n : NodeId) → own_of b n ≡ own_of w.caches n) → own_states b ≡ own_states w.caches → IsStoreRight (record w { caches = b })
caches_right w b right like owns states = record {
  tied = record {
    placed = record {
      bound = λ n. right.tied.placed.bound n ∙ ap (λ (x : OwnState). bit (is_resident x)) (sym (owns n));
      held = right.tied.placed.held;
      slots = λ s. ap (λ (xs : List OwnState). count_by (is_slot s) xs) states ∙ right.tied.placed.slots s;
      in_slots = right.tied.placed.in_slots ∙ ap (λ (xs : List OwnState). count_by is_in_slot xs) (sym states);
    };
    backed = record {
      there = right.tied.backed.there;
      homes = λ n clean. ap is_some (homes n) ∙ right.tied.backed.homes n (sym (ap is_clean (owns n)) ∙ clean);
      apart = λ n m home e q. right.tied.backed.apart n m home (sym (homes n) ∙ e) (sym (homes m) ∙ q);
      lies = λ n home e. right.tied.backed.lies n home (sym (homes n) ∙ e);
      clean = λ n clean. caches_pages w b n like (owns n) ∙ right.tied.backed.clean n (sym (ap is_clean (owns n)) ∙ clean) ∙ ap Some (sym (home_pages w b n like));
    };
    fitted = right.tied.fitted;
  };
  granted = record {
    granted = λ n home clean. granted_like w.caches b like n ∙ right.granted.granted n (sym (ap is_some (homes n)) ∙ home) (sym (ap is_clean (owns n)) ∙ clean);
    allowed = λ n home e granted. right.granted.allowed n home (sym (homes n) ∙ e) (sym (granted_like w.caches b like n) ∙ granted);
  };
  capacity = omega (arith, right.capacity, ap (λ (xs : List OwnState). length xs) states);
}
  where
    homes : (n : NodeId) → home_of b n ≡ home_of w.caches n
    homes n = home-like w.caches b like n

-- frame f is node n's, and the caches are b
abbrev pub homed : World → ℕ → NodeId → Arena → World
homed w f n b = record w { caches = b; frames = record w.frames { pinned = set w.frames.pinned f false }; map = set w.map f (Some n) }

-- b has the nodes of a, under their names and with the same own states but for n, which is resident
pub record IsResidentIn (a b : Arena) (n : NodeId) : Type 0 where
  pub like : Like a b
  pub held : (m : NodeId) → is_some (find b m) ≡ is_some (find (with_own a n (Resident true)) m)
  pub own : (m : NodeId) → own_of b m ≡ own_of (with_own a n (Resident true)) m

module _ (w : World) (f : ℕ) (n : NodeId) (right : IsStoreRight w) (taken : IsTaken w f) (there : HasNode w.caches n) (absent : own_of w.caches n ≡ Absent) (b : Arena) (in_b : IsResidentIn w.caches b n) where
  abbrev bytes : List ℕ
  bytes = bytes_of w.frames f

  abbrev first : World
  first = brought w f n true w.slots (bytes_of w.frames f)

  same_bytes : set w.frames.bytes f (bytes_of w.frames f) ≡ w.frames.bytes
  same_bytes = set-get_or w.frames.bytes f []

  first_right : IsStoreRight (brought w f n true w.slots (bytes_of w.frames f))
  first_right = brought_right w f n true w.slots bytes right taken there (ap is_resident absent) (slots_same w n true Absent right there absent (λ k. refl) refl) (sym (ap (λ (x : OwnState). not (is_clean x)) absent)) (λ no. absurd (cc no))

  -- the names and tables are those of before
  first_like : Like first.caches b
  first_like = let l = still_like w.caches first.caches (with_own_same w.caches n (Resident true) there) in record { held = λ m. in_b.like.held m ∙ sym (l.held m); name = λ m. in_b.like.name m ∙ sym (l.name m); caches = in_b.like.caches ∙ sym l.caches }

  is_homed : record (brought w f n true w.slots (bytes_of w.frames f)) { caches = b } ≡ homed w f n b
  is_homed = λ i. record (homed w f n b) { frames = record w.frames { pinned = set w.frames.pinned f false; bytes = same_bytes i } }

  pub homed_right : IsStoreRight (homed w f n b)
  homed_right = subst IsStoreRight is_homed (caches_right first b first_right first_like in_b.own (same_own_states first.caches b in_b.held in_b.own))

  pub homed_here : own_page (homed w f n b) n ≡ Some (option_map (λ _. bytes_of w.frames f) w.told)
  homed_here = ap (λ (v : World). own_page v n) (sym is_homed) ∙ caches_pages first b n first_like (in_b.own n) ∙ page_here w f n true w.slots bytes right taken (ap is_resident absent)

  pub homed_other : (m : NodeId) → m ≢ n → own_page (homed w f n b) m ≡ own_page w m
  homed_other m d = ap (λ (v : World). own_page v m) (sym is_homed) ∙ caches_pages first b m first_like (in_b.own m) ∙ pages_elsewhere w f n true w.slots bytes right taken m d

  pub homed_pinned : (g : ℕ) → g ≢ f → is_pinned w.frames g ≡ true → PinnedStays w (homed w f n b) g
  homed_pinned g d p = record {
    pinned = get_or-set_other w.frames.pinned f g false false d ∙ p;
    bytes = refl;
    node = get_or-set_other w.map f g (Some n) None d;
  }
