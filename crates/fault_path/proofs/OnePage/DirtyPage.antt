-- A resident page is called dirty, and what a node's own page says of what is told.
use Rattle.std.proofs.Common.{◌≡◌, ℕ, ◌+◌, ◌<◌, length, true, false, List, Bool, Option, Some, None, is_some, refl, sym, ap, ◌∙◌, arith, inl, inr}
use Rattle.std.specs.Prelude.{option_map, option_and_then}
use Rattle.std.specs.List.{count_by}
use Rattle.std.specs.Option.{IfSome, IsSome}
use Rattle.vm_ids.specs.Held.{Held, slot_of}
use Rattle.vm_ids.specs.declared.numbers.NodeId.{NodeId}
use Rattle.vm_ids.proofs.Places.{bit, bit_false}
use Rattle.frame_pool.specs.Pool.{bytes_of}
use Rattle.global_map.specs.Pairs.{node_of}
use Rattle.local_cache.specs.declared.home.Home.{Home}
use Rattle.local_cache.specs.declared.own_state.OwnState.{OwnState}
use Rattle.local_cache.specs.declared.own_state.OwnState.TheVariants.{Absent, Zero, Resident, Slot, OnSegment}
use Rattle.local_cache.specs.Arena.{Arena, HasNode, with_own}
use Rattle.local_cache.specs.Changes.{Like}
use Rattle.local_cache.specs.Home.{home_of}
use Rattle.local_cache.specs.Reading.{name_of}
use Rattle.local_cache.specs.Own.{is_in_slot, is_resident, is_slot, own_of, own_states}
use Rattle.local_cache.proofs.Nodes.OwnStates.{id_cases, own_count, own_length, own_other, own_same}
use Rattle.local_cache.proofs.Names.Homes.{home-like, home-with_own}
use Rattle.residency.specs.World.{IsStoreRight, Still, World, frame_page, home_page, is_clean, is_name_granted, own_page, page_at, page_by, zero_page}
use Rattle.residency.proofs.Worlds.Homes.{home, resident_not_in_slot, resident_not_slot, slot_is_held}
use Rattle.residency.proofs.Worlds.Nodes.{granted_like, own_granted, with_own_same}
use Rattle.fault_path.specs.Faults.{MayWrite}
use Rattle.fault_path.specs.Gathering.{HasPageOf}

pub may_like : (a b : Arena) → Like a b → (n : NodeId) → MayWrite a n → MayWrite b n
may_like a b like n may = λ home. granted_like a b like n ∙ may (sym (ap is_some (home-like a b like n)) ∙ home)

resident_page : {P : Type 0} (z f : P) (s : ℕ → P) (g : P) (x : OwnState) → is_resident x ≡ true → page_by z f s g x ≡ Some f
resident_page z f s g Absent e = absurd (cc e)
resident_page z f s g Zero e = absurd (cc e)
resident_page z f s g (Resident d) e = refl
resident_page z f s g (Slot k) e = absurd (cc e)
resident_page z f s g OnSegment e = absurd (cc e)

-- what the mapper holds at a home stays, whatever own state a node has
home_stays : (w : World) (n : NodeId) (x : OwnState) (m : NodeId) → home_page (record w { caches = with_own w.caches n x }) m ≡ home_page w m
home_stays w n x m = ap (λ (o : Option Home). option_and_then (λ h. option_and_then (page_at h) o) w.told) (home-with_own w.caches n x m)

abbrev pub dirtied : World → NodeId → World
dirtied w n = record w { caches = with_own w.caches n (Resident true) }

-- every node has the page that it had
dirtied_page : (w : World) (n : NodeId) → is_resident (own_of w.caches n) ≡ true → (m : NodeId) → own_page (dirtied w n) m ≡ own_page w m
dirtied_page w n resident m =
    ap (λ (p : Option (List ℕ)). page_by (option_map (λ _. zero_page w) w.told) (option_map (λ _. frame_page w m) w.told) (λ k. option_and_then (λ h. slot_of h k) w.told) p (own_of (with_own w.caches n (Resident true)) m)) (home_stays w n (Resident true) m)
    ∙ elim (id_cases m n) [
      | inl e ↦ ap (λ (k : NodeId). here k (own_of (with_own w.caches n (Resident true)) k)) e ∙ ap (here n) (own_same w.caches n (Resident true))
          ∙ sym (resident_page (option_map (λ _. zero_page w) w.told) (option_map (λ _. frame_page w n) w.told) (λ k. option_and_then (λ h. slot_of h k) w.told) (home_page w n) (own_of w.caches n) resident) ∙ ap (own_page w) (sym e)
      | inr d ↦ ap (here m) (own_other w.caches n m (Resident true) d)
    ]
  where
    here : NodeId → OwnState → Option (Option (List ℕ))
    here k x = page_by (option_map (λ _. zero_page w) w.told) (option_map (λ _. frame_page w k) w.told) (λ j. option_and_then (λ h. slot_of h j) w.told) (home_page w k) x

-- a node that is clean was another one, and was clean
clean_before : (w : World) (n m : NodeId) → is_clean (own_of (with_own w.caches n (Resident true)) m) ≡ true → is_clean (own_of w.caches m) ≡ true
clean_before w n m clean = elim (id_cases m n) [
  | inl e ↦ absurd (let no : is_clean (own_of (with_own w.caches n (Resident true)) m) ≡ false = ap is_clean (ap (own_of (with_own w.caches n (Resident true))) e ∙ own_same w.caches n (Resident true)) in cc (clean, no))
  | inr d ↦ sym (ap is_clean (own_other w.caches n m (Resident true) d)) ∙ clean
]

pub dirty_still : (w : World) (n : NodeId) → IsStoreRight w → HasNode w.caches n → is_resident (own_of w.caches n) ≡ true → MayWrite w.caches n → Still w (dirtied w n)
dirty_still w n right there resident may = record {
  stays = record {
    right = record {
      tied = record {
        placed = record {
          bound = λ m. elim (id_cases m n) [
            | inl e ↦ right.tied.placed.bound m ∙ ap (λ (x : Bool). bit x) (ap (λ (k : NodeId). is_resident (own_of w.caches k)) e ∙ resident ∙ sym (ap is_resident (ap (own_of (with_own w.caches n (Resident true))) e ∙ own_same w.caches n (Resident true))))
            | inr d ↦ right.tied.placed.bound m ∙ ap (λ (x : OwnState). bit (is_resident x)) (sym (own_other w.caches n m (Resident true) d))
          ];
          held = right.tied.placed.held;
          slots = λ s. (
              let counts : count_by (is_slot s) (own_states (with_own w.caches n (Resident true))) + bit (is_slot s (own_of w.caches n)) ≡ count_by (is_slot s) (own_states w.caches) + 0 = own_count (is_slot s) w.caches n (Resident true) there in
              omega (arith, bit_false (is_slot s (own_of w.caches n)) (resident_not_slot s (own_of w.caches n) resident), right.tied.placed.slots s));
          in_slots = (
              let counts : count_by is_in_slot (own_states (with_own w.caches n (Resident true))) + bit (is_in_slot (own_of w.caches n)) ≡ count_by is_in_slot (own_states w.caches) + 0 = own_count is_in_slot w.caches n (Resident true) there in
              omega (arith, bit_false (is_in_slot (own_of w.caches n)) (resident_not_in_slot (own_of w.caches n) resident), right.tied.placed.in_slots));
        };
        backed = record {
          there = right.tied.backed.there;
          homes = λ m clean. ap is_some (home-with_own w.caches n (Resident true) m) ∙ right.tied.backed.homes m (clean_before w n m clean);
          apart = λ m k home e q. right.tied.backed.apart m k home (sym (home-with_own w.caches n (Resident true) m) ∙ e) (sym (home-with_own w.caches n (Resident true) k) ∙ q);
          lies = λ m home e. right.tied.backed.lies m home (sym (home-with_own w.caches n (Resident true) m) ∙ e);
          clean = λ m clean. dirtied_page w n resident m ∙ right.tied.backed.clean m (clean_before w n m clean) ∙ ap Some (sym (home_stays w n (Resident true) m));
        };
        fitted = right.tied.fitted;
      };
      granted = record {
        granted = λ m home clean. own_granted w.caches n (Resident true) there m ∙ elim (id_cases m n) [
          | inl e ↦ ap (λ (k : NodeId). is_name_granted w.caches (name_of w.caches k)) e ∙ may (ap (λ (k : NodeId). is_some (home_of w.caches k)) (sym e) ∙ sym (ap is_some (home-with_own w.caches n (Resident true) m)) ∙ home)
          | inr d ↦ right.granted.granted m (sym (ap is_some (home-with_own w.caches n (Resident true) m)) ∙ home) (sym (ap is_clean (own_other w.caches n m (Resident true) d)) ∙ clean)
        ];
        allowed = λ m home e granted. right.granted.allowed m home (sym (home-with_own w.caches n (Resident true) m) ∙ e) (sym (own_granted w.caches n (Resident true) there m) ∙ granted);
      };
      capacity = omega (arith, own_length w.caches n (Resident true) there, right.capacity);
    };
    pages = dirtied_page w n resident;
    caches = with_own_same w.caches n (Resident true) there;
    page_bytes = refl;
    frames = refl;
    page = refl;
    slots = refl;
  };
  pinned = λ f p. record { pinned = p; bytes = refl; node = refl };
}

some_told : {X : Type 0} (told : Option Held) (x : X) → is_some (option_map (λ _. x) told) ≡ is_some told
some_told None x = refl
some_told (Some h) x = refl

slot_told : (told : Option Held) (s : ℕ) → IfSome told (λ h. IsSome (slot_of h s)) → is_some (option_and_then (λ h. slot_of h s) told) ≡ is_some told
slot_told None s e = refl
slot_told (Some h) s e = e

page_told : (told : Option Held) (home : Home) → IfSome told (λ h. IsSome (page_at h home)) → is_some (option_and_then (λ h. page_at h home) told) ≡ is_some told
page_told None home e = refl
page_told (Some h) home e = e

home_told : (w : World) (n : NodeId) → IsStoreRight w → (o : Option Home) → home_of w.caches n ≡ o → IsSome o → is_some (home_page w n) ≡ is_some w.told
home_told w n right None e some = absurd (cc some)
home_told w n right (Some home) e some = ap (λ (o : Option Home). is_some (option_and_then (λ h. option_and_then (page_at h) o) w.told)) e ∙ page_told w.told home (right.tied.backed.lies n home e)

-- the same of a node that a frame has, which might be written from before
pub bound_dirty : (old w : World) (f : ℕ) (n : NodeId) → IsStoreRight w → Like old.caches w.caches → HasNode old.caches n → MayWrite old.caches n → f < length w.map → node_of w.map f ≡ Some n → Still w (dirtied w n)
bound_dirty old w f n right like there granted below bound =
    let at = home w f n right below bound in
    dirty_still w n right (like.held n ∙ there) at.resident (may_like old.caches w.caches like n granted)

-- The bytes of an own page are told exactly where the mapper tells what it holds.
told_by : (w : World) (n : NodeId) → IsStoreRight w → HasNode w.caches n → (x : OwnState) → own_of w.caches n ≡ x → (q : Option (List ℕ))
    → page_by (option_map (λ _. zero_page w) w.told) (option_map (λ _. frame_page w n) w.told) (λ k. option_and_then (λ h. slot_of h k) w.told) (home_page w n) x ≡ Some q → is_some q ≡ is_some w.told
told_by w n right there Absent e q is = absurd (cc is)
told_by w n right there Zero e q is = let same : option_map (λ _. zero_page w) w.told ≡ q = cc is in ap is_some (sym same) ∙ some_told w.told (zero_page w)
told_by w n right there (Resident d) e q is = let same : option_map (λ _. frame_page w n) w.told ≡ q = cc is in ap is_some (sym same) ∙ some_told w.told (frame_page w n)
told_by w n right there (Slot s) e q is =
    let same : option_and_then (λ h. slot_of h s.0) w.told ≡ q = cc is in
    ap is_some (sym same) ∙ slot_told w.told s.0 (right.tied.backed.there s.0 (slot_is_held w n s right there e))
told_by w n right there OnSegment e q is = let same : home_page w n ≡ q = cc is in ap is_some (sym same) ∙ home_told w n right (home_of w.caches n) refl (right.tied.backed.homes n (ap is_clean e))

told_alike : (a b : Option Held) (x : List ℕ) → is_some (option_map (λ _. x) a) ≡ is_some b → option_map (λ _. x) a ≡ option_map (λ _. x) b
told_alike None None x e = refl
told_alike (Some h) (Some k) x e = refl
told_alike None (Some k) x e = absurd (cc e)
told_alike (Some h) None x e = absurd (cc e)

-- a frame that keeps its bytes has a node's page still
pub page_moves : (a b : World) (f : ℕ) (n : NodeId) → Still a b → HasNode b.caches n → HasPageOf a f n → bytes_of b.frames f ≡ bytes_of a.frames f → HasPageOf b f n
page_moves a b f n still there page same =
    let here : own_page b n ≡ Some (option_map (λ _. bytes_of a.frames f) a.told) = still.stays.pages n ∙ page in
    here ∙ ap Some (told_alike a.told b.told (bytes_of a.frames f) (told_by b n still.stays.right there (own_of b.caches n) refl _ here) ∙ ap (λ (x : List ℕ). option_map (λ _. x) b.told) (sym same))
