-- What a node reads is pushed to its home, and its own page is clean then.
use Rattle.std.proofs.Common.{◌≡◌, ◌≢◌, ℕ, ◌+◌, Bool, true, false, List, Option, Some, None, is_some, refl, sym, ap, ◌∙◌, arith, inl, inr}
use Rattle.std.specs.List.{count_by}
use Rattle.std.specs.Option.{IfSome, IsSome}
use Rattle.std.specs.Prelude.{option_map, option_and_then}
use Rattle.vm_ids.specs.Counting.{MapperCounts, RoseBy}
use Rattle.vm_ids.specs.Held.{Held, slot_of}
use Rattle.vm_ids.specs.declared.numbers.NodeId.{NodeId}
use Rattle.vm_ids.proofs.Places.{bit, bit_false}
use Rattle.local_cache.specs.declared.home.Home.{Home}
use Rattle.local_cache.specs.declared.own_state.OwnState.{OwnState}
use Rattle.local_cache.specs.declared.own_state.OwnState.TheVariants.{Absent, Zero, Resident, Slot, OnSegment}
use Rattle.local_cache.specs.Arena.{HasNode, with_own}
use Rattle.local_cache.specs.Home.{home_of}
use Rattle.local_cache.specs.Own.{is_in_slot, is_resident, is_slot, own_of, own_states}
use Rattle.local_cache.proofs.Nodes.OwnStates.{id_cases, own_count, own_length, own_other, own_same}
use Rattle.local_cache.proofs.Names.Homes.{home-with_own}
use Rattle.residency.specs.World.{IsStoreRight, Still, World, brought_in, frame_page, home_page, is_clean, own_page, page_at, page_by, zero_page}
use Rattle.residency.proofs.Worlds.Homes.{resident_not_in_slot, resident_not_slot}
use Rattle.residency.proofs.Worlds.Nodes.{own_granted, same, with_own_same}
use Rattle.residency.proofs.Pushes.Outside.{home_told, homes_elsewhere, none_denied, put_at, same_denied, same_told, there_homes}
use Rattle.residency.proofs.Pushes.PushedPages.{tells_one}
use Rattle.segment_ops.specs.Pushing.{TellsValues, value_at}

none_then : {X : Type 0} (told : Option Held) → option_and_then {T = Held} {U = X} (λ _. None) told ≡ None
none_then None = refl
none_then (Some h) = refl

slot_still : (told : Option Held) (home : Home) (bytes : List ℕ) (k : ℕ) → option_and_then (λ h. slot_of h k) (option_map (put_at home bytes) told) ≡ option_and_then (λ h. slot_of h k) told
slot_still None home bytes k = refl
slot_still (Some h) home bytes k = refl

there_still : (told : Option Held) (home : Home) (bytes : List ℕ) (k : ℕ) → IfSome told (λ h. IsSome (slot_of h k)) → IfSome (option_map (put_at home bytes) told) (λ h. IsSome (slot_of h k))
there_still None home bytes k t = tt
there_still (Some h) home bytes k t = t

-- These bytes were pushed to the home of node n, whose own page the segment doesn't hold.
module _ (w : World) (n : NodeId) (home : Home) (bytes : List ℕ) (right : IsStoreRight w) (at : home_of w.caches n ≡ Some home) (unclean : is_clean (own_of w.caches n) ≡ false) where
  abbrev then : World
  then = record w { told = option_map (put_at home bytes) w.told }

  -- the home of another node has the page that it had
  home_there : (m : NodeId) → m ≢ n → home_page then m ≡ home_page w m
  home_there m d = by_home (home_of w.caches m) refl
    where
      by_home : (o : Option Home) → home_of w.caches m ≡ o → home_page then m ≡ home_page w m
      by_home None e = ap (λ (o : Option Home). option_and_then (λ h. option_and_then (page_at h) o) then.told) e ∙ none_then then.told ∙ sym (none_then w.told) ∙ ap (λ (o : Option Home). option_and_then (λ h. option_and_then (page_at h) o) w.told) (sym e)
      by_home (Some other) e =
          ap (λ (o : Option Home). option_and_then (λ h. option_and_then (page_at h) o) then.told) e
          ∙ homes_elsewhere w.told home other bytes (λ q. d (right.tied.backed.apart m n home (e ∙ ap Some q) at))
          ∙ ap (λ (o : Option Home). option_and_then (λ h. option_and_then (page_at h) o) w.told) (sym e)

  -- and its own has these
  pub home_now : home_page (record w { told = option_map (put_at home bytes) w.told }) n ≡ option_map (λ _. bytes) w.told
  home_now = ap (λ (o : Option Home). option_and_then (λ h. option_and_then (page_at h) o) then.told) at ∙ home_told w.told home bytes (right.tied.backed.lies n home at)

  page_by_state : (m : NodeId) (x : OwnState) → own_of w.caches m ≡ x
      → page_by (option_map (λ _. zero_page w) then.told) (option_map (λ _. frame_page w m) then.told) (λ k. option_and_then (λ h. slot_of h k) then.told) (home_page then m) x
      ≡ page_by (option_map (λ _. zero_page w) w.told) (option_map (λ _. frame_page w m) w.told) (λ k. option_and_then (λ h. slot_of h k) w.told) (home_page w m) x
  page_by_state m Absent e = refl
  page_by_state m Zero e = ap Some (same_told w.told (put_at home bytes) (zero_page w))
  page_by_state m (Resident dirty) e = ap Some (same_told w.told (put_at home bytes) (frame_page w m))
  page_by_state m (Slot s) e = ap Some (slot_still w.told home bytes s.0)
  page_by_state m OnSegment e = ap Some (home_there m (λ q. absurd (let clean : is_clean (own_of w.caches n) ≡ true = ap (λ (k : NodeId). is_clean (own_of w.caches k)) (sym q) ∙ ap is_clean e in cc (clean, unclean))))

  pub pushed_pages : (m : NodeId) → own_page (record w { told = option_map (put_at home bytes) w.told }) m ≡ own_page w m
  pushed_pages m = page_by_state m (own_of w.caches m) refl

  pub pushed_right : IsStoreRight (record w { told = option_map (put_at home bytes) w.told })
  pushed_right = record {
    tied = record {
      placed = right.tied.placed;
      backed = record {
        there = λ k h. there_still w.told home bytes k (right.tied.backed.there k h);
        homes = right.tied.backed.homes;
        apart = right.tied.backed.apart;
        lies = λ m other e. there_homes w.told home other bytes (right.tied.backed.lies m other e);
        clean = λ m clean. pushed_pages m ∙ right.tied.backed.clean m clean ∙ ap Some (sym (home_there m (λ q. absurd (let c : is_clean (own_of w.caches n) ≡ true = ap (λ (k : NodeId). is_clean (own_of w.caches k)) (sym q) ∙ clean in cc (c, unclean)))));
      };
      fitted = right.tied.fitted;
    };
    granted = record {
      granted = right.granted.granted;
      allowed = λ m other e g. none_denied w.told then.told other.segment.0 other.page.0 (same_denied w.told (put_at home bytes) (λ h. refl)) (right.granted.allowed m other e g);
    };
    capacity = right.capacity;
  }

  pub pushed_still : Still w (record w { told = option_map (put_at home bytes) w.told })
  pushed_still = record {
    stays = record { right = pushed_right; pages = pushed_pages; caches = same w.caches; page_bytes = refl; frames = refl; page = refl; slots = refl };
    pinned = λ f p. record { pinned = p; bytes = refl; node = refl };
  }

  -- which is a push of what the node reads
  pub pushed_told : value_at w n ≡ Some (option_map (λ _. bytes) w.told) → (c d : MapperCounts) → RoseBy 1 c.pushes d.pushes → TellsValues w (record w { told = option_map (put_at home bytes) w.told }) c d
  pushed_told value c d rose = tells_one w then c d n home bytes (record { home = home; is = at; allowed = right.granted.allowed n home at (right.granted.granted n (ap is_some at) unclean) }) at value refl rose

-- A page in a frame that its segment holds is called clean

module _ (w : World) (n : NodeId) (right : IsStoreRight w) (there : HasNode w.caches n) (resident : is_resident (own_of w.caches n) ≡ true) (home : IsSome (home_of w.caches n)) (held : own_page w n ≡ Some (home_page w n)) where
  abbrev settled : World
  settled = record w { caches = with_own w.caches n (Resident false) }

  homes : (m : NodeId) → home_of settled.caches m ≡ home_of w.caches m
  homes m = home-with_own w.caches n (Resident false) m

  home_pages : (m : NodeId) → home_page settled m ≡ home_page w m
  home_pages m = ap (λ (o : Option Home). option_and_then (λ h. option_and_then (page_at h) o) w.told) (homes m)

  here : NodeId → OwnState → Option (Option (List ℕ))
  here k x = page_by (option_map (λ _. zero_page w) w.told) (option_map (λ _. frame_page w k) w.told) (λ j. option_and_then (λ h. slot_of h j) w.told) (home_page w k) x

  in_frame : (x : OwnState) → is_resident x ≡ true → here n (Resident false) ≡ here n x
  unfolding here
  in_frame Absent e = absurd (cc e)
  in_frame Zero e = absurd (cc e)
  in_frame (Resident d) e = refl
  in_frame (Slot s) e = absurd (cc e)
  in_frame OnSegment e = absurd (cc e)

  pages : (m : NodeId) → own_page settled m ≡ own_page w m
  unfolding here
  pages m =
      ap (λ (p : Option (List ℕ)). page_by (option_map (λ _. zero_page w) w.told) (option_map (λ _. frame_page w m) w.told) (λ k. option_and_then (λ h. slot_of h k) w.told) p (own_of settled.caches m)) (home_pages m)
      ∙ elim (id_cases m n) [
        | inl e ↦ ap (λ (k : NodeId). here k (own_of settled.caches k)) e ∙ ap (here n) (own_same w.caches n (Resident false)) ∙ in_frame (own_of w.caches n) resident ∙ ap (own_page w) (sym e)
        | inr d ↦ ap (here m) (own_other w.caches n m (Resident false) d)
      ]

  pub settled_still : Still w (record w { caches = with_own w.caches n (Resident false) })
  settled_still = record {
    stays = record {
      right = record {
        tied = record {
          placed = record {
            bound = λ m. elim (id_cases m n) [
              | inl e ↦ right.tied.placed.bound m ∙ ap (λ (x : Bool). bit x) (ap (λ (k : NodeId). is_resident (own_of w.caches k)) e ∙ resident ∙ sym (ap is_resident (ap (own_of settled.caches) e ∙ own_same w.caches n (Resident false))))
              | inr d ↦ right.tied.placed.bound m ∙ ap (λ (x : OwnState). bit (is_resident x)) (sym (own_other w.caches n m (Resident false) d))
            ];
            held = right.tied.placed.held;
            slots = λ s. (
                let counts : count_by (is_slot s) (own_states settled.caches) + bit (is_slot s (own_of w.caches n)) ≡ count_by (is_slot s) (own_states w.caches) + 0 = own_count (is_slot s) w.caches n (Resident false) there in
                omega (arith, bit_false (is_slot s (own_of w.caches n)) (resident_not_slot s (own_of w.caches n) resident), right.tied.placed.slots s));
            in_slots = (
                let counts : count_by is_in_slot (own_states settled.caches) + bit (is_in_slot (own_of w.caches n)) ≡ count_by is_in_slot (own_states w.caches) + 0 = own_count is_in_slot w.caches n (Resident false) there in
                omega (arith, bit_false (is_in_slot (own_of w.caches n)) (resident_not_in_slot (own_of w.caches n) resident), right.tied.placed.in_slots));
          };
          backed = record {
            there = right.tied.backed.there;
            homes = λ m clean. ap is_some (homes m) ∙ elim (id_cases m n) [
              | inl e ↦ ap (λ (k : NodeId). is_some (home_of w.caches k)) e ∙ home
              | inr d ↦ right.tied.backed.homes m (sym (ap is_clean (own_other w.caches n m (Resident false) d)) ∙ clean)
            ];
            apart = λ m k home e q. right.tied.backed.apart m k home (sym (homes m) ∙ e) (sym (homes k) ∙ q);
            lies = λ m home e. right.tied.backed.lies m home (sym (homes m) ∙ e);
            clean = λ m clean. pages m ∙ elim (id_cases m n) [
              | inl e ↦ ap (own_page w) e ∙ held ∙ ap (λ (k : NodeId). Some (home_page w k)) (sym e)
              | inr d ↦ right.tied.backed.clean m (sym (ap is_clean (own_other w.caches n m (Resident false) d)) ∙ clean)
            ] ∙ ap Some (sym (home_pages m));
          };
          fitted = right.tied.fitted;
        };
        granted = record {
          granted = λ m some clean. own_granted w.caches n (Resident false) there m ∙ elim (id_cases m n) [
            | inl e ↦ absurd (let no : is_clean (own_of settled.caches m) ≡ true = ap is_clean (ap (own_of settled.caches) e ∙ own_same w.caches n (Resident false)) in cc (no, clean))
            | inr d ↦ right.granted.granted m (sym (ap is_some (homes m)) ∙ some) (sym (ap is_clean (own_other w.caches n m (Resident false) d)) ∙ clean)
          ];
          allowed = λ m home e g. right.granted.allowed m home (sym (homes m) ∙ e) (sym (own_granted w.caches n (Resident false) there m) ∙ g);
        };
        capacity = omega (arith, own_length w.caches n (Resident false) there, right.capacity);
      };
      pages = pages;
      caches = with_own_same w.caches n (Resident false) there;
      page_bytes = refl;
      frames = refl;
      page = refl;
      slots = refl;
    };
    pinned = λ f p. record { pinned = p; bytes = refl; node = refl };
  }

  -- who was clean is clean
  pub settled_clean : (m : NodeId) → is_clean (own_of w.caches m) ≡ true → is_clean (own_of (with_own w.caches n (Resident false)) m) ≡ true
  settled_clean m clean = elim (id_cases m n) [
    | inl e ↦ ap is_clean (ap (own_of settled.caches) e ∙ own_same w.caches n (Resident false))
    | inr d ↦ ap is_clean (own_other w.caches n m (Resident false) d) ∙ clean
  ]

-- what was brought in isn't clean where it wasn't
pub brought_unclean : (x : OwnState) → is_clean x ≡ false → is_clean (brought_in x) ≡ false
brought_unclean Absent e = refl
brought_unclean Zero e = refl
brought_unclean (Resident true) e = refl
brought_unclean (Resident false) e = absurd (cc e)
brought_unclean (Slot s) e = refl
brought_unclean OnSegment e = absurd (cc e)

pub brought_clean : (x : OwnState) → is_clean x ≡ true → is_clean (brought_in x) ≡ true
brought_clean Absent e = absurd (cc e)
brought_clean Zero e = absurd (cc e)
brought_clean (Resident d) e = e
brought_clean (Slot s) e = absurd (cc e)
brought_clean OnSegment e = refl

-- what the mapper holds at a home stays where it holds what it held
pub still_home : (a b : World) (n : NodeId) → b.told ≡ a.told → home_of b.caches n ≡ home_of a.caches n → home_page b n ≡ home_page a n
still_home a b n told home = λ i. option_and_then (λ h. option_and_then (page_at h) (home i)) (told i)
