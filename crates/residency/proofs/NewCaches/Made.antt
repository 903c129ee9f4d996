-- A temporary cache is made.
use Rattle.std.proofs.Common.{◌≡◌, ℕ, zero, suc, ◌+◌, ◌-◌, ◌≤◌, Bool, true, false, cond, List, [], ◌∷◌, ◌++◌, length, get_or, replicate, Option, Some, None, is_some, unwrap_or, slice_get, refl, sym, ap, ◌∙◌, arith, inl, inr}
use Rattle.std.specs.Prelude.{option_and_then, option_map}
use Rattle.std.proofs.lemmas.Bool.{cases_lt}
use Rattle.std.proofs.lemmas.List.{get_or_append_left, get_or-append_right, get_or_past}
use Rattle.std.proofs.lemmas.Option.{unwrap_or-slice_get}
use Rattle.vm_ids.specs.Held.{slot_of}
use Rattle.vm_ids.specs.declared.node_name.NodeName.{NodeName}
use Rattle.vm_ids.specs.declared.node_name.NodeName.TheVariants.{Live, Working}
use Rattle.vm_ids.specs.declared.numbers.CacheId.{CacheId}
use Rattle.vm_ids.specs.declared.numbers.NodeId.{NodeId}
use Rattle.vm_ids.proofs.Places.{bit, same_all}
use Rattle.local_cache.specs.declared.home.Home.{Home}
use Rattle.local_cache.specs.declared.own_state.OwnState.{OwnState}
use Rattle.local_cache.specs.declared.own_state.OwnState.TheVariants.{Absent, Zero}
use Rattle.local_cache.specs.Arena.{Arena, IsMade, Table, cell, new_table, table_at}
use Rattle.local_cache.specs.Home.{home_named, home_of}
use Rattle.local_cache.specs.Own.{is_in_slot, is_resident, is_slot, own_of, own_states}
use Rattle.local_cache.specs.Reading.{name_of}
use Rattle.local_cache.proofs.Nodes.OwnStates.{filled_cell, filled_count, filled_length, filled_own}
use Rattle.residency.specs.World.{World, IsStoreRight, frame_page, home_page, is_clean, is_name_granted, own_page, page_at, page_by, zero_page}

-- what is read of a table is what was read before, where it is read alike of none and of the new
-- one
read_tables : {X : Type 0} (ts : List (Option Table)) (table : Table) (read : Option Table → X) → read (Some table) ≡ read None → (cache : ℕ) → read (table_at (ts ++ Some table ∷ []) cache) ≡ read (table_at ts cache)
read_tables ts table read alike zero = refl
read_tables ts table read alike (suc k) = elim (cases_lt k (length ts)) [
  | inl low ↦ ap read (get_or_append_left ts (Some table ∷ []) None k low)
  | inr high ↦ ap read (get_or-append_right ts (Some table ∷ []) (length ts) k None refl high) ∙ behind (k - length ts) ∙ sym (ap read (get_or_past ts k None high))
]
  where
    behind : (j : ℕ) → read (get_or (Some table ∷ []) j None) ≡ read None
    behind zero = alike
    behind (suc j) = ap read (get_or_past (Some table ∷ []) (suc j) None (omega arith))

module _ (w : World) (b : Arena) (cache : CacheId) (ns : List NodeId) (right : IsStoreRight w) (m : IsMade w.caches b cache None Zero ns) where
  abbrev a : Arena
  a = w.caches

  own_alike : {X : Type 0} (f : OwnState → X) → f Zero ≡ f Absent → (n : NodeId) → f (own_of b n) ≡ f (own_of a n)
  unfolding cell
  own_alike f alike n = filled_own ns a.cells 0 b.cells cache Zero f n.0 m.cells alike

  name_alike : {X : Type 0} (f : NodeName → X) → ((p : ℕ) → f (Live cache (record { 0 = p })) ≡ f (Working 0)) → (n : NodeId) → f (name_of b n) ≡ f (name_of a n)
  unfolding cell
  name_alike f alike n = filled_cell ns a.cells 0 b.cells cache Zero (λ c. f c.name) n.0 m.cells alike

  -- a name has the home that it had
  home_in : (x : NodeName) → home_named b.caches x ≡ home_named a.caches x
  home_in (Working k) = refl
  home_in (Live c page) =
      ap (λ (ts : List (Option Table)). home_named ts (Live c page)) m.caches
      ∙ read_tables a.caches (new_table None ns) (λ (o : Option Table). option_map (λ segment. record { segment = segment; page = page }) (option_and_then (λ (t : Table). t.segment) o)) refl c.0

  in_new : (page : ℕ) → unwrap_or (slice_get (replicate (length ns) false) page) false ≡ false
  in_new page = unwrap_or-slice_get (replicate (length ns) false) page false ∙ same_all (length ns) false page

  granted_in : (x : NodeName) → is_name_granted b x ≡ is_name_granted a x
  granted_in (Working k) = refl
  granted_in (Live c page) =
      ap (λ (ts : List (Option Table)). unwrap_or (option_and_then (λ (t : Table). slice_get t.grants page.0) (table_at ts c.0)) false) m.caches
      ∙ read_tables a.caches (new_table None ns) (λ (o : Option Table). unwrap_or (option_and_then (λ (t : Table). slice_get t.grants page.0) o) false) (in_new page.0) c.0

  unmade : table_at a.caches cache.0 ≡ None
  unmade =
      let number : cache.0 ≡ suc (length a.caches) = omega (arith, m.number) in
      ap (table_at a.caches) number ∙ get_or_past a.caches (length a.caches) None (omega arith)

  pub home_alike : (n : NodeId) → home_of b n ≡ home_of w.caches n
  home_alike n = home_in (name_of b n) ∙ name_alike (home_named a.caches) (λ p. ap (λ (o : Option Table). option_map (λ segment. record { segment = segment; page = record { 0 = p } }) (option_and_then (λ (t : Table). t.segment) o)) unmade) n

  granted_alike : (n : NodeId) → is_name_granted b (name_of b n) ≡ is_name_granted a (name_of a n)
  granted_alike n = granted_in (name_of b n) ∙ name_alike (is_name_granted a) (λ p. ap (λ (o : Option Table). unwrap_or (option_and_then (λ (t : Table). slice_get t.grants p) o) false) unmade) n

  clean_alike : (n : NodeId) → is_clean (own_of b n) ≡ is_clean (own_of a n)
  clean_alike n = own_alike is_clean refl n

  -- a clean node has the page that it had
  clean_page : (n : NodeId) → is_clean (own_of b n) ≡ true → own_page (record w { caches = b }) n ≡ own_page w n
  clean_page n clean =
      let page : Option (List ℕ) → OwnState → Option (Option (List ℕ)) = λ home x. page_by (option_map (λ _. zero_page w) w.told) (option_map (λ _. frame_page w n) w.told) (λ k. option_and_then (λ h. slot_of h k) w.told) home x in
      let was : is_clean (own_of a n) ≡ true = sym (clean_alike n) ∙ clean in
      ap (λ (o : Option Home). page (option_and_then (λ h. option_and_then (page_at h) o) w.told) (own_of b n)) (home_alike n)
      ∙ sym (ap (λ (t : Bool). cond t (page (home_page w n) (own_of b n)) None) clean)
      ∙ own_alike (λ x. cond (is_clean x) (page (home_page w n) x) None) refl n
      ∙ ap (λ (t : Bool). cond t (page (home_page w n) (own_of a n)) None) was

  -- it may be made where there are slots for its pages
  pub made_right : length (own_states w.caches) + length ns ≤ length w.slots → IsStoreRight (record w { caches = b })
  made_right room = record {
    tied = record {
      placed = record {
        bound = λ n. right.tied.placed.bound n ∙ sym (ap bit (own_alike is_resident refl n));
        held = right.tied.placed.held;
        slots = λ s. filled_count ns a.cells 0 b.cells cache Zero (is_slot s) m.cells refl ∙ right.tied.placed.slots s;
        in_slots = right.tied.placed.in_slots ∙ sym (filled_count ns a.cells 0 b.cells cache Zero is_in_slot m.cells refl);
      };
      backed = record {
        there = right.tied.backed.there;
        homes = λ n clean. ap is_some (home_alike n) ∙ right.tied.backed.homes n (sym (clean_alike n) ∙ clean);
        apart = λ n k home e q. right.tied.backed.apart n k home (sym (home_alike n) ∙ e) (sym (home_alike k) ∙ q);
        lies = λ n home e. right.tied.backed.lies n home (sym (home_alike n) ∙ e);
        clean = λ n clean. clean_page n clean ∙ right.tied.backed.clean n (sym (clean_alike n) ∙ clean)
            ∙ ap (λ (o : Option Home). Some (option_and_then (λ h. option_and_then (page_at h) o) w.told)) (sym (home_alike n));
      };
      fitted = right.tied.fitted;
    };
    granted = record {
      granted = λ n home clean. granted_alike n ∙ right.granted.granted n (sym (ap is_some (home_alike n)) ∙ home) (sym (clean_alike n) ∙ clean);
      allowed = λ n home e granted. right.granted.allowed n home (sym (home_alike n) ∙ e) (sym (granted_alike n) ∙ granted);
    };
    capacity = omega (arith, filled_length ns a.cells 0 b.cells cache Zero m.cells, room);
  }
