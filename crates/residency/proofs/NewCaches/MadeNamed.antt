-- The cache of a segment is made: the store is right still.
use Rattle.std.proofs.Common.{◌≡◌, ◌⊎◌, ℕ, zero, suc, ◌+◌, ◌<◌, ◌≤◌, true, false, List, [], ◌∷◌, length, Option, Some, None, IsSome, is_some, unwrap_or, replicate, refl, sym, ap, ◌∙◌, subst, inl, inr, arith}
use Rattle.std.specs.Prelude.{IfSome, option_and_then, option_map, slice_get}
use Rattle.std.proofs.lemmas.Bool.{false≢true}
use Rattle.vm_ids.specs.Held.{page_of, slot_of}
use Rattle.vm_ids.specs.declared.node_name.NodeName.{NodeName}
use Rattle.vm_ids.specs.declared.node_name.NodeName.TheVariants.{Live, Working}
use Rattle.vm_ids.specs.declared.numbers.CacheId.{CacheId}
use Rattle.vm_ids.specs.declared.numbers.NodeId.{NodeId}
use Rattle.vm_ids.specs.declared.numbers.SegId.{SegId}
use Rattle.local_cache.specs.declared.home.Home.{Home}
use Rattle.local_cache.specs.declared.own_state.OwnState.{OwnState}
use Rattle.local_cache.specs.declared.own_state.OwnState.TheVariants.{OnSegment}
use Rattle.local_cache.specs.Arena.{Arena, Cell, HasPage, IsMade, Table, blank, cell, find, is_granted, new_cell, table_at}
use Rattle.local_cache.specs.Home.{home_named, home_of}
use Rattle.local_cache.specs.Own.{is_in_slot, is_resident, is_slot, own_of, own_states}
use Rattle.local_cache.specs.Reading.{name_of}
use Rattle.local_cache.specs.Sound.{IsSound}
use Rattle.local_cache.specs.Whole.{segment_of}
use Rattle.local_cache.proofs.Names.Homes.{home-made_other, home_none, home_page}
use Rattle.local_cache.proofs.NewCache.FoundPages.{last_table, made_cases, made_pages, made_segment, made_tables}
use Rattle.local_cache.proofs.Nodes.OwnStates.{filled_count, filled_length, filled_own}
use Rattle.residency.specs.World as worlds
use Rattle.residency.specs.World.{IsStoreRight, World, frame_page, is_clean, is_name_granted, own_page, page_at, page_by, zero_page}
use Rattle.vm_ids.proofs.Places.{bit}

-- no page of a new cache is granted
alike : {X : Type 0} (x : X) (n page : ℕ) → unwrap_or (slice_get (replicate n x) page) x ≡ x
alike x zero page = refl
alike x (suc n) zero = refl
alike x (suc n) (suc page) = alike x n page

made_ungranted : (old new : Arena) (cache : CacheId) (segment : Option SegId) (own : OwnState) (ns : List NodeId) (page : ℕ) → IsMade old new cache segment own ns → is_granted new cache.0 page ≡ false
made_ungranted old new cache segment own ns page m =
    ap (λ (o : Option Table). unwrap_or (option_and_then (λ (t : Table). slice_get t.grants page) o) false) (last_table old new cache segment own ns m) ∙ alike false (length ns) page

-- the cache of a name with a home is live and of that segment
home_segment : (ts : List (Option Table)) (x : NodeName) (home : Home) → home_named ts x ≡ Some home → (c : ℕ) × (option_map (λ (t : Table). t.segment) (table_at ts c) ≡ Some (Some home.segment))
home_segment ts (Working k) home e = absurd (cc e)
home_segment ts (Live c page) home e = (c.0, of_table (table_at ts c.0) e)
  where
    of_segment : (o : Option SegId) → option_map (λ segment. record { segment = segment; page = page }) o ≡ Some home → o ≡ Some home.segment
    of_segment None e = absurd (cc e)
    of_segment (Some s) e = (let same : record { segment = s; page = page } ≡ home = cc e in ap (λ (h : Home). Some h.segment) same)

    of_table : (o : Option Table) → option_map (λ segment. record { segment = segment; page = page }) (option_and_then (λ (t : Table). t.segment) o) ≡ Some home → option_map (λ (t : Table). t.segment) o ≡ Some (Some home.segment)
    of_table None e = absurd (cc e)
    of_table (Some t) e = ap Some (of_segment t.segment e)

table_below : (ts : List (Option Table)) (c : ℕ) (t : Table) → table_at ts c ≡ Some t → c ≤ length ts
table_below ts zero t e = absurd (cc e)
table_below [] (suc k) t e = absurd (cc e)
table_below (u ∷ ts) (suc zero) t e = omega arith
table_below (u ∷ ts) (suc (suc k)) t e = (let low = table_below ts (suc k) t e in omega (arith, low))

module _ (w : World) (b : Arena) (cache : CacheId) (seg : SegId) (ns : List NodeId) (right : IsStoreRight w) (m : IsMade w.caches b cache (Some seg) OnSegment ns) (before : IsSound w.caches) (after : IsSound b)
    (free : (other : ℕ) → segment_of w.caches other ≡ Some (Some seg) → ⊥) (there : (page : ℕ) → page < length ns → IfSome w.told (λ h. IsSome (page_of h seg.0 page))) where
  abbrev a : Arena
  a = w.caches

  abbrev v : World
  v = record w { caches = b }

  -- a node of the cache, by its page
  record IsNew (n : NodeId) : Type 0 where
    page : ℕ
    low : page < length ns
    is : find b n ≡ Some (new_cell (Live cache (record { 0 = page })) OnSegment)

  each : (n : NodeId) → (find b n ≡ find a n) ⊎ IsNew n
  each n = elim (made_cases a b cache (Some seg) OnSegment ns m n) [
    | inl same ↦ inl same
    | inr new ↦ inr (record { page = new.0; low = new.1; is = new.2 })
  ]

  same_cell : (n : NodeId) → find b n ≡ find a n → cell b n ≡ cell a n
  unfolding cell
  same_cell n e = ap (λ o. unwrap_or o blank) e

  cell_new : (n : NodeId) (new : IsNew n) → cell b n ≡ new_cell (Live cache (record { 0 = new.page })) OnSegment
  unfolding cell
  cell_new n new = ap (λ o. unwrap_or o blank) new.is

  home_old : (n : NodeId) → find b n ≡ find a n → home_of b n ≡ home_of a n
  home_old n e = go (find a n) refl
    where
      go : (o : Option Cell) → find a n ≡ o → home_of b n ≡ home_of a n
      go None none = home_none b n (e ∙ none) ∙ sym (home_none a n none)
      go (Some c) some = home-made_other a b cache (Some seg) OnSegment ns m before.kept.listed n (ap is_some some)

  home_new : (n : NodeId) (new : IsNew n) → home_of b n ≡ Some (record { segment = seg; page = record { 0 = new.page } })
  home_new n new =
      let p : HasPage b cache new.page OnSegment = made_pages a b cache (Some seg) OnSegment ns new.page m new.low in
      let name : name_of b p.node ≡ name_of b n = ap (λ (c : Cell). c.name) (cell_new p.node (record { page = new.page; low = new.low; is = p.is }) ∙ sym (cell_new n new)) in
      subst (λ (k : NodeId). home_of b k ≡ Some (record { segment = seg; page = record { 0 = new.page } })) (after.kept.named.apart p.node n (ap is_some p.is) (ap is_some new.is) name)
      (home_page b cache new.page OnSegment seg p (made_segment a b cache (Some seg) OnSegment ns m))

  resident_alike : (n : NodeId) → is_resident (own_of b n) ≡ is_resident (own_of a n)
  unfolding cell
  resident_alike n = filled_own ns a.cells 0 b.cells cache OnSegment is_resident n.0 m.cells refl

  clean_old : (n : NodeId) → find b n ≡ find a n → is_clean (own_of b n) ≡ is_clean (own_of a n)
  clean_old n e = ap (λ (c : Cell). is_clean c.own) (same_cell n e)

  clean_new : (n : NodeId) → IsNew n → is_clean (own_of b n) ≡ true
  clean_new n new = ap (λ (c : Cell). is_clean c.own) (cell_new n new)

  home_page_old : (n : NodeId) → find b n ≡ find a n → worlds.home_page v n ≡ worlds.home_page w n
  home_page_old n e = ap (λ (o : Option Home). option_and_then (λ h. option_and_then (page_at h) o) w.told) (home_old n e)

  abbrev page_with : Option (List ℕ) → NodeId → OwnState → Option (Option (List ℕ))
  page_with home n x = page_by (option_map (λ _. zero_page w) w.told) (option_map (λ _. frame_page w n) w.told) (λ k. option_and_then (λ h. slot_of h k) w.told) home x

  pub own_old : (n : NodeId) → find b n ≡ find a n → own_page v n ≡ own_page w n
  own_old n e = λ i. page_with (home_page_old n e i) n (same_cell n e i).own

  pub own_new : (n : NodeId) (page : ℕ) → page < length ns → find b n ≡ Some (new_cell (Live cache (record { 0 = page })) OnSegment) → own_page v n ≡ Some (option_and_then (λ h. page_of h seg.0 page) w.told)
  own_new n page low is =
      let new : IsNew n = record { page = page; low = low; is = is } in
      ap (λ (c : Cell). page_with (worlds.home_page v n) n c.own) (cell_new n new)
      ∙ ap (λ (o : Option Home). Some (option_and_then (λ h. option_and_then (page_at h) o) w.told)) (home_new n new)

  clash : (n : NodeId) (home : Home) → home_of a n ≡ Some home → home.segment ≡ seg → ⊥
  clash n home e same = (let c = home_segment a.caches (name_of a n) home e in free c.0 (c.1 ∙ ap (λ (s : SegId). Some (Some s)) same))

  apart_here : (n k : NodeId) (home : Home) → home_of b n ≡ Some home → home_of b k ≡ Some home → (find b n ≡ find a n) ⊎ IsNew n → (find b k ≡ find a k) ⊎ IsNew k → n ≡ k
  apart_here n k home e q (inl x) (inl y) = right.tied.backed.apart n k home (sym (home_old n x) ∙ e) (sym (home_old k y) ∙ q)
  apart_here n k home e q (inr x) (inr y) =
      let two : Some (record { segment = seg; page = record { 0 = x.page } }) ≡ Some (record { segment = seg; page = record { 0 = y.page } }) = sym (home_new n x) ∙ e ∙ sym q ∙ home_new k y in
      let one : record { segment = seg; page = record { 0 = x.page } } ≡ record { segment = seg; page = record { 0 = y.page } } = cc two in
      let page : x.page ≡ y.page = ap (λ (h : Home). h.page.0) one in
      after.kept.named.apart n k (ap is_some x.is) (ap is_some y.is)
      (ap (λ (c : Cell). c.name) (cell_new n x) ∙ ap (λ (p : ℕ). Live cache (record { 0 = p })) page ∙ sym (ap (λ (c : Cell). c.name) (cell_new k y)))
  apart_here n k home e q (inl x) (inr y) =
      let two : Some (record { segment = seg; page = record { 0 = y.page } }) ≡ Some home = sym (home_new k y) ∙ q in
      let one : record { segment = seg; page = record { 0 = y.page } } ≡ home = cc two in
      absurd (clash n home (sym (home_old n x) ∙ e) (sym (ap (λ (h : Home). h.segment) one)))
  apart_here n k home e q (inr x) (inl y) =
      let two : Some (record { segment = seg; page = record { 0 = x.page } }) ≡ Some home = sym (home_new n x) ∙ e in
      let one : record { segment = seg; page = record { 0 = x.page } } ≡ home = cc two in
      absurd (clash k home (sym (home_old k y) ∙ q) (sym (ap (λ (h : Home). h.segment) one)))

  lies_new : (n : NodeId) (x : IsNew n) (home : Home) → home_of b n ≡ Some home → IfSome w.told (λ h. IsSome (page_at h home))
  lies_new n x home e =
      let two : Some (record { segment = seg; page = record { 0 = x.page } }) ≡ Some home = sym (home_new n x) ∙ e in
      let one : record { segment = seg; page = record { 0 = x.page } } ≡ home = cc two in
      subst (λ (k : Home). IfSome w.told (λ h. IsSome (page_at h k))) one (there x.page x.low)

  -- what was granted of an old page is granted, and no more
  granted_old : (n : NodeId) → find b n ≡ find a n → IsSome (home_of a n) → is_name_granted b (name_of b n) ≡ is_name_granted a (name_of a n)
  granted_old n e home = ap (λ (c : Cell). is_name_granted b c.name) (same_cell n e) ∙ of_name (name_of a n) home
    where
      some_table : (c : ℕ) (o : Option Table) → table_at a.caches c ≡ o → IsSome (option_and_then (λ (t : Table). t.segment) o) → c ≤ length a.caches
      some_table c None e s = absurd (false≢true s)
      some_table c (Some t) e s = table_below a.caches c t e

      some_mapped : {A B : Type 0} (f : A → B) (o : Option A) → IsSome (option_map f o) → IsSome o
      some_mapped f None s = s
      some_mapped f (Some x) s = refl

      of_name : (x : NodeName) → IsSome (home_named a.caches x) → is_name_granted b x ≡ is_name_granted a x
      of_name (Working k) s = refl
      of_name (Live c page) s =
          let low : c.0 ≤ length a.caches = some_table c.0 (table_at a.caches c.0) refl (some_mapped _ (option_and_then (λ (t : Table). t.segment) (table_at a.caches c.0)) s) in
          ap (λ (o : Option Table). unwrap_or (option_and_then (λ (t : Table). Rattle.std.specs.Prelude.slice_get t.grants page.0) o) false) (made_tables a b cache (Some seg) OnSegment ns m c.0 low)

  some_home : (n : NodeId) (home : Home) → find b n ≡ find a n → home_of b n ≡ Some home → IsSome (home_of a n)
  some_home n home same e = ap is_some (sym (home_old n same) ∙ e)

  -- The store is right beside the cache, where there are slots for its pages.
  pub opened_right : length (own_states w.caches) + length ns ≤ length w.slots → IsStoreRight v
  opened_right room = record {
    tied = record {
      placed = record {
        bound = λ n. right.tied.placed.bound n ∙ sym (ap bit (resident_alike n));
        held = right.tied.placed.held;
        slots = λ s. filled_count ns a.cells 0 b.cells cache OnSegment (is_slot s) m.cells refl ∙ right.tied.placed.slots s;
        in_slots = right.tied.placed.in_slots ∙ sym (filled_count ns a.cells 0 b.cells cache OnSegment is_in_slot m.cells refl);
      };
      backed = record {
        there = right.tied.backed.there;
        homes = λ n clean. elim (each n) [
          | inl e ↦ ap is_some (home_old n e) ∙ right.tied.backed.homes n (sym (clean_old n e) ∙ clean)
          | inr x ↦ ap is_some (home_new n x)
        ];
        apart = λ n k home e q. apart_here n k home e q (each n) (each k);
        lies = λ n home e. elim (each n) [
          | inl x ↦ right.tied.backed.lies n home (sym (home_old n x) ∙ e)
          | inr x ↦ lies_new n x home e
        ];
        clean = λ n clean. elim (each n) [
          | inl e ↦ own_old n e ∙ right.tied.backed.clean n (sym (clean_old n e) ∙ clean) ∙ ap Some (sym (home_page_old n e))
          | inr x ↦ ap (λ (c : Cell). page_with (worlds.home_page v n) n c.own) (cell_new n x)
        ];
      };
      fitted = right.tied.fitted;
    };
    granted = record {
      granted = λ n home clean. elim (each n) [
        | inl e ↦ (
            let was : IsSome (home_of a n) = sym (ap is_some (home_old n e)) ∙ home in
            granted_old n e was ∙ right.granted.granted n was (sym (clean_old n e) ∙ clean))
        | inr x ↦ absurd (false≢true (sym clean ∙ clean_new n x))
      ];
      allowed = λ n home e granted. elim (each n) [
        | inl x ↦ right.granted.allowed n home (sym (home_old n x) ∙ e) (sym (granted_old n x (some_home n home x e)) ∙ granted)
        | inr x ↦ absurd (false≢true (sym (ungranted n x) ∙ granted))
      ];
    };
    capacity = omega (arith, filled_length ns a.cells 0 b.cells cache OnSegment m.cells, room);
  }
    where
      ungranted : (n : NodeId) → IsNew n → is_name_granted b (name_of b n) ≡ false
      ungranted n x = ap (λ (c : Cell). is_name_granted b c.name) (cell_new n x) ∙ made_ungranted a b cache (Some seg) OnSegment ns x.page m
