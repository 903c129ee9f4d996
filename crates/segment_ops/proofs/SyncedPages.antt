-- Pages whose segment holds what their nodes read, while further pages are pushed.
use Rattle.std.proofs.Common.{◌≡◌, ◌≢◌, ℕ, zero, suc, ◌+◌, ◌*◌, ◌-◌, ◌<◌, ◌≤◌, ◌||◌, Bool, true, false, cond, List, [], ◌∷◌, Option, Some, None, is_some, unwrap_or, refl, sym, ap, ◌∙◌, subst, arith, inl, inr, ◌⊎◌}
use Rattle.std.specs.FinMap.{empty}
use Rattle.std.specs.Option.{IfSome, IsSome, option_map_or}
use Rattle.std.specs.Prelude.{option_and_then, slice_get}
use Rattle.std.proofs.lemmas.Bool.{cases_eq, cases_lt}
use Rattle.vm_ids.specs.Counting.{MapperCounts}
use Rattle.vm_ids.specs.Forest.Shape.{IsWellShaped}
use Rattle.vm_ids.specs.Held.{Held, Segments, put_segment_page, segments_in, segments_of}
use Rattle.vm_ids.specs.declared.command.Extent.{Extent}
use Rattle.vm_ids.specs.declared.numbers.NodeId.{NodeId}
use Rattle.vm_ids.specs.declared.numbers.SegId.{SegId}
use Rattle.local_cache.specs.declared.home.Home.{Home}
use Rattle.local_cache.specs.declared.own_state.OwnState.{OwnState}
use Rattle.local_cache.specs.declared.own_state.OwnState.TheVariants.{Absent, Zero, Resident, Slot, OnSegment}
use Rattle.local_cache.specs.Arena.{Arena, HasNode, Table, node_at, table_at}
use Rattle.local_cache.specs.Changes.{Like}
use Rattle.local_cache.specs.Home.{home_of}
use Rattle.local_cache.specs.Own.{is_absent, own_of}
use Rattle.local_cache.specs.Reading.{forest_of}
use Rattle.local_cache.specs.Sound.{IsSound}
use Rattle.local_cache.specs.Whole.{segment_of}
use Rattle.residency.specs.Causes.{Later}
use Rattle.residency.specs.World.{IsStoreRight, Still, World, home_page, is_clean, page_at}
use Rattle.residency.proofs.Worlds.After.{absent_stays, held_stays}
use Rattle.residency.proofs.Pushes.Outside.{home_elsewhere, home_here}
use Rattle.residency.proofs.Forests.StillForest.{still_caches_sound, still_like}
use Rattle.fault_path.specs.Costs.{TrafficAtMost}
use Rattle.fault_path.proofs.Calls.Kept.{still_shaped}
use Rattle.residency.specs.Pushing.{put_home, put_homes, told_bytes}
use Rattle.segment_ops.specs.Pushing.{TellsValues, value_at}
use Rattle.segment_ops.specs.Synced.{AreSynced, CleanStays, IsSynced, is_settled, unclean, unclean_at, unclean_count}
use Rattle.segment_ops.proofs.Granting.{range_home}
use Rattle.segment_ops.proofs.PushedPage.{still_reads}
use Rattle.segment_ops.proofs.Values.{held_home, own_is_value}

-- A page of the segments

-- segments as a mapper holds them
abbrev held_as : Segments → Held
held_as s = record { segments = s.pages; slots = empty; denied = s.denied }

abbrev page_in : Segments → Home → Option (List ℕ)
page_in s home = page_at (held_as s) home

home_cases : (a b : Home) → (a ≡ b) ⊎ (a ≢ b)
home_cases a b = elim (cases_eq a.segment.0 b.segment.0) [
  | inl e ↦ elim (cases_eq a.page.0 b.page.0) [
    | inl q ↦ inl (λ i. record { segment = record { 0 = e i }; page = record { 0 = q i } })
    | inr d ↦ inr (λ e. d (ap (λ (h : Home). h.page.0) e))
  ]
  | inr d ↦ inr (λ e. d (ap (λ (h : Home). h.segment.0) e))
]

-- the page at the home of node n is what n reads, and stays so
module _ (w : World) (right : IsStoreRight w) (n : NodeId) (home : Home) (at : home_of w.caches n ≡ Some home) where
  one_stays : (k : NodeId) (s : Segments) → page_in s home ≡ Some (told_bytes (value_at w n)) → page_in (put_home w.caches (value_at w) k s) home ≡ Some (told_bytes (value_at w n))
  one_stays k s e = go (home_of w.caches k) refl
    where
      go : (o : Option Home) → home_of w.caches k ≡ o → page_in (option_map_or (λ (h : Home). put_segment_page h.segment.0 h.page.0 (told_bytes (value_at w k)) s) o s) home ≡ Some (told_bytes (value_at w n))
      go None q = e
      go (Some other) q = elim (home_cases home other) [
        | inl same ↦ (
            let is : k ≡ n = right.tied.backed.apart k n home (q ∙ ap Some (sym same)) at in
            ap (page_in (put_segment_page other.segment.0 other.page.0 (told_bytes (value_at w k)) s)) same
            ∙ home_here (held_as s) other (told_bytes (value_at w k)) (ap is_some (ap (page_in s) (sym same) ∙ e)) ∙ ap (λ m. Some (told_bytes (value_at w m))) is)
        | inr d ↦ home_elsewhere (held_as s) other home (told_bytes (value_at w k)) d ∙ e
      ]

  all_stay : (ns : List NodeId) (s : Segments) → page_in s home ≡ Some (told_bytes (value_at w n)) → (t : Segments) → put_homes w.caches (value_at w) ns (Some s) ≡ Some t → page_in t home ≡ Some (told_bytes (value_at w n))
  all_stay [] s e t q = let same : s ≡ t = cc q in ap (λ u. page_in u home) (sym same) ∙ e
  all_stay (k ∷ ns) s e t q = all_stay ns (put_home w.caches (value_at w) k s) (one_stays k s e) t q

  none_told : (ns : List NodeId) → put_homes w.caches (value_at w) ns None ≡ None
  none_told [] = refl
  none_told (k ∷ ns) = none_told ns

  -- by what is told before and after
  told_stays : (ns : List NodeId) (told now : Option Held) → segments_of now ≡ put_homes w.caches (value_at w) ns (segments_of told) → IfSome told (λ h. page_at h home ≡ Some (told_bytes (value_at w n)))
      → option_and_then (λ h. page_at h home) now ≡ option_and_then (λ h. page_at h home) told
  told_stays ns None None e is = refl
  told_stays ns None (Some g) e is = absurd (let none = none_told ns in cc (e, none))
  told_stays ns (Some h) None e is = absurd (some_told ns (segments_in h) (sym e))
    where
      some_told : (ns : List NodeId) (s : Segments) → put_homes w.caches (value_at w) ns (Some s) ≡ None → ⊥
      some_told [] s q = cc q
      some_told (k ∷ ns) s q = some_told ns (put_home w.caches (value_at w) k s) q
  told_stays ns (Some h) (Some g) e is = all_stay ns (segments_in h) is (segments_in g) (sym e) ∙ sym is

clean_there : (x : OwnState) → is_clean x ≡ true → is_absent x ≡ false
clean_there Absent e = absurd (cc e)
clean_there Zero e = refl
clean_there (Resident d) e = refl
clean_there (Slot s) e = refl
clean_there OnSegment e = refl

clean_settled : (x : OwnState) → is_clean x ≡ true → is_settled x ≡ true
clean_settled Absent e = refl
clean_settled Zero e = absurd (cc e)
clean_settled (Resident d) e = e
clean_settled (Slot s) e = absurd (cc e)
clean_settled OnSegment e = refl

absent_settled : (x : OwnState) → is_absent x ≡ true → is_settled x ≡ true
absent_settled x e = ap (λ b. b || is_clean x) e

settled_cases : (x : OwnState) → is_settled x ≡ true → (is_absent x ≡ true) ⊎ (is_clean x ≡ true)
settled_cases Absent e = inl refl
settled_cases Zero e = absurd (cc e)
settled_cases (Resident d) e = inr e
settled_cases (Slot s) e = absurd (cc e)
settled_cases OnSegment e = inr refl

-- What stays synced

module _ (w v : World) (right : IsStoreRight w) (still : Still w v) (sound : IsSound w.caches) (shaped : IsWellShaped (forest_of w.caches)) (sound_v : IsSound v.caches) (clean : CleanStays w.caches v.caches) (c d : MapperCounts) (told : TellsValues w v c d) where
  homes : (n : NodeId) → home_of v.caches n ≡ home_of w.caches n
  homes = (still_reads w v still).homes

  reads : (told : Option Held) (home : Home) (bytes : Option (List ℕ)) → IfSome told (λ h. IsSome (page_at h home)) → bytes ≡ option_and_then (λ h. page_at h home) told → IfSome told (λ h. page_at h home ≡ Some (unwrap_or bytes []))
  reads None home bytes there e = tt
  reads (Some h) home None there e = absurd (let some : is_some (page_at h home) ≡ true = there in cc (some, e))
  reads (Some h) home (Some x) there e = sym e

  inherited : (n : NodeId) (home : Home) → home_of w.caches n ≡ Some home → IsSynced w n → home_page v n ≡ home_page w n
  inherited n home at synced =
      let here : home_page w n ≡ option_and_then (λ h. page_at h home) w.told = ap (λ (o : Option Home). option_and_then (λ h. option_and_then (page_at h) o) w.told) at in
      let now : home_page v n ≡ option_and_then (λ h. page_at h home) v.told = ap (λ (o : Option Home). option_and_then (λ h. option_and_then (page_at h) o) v.told) (homes n ∙ at) in
      let bytes : told_bytes (value_at w n) ≡ unwrap_or (home_page w n) [] = ap told_bytes synced.page in
      now ∙ told_stays w right n home at told.pushed w.told v.told told.segments
      (subst (λ b. IfSome w.told (λ h. page_at h home ≡ Some b)) (sym bytes) (reads w.told home (home_page w n) (right.tied.backed.lies n home at) here)) ∙ sym here

  held : (n : NodeId) (home : Home) → home_of w.caches n ≡ Some home → HasNode v.caches n
  held n home at = held_stays w.caches v.caches still.stays.caches n (held_home w sound shaped n home at)

  owned : (n : NodeId) (home : Home) → home_of w.caches n ≡ Some home → is_clean (own_of v.caches n) ≡ true → IsSynced v n
  owned n home at is = record {
    page = own_is_value v sound_v (still_shaped w v still sound shaped) n (held n home at) (clean_there (own_of v.caches n) is) ∙ still.stays.right.tied.backed.clean n is;
    settled = clean_settled (own_of v.caches n) is;
  }

  pub synced_stays : (n : NodeId) (home : Home) → home_of w.caches n ≡ Some home → IsSynced w n → IsSynced v n
  synced_stays n home at synced = elim (settled_cases (own_of w.caches n) synced.settled) [
    | inl absent ↦ record {
      page = (still_reads w v still).values n ∙ synced.page ∙ ap Some (sym (inherited n home at synced));
      settled = absent_settled (own_of v.caches n) (absent_stays w v still n ∙ absent);
    }
    | inr is ↦ owned n home at (clean n is)
  ]

-- a page that its segment holds is synced
pub clean_synced : (w : World) → IsStoreRight w → IsSound w.caches → IsWellShaped (forest_of w.caches) → (n : NodeId) → HasNode w.caches n → is_clean (own_of w.caches n) ≡ true → IsSynced w n
clean_synced w right sound shaped n held is = record {
  page = own_is_value w sound shaped n held (clean_there (own_of w.caches n) is) ∙ right.tied.backed.clean n is;
  settled = clean_settled (own_of w.caches n) is;
}

-- Over a range

-- the tables stay
pub same_node : (a b : Arena) → Like a b → (cache page : ℕ) → node_at b cache page ≡ node_at a cache page
same_node a b like cache page = ap (λ (ts : List (Option Table)). option_and_then (λ t. option_and_then (λ e. e.node) (slice_get t.pages page)) (table_at ts cache)) like.caches

-- One page of the range was pushed, or couldn't be.
module _ (range : Extent) (at : ℕ) (w v : World) (right : IsStoreRight w) (still : Still w v) (sound : IsSound w.caches) (shaped : IsWellShaped (forest_of w.caches)) (clean : CleanStays w.caches v.caches) (c d : MapperCounts) (told : TellsValues w v c d)
    (named : (s : SegId) × (segment_of w.caches range.cache.0 ≡ Some (Some s))) (synced : AreSynced range at w) where
  node_before : (page : ℕ) (n : NodeId) → node_at v.caches range.cache.0 page ≡ Some n → node_at w.caches range.cache.0 page ≡ Some n
  node_before page n e = sym (same_node w.caches v.caches (still_like w.caches v.caches still.stays.caches) range.cache.0 page) ∙ e

  pub synced_kept : AreSynced range at v
  synced_kept page n from below e =
      let before = node_before page n e in
      synced_stays w v right still sound shaped (still_caches_sound w v still sound) clean c d told n _ (range_home w.caches sound range.cache page n named.0 before named.1) (synced page n from below before)

-- the range up to this page is synced, and its rest up to another one
pub synced_on : (range : Extent) (at left past : ℕ) (v : World) → AreSynced range at v → AreSynced (record range { first = record { 0 = at }; pages = left }) past v → AreSynced range past v
synced_on range at left past v before behind page n from below e = elim (cases_lt page at) [
  | inl low ↦ before page n from low e
  | inr high ↦ behind page n high below e
]

-- What it costs

unclean_less : (x y : OwnState) → (is_clean x ≡ true → is_clean y ≡ true) → unclean y ≤ unclean x
unclean_less x y stays = go (is_clean x) (is_clean y) stays
  where
    go : (b d : Bool) → (b ≡ true → d ≡ true) → cond {A = ℕ} d 0 1 ≤ cond {A = ℕ} b 0 1
    go true true stays = omega arith
    go true false stays = absurd (cc (stays refl))
    go false true stays = omega arith
    go false false stays = omega arith

count_up : (a : Arena) (cache first k j : ℕ) → unclean_count a cache first k ≤ unclean_count a cache first (j + k)
count_up a cache first k zero = let same : zero + k ≡ k = omega arith in let e = ap (unclean_count a cache first) same in omega (arith, e)
count_up a cache first k (suc j) =
    let same : suc j + k ≡ suc (j + k) = omega arith in
    let e = ap (unclean_count a cache first) same in
    let less = count_up a cache first k j in
    omega (arith, e, less)

pub no_traffic : (a : Arena) (cache first : ℕ) (c : MapperCounts) → TrafficAtMost (unclean_count a cache first (first - first)) (2 * unclean_count a cache first (first - first)) c c
no_traffic a cache first c = record { pulled = λ low. omega arith; pushed = λ low. omega arith }

-- no more pages are unclean than were, where clean ones stay so
pub unclean_stays : (a b : Arena) → Like a b → CleanStays a b → (cache page : ℕ) → unclean_at b cache page ≤ unclean_at a cache page
unclean_stays a b like clean cache page = subst (λ (o : Option NodeId). option_map_or (λ n. unclean (own_of b n)) o 0 ≤ unclean_at a cache page) (sym (same_node a b like cache page)) (go (node_at a cache page))
  where
    go : (o : Option NodeId) → option_map_or (λ n. unclean (own_of b n)) o 0 ≤ option_map_or (λ n. unclean (own_of a n)) o 0
    go None = omega arith
    go (Some n) = unclean_less (own_of a n) (own_of b n) (clean n)

-- the pages up to this one were pushed, and it and so many from it on, of which no other one needed
-- a push
pub costs_then : (a : Arena) (range : Extent) (at pages here : ℕ) (b c d : MapperCounts) → range.first.0 ≤ at → 0 < pages → here ≤ unclean_at a range.cache.0 at
    → TrafficAtMost (unclean_count a range.cache.0 range.first.0 (at - range.first.0)) (2 * unclean_count a range.cache.0 range.first.0 (at - range.first.0)) b c → TrafficAtMost here (2 * here) c d → Later c d
    → TrafficAtMost (unclean_count a range.cache.0 range.first.0 (at + pages - range.first.0)) (2 * unclean_count a range.cache.0 range.first.0 (at + pages - range.first.0)) b d
costs_then a range at pages here b c d low some less one two later =
    let k : at + pages - range.first.0 ≡ (pages - 1) + suc (at - range.first.0) = omega (arith, low, some) in
    let place : range.first.0 + (at - range.first.0) ≡ at = omega (arith, low) in
    let count = ap (unclean_count a range.cache.0 range.first.0) k in
    let more = count_up a range.cache.0 range.first.0 (suc (at - range.first.0)) (pages - 1) in
    let this = ap (unclean_at a range.cache.0) place in
    record {
      pulled = λ below. (let first : c.pulls ≤ b.pulls + unclean_count a range.cache.0 range.first.0 (at - range.first.0) = one.pulled (omega (arith, later.pulls, below)) in let second : d.pulls ≤ c.pulls + here = two.pulled below in omega (arith, count, more, this, less));
      pushed = λ below. (let first : c.pushes ≤ b.pushes + 2 * unclean_count a range.cache.0 range.first.0 (at - range.first.0) = one.pushed (omega (arith, later.pushes, below)) in let second : d.pushes ≤ c.pushes + 2 * here = two.pushed below in omega (arith, count, more, this, less));
    }

-- and no more of them are left out
pub costs_most : (a : Arena) (range : Extent) (k : ℕ) (b c : MapperCounts) → k ≤ range.pages → TrafficAtMost (unclean_count a range.cache.0 range.first.0 k) (2 * unclean_count a range.cache.0 range.first.0 k) b c
    → TrafficAtMost (unclean_count a range.cache.0 range.first.0 range.pages) (2 * unclean_count a range.cache.0 range.first.0 range.pages) b c
costs_most a range k b c low traffic =
    let all : (range.pages - k) + k ≡ range.pages = omega (arith, low) in
    let more = count_up a range.cache.0 range.first.0 k (range.pages - k) in
    let e = ap (unclean_count a range.cache.0 range.first.0) all in
    record {
      pulled = λ below. (let it : c.pulls ≤ b.pulls + unclean_count a range.cache.0 range.first.0 k = traffic.pulled below in omega (arith, more, e));
      pushed = λ below. (let it : c.pushes ≤ b.pushes + 2 * unclean_count a range.cache.0 range.first.0 k = traffic.pushed below in omega (arith, more, e));
    }
