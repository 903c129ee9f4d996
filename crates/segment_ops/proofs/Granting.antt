-- The write of a page is granted: the store stays right, and what is granted then.
use Rattle.std.proofs.Common.{◌≡◌, ℕ, zero, suc, ◌+◌, ◌<◌, ◌≤◌, Bool, true, false, List, [], ◌∷◌, map, length, set, get_or, Option, Some, None, is_some, refl, sym, ap, ◌∙◌, subst, arith, inl, inr, ◌⊎◌}
use Rattle.std.specs.List.{count_by}
use Rattle.std.specs.Option.{IfSome, IsSome}
use Rattle.std.specs.Prelude.{not, option_map, option_and_then, slice_get, unwrap_or, Result}
use Rattle.std.proofs.lemmas.Bool.{cases_eq}
use Rattle.vm_ids.specs.Counting.{Counted, MapperCounts}
use Rattle.vm_ids.specs.Denying.{denies}
use Rattle.vm_ids.specs.Held.{Held, page_of, slot_of}
use Rattle.vm_ids.specs.declared.command.Extent.{Extent}
use Rattle.vm_ids.specs.declared.node_name.NodeName.{NodeName}
use Rattle.vm_ids.specs.declared.node_name.NodeName.TheVariants.{Live, Working}
use Rattle.vm_ids.specs.declared.numbers.CacheId.{CacheId}
use Rattle.vm_ids.specs.declared.numbers.NodeId.{NodeId}
use Rattle.vm_ids.specs.declared.numbers.PageNo.{PageNo}
use Rattle.vm_ids.specs.declared.numbers.SegId.{SegId}
use Rattle.vm_ids.specs.Forest.Nodes.{node}
use Rattle.vm_ids.specs.Forest.PageMap.{bare}
use Rattle.vm_ids.proofs.Places.{bit}
use Rattle.local_cache.specs.declared.home.Home.{Home}
use Rattle.local_cache.specs.declared.own_state.OwnState.{OwnState}
use Rattle.local_cache.specs.Arena.{Arena, HasPlace, Table, find, changed_at, is_granted, locks_of, node_at, table_at, table_granting, table_of, with_grant}
use Rattle.local_cache.specs.Home.{home_named, home_of}
use Rattle.local_cache.specs.Own.{is_in_slot, is_resident, is_slot, own_of, own_states}
use Rattle.local_cache.specs.Reading.{name_of}
use Rattle.local_cache.specs.Sound.{IsSound}
use Rattle.local_cache.specs.Whole.{IsWhole, segment_of}
use Rattle.local_cache.proofs.Changes.Granted.{granted_cell, granted_forest, granted_other, granted_sound}
use Rattle.local_cache.proofs.Changes.Retabled.{node_place}
use Rattle.local_cache.proofs.Forest.ReadingBy.{lifted}
use Rattle.local_cache.proofs.Names.Homes.{home-with_grant}
use Rattle.local_cache.proofs.Tables.Sizes.{sizes_granted}
use Rattle.local_cache.proofs.Whole.LivePages.{whole_same}
use Rattle.residency.specs.Causes.{Later, Traffic}
use Rattle.residency.specs.World.{AreGranted, IsAllowed, IsStoreRight, World, frame_page, home_page, is_clean, is_name_granted, own_page, page_at, page_by, zero_page}
use Rattle.residency.specs.StoreForest.{store_forest}
use Rattle.residency.proofs.Worlds.Telling.{tells}
use Rattle.fault_path.proofs.Calls.Kept.{store_bare, store_page}
use Rattle.segment_ops.specs.Access.{AllowsBefore, GrantsBefore, without_grants, IsGranted}
use Rattle.segment_ops.proofs.Unsaved.{node_named}

some_of : {A : Type 0} (o : Option A) → IsSome o → (x : A) × (o ≡ Some x)
some_of None e = absurd (cc e)
some_of (Some x) e = (x, refl)

-- the home of a page of a cache of a segment
pub named_home : (a : Arena) (cache : CacheId) (page : PageNo) (segment : SegId) → segment_of a cache.0 ≡ Some (Some segment) → home_named a.caches (Live cache page) ≡ Some (record { segment = segment; page = page })
named_home a cache page segment e = go (table_of a cache.0) e
  where
    go : (o : Option Table) → option_map (λ t. t.segment) o ≡ Some (Some segment) → option_map {T = SegId} {U = Home} (λ s. record { segment = s; page = page }) (option_and_then (λ t. t.segment) o) ≡ Some (record { segment = segment; page = page })
    go None e = absurd (cc e)
    go (Some t) e = let is : t.segment ≡ Some segment = cc e in ap (λ (s : Option SegId). option_map {T = SegId} {U = Home} (λ s. record { segment = s; page = page }) s) is

pub range_home : (a : Arena) → IsSound a → (cache : CacheId) (page : ℕ) (n : NodeId) (segment : SegId) → node_at a cache.0 page ≡ Some n → segment_of a cache.0 ≡ Some (Some segment)
    → home_of a n ≡ Some (record { segment = segment; page = record { 0 = page } })
range_home a sound cache page n segment at e = ap (home_named a.caches) (node_named a sound cache page n at).1 ∙ named_home a cache (record { 0 = page }) segment e

-- where the caches' segment was asked for
pub segment_is : (a : Arena) (cache : CacheId) (segment : SegId) → (s : SegId) × (segment_of a cache.0 ≡ Some (Some s)) → Some segment ≡ option_and_then (λ (t : Table). t.segment) (table_of a cache.0) → segment_of a cache.0 ≡ Some (Some segment)
segment_is a cache segment named e = go (table_of a cache.0) named.1 e
  where
    go : (o : Option Table) → option_map (λ t. t.segment) o ≡ Some (Some named.0) → Some segment ≡ option_and_then (λ t. t.segment) o → option_map (λ t. t.segment) o ≡ Some (Some segment)
    go None f e = absurd (cc f)
    go (Some t) f e = ap Some (sym e)

-- the mapper holds each page of a range
pub range_lies : (w : World) → IsStoreRight w → IsSound w.caches → (cache : CacheId) (page : ℕ) (segment : SegId) → IsSome (node_at w.caches cache.0 page) → segment_of w.caches cache.0 ≡ Some (Some segment) → IfSome w.told (λ h. IsSome (page_of h segment.0 page))
range_lies w right sound cache page segment some e =
    let n = some_of (node_at w.caches cache.0 page) some in
    right.tied.backed.lies n.0 (record { segment = segment; page = record { 0 = page } }) (range_home w.caches sound cache page n.0 segment n.1 e)

pub range_place : (a : Arena) (cache : CacheId) (page : PageNo) → IsSome (node_at a cache.0 page.0) → HasPlace a cache page
range_place a cache page some = let n = some_of (node_at a cache.0 page.0) some in node_place a cache page n.0 n.1

-- The write of a page was granted, which the mapper doesn't deny.
module _ (w : World) (b : Arena) (cache : CacheId) (page : ℕ) (segment : SegId) (right : IsStoreRight w) (is : b ≡ with_grant w.caches cache.0 page) (now : is_granted b cache.0 page ≡ true)
    (named : segment_of w.caches cache.0 ≡ Some (Some segment)) (allowed : IfSome w.told (λ h. denies h.denied segment.0 page ≡ false)) where
  owns : (n : NodeId) → own_of b n ≡ own_of w.caches n
  owns n = ap (λ c. c.own) (granted_cell w.caches b cache.0 page is n)

  names : (n : NodeId) → name_of b n ≡ name_of w.caches n
  names n = ap (λ c. c.name) (granted_cell w.caches b cache.0 page is n)

  homes : (n : NodeId) → home_of b n ≡ home_of w.caches n
  homes n = ap (λ x. home_of x n) is ∙ home-with_grant w.caches cache.0 page n

  states : own_states b ≡ own_states w.caches
  states = ap own_states is

  home_pages : (n : NodeId) → home_page (record w { caches = b }) n ≡ home_page w n
  home_pages n = ap (λ (o : Option Home). option_and_then (λ h. option_and_then (page_at h) o) w.told) (homes n)

  pages : (n : NodeId) → own_page (record w { caches = b }) n ≡ own_page w n
  pages n =
      ap (λ (p : Option (List ℕ)). page_by (option_map (λ _. zero_page w) w.told) (option_map (λ _. frame_page w n) w.told) (λ k. option_and_then (λ h. slot_of h k) w.told) p (own_of b n)) (home_pages n)
      ∙ ap (page_by (option_map (λ _. zero_page w) w.told) (option_map (λ _. frame_page w n) w.told) (λ k. option_and_then (λ h. slot_of h k) w.told) (home_page w n)) (owns n)

  -- another page was granted before
  before : (c : CacheId) (p : PageNo) → is_granted b c.0 p.0 ≡ true → ((c.0 ≡ cache.0) × (p.0 ≡ page)) ⊎ (is_granted w.caches c.0 p.0 ≡ true)
  before c p e = elim (cases_eq c.0 cache.0) [
    | inr d ↦ inr (sym (granted_other w.caches b cache.0 page is c.0 p.0 (λ q r. d q)) ∙ e)
    | inl q ↦ elim (cases_eq p.0 page) [
      | inr d ↦ inr (sym (granted_other w.caches b cache.0 page is c.0 p.0 (λ q r. d r)) ∙ e)
      | inl r ↦ inl (q, r)
    ]
  ]

  -- and is granted still
  still_granted : (x : NodeName) → is_name_granted w.caches x ≡ true → is_name_granted b x ≡ true
  still_granted (Working k) e = e
  still_granted (Live c p) e = elim (cases_eq c.0 cache.0) [
    | inr d ↦ granted_other w.caches b cache.0 page is c.0 p.0 (λ q r. d q) ∙ e
    | inl q ↦ elim (cases_eq p.0 page) [
      | inr d ↦ granted_other w.caches b cache.0 page is c.0 p.0 (λ q r. d r) ∙ e
      | inl r ↦ ap (λ k. is_granted b k p.0) q ∙ ap (is_granted b cache.0) r ∙ now
    ]
  ]

  -- the page that was granted is the one that the mapper was asked for
  page_allowed : (c : CacheId) (p : PageNo) (home : Home) → c.0 ≡ cache.0 → p.0 ≡ page → home_named w.caches.caches (Live c p) ≡ Some home → IsAllowed w home
  page_allowed c p home q r e =
      let named_c : segment_of w.caches c.0 ≡ Some (Some segment) = ap (segment_of w.caches) q ∙ named in
      let same : record { segment = segment; page = p } ≡ home = cc (e, named_home w.caches c p segment named_c) in
      subst (IsAllowed w) same (subst (λ k. IfSome w.told (λ h. denies h.denied segment.0 k ≡ false)) (sym r) allowed)

  home_allowed : (n : NodeId) (home : Home) (x : NodeName) → name_of w.caches n ≡ x → home_of w.caches n ≡ Some home → is_name_granted b x ≡ true → IsAllowed w home
  home_allowed n home (Working k) name e granted = absurd (cc granted)
  home_allowed n home (Live c p) name e granted = elim (before c p granted) [
    | inl k ↦ page_allowed c p home k.0 k.1 (ap (home_named w.caches.caches) (sym name) ∙ e)
    | inr old ↦ right.granted.allowed n home e (ap (is_name_granted w.caches) name ∙ old)
  ]

  granted : AreGranted (record w { caches = b })
  granted = record {
    granted = λ n home clean. ap (is_name_granted b) (names n) ∙ still_granted (name_of w.caches n) (right.granted.granted n (sym (ap is_some (homes n)) ∙ home) (sym (ap is_clean (owns n)) ∙ clean));
    allowed = λ n home e g. home_allowed n home (name_of w.caches n) refl (sym (homes n) ∙ e) (sym (ap (is_name_granted b) (names n)) ∙ g);
  }

  pub granted_right : IsStoreRight (record w { caches = b })
  granted_right = record {
    tied = record {
      placed = record {
        bound = λ n. right.tied.placed.bound n ∙ ap (λ (x : OwnState). bit (is_resident x)) (sym (owns n));
        held = right.tied.placed.held;
        slots = λ s. ap (λ (xs : List OwnState). count_by (is_slot s) xs) states ∙ right.tied.placed.slots s;
        in_slots = right.tied.placed.in_slots ∙ ap (λ (xs : List OwnState). count_by is_in_slot xs) (sym states);
      };
      backed = record {
        there = right.tied.backed.there;
        homes = λ n clean. ap is_some (homes n) ∙ right.tied.backed.homes n (sym (ap is_clean (owns n)) ∙ clean);
        apart = λ n m home e q. right.tied.backed.apart n m home (sym (homes n) ∙ e) (sym (homes m) ∙ q);
        lies = λ n home e. right.tied.backed.lies n home (sym (homes n) ∙ e);
        clean = λ n clean. pages n ∙ right.tied.backed.clean n (sym (ap is_clean (owns n)) ∙ clean) ∙ ap Some (sym (home_pages n));
      };
      fitted = right.tied.fitted;
    };
    granted = granted;
    capacity = omega (arith, right.capacity, ap (λ (xs : List OwnState). length xs) states);
  }

  pub granted_whole : IsWhole w.caches → IsWhole b
  granted_whole whole = whole_same w.caches b whole (granted_sound w.caches b cache.0 page is whole.sound) (granted_forest w.caches b cache.0 page is) (sizes_granted w.caches b cache.0 page is)

  -- no page is another one
  pub granted_pages : IsSound w.caches → store_forest (record w { caches = b }) ≡ store_forest w
  unfolding store_forest
  granted_pages sound =
      let after = granted_sound w.caches b cache.0 page is sound in
      lifted (own_page (record w { caches = b })) b after.kept.named (tells (record w { caches = b })) (store_forest w)
      (ap bare (granted_forest w.caches b cache.0 page is) ∙ sym (store_bare w sound))
      (λ n held. pages n ∙ sym (store_page w sound n (sym (ap (λ x. is_some (find x n)) is) ∙ held)) ∙ ap (λ x. (node (store_forest w) x).own) (sym (names n)))

-- What is granted then

map_set : (ts : List (Option Table)) (k page : ℕ) → map (option_map without_grants) (set ts k (option_map (table_granting page) (get_or ts k None))) ≡ map (option_map without_grants) ts
map_set [] k page = refl
map_set (t ∷ ts) zero page = ap (λ (o : Option Table). o ∷ map (option_map without_grants) ts) (one t)
  where
    one : (o : Option Table) → option_map without_grants (option_map (table_granting page) o) ≡ option_map without_grants o
    one None = refl
    one (Some t) = refl
map_set (t ∷ ts) (suc k) page = ap (λ (us : List (Option Table)). option_map without_grants t ∷ us) (map_set ts k page)

map_changed : (ts : List (Option Table)) (cache page : ℕ) → map (option_map without_grants) (changed_at ts cache (table_granting page)) ≡ map (option_map without_grants) ts
map_changed ts zero page = refl
map_changed ts (suc k) page = map_set ts k page

-- one page more was granted before
pub granted_on : (range : Extent) (at : ℕ) (a b : Arena) → range.first.0 ≤ at → GrantsBefore range at a b → is_granted b range.cache.0 at ≡ true → GrantsBefore range (at + 1) a b
granted_on range at a b low grants now = record {
  granted = λ page from below. elim (cases_eq page at) [
    | inl e ↦ ap (is_granted b range.cache.0) e ∙ now
    | inr d ↦ grants.granted page from (omega (arith, below, d))
  ];
  others = λ cache page out. grants.others cache page (λ e from below. out e from (omega (arith, below)));
  tables = grants.tables;
  rest = grants.rest;
  none = λ first. absurd (omega (arith, low, first));
}

-- or is granted now
pub granted_then : (range : Extent) (at : ℕ) (a b c : Arena) → range.first.0 ≤ at → GrantsBefore range at a b → c ≡ with_grant b range.cache.0 at → is_granted c range.cache.0 at ≡ true → GrantsBefore range (at + 1) a c
granted_then range at a b c low grants is now = record {
  granted = λ page from below. elim (cases_eq page at) [
    | inl e ↦ ap (is_granted c range.cache.0) e ∙ now
    | inr d ↦ granted_other b c range.cache.0 at is range.cache.0 page (λ q r. d r) ∙ grants.granted page from (omega (arith, below, d))
  ];
  others = λ cache page out. granted_other b c range.cache.0 at is cache page (λ q r. out q (omega (arith, low, r)) (omega (arith, r))) ∙ grants.others cache page (λ e from below. out e from (omega (arith, below)));
  tables = ap (λ (x : Arena). map (option_map without_grants) x.caches) is ∙ map_changed b.caches range.cache.0 at ∙ grants.tables;
  rest = ap (λ (x : Arena). record x { caches = a.caches }) is ∙ grants.rest;
  none = λ first. absurd (omega (arith, low, first));
}

-- what else a table has of a page stays: its locks
locks_in : ℕ → Option Table → ℕ
locks_in page o = unwrap_or (option_and_then (λ (t : Table). slice_get t.locks page) o) 0

locks_left : (page : ℕ) (o : Option Table) → locks_in page (option_map without_grants o) ≡ locks_in page o
unfolding locks_in
locks_left page None = refl
locks_left page (Some t) = refl

locks_seen : (ts : List (Option Table)) (cache page : ℕ) → locks_in page (table_at (map (option_map without_grants) ts) cache) ≡ locks_in page (table_at ts cache)
locks_seen ts zero page = refl
locks_seen [] (suc k) page = refl
locks_seen (t ∷ ts) (suc zero) page = locks_left page t
locks_seen (t ∷ ts) (suc (suc k)) page = locks_seen ts (suc k) page

pub granted_locks : (range : Extent) (past : ℕ) (a b : Arena) → GrantsBefore range past a b → (cache page : ℕ) → locks_of b cache page ≡ locks_of a cache page
unfolding locks_in
granted_locks range past a b grants cache page = sym (locks_seen b.caches cache page) ∙ ap (λ (ts : List (Option Table)). locks_in page (table_at ts cache)) grants.tables ∙ locks_seen a.caches cache page

pub allows_then : (range : Extent) (at : ℕ) (told : Option Held) (segment : SegId) → AllowsBefore range at told segment → IfSome told (λ h. denies h.denied segment.0 at ≡ false) → AllowsBefore range (at + 1) told segment
allows_then range at told segment allows now page from below = elim (cases_eq page at) [
  | inl e ↦ subst (λ k. IfSome told (λ h. denies h.denied segment.0 k ≡ false)) (sym e) now
  | inr d ↦ allows page from (omega (arith, below, d))
]

pub allowed_by : (told : Option Held) (may : Bool) (segment page : ℕ) → may ≡ true → IfSome told (λ h. may ≡ not (denies h.denied segment page)) → IfSome told (λ h. denies h.denied segment page ≡ false)
allowed_by None may segment page e is = tt
allowed_by (Some h) may segment page e is = go (denies h.denied segment page) (sym e ∙ is)
  where
    go : (b : Bool) → true ≡ not b → b ≡ false
    go true e = absurd (cc e)
    go false e = refl

-- a page of a range that was granted isn't denied
pub granted_allowed : (w : World) → IsStoreRight w → IsSound w.caches → (cache : CacheId) (page : ℕ) (segment : SegId) → IsSome (node_at w.caches cache.0 page) → segment_of w.caches cache.0 ≡ Some (Some segment) → is_granted w.caches cache.0 page ≡ true
    → IfSome w.told (λ h. denies h.denied segment.0 page ≡ false)
granted_allowed w right sound cache page segment some e granted =
    let n = some_of (node_at w.caches cache.0 page) some in
    right.granted.allowed n.0 (record { segment = segment; page = record { 0 = page } }) (range_home w.caches sound cache page n.0 segment n.1 e) (ap (is_name_granted w.caches) (node_named w.caches sound cache page n.0 n.1).1 ∙ granted)

-- Counts where nothing was pulled or pushed
pub asked_later : {T E : Type 0} (a b c : MapperCounts) {r : Result T E} → Later a b → Counted 0 0 b c r → Later a c
asked_later a b c p q = record { faults = omega (arith, p.faults, q.faults.later); pulls = omega (arith, p.pulls, q.pulls_later); pushes = omega (arith, p.pushes, q.pushes_later) }

pub asked_traffic : {T E : Type 0} (a b c : MapperCounts) {r : Result T E} → Traffic 0 0 a b → Counted 0 0 b c r → Traffic 0 0 a c
asked_traffic a b c p q = record {
  pulled = λ low. (let second : c.pulls ≡ b.pulls + 0 = q.pulled low in let first : b.pulls ≡ a.pulls + 0 = p.pulled (omega (arith, second, low)) in omega arith);
  pushed = λ low. (let second : c.pushes ≡ b.pushes + 0 = q.pushed low in let first : b.pushes ≡ a.pushes + 0 = p.pushed (omega (arith, second, low)) in omega arith);
}

-- where each page of the range was granted, none is asked for
pub asked_once : (a b : Arena) (range : Extent) (page : ℕ) → IsGranted a range → b ≡ a → range.first.0 ≤ page → page < range.first.0 + range.pages → is_granted b range.cache.0 page ≡ false → ⊥
asked_once a b range page all same from below out = (let k : true ≡ false = sym (all page (from, below)) ∙ ap (λ (x : Arena). is_granted x range.cache.0 page) (sym same) ∙ out in cc k)
