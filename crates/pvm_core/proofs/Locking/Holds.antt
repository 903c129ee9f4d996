-- Locked pages stay in pinned frames: where a fault comes, and where one page has other locks.
use Rattle.std.proofs.Common.{◌≡◌, ◌≢◌, ℕ, ◌+◌, Bool, true, false, List, count_by, Option, Some, None, refl, sym, ap, ◌∙◌, subst, arith, inl, inr}
use Rattle.std.specs.List.{slice_index_or}
use Rattle.std.specs.Option.{option_map_or}
use Rattle.std.proofs.lemmas.Bool.{cases_eq}
use Rattle.vm_ids.specs.Held.{Held}
use Rattle.vm_ids.specs.declared.node_name.NodeName.{NodeName}
use Rattle.vm_ids.specs.declared.node_name.NodeName.TheVariants.{Live, Working}
use Rattle.vm_ids.specs.declared.numbers.NodeId.{NodeId}
use Rattle.vm_ids.proofs.Places.{bit}
use Rattle.frame_pool.specs.Pool.{is_pinned, pinned_count}
use Rattle.global_map.specs.Pairs.{frame_of, node_of}
use Rattle.local_cache.specs.Arena.{Arena, Table, is_locked, locks_of, node_at, with_locks}
use Rattle.local_cache.specs.Own.{is_resident, own_of}
use Rattle.local_cache.specs.Reading.{name_of}
use Rattle.local_cache.specs.Sound.{IsSound}
use Rattle.local_cache.proofs.Changes.Locked.{locked_count_set, locked_count_stays, locked_other, locks-same}
use Rattle.residency.specs.declared.store.Store.{Store}
use Rattle.residency.specs.World.{IsStoreRight, world}
use Rattle.fault_path.specs.Faults.{Kept}
use Rattle.pvm_core.specs.Holding.{HoldsLocked}
use Rattle.pvm_core.specs.Locks.{has_locked, is_locked_name}
use Rattle.pvm_core.proofs.Holding.Bound.{AreBound, bound_resident, bound_there, one_frame, resident_bound}
use Rattle.pvm_core.proofs.Holding.Kept.{has_name, locked_in}
use Rattle.pvm_core.proofs.Holding.Made.{both_ways}
use Rattle.pvm_core.proofs.Locking.Changed.{Repins}

-- A locked page's frame

module _ (a : Arena) (s : Store) (sound : IsSound a) (bound : AreBound a s.map) (holds : HoldsLocked a s) where
  -- where the node of a locked page is, which is pinned
  pub locked_frame : (cache page : ℕ) (n : NodeId) → node_at a cache page ≡ Some n → is_locked (locks_of a cache page) ≡ true → (f : ℕ) × (node_of s.map f ≡ Some n) × (is_pinned s.frames f ≡ true)
  locked_frame cache page n at locked =
      let here = resident_bound a s.map bound n (holds.resident cache page n at locked) in
      let name = (sound.kept.listed.nodes cache page n at).1 in
      (frame_of s.map n.0, here, holds.pinned (frame_of s.map n.0) ∙ has_name a s.map (frame_of s.map n.0) n here ∙ ap (is_locked_name a) name ∙ locked)

-- A fault

module _ (a b : Arena) (s t : Store) (h g : Option Held) (i j : Option ℕ) (right : IsStoreRight (world h i a s)) (sound : IsSound a) (k : Kept (world h i a s) (world g j b t)) (holds : HoldsLocked a s) where
  was : AreBound a s.map
  was = right.tied.placed.bound

  now : AreBound b t.map
  now = k.right.tied.placed.bound

  locks : (cache page : ℕ) → locks_of b cache page ≡ locks_of a cache page
  locks = locks-same a b k.nodes.caches

  node_was : (cache page : ℕ) (n : NodeId) → node_at b cache page ≡ Some n → node_at a cache page ≡ Some n
  node_was cache page n at = subst (λ (ts : List (Option Table)). node_at (record a { caches = ts }) cache page ≡ Some n) k.nodes.caches at

  -- a locked page is in the pinned frame that it was in
  stays_at : (cache page : ℕ) (n : NodeId) → node_at b cache page ≡ Some n → is_locked (locks_of b cache page) ≡ true → (f : ℕ) × (is_pinned s.frames f ≡ true) × (node_of t.map f ≡ Some n)
  stays_at cache page n at locked =
      let f = locked_frame a s sound was holds cache page n (node_was cache page n at) (ap is_locked (sym (locks cache page)) ∙ locked) in
      (f.0, f.2, (k.pinned f.0 f.2).node ∙ f.1)

  pinned_now : (f : ℕ) → is_pinned t.frames f ≡ is_pinned s.frames f
  pinned_now f = ap (λ (ps : List Bool). slice_index_or ps f false) k.pins

  still_locked : (f : ℕ) → is_pinned s.frames f ≡ true → has_locked b t.map f ≡ true
  still_locked f pinned =
      let l = locked_in a s.map f (sym (holds.pinned f) ∙ pinned) in
      has_name b t.map f l.node ((k.pinned f pinned).node ∙ l.here)
      ∙ ap (is_locked_name b) (k.nodes.name l.node ∙ l.name)
      ∙ ap is_locked (locks l.cache.0 l.page.0) ∙ l.locked

  no_other : (f : ℕ) → has_locked b t.map f ≡ true → is_pinned s.frames f ≡ true
  no_other f locked =
      let l = locked_in b t.map f locked in
      let at = k.sound.kept.listed.pages l.cache.0 l.page.0 l.node (bound_there b t.map now f l.node l.here) l.name in
      let st = stays_at l.cache.0 l.page.0 l.node at l.locked in
      ap (is_pinned s.frames) (sym (one_frame b t.map now st.0 f l.node st.2 l.here)) ∙ st.1

  pub holds_kept : HoldsLocked b t
  holds_kept = record {
    resident = λ cache page n at locked. (let st = stays_at cache page n at locked in bound_resident b t.map now st.0 n st.2);
    pinned = λ f. pinned_now f ∙ both_ways (is_pinned s.frames f) (has_locked b t.map f) (still_locked f) (no_other f);
    pins = ap (λ (ps : List Bool). count_by (λ p. p) ps) k.pins ∙ holds.pins ∙ sym (locked_count_stays a b locks);
  }

-- One page has other locks

module _ (a b : Arena) (s t : Store) (sound : IsSound a) (bound : AreBound a s.map) (holds : HoldsLocked a s) (cache page count f : ℕ) (n : NodeId) (at : node_at a cache page ≡ Some n) (here : node_of s.map f ≡ Some n)
    (is : b ≡ with_locks a cache page count) (now : locks_of b cache page ≡ count) (re : Repins s t) (pin : slice_index_or re.pins f false ≡ is_locked count) (apart : (g : ℕ) → g ≢ f → slice_index_or re.pins g false ≡ is_pinned s.frames g)
    (counts : count_by (λ p. p) re.pins + bit (is_locked (locks_of a cache page)) ≡ pinned_count s.frames + bit (is_locked count))
    (owns : (m : NodeId) → own_of b m ≡ own_of a m) (names : (m : NodeId) → name_of b m ≡ name_of a m) (nodes : (c p : ℕ) (m : NodeId) → node_at b c p ≡ Some m → node_at a c p ≡ Some m) where
  map_is : t.map ≡ s.map
  map_is = ap (λ (u : Store). u.map) re.is

  pins_are : (g : ℕ) → is_pinned t.frames g ≡ slice_index_or re.pins g false
  pins_are g = ap (λ (u : Store). is_pinned u.frames g) re.is

  name_is : name_of a n ≡ Live (record { 0 = cache }) (record { 0 = page })
  name_is = (sound.kept.listed.nodes cache page n at).1

  -- another page has its locks
  others : (c p : ℕ) (m : NodeId) → m ≢ n → node_at a c p ≡ Some m → locks_of b c p ≡ locks_of a c p
  others c p m d there = locked_other a b cache page count is c p (λ q r. d (let same : Some m ≡ Some n = sym there ∙ (λ i. node_at a (q i) (r i)) ∙ at in cc same))

  same_or : (c p : ℕ) (m : NodeId) → node_at a c p ≡ Some m → is_locked (locks_of b c p) ≡ true → is_resident (own_of a m) ≡ true
  same_or c p m there locked = elim (cases_eq m.0 n.0) [
    | inl e ↦ (let same : m ≡ n = (λ i. record { 0 = e i }) in ap (λ (k : NodeId). is_resident (own_of a k)) same ∙ bound_resident a s.map bound f n here)
    | inr d ↦ holds.resident c p m there (ap is_locked (sym (others c p m (λ e. d (ap (λ (k : NodeId). k.0) e)) there)) ∙ locked)
  ]

  -- a frame with another node is pinned as before
  as_before : (g : ℕ) → g ≢ f → (o : Option NodeId) → node_of s.map g ≡ o → option_map_or (λ m. is_locked_name b (name_of b m)) o false ≡ option_map_or (λ m. is_locked_name a (name_of a m)) o false
  as_before g d None e = refl
  as_before g d (Some m) e = ap (is_locked_name b) (names m) ∙ by_name (name_of a m) refl
    where
      by_name : (x : NodeName) → name_of a m ≡ x → is_locked_name b x ≡ is_locked_name a x
      by_name (Working k) name = refl
      by_name (Live c p) name = ap is_locked (others c.0 p.0 m (λ q. d (one_frame a s.map bound g f n (e ∙ ap (λ (k : NodeId). Some k) q) here)) (sound.kept.listed.pages c.0 p.0 m (bound_there a s.map bound g m e) name))

  same_pin : (g : ℕ) → is_pinned t.frames g ≡ has_locked b t.map g
  same_pin g = elim (cases_eq g f) [
    | inl e ↦ (
        pins_are g ∙ ap (λ k. slice_index_or re.pins k false) e ∙ pin
        ∙ sym (ap (has_locked b t.map) e ∙ ap (λ (ns : List (Option NodeId)). has_locked b ns f) map_is ∙ has_name b s.map f n here ∙ ap (is_locked_name b) (names n ∙ name_is) ∙ ap is_locked now))
    | inr d ↦ (
        pins_are g ∙ apart g d ∙ holds.pinned g
        ∙ sym (ap (λ (ns : List (Option NodeId)). has_locked b ns g) map_is ∙ as_before g d (node_of s.map g) refl))
  ]

  pub holds_changed : HoldsLocked b t
  holds_changed = record {
    resident = λ c p m there locked. ap is_resident (owns m) ∙ same_or c p m (nodes c p m there) locked;
    pinned = same_pin;
    pins = omega (arith, counts, holds.pins, locked_count_set a b cache page count is now, ap (λ (u : Store). pinned_count u.frames) re.is);
  }
