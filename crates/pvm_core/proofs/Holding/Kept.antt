-- Locks hold their pages still where pinned frames keep their nodes.
use Rattle.std.proofs.Common.{◌≡◌, ℕ, Bool, true, false, List, length, Option, Some, None, refl, sym, ap, ◌∙◌, arith}
use Rattle.std.specs.Prelude.{count_by}
use Rattle.std.specs.List.{slice_index_or}
use Rattle.std.specs.Option.{option_map_or}
use Rattle.vm_ids.specs.Held.{Held}
use Rattle.vm_ids.specs.declared.node_name.NodeName.{NodeName}
use Rattle.vm_ids.specs.declared.node_name.NodeName.TheVariants.{Live, Working}
use Rattle.vm_ids.specs.declared.numbers.CacheId.{CacheId}
use Rattle.vm_ids.specs.declared.numbers.NodeId.{NodeId}
use Rattle.vm_ids.specs.declared.numbers.PageNo.{PageNo}
use Rattle.vm_ids.specs.Forest.Commands.{page_name}
use Rattle.frame_pool.specs.Pool.{is_pinned}
use Rattle.global_map.specs.Pairs.{frame_of, node_of}
use Rattle.local_cache.specs.Arena.{Arena, HasNode, is_locked, locks_of}
use Rattle.local_cache.specs.Reading.{name_of}
use Rattle.local_cache.specs.Sound.{IsSound}
use Rattle.local_cache.specs.Whole.{IsWhole, size_of}
use Rattle.local_cache.proofs.Changes.Locked.{locked_count_stays, locks-same}
use Rattle.local_cache.proofs.Forest.Reading.{forest_of-IsNode}
use Rattle.residency.specs.declared.store.Store.{Store}
use Rattle.residency.specs.World.{world}
use Rattle.fault_path.specs.Faults as faults
use Rattle.page_commands.specs.Steps.{GivesBack, IsStoreTied, Kept, PinnedStayNamed}
use Rattle.contexts.specs.Actors.{Actors}
use Rattle.contexts.specs.Placed.{AreRight}
use Rattle.pvm_core.specs.Locks.{AreHeld, has_locked, is_locked_name}
use Rattle.pvm_core.proofs.Holding.Bound.{AreBound, bound_resident, bound_there, one_frame, resident_bound}
use Rattle.pvm_core.proofs.Holding.Counted.{locked_there}
use Rattle.pvm_core.proofs.Holding.Made.{both_ways}

-- Locks stay, and so do the pins, and pinned frames keep their nodes, and these their names.
pub record KeepsPins (a b : Arena) (s u : Store) : Type 0 where
  pub locks : (cache page : ℕ) → locks_of b cache page ≡ locks_of a cache page
  pub pins : u.frames.pinned ≡ s.frames.pinned
  pub frames : length u.frames.held ≡ length s.frames.held
  pub nodes : (f : ℕ) → is_pinned s.frames f ≡ true → node_of u.map f ≡ node_of s.map f
  pub names : PinnedStayNamed s a b

-- the node in a frame, and its name, which is that of a locked page
pub record HasLocked (a : Arena) (map : List (Option NodeId)) (f : ℕ) : Type 0 where
  pub node : NodeId
  pub here : node_of map f ≡ Some node
  pub cache : CacheId
  pub page : PageNo
  pub name : name_of a node ≡ Live cache page
  pub locked : is_locked (locks_of a cache.0 page.0) ≡ true

module _ (a : Arena) (map : List (Option NodeId)) (f : ℕ) where
  by_name : (n : NodeId) → node_of map f ≡ Some n → (x : NodeName) → name_of a n ≡ x → is_locked_name a x ≡ true → HasLocked a map f
  by_name n here (Live cache page) name e = record { node = n; here = here; cache = cache; page = page; name = name; locked = e }
  by_name n here (Working k) name e = absurd (cc e)

  pub locked_in : has_locked a map f ≡ true → HasLocked a map f
  locked_in e = go (node_of map f) refl e
    where
      go : (o : Option NodeId) → node_of map f ≡ o → option_map_or (λ n. is_locked_name a (name_of a n)) o false ≡ true → HasLocked a map f
      go None here e = absurd (cc e)
      go (Some n) here e = by_name n here (name_of a n) refl e

  pub has_name : (n : NodeId) → node_of map f ≡ Some n → has_locked a map f ≡ is_locked_name a (name_of a n)
  has_name n here = ap (λ (o : Option NodeId). option_map_or (λ n. is_locked_name a (name_of a n)) o false) here

-- A locked page

module _ (a : Arena) (s : Store) (t : Actors) (whole : IsWhole a) (right : AreRight (size_of a) t) (bound : AreBound a s.map) (held : AreHeld a s t.actors) where
  -- its node is in a frame, which is pinned
  pub record IsPinnedAt (cache page : ℕ) : Type 0 where
    pub node : NodeId
    pub name : name_of a node ≡ Live (record { 0 = cache }) (record { 0 = page })
    pub frame : ℕ
    pub here : node_of s.map frame ≡ Some node
    pub pinned : is_pinned s.frames frame ≡ true

  pub locked_pinned : (cache page : ℕ) → is_locked (locks_of a cache page) ≡ true → IsPinnedAt cache page
  locked_pinned cache page locked =
      let size = locked_there (size_of a) cache page t.actors right.placed (ap is_locked (sym (held.counted cache page)) ∙ locked) in
      let there = forest_of-IsNode a (page_name (record { 0 = cache }) page) (whole.pages (record { 0 = cache }) page size.0 size.1 size.2) in
      let at = whole.sound.kept.listed.pages cache page there.0 there.1 there.2 in
      let here = resident_bound a s.map bound there.0 (held.resident cache page there.0 at locked) in
      record {
        node = there.0;
        name = there.2;
        frame = frame_of s.map there.0.0;
        here = here;
        pinned = held.pinned (frame_of s.map there.0.0) ∙ has_name a s.map (frame_of s.map there.0.0) there.0 here ∙ ap (is_locked_name a) there.2 ∙ locked;
      }

-- What is kept

module _ (a b : Arena) (s u : Store) (t : Actors) (whole : IsWhole a) (sound : IsSound b) (right : AreRight (size_of a) t) (was : AreBound a s.map) (now : AreBound b u.map) (k : KeepsPins a b s u) (held : AreHeld a s t.actors) where
  -- a node that has the name of a locked page is in the frame that it was in
  stays_at : (cache page : ℕ) (n : NodeId) → HasNode b n → name_of b n ≡ Live (record { 0 = cache }) (record { 0 = page }) → is_locked (locks_of b cache page) ≡ true
      → (f : ℕ) × (is_pinned s.frames f ≡ true) × (node_of u.map f ≡ Some n)
  stays_at cache page n there name locked =
      let p = locked_pinned a s t whole right was held cache page (ap is_locked (sym (k.locks cache page)) ∙ locked) in
      let here = k.nodes p.frame p.pinned ∙ p.here in
      let same : p.node ≡ n = sound.kept.named.apart p.node n (bound_there b u.map now p.frame p.node here) there (k.names p.frame p.node p.pinned p.here ∙ p.name ∙ sym name) in
      (p.frame, p.pinned, here ∙ ap (λ (n : NodeId). Some n) same)

  pinned_now : (f : ℕ) → is_pinned u.frames f ≡ is_pinned s.frames f
  pinned_now f = ap (λ (ps : List Bool). slice_index_or ps f false) k.pins

  still_locked : (f : ℕ) → is_pinned s.frames f ≡ true → has_locked b u.map f ≡ true
  still_locked f pinned =
      let l = locked_in a s.map f (sym (held.pinned f) ∙ pinned) in
      has_name b u.map f l.node (k.nodes f pinned ∙ l.here)
      ∙ ap (is_locked_name b) (k.names f l.node pinned l.here ∙ l.name)
      ∙ ap is_locked (k.locks l.cache.0 l.page.0) ∙ l.locked

  no_other : (f : ℕ) → has_locked b u.map f ≡ true → is_pinned s.frames f ≡ true
  no_other f locked =
      let l = locked_in b u.map f locked in
      let st = stays_at l.cache.0 l.page.0 l.node (bound_there b u.map now f l.node l.here) l.name l.locked in
      ap (is_pinned s.frames) (sym (one_frame b u.map now st.0 f l.node st.2 l.here)) ∙ st.1

  pub held_after : AreHeld b u t.actors
  held_after = record {
    counted = λ cache page. k.locks cache page ∙ held.counted cache page;
    resident = λ cache page n at locked.
        let listed = sound.kept.listed.nodes cache page n at in
        let st = stays_at cache page n listed.0 listed.1 locked in
        bound_resident b u.map now st.0 n st.2;
    pinned = λ f. pinned_now f ∙ both_ways (is_pinned s.frames f) (has_locked b u.map f) (still_locked f) (no_other f);
    pins = ap (λ (ps : List Bool). count_by (λ p. p) ps) k.pins ∙ held.pins ∙ sym (locked_count_stays a b k.locks);
    few = omega (arith, held.few, locked_count_stays a b k.locks, k.frames);
  }

-- a call that keeps nodes and tables
module _ (a b : Arena) (s u : Store) (h g : Option Held) (i j : Option ℕ) (k : faults.Kept (world h i a s) (world g j b u)) (t : Actors) (whole : IsWhole a) (right : AreRight (size_of a) t) (was : AreBound a s.map) where
  pub held_kept : AreHeld a s t.actors → AreHeld b u t.actors
  held_kept held = held_after a b s u t whole k.sound right was k.right.tied.placed.bound (record {
    locks = locks-same a b k.nodes.caches;
    pins = k.pins;
    frames = k.frames;
    nodes = λ f pinned. (k.pinned f pinned).node;
    names = λ f n pinned at. k.nodes.name n;
  }) held

-- a call that gives frames and slots back
module _ (names : List NodeName) (a b : Arena) (s u : Store) (kept : Kept names s a u b) (tied : IsStoreTied s a) (t : Actors) (whole : IsWhole a) (right : AreRight (size_of a) t) where
  gives : GivesBack (world None None a s) (world None None b u)
  gives = kept.gives_back None None tied

  pub held_released : AreHeld a s t.actors → AreHeld b u t.actors
  held_released held = held_after a b s u t whole kept.sound right tied.placed.bound gives.tied.placed.bound (record {
    locks = kept.homes.locks;
    pins = gives.pins;
    frames = gives.frames;
    nodes = λ f pinned. (gives.pinned f pinned).node;
    names = kept.pinned;
  }) held
