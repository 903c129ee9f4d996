-- What is pushed of own pages, over two moments and where a page leaves its frame.
use Rattle.std.proofs.Common.{◌≡◌, ℕ, ◌≤◌, Bool, true, false, is_some, List, Option, Some, None, refl, sym, ap, ◌∙◌, subst}
use Rattle.std.specs.Option.{option_map_or}
use Rattle.std.specs.Prelude.{option_map, Result, Ok, Err, OnErr, OnOk}
use Rattle.vm_ids.specs.Counting.{MapperCounts, RoseBy}
use Rattle.vm_ids.specs.Held.{Held, segments_of, with_slot}
use Rattle.vm_ids.specs.declared.numbers.NodeId.{NodeId}
use Rattle.vm_ids.proofs.Places.{bit}
use Rattle.frame_pool.specs.Pool.{bytes_of, is_held}
use Rattle.local_cache.specs.declared.home.Home.{Home}
use Rattle.local_cache.specs.declared.own_state.OwnState.{OwnState}
use Rattle.local_cache.specs.declared.own_state.OwnState.TheVariants.{Absent, Zero, Resident, Slot, OnSegment}
use Rattle.local_cache.specs.Home.{home_of}
use Rattle.local_cache.specs.Own.{is_absent, is_resident, own_of}
use Rattle.residency.specs.Causes.{Later, dirty_in, is_dirty}
use Rattle.residency.specs.Evicting.{HasLeft, IsEvicted}
use Rattle.residency.specs.Pushing.{MayPush, TellsOn}
use Rattle.residency.specs.World.{World, IsStoreRight, PagesStay, is_clean, own_page}
use Rattle.residency.proofs.Worlds.After.{absent_still}
use Rattle.residency.proofs.Worlds.Homes.{IsHome, home_of_held, page_here}
use Rattle.residency.proofs.Worlds.Nodes.{same_home}
use Rattle.residency.proofs.Pushes.Outside.{put_at}
use Rattle.residency.proofs.Pushes.PushedPages.{tells_none, tells_one, tells_over}

-- a store with as many marks
pub tells_marks : (a b : World) (k : ℕ) (c d : MapperCounts) → k ≡ a.marks → TellsOn (record a { marks = k }) b c d → TellsOn a b c d
tells_marks a b k c d e t = subst (λ (k : ℕ). TellsOn (record a { marks = k }) b c d) e t

-- own pages and homes stay
pub tells_then : (a b : World) (stays : PagesStay a b) (v : World) (c d e : MapperCounts) → Later d e → TellsOn a b c d → TellsOn b v d e → TellsOn a v c e
tells_then a b stays =
    tells_over a b (same_home a.caches b.caches stays.caches) (own_page a) (own_page b) stays.pages (MayPush a) (MayPush b)
    (λ n home may. record { at = home may.at; own_page = sym (absent_still a b stays.pages n) ∙ may.own_page })

-- What an eviction pushes to a segment: a page that has a home, where it is dirty.
module _ (w : World) (f : ℕ) (n : NodeId) (home : Home) (right : IsStoreRight w) (h : IsHome w f n) (at : home_of w.caches n ≡ Some home) (dirty : is_clean (own_of w.caches n) ≡ false) where
  may_push : MayPush w n
  may_push = record {
    at = record { home = home; is = at; allowed = right.granted.allowed n home at (right.granted.granted n (ap is_some at) dirty) };
    own_page = resident_there (own_of w.caches n) h.resident;
  }
    where
      resident_there : (x : OwnState) → is_resident x ≡ true → is_absent x ≡ false
      resident_there Absent e = absurd (cc)
      resident_there Zero e = refl
      resident_there (Resident d) e = refl
      resident_there (Slot s) e = refl
      resident_there OnSegment e = refl

  pub tells_pushed : (v : World) (c d : MapperCounts) → v.told ≡ option_map (put_at home (bytes_of w.frames f)) w.told → RoseBy 1 c.pushes d.pushes → TellsOn w v c d
  tells_pushed v c d told rose = tells_one w v c d n home (bytes_of w.frames f) may_push at (page_here w f n (own_of w.caches n) h.resident h.place) told rose

slot_leaves : (told : Option Held) (slot : ℕ) (bytes : List ℕ) → segments_of (option_map (with_slot slot bytes) told) ≡ segments_of told
slot_leaves None slot bytes = refl
slot_leaves (Some h) slot bytes = refl

resident_dirty : (x : OwnState) → is_resident x ≡ true → is_clean x ≡ false → is_dirty x ≡ true
resident_dirty Absent r c = absurd (cc)
resident_dirty Zero r c = absurd (cc)
resident_dirty (Resident true) r c = refl
resident_dirty (Resident false) r c = absurd (cc)
resident_dirty (Slot s) r c = absurd (cc)
resident_dirty OnSegment r c = absurd (cc)

-- the page at a frame is dirty where it isn't clean
pub dirty_at : (w : World) (f : ℕ) (n : NodeId) → IsHome w f n → is_clean (own_of w.caches n) ≡ false → dirty_in w.caches w.map f ≡ 1
dirty_at w f n h dirty =
    ap (λ (o : Option NodeId). bit (option_map_or (λ n. is_dirty (own_of w.caches n)) o false)) h.node ∙ ap bit (resident_dirty (own_of w.caches n) h.resident dirty)

pub told_left : (a b : World) (c d : MapperCounts) (f : ℕ) (n : NodeId) → IsStoreRight a → IsHome a f n → (o : Option Home) (clean : Bool) → home_of a.caches n ≡ o → is_clean (own_of a.caches n) ≡ clean → HasLeft o clean f n a b
    → c.pushes ≤ d.pushes → RoseBy (dirty_in a.caches a.map f) c.pushes d.pushes → TellsOn a b c d
told_left a b c d f n right h None clean none e p later rose = tells_none a b c d (ap (λ (v : World). segments_of v.told) p.is ∙ slot_leaves a.told p.slot.0 (bytes_of a.frames f)) later
told_left a b c d f n right h (Some home) true some e p later rose = tells_none a b c d (ap (λ (v : World). segments_of v.told) p) later
told_left a b c d f n right h (Some home) false some e p later rose =
    tells_pushed a f n home right h some e b c d (ap (λ (v : World). v.told) p) (subst (λ k. RoseBy k c.pushes d.pushes) (dirty_at a f n h e) rose)

pub eviction_told : (a b : World) (c d : MapperCounts) (f : ℕ) → IsStoreRight a → is_held a.frames f ≡ true → (e : IsEvicted f a b) → c.pushes ≤ d.pushes → RoseBy (dirty_in a.caches a.map f) c.pushes d.pushes → TellsOn a b c d
eviction_told a b c d f right held e later rose =
    told_left a b c d f e.node right (home_of_held a f e.node right held e.was) (home_of a.caches e.node) (is_clean (own_of a.caches e.node)) refl refl e.has_left later rose

pub evicts_told : {T F : Type 0} (a b : World) (c d : MapperCounts) (f : ℕ) → IsStoreRight a → is_held a.frames f ≡ true → (r : Result T F) → OnOk r (IsEvicted f a b) → OnErr r (b ≡ a) → c.pushes ≤ d.pushes
    → RoseBy (dirty_in a.caches a.map f) c.pushes d.pushes → TellsOn a b c d
evicts_told a b c d f right held (Ok x) e none later rose = eviction_told a b c d f right held e later rose
evicts_told a b c d f right held (Err x) e none later rose = tells_none a b c d (ap (λ (v : World). segments_of v.told) none) later
