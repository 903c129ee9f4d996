-- The list of which frames may be evicted, where one frame changes.
use Rattle.std.proofs.Common.{◌≡◌, ◌≢◌, ℕ, ◌+◌, ◌^◌, ◌<◌, ◌≤◌, Bool, true, false, cond, not, ◌&&◌, List, [], ◌∷◌, length, get_or, set, replicate, count_by, sym, ◌∙◌, refl, ap, inl, inr, arith, Vec, Global, length-set, get_or-set_same, get_or-set_other}
use Rattle.std.proofs.lemmas.Bool.{cases_eq, cases_lt, true≢false}
use Rattle.std.proofs.lemmas.List.{length-replicate, get_or-replicate, get_or_past}
use Rattle.std.proofs.lemmas.List.FromFn.{fill_by_all, get_or-map-range_with_len, length-map-range_with_len}
use Rattle.std.proofs.lemmas.List.Sums.{sum_by-cons}
use Rattle.frame_pool.specs.Marks.{set_count}
use Rattle.frame_pool.specs.Pool.{Frames, IsSound, evictable_frames, frames_seen, is_evictable, is_held, is_pinned}
use Rattle.frame_pool.specs.declared.pool.FramePool.TheInside.{Inside}

pub evictable_at : (p : Frames) (k : ℕ) → k < length p.held → get_or (evictable_frames p) k false ≡ is_evictable p k
evictable_at p k within = get_or-map-range_with_len (is_evictable p) 0 (length p.held) k k false within (omega arith)

pub length-evictable_frames : (p : Frames) → length (evictable_frames p) ≡ length p.held
length-evictable_frames p = length-map-range_with_len (is_evictable p) 0 (length p.held)

-- where frame k alone may have changed
pub set-evictable_frames : (p q : Frames) (k : ℕ) (mark : Bool) → k < length p.held → length q.held ≡ length p.held
    → is_evictable q k ≡ mark → ((j : ℕ) → j ≢ k → is_evictable q j ≡ is_evictable p j)
    → set (evictable_frames p) k mark ≡ evictable_frames q
set-evictable_frames p q k mark within same here others =
    let long = length-evictable_frames p in
    fill_by_all (is_evictable q) (set (evictable_frames p) k mark) (length q.held) false
    (length-set (evictable_frames p) k mark ∙ long ∙ sym same)
    (λ j h. elim (cases_eq j k) [
      | inl e ↦ ap (λ (i : ℕ). get_or (set (evictable_frames p) k mark) i false) e
          ∙ get_or-set_same (evictable_frames p) k mark false (omega arith)
          ∙ sym here ∙ ap (is_evictable q) (sym e)
      | inr ne ↦ get_or-set_other (evictable_frames p) k j mark false ne
          ∙ evictable_at p j (omega (arith, h, same)) ∙ sym (others j ne)
    ])

-- frame k is taken or given back
pub held_changed : (a : Inside) (k : ℕ) (held mark : Bool) → IsSound a → k < length a.held
    → (held && not (is_pinned (frames_seen a) k)) ≡ mark
    → IsSound (record a { held = set a.held k held; evictable = set a.evictable k mark })
held_changed a k held mark sound within here =
    let long = length-set a.held k held in
    let sized = sound.sized in
    record {
      sized = record {
        region = sized.region ∙ sym long;
        pinned = sized.pinned ∙ sym long;
        few = let few = sized.few in omega arith;
      };
      marked = ap (λ (marks : List Bool). set marks k mark) sound.marked
          ∙ set-evictable_frames (frames_seen a) (record (frames_seen a) { held = set a.held k held }) k mark within long
          (ap (λ (h : Bool). h && not (is_pinned (frames_seen a) k)) (get_or-set_same a.held k held false within) ∙ here)
          (λ j ne. ap (λ (h : Bool). h && not (is_pinned (frames_seen a) j)) (get_or-set_other a.held k j held false ne));
    }

-- frame k is pinned or unpinned
pub pinned_changed : (a : Inside) (k : ℕ) (v : Vec Bool Global) (pinned mark : Bool) → IsSound a → k < length a.held
    → v.items ≡ set a.pinned.items k pinned → (is_held (frames_seen a) k && not pinned) ≡ mark
    → IsSound (record a { pinned = v; evictable = set a.evictable k mark })
pinned_changed a k v pinned mark sound within now here =
    let sized = sound.sized in
    let set_in : k < length a.pinned.items = let long = sized.pinned in omega arith in
    let at : (j : ℕ) → get_or v.items j false ≡ get_or (set a.pinned.items k pinned) j false =
    λ j. ap (λ (ps : List Bool). get_or ps j false) now in
    record {
      sized = record {
        region = sized.region;
        pinned = ap (λ (ps : List Bool). length ps) now ∙ length-set a.pinned.items k pinned ∙ sized.pinned;
        few = sized.few;
      };
      marked = ap (λ (marks : List Bool). set marks k mark) sound.marked
          ∙ set-evictable_frames (frames_seen a) (record (frames_seen a) { pinned = v.items }) k mark within refl
          (ap (λ (p : Bool). is_held (frames_seen a) k && not p) (at k ∙ get_or-set_same a.pinned.items k pinned false set_in) ∙ here)
          (λ j ne. ap (λ (p : Bool). is_held (frames_seen a) j && not p) (at j ∙ get_or-set_other a.pinned.items k j pinned false ne));
    }

-- a frame is marked at its own place
pub mark_within : (a : Inside) (k : ℕ) → IsSound a → k < length a.held → k < length a.evictable
mark_within a k sound within =
    omega (arith, within, ap (λ (marks : List Bool). length marks) sound.marked, length-evictable_frames (frames_seen a))

-- where no frame is held, none may be evicted
none_evictable : (p : Frames) (count : ℕ) → p.held ≡ replicate count false → replicate count false ≡ evictable_frames p
none_evictable p count held =
    let long : length p.held ≡ count = ap (λ (hs : List Bool). length hs) held ∙ length-replicate count false in
    fill_by_all (is_evictable p) (replicate count false) (length p.held) false (sym (ap (λ (hs : List Bool). length hs) held))
    (λ k h. let free = get_or-replicate count k false false (omega (arith, h)) in
    let unheld : is_held p k ≡ false = ap (λ (hs : List Bool). get_or hs k false) held ∙ free in
    free ∙ sym (ap (λ (h : Bool). h && not (is_pinned p k)) unheld))

pub sound_opened : (a : Inside) (count : ℕ) → count ≤ 2 ^ 16 → a.held ≡ replicate count false
    → a.pinned.items ≡ replicate count false → a.evictable ≡ replicate count false
    → length a.region.bytes ≡ count → IsSound a
sound_opened a count few held pinned evictable region =
    let long : length a.held ≡ count = ap (λ (hs : List Bool). length hs) held ∙ length-replicate count false in
    record {
      sized = record {
        region = region ∙ sym long;
        pinned = ap (λ (ps : List Bool). length ps) pinned ∙ length-replicate count false ∙ sym long;
        few = omega (arith, few);
      };
      marked = evictable ∙ none_evictable (frames_seen a) count held;
    }

-- each frame is held or free
pub free_by : (held : List Bool) → count_by (λ h. not h) held + set_count held ≡ length held
free_by [] = refl
free_by (true ∷ held) =
    omega (arith, free_by held, sum_by-cons (λ (h : Bool). cond (not h) 1 0) true held, sum_by-cons (λ (h : Bool). cond h 1 0) true held)
free_by (false ∷ held) =
    omega (arith, free_by held, sum_by-cons (λ (h : Bool). cond (not h) 1 0) false held, sum_by-cons (λ (h : Bool). cond h 1 0) false held)

pub held_inside : (a : Inside) (p : Frames) (k : ℕ) → frames_seen a ≡ p → k < length p.held → k < length a.held
held_inside a p k seen h = let same = ap (λ (q : Frames). length q.held) seen in omega (arith, h)

-- a held frame is one of the frames
pub held_within : (a : Inside) (p : Frames) (k : ℕ) → frames_seen a ≡ p → is_held p k ≡ true → k < length a.held
held_within a p k seen held =
    elim (cases_lt k (length a.held)) [
      | inl within ↦ within
      | inr past ↦ absurd (true≢false (sym held ∙ sym (ap (λ (q : Frames). is_held q k) seen) ∙ get_or_past a.held k false past))
    ]

-- a pinned frame may not be evicted, and any other one where it is held
pub and_pinned : (held : Bool) → (held && not true) ≡ false
and_pinned true = refl
and_pinned false = refl

pub and_unpinned : (held : Bool) → (held && not false) ≡ held
and_unpinned true = refl
and_unpinned false = refl
