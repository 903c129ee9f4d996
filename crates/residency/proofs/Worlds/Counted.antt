-- How many frames are held, and how many of them are pinned.
use Rattle.std.proofs.Common.{◌≡◌, ℕ, ◌+◌, ◌<◌, ◌≤◌, ◌||◌, ◌&&◌, Bool, true, false, not, List, length, get_or, set, refl, sym, ap, ◌∙◌, arith, length-set}
use Rattle.std.specs.List.{count_by}
use Rattle.std.proofs.lemmas.List.{get_or-set_other}
use Rattle.vm_ids.proofs.Places.{bit, bit_true, count-set, count_le, true_below}
use Rattle.frame_pool.specs.Pool.{Frames, held_count, is_evictable, is_held, is_pinned, pinned_count}
use Rattle.residency.specs.World.{World, IsStoreRight, is_bound}
use Rattle.residency.proofs.Moves.Claimed.{evictable}

pub one_fewer : (p : Frames) (v : ℕ) (after : List Bool) → is_evictable p v ≡ true → after ≡ set p.held v false → count_by (λ h. h) after + 1 ≡ held_count p
one_fewer p v after e is =
    let held : get_or p.held v false ≡ true = (evictable p v e).0 in
    let counts : count_by (λ h. h) (set p.held v false) + bit (get_or p.held v false) ≡ held_count p + 0 = count-set (λ h. h) p.held v false false (true_below p.held v held) in
    omega (arith, bit_true (get_or p.held v false) held, ap (count_by (λ h. h)) is)

or_right : (a b : Bool) → b ≡ true → (a || b) ≡ true
or_right true b h = refl
or_right false b h = h

pub pinned_held : (w : World) → IsStoreRight w → pinned_count w.frames ≤ held_count w.frames
pinned_held w right = count_le w.frames.pinned w.frames.held right.tied.fitted.pinned_frames (λ i h. right.tied.placed.held i ∙ or_right (is_bound w i) (is_pinned w.frames i) h)

-- more are held than pinned, where one may be evicted
pub some_left : (w : World) (v : ℕ) → IsStoreRight w → is_evictable w.frames v ≡ true → pinned_count w.frames < held_count w.frames
some_left w v right e =
    let loose : is_pinned w.frames v ≡ false = (evictable w.frames v e).1 in
    let fewer : count_by (λ h. h) (set w.frames.held v false) + 1 ≡ held_count w.frames = one_fewer w.frames v (set w.frames.held v false) e refl in
    let below : pinned_count w.frames ≤ count_by (λ h. h) (set w.frames.held v false) = count_le w.frames.pinned (set w.frames.held v false) (right.tied.fitted.pinned_frames ∙ sym (length-set w.frames.held v false)) (λ i h.
    get_or-set_other w.frames.held v i false false (λ q. absurd (let t : is_pinned w.frames i ≡ false = ap (is_pinned w.frames) q ∙ loose in cc))
    ∙ right.tied.placed.held i ∙ or_right (is_bound w i) (is_pinned w.frames i) h) in
    omega (arith, fewer, below)

must_pin : (a b : Bool) → (a && not b) ≡ false → a ≡ true → b ≡ true
must_pin true true e h = refl
must_pin true false e h = absurd (cc)
must_pin false b e h = absurd (cc)

pub none_left : (w : World) → IsStoreRight w → ((f : ℕ) → f < length w.frames.held → is_evictable w.frames f ≡ false) → held_count w.frames ≤ pinned_count w.frames
none_left w right none = count_le w.frames.held w.frames.pinned (sym right.tied.fitted.pinned_frames) (λ i h. must_pin (is_held w.frames i) (is_pinned w.frames i) (none i (true_below w.frames.held i h)) h)
