-- The list of which frames may be evicted, and one that is picked from it.
use Rattle.std.proofs.Common.{◌≡◌, ℕ, suc, ◌<◌, ◌≤◌, Bool, true, false, cond, List, [], ◌∷◌, length, get_or, refl, sym, ◌∙◌, arith}
use Rattle.std.specs.Prelude.{Contains, Some, slice_get}
use Rattle.std.proofs.lemmas.List.{get_or_default}
use Rattle.std.proofs.lemmas.List.Sums.{get_or-le-sum_by, sum_by-cons}
use Rattle.std.proofs.lemmas.Option.{get_or_from_slice_get, slice_get_within}
use Rattle.frame_pool.specs.Marks.{set_count}
use Rattle.frame_pool.specs.Pool.{Frames, evictable_count, evictable_frames, is_evictable}
use Rattle.frame_pool.proofs.Evictable.{evictable_at, length-evictable_frames}
use Rattle.residency.specs.Frames.{HasEvictable}

-- a list with a mark that is set, and one without
set_place : (marks : List Bool) → 0 < set_count marks → (k : ℕ) × (k < length marks) × (get_or marks k false ≡ true)
set_place [] h = absurd (omega arith)
set_place (true ∷ marks) h = (0, omega arith, refl)
set_place (false ∷ marks) h =
    let rest = set_place marks (omega (arith, sum_by-cons (λ (m : Bool). cond m 1 0) false marks)) in
    (suc rest.0, (let within = rest.1 in omega arith), rest.2)

pub some_counted : (p : Frames) → 0 < evictable_count p → HasEvictable p
some_counted p h =
    let at = set_place (evictable_frames p) h in
    let within : at.0 < length p.held = let inside = at.1 in omega (arith, length-evictable_frames p) in
    (at.0, within, sym (evictable_at p at.0 within) ∙ at.2)

unmarked : (mark : Bool) → cond mark 1 0 ≤ 0 → mark ≡ false
unmarked true h = absurd (omega arith)
unmarked false h = refl

pub none_counted : (p : Frames) → evictable_count p ≡ 0 → (f : ℕ) → f < length p.held → is_evictable p f ≡ false
none_counted p none f within =
    let long = length-evictable_frames p in
    let below = get_or-le-sum_by (λ (m : Bool). cond m 1 0) (evictable_frames p) f false (omega arith) in
    sym (evictable_at p f within) ∙ unmarked (get_or (evictable_frames p) f false) (omega arith)

-- what a chooser asks of the list, and what it answers
pub contains_evictable : (p : Frames) → HasEvictable p → Contains (evictable_frames p) true
contains_evictable p (f, within, may) =
    let inside : f < length (evictable_frames p) = omega (arith, length-evictable_frames p) in
    (f, inside, get_or_default (evictable_frames p) f true false inside ∙ evictable_at p f within ∙ may)

pub picked_within : (p : Frames) (f : ℕ) → slice_get (evictable_frames p) f ≡ Some true → f < length p.held
picked_within p f picked = omega (arith, slice_get_within (evictable_frames p) f true picked, length-evictable_frames p)

pub picked_may : (p : Frames) (f : ℕ) → slice_get (evictable_frames p) f ≡ Some true → is_evictable p f ≡ true
picked_may p f picked =
    sym (evictable_at p f (picked_within p f picked)) ∙ get_or_from_slice_get (evictable_frames p) f true false picked
