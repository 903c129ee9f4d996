-- Sums of pulls and pushes, one for each frame that isn't free.
use Rattle.std.proofs.Common.{◌≡◌, ℕ, ◌+◌, ◌-◌, ◌<◌, ◌≤◌, Bool, true, false, cond, List, [], ◌∷◌, length, refl, arith}
use Rattle.std.specs.List.{count_by, list_all}
use Rattle.std.proofs.lemmas.List.Sums.{count_by-le-length}
use Rattle.vm_ids.specs.Counting.{MapperCounts}
use Rattle.vm_ids.proofs.Places.{count_cons}
use Rattle.frame_pool.specs.Pool.{Frames, held_count}
use Rattle.local_cache.specs.declared.own_state.OwnState.{OwnState}
use Rattle.local_cache.specs.declared.own_state.OwnState.TheVariants.{Absent, Zero, Resident, Slot, OnSegment}
use Rattle.local_cache.specs.Own.{is_resident}
use Rattle.residency.specs.Causes.{Later, Traffic, frames_to_bring, pushes_for, pushes_to_bring}
use Rattle.residency.specs.World.{is_pulled}
use Rattle.fault_path.specs.Costs.{NoPull, TrafficAtMost, Pulls, Takes, TakesAtMost, frames_to_copy, pulls_to_copy}
use Rattle.fault_path.specs.Faults.{is_at_hand}

count_most : (xs : List Bool) → count_by (λ h. h) xs ≤ length xs
count_most xs = count_by-le-length (λ h. h) xs

all_count : (xs : List Bool) → list_all (λ h. h) xs ≡ true → count_by (λ h. h) xs ≡ length xs
all_count [] e = refl
all_count (true ∷ xs) e = omega (arith, all_count xs e, count_cons (λ h. h) true xs)
all_count (false ∷ xs) e = absurd (cc e)

some_count : (xs : List Bool) → list_all (λ h. h) xs ≡ false → count_by (λ h. h) xs < length xs
some_count [] e = absurd (cc e)
some_count (true ∷ xs) e = omega (arith, some_count xs e, count_cons (λ h. h) true xs)
some_count (false ∷ xs) e = omega (arith, count_most xs, count_cons (λ h. h) false xs)

free_or_not : (xs : List Bool) (b : Bool) → list_all (λ h. h) xs ≡ b → cond {A = ℕ} b 1 0 ≡ 1 - (length xs - count_by (λ h. h) xs)
free_or_not xs true e = omega (arith, all_count xs e)
free_or_not xs false e = omega (arith, some_count xs e)

-- a push for the one frame, unless one is free
pub pushes_free : (held : List Bool) → pushes_for held ≡ 1 - (length held - count_by (λ h. h) held)
pushes_free held = free_or_not held (list_all (λ h. h) held) refl

bring_by : (b : Bool) (held : List Bool) → cond {A = ℕ} b 0 (pushes_for held) ≡ cond {A = ℕ} b 0 1 - (length held - count_by (λ h. h) held)
bring_by true held = omega arith
bring_by false held = pushes_free held

pub pushes_bring : (own : OwnState) (held : List Bool) → pushes_to_bring own held ≡ frames_to_bring own - (length held - count_by (λ h. h) held)
pushes_bring own held = bring_by (is_resident own) held

-- so many are held after frames were taken for k
abbrev pub Taken : ℕ → List Bool → List Bool → Type 0
Taken k before now = count_by (λ h. h) now + (k - (length before - count_by (λ h. h) before)) ≡ count_by (λ h. h) before + k

pub taken_to_bring : (own : OwnState) (before now : List Bool) → count_by (λ h. h) now + pushes_to_bring own before ≡ count_by (λ h. h) before + frames_to_bring own → Taken (frames_to_bring own) before now
taken_to_bring own before now e = omega (arith, pushes_bring own before)

-- and then one more is taken
pub pushes_then : (k : ℕ) (before now : List Bool) → length now ≡ length before → Taken k before now
    → (k - (length before - count_by (λ h. h) before)) + (1 - (length now - count_by (λ h. h) now)) ≡ k + 1 - (length before - count_by (λ h. h) before)
pushes_then k before now same e = omega (arith, count_most before, count_most now)

pub taken_then : (k : ℕ) (before now after : List Bool) → length now ≡ length before → Taken k before now → Taken 1 now after → Taken (k + 1) before after
taken_then k before now after same e f = omega (arith, count_most before, count_most now)

-- a count of pushes that is told exactly is also told at most
pub pulls_few : (p q pushes : ℕ) (a b : MapperCounts) → Traffic p q a b → q ≤ pushes → Pulls p pushes a b
pulls_few p q pushes a b traffic f = record {
  pulled = traffic.pulled;
  pushed = λ low. (let it : b.pushes ≡ a.pushes + q = traffic.pushed low in omega (arith, it, f));
}

pub pulls_then : (p q r s pulls pushes : ℕ) (a b c : MapperCounts) → Pulls p q a b → Pulls r s b c → Later b c → p + r ≡ pulls → q + s ≤ pushes → Pulls pulls pushes a c
pulls_then p q r s pulls pushes a b c one two later e f = record {
  pulled = λ low. (let first : b.pulls ≡ a.pulls + p = one.pulled (omega (arith, later.pulls, low)) in let second : c.pulls ≡ b.pulls + r = two.pulled low in omega arith);
  pushed = λ low. (let first : b.pushes ≤ a.pushes + q = one.pushed (omega (arith, later.pushes, low)) in let second : c.pushes ≤ b.pushes + s = two.pushed low in omega arith);
}

-- frames for k, and then one more
pub pulls_more : (k p : ℕ) (before now : List Bool) (a b c : MapperCounts) → length now ≡ length before → Taken k before now → Pulls p (k - (length before - count_by (λ h. h) before)) a b → Pulls 0 (1 - (length now - count_by (λ h. h) now)) b c → Later b c
    → Pulls p (k + 1 - (length before - count_by (λ h. h) before)) a c
pulls_more k p before now a b c same taken one two later =
    pulls_then p (k - (length before - count_by (λ h. h) before)) 0 (1 - (length now - count_by (λ h. h) now)) p (k + 1 - (length before - count_by (λ h. h) before)) a b c one two later (omega arith) (omega (arith, pushes_then k before now same taken))

pub pulls_is : (p q pulls pushes : ℕ) (a b : MapperCounts) → Pulls p q a b → p ≡ pulls → q ≤ pushes → Pulls pulls pushes a b
pulls_is p q pulls pushes a b traffic e f = record {
  pulled = λ low. (let it : b.pulls ≡ a.pulls + p = traffic.pulled low in omega arith);
  pushed = λ low. (let it : b.pushes ≤ a.pushes + q = traffic.pushed low in omega arith);
}

pub most_then : (p q r s pulls pushes : ℕ) (a b c : MapperCounts) → Pulls p q a b → TrafficAtMost r s b c → Later b c → p + r ≤ pulls → q + s ≤ pushes → TrafficAtMost pulls pushes a c
most_then p q r s pulls pushes a b c one two later e f = record {
  pulled = λ low. (let first : b.pulls ≡ a.pulls + p = one.pulled (omega (arith, later.pulls, low)) in let second : c.pulls ≤ b.pulls + r = two.pulled low in omega arith);
  pushed = λ low. (let first : b.pushes ≤ a.pushes + q = one.pushed (omega (arith, later.pushes, low)) in let second : c.pushes ≤ b.pushes + s = two.pushed low in omega arith);
}

pub pulls_most : (p q pulls pushes : ℕ) (a b : MapperCounts) → Pulls p q a b → p ≤ pulls → q ≤ pushes → TrafficAtMost pulls pushes a b
pulls_most p q pulls pushes a b traffic e f = record {
  pulled = λ low. (let it : b.pulls ≡ a.pulls + p = traffic.pulled low in omega arith);
  pushed = λ low. (let it : b.pushes ≤ a.pushes + q = traffic.pushed low in omega arith);
}

pub most_more : (p q pulls pushes : ℕ) (a b : MapperCounts) → TrafficAtMost p q a b → p ≤ pulls → q ≤ pushes → TrafficAtMost pulls pushes a b
most_more p q pulls pushes a b traffic e f = record {
  pulled = λ low. (let it : b.pulls ≤ a.pulls + p = traffic.pulled low in omega arith);
  pushed = λ low. (let it : b.pushes ≤ a.pushes + q = traffic.pushed low in omega arith);
}

-- a pull fails or was not tried
pub tried_most : (b : Bool) (own : OwnState) → cond {A = ℕ} b 0 (cond {A = ℕ} (is_pulled own) 1 0) ≤ pulls_to_copy own
tried_most true own = omega arith
tried_most false own = omega arith

by_most : (b : Bool) → (cond {A = ℕ} b 1 0 ≤ 1) × (cond {A = ℕ} b 2 1 ≤ 2)
by_most true = (omega arith, omega arith)
by_most false = (omega arith, omega arith)

pub copy_most : (own : OwnState) → (pulls_to_copy own ≤ 1) × (frames_to_copy own ≤ 2)
copy_most own = by_most (is_pulled own)

-- a resident page is copied to one frame
pub resident_copies : (own : OwnState) → is_resident own ≡ true → (pulls_to_copy own ≡ 0) × (frames_to_copy own ≡ 1)
resident_copies Absent e = absurd (cc e)
resident_copies Zero e = absurd (cc e)
resident_copies (Resident d) e = (refl, refl)
resident_copies (Slot s) e = absurd (cc e)
resident_copies OnSegment e = absurd (cc e)

bring_by_most : (b : Bool) → cond {A = ℕ} b 0 1 ≤ 1
bring_by_most true = omega arith
bring_by_most false = omega arith

pub bring_most : (own : OwnState) → frames_to_bring own ≤ 1
bring_most own = bring_by_most (is_resident own)

-- A page in this state was brought in: the frames that that took, and the one that is taken then.
module _ (own : OwnState) (before now : Frames) (x y : MapperCounts) (same : length now.held ≡ length before.held)
    (held : held_count now + pushes_to_bring own before.held ≡ held_count before + frames_to_bring own) (pushes : ℕ) (brought : Traffic (pulls_to_copy own) pushes x y) (few : pushes ≤ pushes_to_bring own before.held) where
  pub brought_taken : Taken (frames_to_bring own) before.held now.held
  brought_taken = taken_to_bring own before.held now.held held

  pub brought_traffic : Takes (pulls_to_copy own) (frames_to_bring own) before x y
  brought_traffic = pulls_few _ _ _ _ _ brought (omega (arith, few, pushes_bring own before.held))

  pub brought_more : (z : MapperCounts) → Takes 0 1 now y z → Later y z → Takes (pulls_to_copy own) (frames_to_bring own + 1) before x z
  brought_more z one later = pulls_more (frames_to_bring own) (pulls_to_copy own) before.held now.held x y z same brought_taken brought_traffic one later

  pub brought_most : (z : MapperCounts) → TakesAtMost 0 1 now y z → Later y z → TakesAtMost (pulls_to_copy own) (frames_to_bring own + 1) before x z
  brought_most z one later = most_then _ _ _ _ _ _ _ _ _ brought_traffic one later (omega arith) (omega (arith, pushes_then (frames_to_bring own) before.held now.held same brought_taken))

-- it failed to be brought in
pub failed_most : (own : OwnState) (before : Frames) (b : Bool) (pushes : ℕ) (x y : MapperCounts) → Traffic (cond {A = ℕ} b 0 (cond {A = ℕ} (is_pulled own) 1 0)) pushes x y → pushes ≤ pushes_to_bring own before.held
    → TakesAtMost (pulls_to_copy own) (frames_to_bring own) before x y
failed_most own before b pushes x y traffic few = pulls_most _ _ _ _ _ _ (pulls_few _ _ _ _ _ traffic few) (tried_most b own) (omega (arith, pushes_bring own before.held))

-- a page that is at hand is not pulled
pub at_hand_pulls : (own : OwnState) (pushes : ℕ) (x y : MapperCounts) → TrafficAtMost (pulls_to_copy own) pushes x y → Later x y → is_at_hand own ≡ true → NoPull x y
at_hand_pulls own pushes x y most later at low = (let up : y.pulls ≤ x.pulls + pulls_to_copy own = most.pulled low in omega (arith, up, none own at, later.pulls))
  where
    none : (own : OwnState) → is_at_hand own ≡ true → pulls_to_copy own ≡ 0
    none Absent e = absurd (cc e)
    none Zero e = refl
    none (Resident d) e = refl
    none (Slot s) e = absurd (cc e)
    none OnSegment e = absurd (cc e)

-- a copy of a resident page takes the one frame
pub resident_takes : (own : OwnState) (now : Frames) (y z : MapperCounts) → is_resident own ≡ true → Takes (pulls_to_copy own) (frames_to_copy own) now y z → Takes 0 1 now y z
resident_takes own now y z e traffic = let one = resident_copies own e in pulls_is _ _ _ _ _ _ traffic one.0 (omega (arith, one.1))
