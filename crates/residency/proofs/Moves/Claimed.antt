-- A free frame that is given to a taker.
use Rattle.std.proofs.Common.{◌≡◌, ℕ, ◌<◌, ◌||◌, ◌&&◌, Bool, true, false, not, cond, List, [], ◌∷◌, length, get_or, set, Option, Some, None, refl, sym, ap, ◌∙◌, arith, inl, inr, length-set}
use Rattle.std.specs.Prelude.{is_some, MatchOption}
use Rattle.std.specs.Option.{IsSome}
use Rattle.std.specs.List.{All, list_all}
use Rattle.std.proofs.lemmas.Bool.{cases_eq}
use Rattle.std.proofs.lemmas.List.{get_or-set_same, get_or-set_other}
use Rattle.std.proofs.lemmas.List.Elements.{All-get_or, All-head, All-tail}
use Rattle.vm_ids.specs.declared.numbers.NodeId.{NodeId}
use Rattle.vm_ids.proofs.Places.{some_false, true_below}
use Rattle.frame_pool.specs.Pool.{Frames, is_evictable, is_held, is_pinned}
use Rattle.residency.specs.Causes.{pushes_for}
use Rattle.residency.specs.World.{World, HasUnpinned, IsMadeFree, IsStoreRight, PinnedStays, Still, StillBut, is_bound}
use Rattle.residency.proofs.Worlds.Composed.{stays_then}
use Rattle.residency.proofs.Worlds.Nodes.{same}

abbrev pub claimed : World → ℕ → World
claimed w f = record w { frames = record w.frames { held = set w.frames.held f true; pinned = set w.frames.pinned f true } }

-- where all frames are held, one may be evicted
pub may_evict : (p : Frames) → length p.pinned ≡ length p.held → All (λ h. h ≡ true) p.held → HasUnpinned p → (f : ℕ) × (f < length p.held) × (is_evictable p f ≡ true)
may_evict p same all some =
    let loose : (f : ℕ) × (f < length p.pinned) × (get_or p.pinned f false ≡ false) = some_false p.pinned some in
    let within : loose.0 < length p.held = omega (arith, loose.1) in
    (loose.0, within, ap (λ (b : Bool). b && not (is_pinned p loose.0)) (All-get_or (λ h. h ≡ true) p.held loose.0 false within all) ∙ ap not loose.2)

-- a pool with a free frame gives one
pub took : {X : Type 0} (A : Type 0) (Q : X → Type 0) (r : Option X) (held : List Bool) (v : ℕ) → MatchOption r (A × All (λ h. h ≡ true) held) Q → v < length held → get_or held v false ≡ false → IsSome r
took A Q None held v m below e = absurd (let t : get_or held v false ≡ true = All-get_or (λ h. h ≡ true) held v false below m.1 in cc)
took A Q (Some x) held v m below e = refl

both_true : (a b : Bool) → (a && not b) ≡ true → (a ≡ true) × (b ≡ false)
both_true true false e = (refl, refl)
both_true true true e = absurd (cc)
both_true false b e = absurd (cc)

pub evictable : (p : Frames) (f : ℕ) → is_evictable p f ≡ true → (is_held p f ≡ true) × (is_pinned p f ≡ false)
evictable p f e = both_true (is_held p f) (is_pinned p f) e

-- an evicted frame is free
pub freed : (p : Frames) (f : ℕ) (after : List Bool) → is_evictable p f ≡ true → after ≡ set p.held f false → (f < length after) × (get_or after f false ≡ false)
freed p f after e is =
    let within : f < length p.held = true_below p.held f (evictable p f e).0 in
    let same : length after ≡ length p.held = ap (λ (xs : List Bool). length xs) is ∙ length-set p.held f false in
    (omega arith, ap (λ (xs : List Bool). get_or xs f false) is ∙ get_or-set_same p.held f false false within)

all_held : (xs : List Bool) → All (λ h. h ≡ true) xs → list_all (λ h. h) xs ≡ true
all_held [] h = refl
all_held (x ∷ xs) h = ap (λ (b : Bool). b && list_all (λ h. h) xs) (All-head (λ h. h ≡ true) x xs h) ∙ all_held xs (All-tail (λ h. h ≡ true) x xs h)

pub pushes_when_full : (held : List Bool) → All (λ h. h ≡ true) held → pushes_for held ≡ 1
pushes_when_full held h = ap (λ (b : Bool). cond {A = ℕ} b 1 0) (all_held held h)
