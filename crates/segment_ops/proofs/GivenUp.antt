-- Frames of pages that their segments hold are given up.
use Rattle.std.proofs.Common.{◌≡◌, ℕ, ◌+◌, Bool, true, false, List, get_or, Option, Some, None, is_some, sym, ap, ◌∙◌, arith}
use Rattle.std.specs.Prelude.{OnOk, Result, Ok, Err}
use Rattle.vm_ids.specs.Counting.{MapperCounts}
use Rattle.vm_ids.specs.declared.command.Extent.{Extent}
use Rattle.vm_ids.specs.declared.numbers.NodeId.{NodeId}
use Rattle.global_map.specs.Pairs.{node_of}
use Rattle.local_cache.specs.declared.home.Home.{Home}
use Rattle.local_cache.specs.declared.own_state.OwnState.TheVariants.{Slot, OnSegment}
use Rattle.local_cache.specs.Home.{home_of}
use Rattle.local_cache.specs.Own.{is_resident, own_of}
use Rattle.local_cache.specs.Whole.{IsWhole}
use Rattle.local_cache.proofs.Nodes.OwnStates.{own_same}
use Rattle.residency.specs.Causes.{Later, Traffic}
use Rattle.residency.specs.Evicting.{HasLeft, IsEvicted}
use Rattle.residency.specs.World.{OthersStay, Still, World, is_clean}
use Rattle.residency.proofs.Forests.StillForest.{still_like}
use Rattle.fault_path.proofs.Calls.Kept.{still_kept}
use Rattle.segment_ops.specs.Keeping.{StaysWhole}
use Rattle.segment_ops.specs.Pushing.{TellsValues}
use Rattle.segment_ops.specs.Synced.{AreLoose}
use Rattle.segment_ops.proofs.SyncedPages.{same_node}
use Rattle.local_cache.proofs.Whole.Like.{like_whole}

-- a node that left its frame isn't resident
left_out : (a b : World) (f : ℕ) (n : NodeId) (o : Option Home) (clean : Bool) → HasLeft o clean f n a b → is_resident (own_of b.caches n) ≡ false
left_out a b f n None clean e = ap (λ (w : World). is_resident (own_of w.caches n)) e.is ∙ ap is_resident (own_same a.caches n (Slot e.slot))
left_out a b f n (Some home) true e = ap (λ (w : World). is_resident (own_of w.caches n)) e ∙ ap is_resident (own_same a.caches n OnSegment)
left_out a b f n (Some home) false e = ap (λ (w : World). is_resident (own_of w.caches n)) e ∙ ap is_resident (own_same a.caches n OnSegment)

pub evicted_out : {T E : Type 0} (a b : World) (f : ℕ) (n : NodeId) (r : Result T E) (x : T) → r ≡ Ok x → OnOk r (IsEvicted f a b) → node_of a.map f ≡ Some n → is_resident (own_of b.caches n) ≡ false
evicted_out a b f n (Err x) y e out at = absurd (cc e)
evicted_out a b f n (Ok x) y e out at =
    let same : out.node ≡ n = cc (out.was, at) in
    ap (λ k. is_resident (own_of b.caches k)) (sym same) ∙ left_out a b f out.node (home_of a.caches out.node) (is_clean (own_of a.caches out.node)) out.has_left

-- frames that have a node have kept it, and no frame was pinned
pub loose_stays : (range : Extent) (w v : World) → Still w v → OthersStay w v → v.frames.pinned ≡ w.frames.pinned → AreLoose range w → AreLoose range v
loose_stays range w v still others pins loose page n f in_range at bound =
    let here = sym (same_node w.caches v.caches (still_like w.caches v.caches still.stays.caches) range.cache.0 page) ∙ at in
    let kept = others.frames f (ap is_some bound) in
    ap (λ (ps : List Bool). get_or ps f false) pins ∙ loose page n f in_range here (sym kept.node ∙ bound)

-- what stays where every page is still
pub still_stays : (old new : World) (c d : MapperCounts) → Still old new → IsWhole old.caches → new.frames.pinned ≡ old.frames.pinned → Later c d → TellsValues old new c d → StaysWhole old new c d
still_stays old new c d still whole pins later told =
    let kept = still_kept old new still whole.sound whole.consistent.shaped pins in
    record { kept = kept; whole = like_whole old.caches new.caches whole kept.nodes kept.sound kept.shaped; later = later; told = told }

pub traffic_then : (a b c : MapperCounts) → Traffic 0 0 a b → Traffic 0 0 b c → Traffic 0 0 a c
traffic_then a b c p q = record {
  pulled = λ low. (let second : c.pulls ≡ b.pulls + 0 = q.pulled low in let first : b.pulls ≡ a.pulls + 0 = p.pulled (omega (arith, second, low)) in omega arith);
  pushed = λ low. (let second : c.pushes ≡ b.pushes + 0 = q.pushed low in let first : b.pushes ≡ a.pushes + 0 = p.pushed (omega (arith, second, low)) in omega arith);
}
