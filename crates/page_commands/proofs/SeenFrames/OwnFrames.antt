-- The frame of a node's own page.
use Rattle.std.proofs.Common.{◌≡◌, ℕ, true, false, List, Option, Some, None, is_some, refl, ap, ◌∙◌}
use Rattle.vm_ids.specs.declared.numbers.NodeId.{NodeId}
use Rattle.global_map.specs.Pairs.{frame_of}
use Rattle.local_cache.specs.declared.own_state.OwnState.{OwnState}
use Rattle.local_cache.specs.declared.own_state.OwnState.TheVariants.{Absent, Zero, Resident, Slot, OnSegment}
use Rattle.local_cache.specs.Arena.{Arena}
use Rattle.local_cache.specs.Own.{is_resident, own_of}
use Rattle.local_cache.specs.Reading.{page_of}
use Rattle.local_cache.specs.ReadingBy.{Tells}
use Rattle.residency.specs.Seeing.{own_frame}
use Rattle.residency.specs.World.{page_by}
use Rattle.page_commands.specs.Steps.{fresh_frame}
use Rattle.page_commands.proofs.TiedStores.Backed.{page_as}

page_or_none : (frame : ℕ) (x : OwnState) → is_some (page_by None (Some frame) (λ slot. None) None x) ≡ is_some (page_of x)
page_or_none frame Absent = refl
page_or_none frame Zero = refl
page_or_none frame (Resident dirty) = refl
page_or_none frame (Slot s) = refl
page_or_none frame OnSegment = refl

-- there is one of each own page
pub frame_tells : (a : Arena) (map : List (Option NodeId)) → Tells (own_frame a map) a
frame_tells a map n = page_or_none (frame_of map n.0) (own_of a n)

-- a node has the own state that another one had, and its frame where it is in one
pub frame_as : (a b : Arena) (old new : List (Option NodeId)) (n m : NodeId) → own_of b n ≡ own_of a m → (is_resident (own_of a m) ≡ true → frame_of new n.0 ≡ frame_of old m.0) → own_frame b new n ≡ own_frame a old m
frame_as a b old new n m own frame =
    ap (page_by None (Some (frame_of new n.0)) (λ slot. None) None) own
    ∙ page_as None (Some (frame_of new n.0)) (Some (frame_of old m.0)) (λ slot. None) None None (own_of a m) (λ r. ap Some (frame r)) (λ k. refl)

-- a page that isn't resident is in no frame
pub no_frame : (frame : ℕ) (x : OwnState) → is_resident x ≡ false → page_by None (Some frame) (λ slot. None) None x ≡ fresh_frame x
no_frame frame Absent e = refl
no_frame frame Zero e = refl
no_frame frame (Resident dirty) e = absurd (cc e)
no_frame frame (Slot s) e = refl
no_frame frame OnSegment e = refl
