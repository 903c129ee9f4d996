-- Counts of a mapper from one moment to a later one.
use Rattle.std.specs.Prelude.{ℕ, ◌≤◌, Bool, true, false, if◌then◌else◌, ◌||◌, List, Option, count_by, Result, Ok, Err}
use Rattle.std.specs.List.{list_all}
use Rattle.std.specs.Option.{option_map_or}
use Rattle.vm_ids.specs.Counting.{MapperCounts, Rose, RoseBy}
use Rattle.vm_ids.specs.declared.numbers.NodeId.{NodeId}
use Rattle.global_map.specs.Pairs.{node_of}
use Rattle.local_cache.specs.declared.own_state.OwnState.{OwnState}
use Rattle.local_cache.specs.declared.own_state.OwnState.TheVariants.{Absent, Zero, Resident, Slot, OnSegment}
use Rattle.local_cache.specs.Arena.{Arena}
use Rattle.local_cache.specs.Own.{is_on_segment, is_resident, own_of, own_states}
use Rattle.residency.specs.World.{is_pulled}
use Rattle.residency.specs.declared.miss.Miss.{Miss}
use Rattle.residency.specs.declared.miss.Miss.TheVariants.{Pull, Victim}

-- no count fell
pub record Later (before now : MapperCounts) : Type 0 where
  pub faults : before.faults ≤ now.faults
  pub pulls : before.pulls ≤ now.pulls
  pub pushes : before.pushes ≤ now.pushes

-- a push failed
pub record PushFailed (before now : MapperCounts) : Type 0 where
  pub faults : Rose before.faults now.faults
  pub pushes : Rose before.pushes now.pushes

-- a pull failed
pub record PullFailed (before now : MapperCounts) : Type 0 where
  pub faults : Rose before.faults now.faults
  pub pulls : Rose before.pulls now.pulls

abbrev pub HasMissCause : MapperCounts → MapperCounts → Miss → Type 0
HasMissCause before now Pull = PullFailed before now
HasMissCause before now Victim = PushFailed before now

-- there were so many pulls and pushes, those that failed among them
pub record Traffic (pulls pushes : ℕ) (before now : MapperCounts) : Type 0 where
  pub pulled : RoseBy pulls before.pulls now.pulls
  pub pushed : RoseBy pushes before.pushes now.pushes

-- a page in a frame that lies nowhere else
abbrev pub is_dirty : OwnState → Bool
is_dirty Absent = false
is_dirty Zero = false
is_dirty (Resident dirty) = dirty
is_dirty (Slot s) = false
is_dirty OnSegment = false

-- how many pages in frames are dirty
abbrev pub dirty_count : Arena → ℕ
dirty_count a = count_by is_dirty (own_states a)

-- 1 where the page in this frame is dirty, and else 0
abbrev pub dirty_in : Arena → List (Option NodeId) → ℕ → ℕ
dirty_in a map frame =
    if option_map_or (λ n. is_dirty (own_of a n)) (node_of map frame) false then 1 else 0

-- pushes that making a frame free takes at most: one where no frame is free
abbrev pub pushes_for : List Bool → ℕ
pushes_for held = if list_all (λ h. h) held then 1 else 0

abbrev pub is_victim : {T : Type 0} → Result T Miss → Bool
is_victim (Ok x) = false
is_victim (Err Pull) = false
is_victim (Err Victim) = true

-- pulls that bringing a page in takes, where room was made for it: one for a page that is in a slot
-- or on its segment
abbrev pub pulls_for : {T : Type 0} → Result T Miss → OwnState → ℕ
pulls_for result own = if is_victim result then 0 else (if is_pulled own then 1 else 0)

-- dirty pages in frames that bringing a page in makes: one for a page that its segment doesn't hold
abbrev pub dirtied : {T E : Type 0} → Result T E → OwnState → ℕ
dirtied (Ok x) own = if is_resident own || is_on_segment own then 0 else 1
dirtied (Err e) own = 0

-- frames that bringing a page in takes: none for a resident page
abbrev pub frames_to_bring : OwnState → ℕ
frames_to_bring own = if is_resident own then 0 else 1

-- pushes that bringing a page in takes at most: none for a resident page
abbrev pub pushes_to_bring : OwnState → List Bool → ℕ
pushes_to_bring own held = if is_resident own then 0 else pushes_for held

-- the push with which a call failed
abbrev pub failed_pushes : {T E : Type 0} → Result T E → ℕ
failed_pushes (Ok x) = 0
failed_pushes (Err e) = 1

-- the push with which bringing a page in failed
abbrev pub failed_victims : {T : Type 0} → Result T Miss → ℕ
failed_victims result = if is_victim result then 1 else 0
