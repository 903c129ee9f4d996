-- How many frames, pulls and pushes a call takes: at most a push for each frame that isn't free.
use Rattle.std.specs.Prelude.{◌≡◌, ℕ, ◌+◌, ◌-◌, ◌<◌, ◌≤◌, is_some, if◌then◌else◌, length}
use Rattle.vm_ids.specs.Counting.{MapperCounts, RoseBy, last_count}
use Rattle.vm_ids.specs.declared.numbers.NodeId.{NodeId}
use Rattle.vm_ids.specs.Forest.Rules.{heir}
use Rattle.frame_pool.specs.Pool.{Frames, held_count}
use Rattle.local_cache.specs.declared.own_state.OwnState.{OwnState}
use Rattle.local_cache.specs.Arena.{Arena}
use Rattle.local_cache.specs.Own.{is_absent, own_of}
use Rattle.local_cache.specs.Reading.{forest_of, name_of}
use Rattle.residency.specs.Causes.{frames_to_bring}
use Rattle.residency.specs.World.{is_pulled}

-- the count rose by no more than this, where it is below the last number
abbrev pub RoseAtMost : ℕ → ℕ → ℕ → Type 0
RoseAtMost n before now = now < last_count → now ≤ before + n

-- there were no more pulls and pushes than these
pub record TrafficAtMost (pulls pushes : ℕ) (before now : MapperCounts) : Type 0 where
  pub pulled : RoseAtMost pulls before.pulls now.pulls
  pub pushed : RoseAtMost pushes before.pushes now.pushes

-- there was no pull
abbrev pub NoPull : MapperCounts → MapperCounts → Type 0
NoPull before now = RoseBy 0 before.pulls now.pulls

-- there were so many pulls, and no more pushes than these
pub record Pulls (pulls pushes : ℕ) (before now : MapperCounts) : Type 0 where
  pub pulled : RoseBy pulls before.pulls now.pulls
  pub pushed : RoseAtMost pushes before.pushes now.pushes

abbrev pub free_count : Frames → ℕ
free_count p = length p.held - held_count p

-- so many more frames are held than were, each of which was free or made free
abbrev pub HoldsMore : ℕ → Frames → Frames → Type 0
HoldsMore frames old new =
    held_count new + (frames - free_count old) ≡ held_count old + frames

-- From before to now there were so many pulls, and at most a push for each of so many frames that
-- wasn't free.
abbrev pub Takes : ℕ → ℕ → Frames → MapperCounts → MapperCounts → Type 0
Takes pulls frames p before now = Pulls pulls (frames - free_count p) before now

-- there were no more than these
abbrev pub TakesAtMost : ℕ → ℕ → Frames → MapperCounts → MapperCounts → Type 0
TakesAtMost pulls frames p before now = TrafficAtMost pulls (frames - free_count p) before now

-- A copy of a page takes a pull and two frames where the page is in a slot or on its segment, and
-- else the frame of the copy alone: a page of zeros needs no other.
abbrev pub pulls_to_copy : OwnState → ℕ
pulls_to_copy own = if is_pulled own then 1 else 0

abbrev pub frames_to_copy : OwnState → ℕ
frames_to_copy own = if is_pulled own then 2 else 1

-- Its heir, where a node has one, gets a copy.
abbrev pub heirs_to_save : Arena → NodeId → ℕ
heirs_to_save a n = if is_some (heir (forest_of a) (name_of a n)) then 1 else 0

abbrev pub pulls_to_save : Arena → NodeId → ℕ
pulls_to_save a n =
    if is_some (heir (forest_of a) (name_of a n)) then pulls_to_copy (own_of a n) else 0

abbrev pub frames_to_save : Arena → NodeId → ℕ
frames_to_save a n =
    if is_some (heir (forest_of a) (name_of a n)) then frames_to_copy (own_of a n) else 0

-- A write to n, of which o is the owner, copies the page of o where n has none, and else brings the
-- page of n in.
abbrev pub pulls_to_write : Arena → NodeId → NodeId → ℕ
pulls_to_write a n o = pulls_to_copy (own_of a (if is_absent (own_of a n) then o else n))

abbrev pub frames_to_write : Arena → NodeId → NodeId → ℕ
frames_to_write a n o =
    (if is_absent (own_of a n) then frames_to_copy (own_of a o) else frames_to_bring (own_of a n))
    + heirs_to_save a n
