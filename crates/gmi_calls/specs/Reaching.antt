-- What some calls of a mapper come to, one after the other, between a machine's cache and the
-- segment that names it.
use Rattle.std.specs.Prelude.{◌≡◌, ℕ, ◌+◌, ◌<◌, ◌≤◌, List, length, slice_get, Option, Result, Ok, Err, IsSome, OnErr}
use Rattle.vm_ids.specs.Counting.{MapperCounts, Rise}
use Rattle.vm_ids.specs.Held.{Held, page_of, segments_of}
use Rattle.vm_ids.specs.declared.numbers.PageNo.{PageNo}
use Rattle.vm_model.specs.Machine.{Machine}
use Rattle.vm_model.specs.Pushing.{PushRule}
use Rattle.vm_port.specs.declared.traits.mapper.Mapper.{Ghosts as GhostsOfMapper}
use Rattle.gmi_calls.specs.Calling.{NoTraffic}

-- By how much the counts of the mapper rose; where the result is an error, a call failed.
pub record Reached {T E : Type 0} (before now : MapperCounts) (result : Result T E) : Type 0 where
  pub rises : MapperCounts
  pub rose : Rise before now rises
  pub failed : OnErr result (0 < rises.faults)

-- no page was pulled or pushed
pub record NoPages (rises : MapperCounts) : Type 0 where
  pub pulled : rises.pulls ≡ 0
  pub pushed : rises.pushes ≡ 0

-- The mapper was asked about its pages, and no more: it holds what it held, and no page came or
-- went. Where the result is an error, a call failed.
pub record Asked {Mapper T E : Type 0} (M : GhostsOfMapper Mapper) (before after : Mapper)
    (result : Result T E) : Type 0 where
  pub held : M.held after ≡ M.held before
  pub reached : Reached (M.counts before) (M.counts after) result
  pub no_pages : NoPages reached.rises
  pub quiet : NoTraffic (M.counts before) (M.counts after)
  pub page : M.page_bytes after ≡ M.page_bytes before

-- the segment has these pages
abbrev pub HasPages : ℕ → ℕ → ℕ → Held → Type 0
HasPages seg first pages h =
    (page : ℕ) → first ≤ page → page < first + pages → IsSome (page_of h seg page)

-- the pages that the segment holds, from this one on
abbrev pub ArePagesOf : ℕ → ℕ → List (List ℕ) → Held → Type 0
ArePagesOf seg first pages h =
    (i : ℕ) → i < length pages → slice_get pages i ≡ page_of h seg (first + i)

-- The same as of the counts; and what was pushed meanwhile.
pub record Pushed {T E : Type 0} (m : Machine) (before after : Option Held)
    (counts now : MapperCounts) (result : Result T E) : Type 0 where
  pub pushes : List (ℕ × ℕ)
  pub rises : MapperCounts
  pub rose : Rise counts now rises
  pub failed : OnErr result (0 < rises.faults)
  pub few : length pushes ≤ rises.pushes
  pub rule : PushRule m (segments_of before) pushes (segments_of after)

-- the page behind the last of a range that was gone through, or else the one at which it failed
abbrev pub past : ℕ → Result (Unit {0}) PageNo → ℕ
past end (Ok x) = end
past end (Err page) = page.0
