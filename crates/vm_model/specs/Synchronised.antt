-- What the segment of a cache holds after an answer that pushed the cache's pages to it.
use Rattle.std.specs.Prelude.{◌≡◌, ◌≤◌, ◌<◌, ◌+◌, ℕ, Option, Some, None, Ok, Err}
use Rattle.vm_ids.specs.Held.{Segments, segment_page}
use Rattle.vm_ids.specs.declared.command.Command.{Command}
use Rattle.vm_ids.specs.declared.command.Command.TheVariants as commands
use Rattle.vm_ids.specs.declared.command.Extent.{Extent}
use Rattle.vm_ids.specs.declared.reply.FaultAt.TheVariants as faults
use Rattle.vm_ids.specs.declared.reply.Trouble.TheVariants as troubles
use Rattle.vm_model.specs.Machine.{Machine, cache_of, pages_in, segment_of}
use Rattle.vm_model.specs.PageForest.{page_in}
use Rattle.vm_model.specs.Answering.{Answer}

-- The segment that names the cache holds its pages as the machine does, from page `first` up to the
-- one before `past`. Where no segment names it, or none are told, nothing is said.
abbrev pub ArePushed : Machine → Option Segments → ℕ → ℕ → ℕ → Type 0
ArePushed m None cache first past = Unit {0}
ArePushed m (Some h) cache first past =
    (seg page : ℕ) → segment_of m cache ≡ Some seg → first ≤ page → page < past
    → segment_page h seg page ≡ page_in m cache page

-- After a sync or a flush of an extent: all its pages, or those before the one at which the mapper
-- failed.
abbrev pub IsExtentPushed : Machine → Option Segments → Extent → Answer → Type 0
IsExtentPushed m h e (Ok r) = ArePushed m h e.cache.0 e.first.0 (e.first.0 + e.pages)
IsExtentPushed m h e (Err (troubles.Mapper (faults.Page p))) =
    ArePushed m h e.cache.0 e.first.0 p.0
IsExtentPushed m h e (Err trouble) = Unit {0}

-- After a cache was to be destroyed: all its pages, or those before the one at which the mapper
-- failed. A save comes after all pushes.
abbrev pub IsCachePushed : Machine → Option Segments → ℕ → Answer → Type 0
IsCachePushed m h cache (Ok r) = ArePushed m h cache 0 (pages_in (cache_of m cache))
IsCachePushed m h cache (Err (troubles.Mapper (faults.Save done))) =
    ArePushed m h cache 0 (pages_in (cache_of m cache))
IsCachePushed m h cache (Err (troubles.Mapper (faults.Page p))) = ArePushed m h cache 0 p.0
IsCachePushed m h cache (Err trouble) = Unit {0}

-- What the segments hold after this answer to a command, by the machine before it.
abbrev pub IsSynchronised : Machine → Option Segments → Command → Answer → Type 0
IsSynchronised m h (commands.Sync extent) answer = IsExtentPushed m h extent answer
IsSynchronised m h (commands.Flush extent) answer = IsExtentPushed m h extent answer
IsSynchronised m h (commands.Destroy cache) answer = IsCachePushed m h cache.0 answer
IsSynchronised m h command answer = Unit {0}
