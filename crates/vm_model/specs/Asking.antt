-- What a caller of the commands keeps to, and what a command may do beside answering.
use Rattle.std.specs.Prelude.{◌≡◌, ◌≤◌, ℕ, ◌+◌, ◌-◌, min}
use Rattle.std.specs.Option.{option_map_or}
use Rattle.vm_ids.specs.Counting.{MapperCounts, no_counts}
use Rattle.vm_ids.specs.declared.command.Command.{Command}
use Rattle.vm_ids.specs.declared.command.Command.TheVariants as commands
use Rattle.vm_ids.specs.declared.command.Span.{Span}
use Rattle.vm_model.specs.Machine.{Machine, Region, cache_of, live_pages, pages_in}
use Rattle.vm_model.specs.Regions.{region_with}

-- counts of pages are at least 1, and a load is of 1 to 64 bytes
abbrev pub IsWellFormed : Command → Type 0
IsWellFormed (commands.MakeTemp pages) = 1 ≤ pages
IsWellFormed (commands.Copy span) = 1 ≤ span.pages
IsWellFormed (commands.Move span) = 1 ≤ span.pages
IsWellFormed (commands.Map actor mapping) = 1 ≤ mapping.extent.pages
IsWellFormed (commands.Split region pages) = 1 ≤ pages
IsWellFormed (commands.Load actor address length) = (1 ≤ length) × (length ≤ 64)
IsWellFormed (commands.Sync extent) = 1 ≤ extent.pages
IsWellFormed (commands.Flush extent) = 1 ≤ extent.pages
IsWellFormed (commands.Invalidate extent) = 1 ≤ extent.pages
IsWellFormed (commands.PageOut count) = 1 ≤ count
IsWellFormed command = Unit {0}

-- these commands don't reach the mapper, so none of its counts rises in their answers
abbrev pub ReachesMapper : Command → MapperCounts → Type 0
ReachesMapper commands.MakeActor rises = rises ≡ no_counts
ReachesMapper (commands.ExitActor actor) rises = rises ≡ no_counts
ReachesMapper (commands.MakeTemp pages) rises = rises ≡ no_counts
ReachesMapper (commands.Map actor mapping) rises = rises ≡ no_counts
ReachesMapper (commands.Split region pages) rises = rises ≡ no_counts
ReachesMapper (commands.Protect region prot) rises = rises ≡ no_counts
ReachesMapper (commands.Unlock region) rises = rises ≡ no_counts
ReachesMapper (commands.Unmap region) rises = rises ≡ no_counts
ReachesMapper (commands.Status region) rises = rises ≡ no_counts
ReachesMapper (commands.Find actor address) rises = rises ≡ no_counts
ReachesMapper (commands.Chain cache page) rises = rises ≡ no_counts
ReachesMapper commands.Stat rises = rises ≡ no_counts
ReachesMapper command rises = Unit {0}

-- the pages of the region with this number, where a living actor has it: no more than its cache has
abbrev pub pages_of_region : Machine → ℕ → ℕ
pages_of_region m number =
    option_map_or (λ (r : Region). min r.pages (pages_in (cache_of m r.cache)))
    (region_with number m.actors) 0

-- the pages of two caches that a copy or move names, and those that it copies or moves
abbrev pub pages_of_span : Machine → Span → ℕ
pages_of_span m s = s.pages + pages_in (cache_of m s.from.0) + pages_in (cache_of m s.to.0)

-- The pages that a command names, and those of the caches and regions that it names, where it can
-- number a node.
abbrev pub pages_touched : Machine → Command → ℕ
pages_touched m (commands.Destroy cache) = pages_in (cache_of m cache.0)
pages_touched m (commands.Copy span) = pages_of_span m span
pages_touched m (commands.Move span) = pages_of_span m span
pages_touched m (commands.Map actor mapping) =
    mapping.extent.pages + pages_in (cache_of m mapping.extent.cache.0)
pages_touched m (commands.Lock region) = pages_of_region m region.0
pages_touched m (commands.Load actor address length) = 1
pages_touched m (commands.Store actor address piece) = 1
pages_touched m (commands.Invalidate extent) =
    extent.pages + pages_in (cache_of m extent.cache.0)
pages_touched m command = 0

-- How many live pages there are more than before a command: those of the cache that it made.
abbrev pub pages_made : Machine → Machine → ℕ
pages_made m next = live_pages next - live_pages m
