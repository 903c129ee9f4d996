-- What a call of the processes may answer: what their machine answers, a mapper fault with its
-- cause, want of memory, or that the manager has too many.
use Rattle.std.specs.Prelude.{◌≡◌, ◌⊎◌, ◌<◌, ◌≤◌, ℕ, ◌+◌, ◌-◌, ◌||◌, Bool, false, nat_lt, List, [], ◌∷◌, length, Option, Some, None, is_some, count_by, sum_by, Ok, Err, IsOkAnd, if◌then◌else◌}
use Rattle.std.specs.Bool.{IsTrue}
use Rattle.std.specs.FinMap.{get}
use Rattle.std.specs.Option.{option_map_or}
use Rattle.vm_ids.specs.Counting.{MapperCounts}
use Rattle.vm_ids.specs.Held.{Segments}
use Rattle.vm_ids.specs.declared.command.MixCommand.{MixCommand}
use Rattle.vm_ids.specs.declared.command.MixCommand.TheVariants as commands
use Rattle.vm_ids.specs.declared.refusal.Refusal.TheVariants.{TooMany}
use Rattle.vm_ids.specs.declared.reply.FaultAt.{FaultAt}
use Rattle.vm_ids.specs.declared.reply.FaultAt.TheVariants as faults
use Rattle.vm_ids.specs.declared.reply.Trouble.TheVariants as troubles
use Rattle.vm_model.specs.Answering.{Answer}
use Rattle.vm_model.specs.Machine.{Machine, Page, live_pages, living_actors}
use Rattle.vm_model.specs.Outcome.{IsNotRefused}
use Rattle.vm_model.specs.declared.limits.TheConstants.{LIVE_PAGES, LIVING_ACTORS, MOST_MADE}
use Rattle.mix_process.specs.Answering.{answer_of, is_too_large, with_image}
use Rattle.mix_process.specs.ProcessMachine.{Place, Process, ProcessMachine, image_of, place, process_of}
use Rattle.mix_process.specs.declared.area.Area.{Area}
use Rattle.mix_process.specs.declared.area.Area.TheVariants.{Data, Stack, Text}

-- What a manager has: the actors alive, the actors, caches and regions made so far, and the pages
-- of all live caches.
pub record Usage : Type 0 where
  pub living : ℕ
  pub actors : ℕ
  pub caches : ℕ
  pub regions : ℕ
  pub pages : ℕ

abbrev pub usage_of : Machine → Usage
usage_of m = record {
  living = living_actors m;
  actors = length m.actors;
  caches = length m.caches;
  regions = m.regions_made;
  pages = live_pages m;
}

-- how many pages a process has for itself alone: its text is its image's
abbrev pub own_pages : Option Process → ℕ
own_pages None = 0
own_pages (Some p) = length p.data_pages + length p.stack_pages

-- A manager has these processes and their images, and nothing else: an actor for each living
-- process, and the pages of images, data and stacks.
pub record HasThese (m : ProcessMachine) (u : Usage) : Type 0 where
  pub living : u.living ≡ count_by is_some m.processes
  pub pages : u.pages
      ≡ sum_by (λ (image : ℕ × List Page). length image.1) m.images + sum_by own_pages m.processes

abbrev pub no_usage : Usage
no_usage = record { living = 0; actors = 0; caches = 0; regions = 0; pages = 0 }

-- one actor, so many caches, as many regions, and so many pages
abbrev pub usage_for : ℕ → ℕ → Usage
usage_for caches pages =
    record { living = 1; actors = 1; caches = caches; regions = caches; pages = pages }

-- a fork makes as much as the process has
abbrev pub usage_to_fork : Process → Usage
usage_to_fork p =
    usage_for (2 + length p.pieces)
    (length p.text_pages + length p.data_pages + length p.stack_pages)

-- a growth makes one cache of so many pages, and its region
abbrev pub usage_to_grow : ℕ → Usage
usage_to_grow pages = record { living = 0; actors = 0; caches = 1; regions = 1; pages = pages }

-- What a call makes at most. An exec makes three caches: one for the segment, if none was made for
-- it yet, one for the data and one for the stack.
abbrev pub makes : ProcessMachine → MixCommand → Segments → Usage
makes m (commands.Exec seg text data_pages stack) h =
    usage_for 3
    (option_map_or length (image_of (with_image m seg.0 (get h.pages seg.0)) seg.0) 0
    + data_pages + stack)
makes m (commands.Fork process) h = option_map_or usage_to_fork (process_of m process.0) no_usage
makes m (commands.Grow process pages) h = usage_to_grow pages
makes m command h = no_usage

abbrev pub one_cache : Usage
one_cache = record { living = 0; actors = 0; caches = 1; regions = 0; pages = 0 }

-- The same of a call that is answered so: an exec that is refused has made the cache of its segment
-- at most, but for one of which there would be too many, as it may learn on the way.
abbrev pub makes_by : ProcessMachine → MixCommand → Segments → Answer → Usage
makes_by m (commands.Exec seg text data_pages stack) h (Err (troubles.Refused TooMany)) =
    makes m (commands.Exec seg text data_pages stack) h
makes_by m (commands.Exec seg text data_pages stack) h (Err (troubles.Refused r)) = one_cache
makes_by m command h answer = makes m command h

-- with so much more, a limit would be passed
abbrev pub would_pass : Usage → Usage → Bool
would_pass u more =
    nat_lt LIVING_ACTORS (u.living + more.living) || nat_lt MOST_MADE (u.actors + more.actors)
    || nat_lt MOST_MADE (u.caches + more.caches) || nat_lt MOST_MADE (u.regions + more.regions)
    || nat_lt LIVE_PAGES (u.pages + more.pages)

-- no more was made than this
pub record RaisedBy (more before now : Usage) : Type 0 where
  pub actors : now.actors ≤ before.actors + more.actors
  pub caches : now.caches ≤ before.caches + more.caches
  pub regions : now.regions ≤ before.regions + more.regions

-- where a page stands in its piece; pieces of these sizes lie one behind the other
abbrev pub page_in_piece : List ℕ → ℕ → ℕ
page_in_piece [] page = page
page_in_piece (size ∷ sizes) page =
    if nat_lt page size then page else page_in_piece sizes (page - size)

-- the page of its cache that a place is in: each piece of the data has a cache of its own
abbrev pub page_below : Area → Place → ℕ
page_below Text at = at.page
page_below Data at = page_in_piece at.process.pieces at.page
page_below Stack at = at.page

-- the page that is accessed couldn't be pulled
abbrev pub MayMiss : ProcessMachine → ℕ → ℕ → ℕ → ℕ → MapperCounts → Type 0
MayMiss m process address length p rises =
    IsOkAnd (place m process address length) (λ (at : Place). p ≡ page_below at.area at)
    × (0 < rises.pulls)

-- Which faults a call may answer, at which page, and which of the mapper's counts rose with it
-- beside its faults. A segment is opened once, and only where its cache may still be made.
abbrev pub MayFault : ProcessMachine → Usage → MixCommand → FaultAt → MapperCounts → Type 0
MayFault m u (commands.Exec seg text data_pages stack) faults.Opening rises =
    (image_of m seg.0 ≡ None) × (u.caches < MOST_MADE)
MayFault m u (commands.Load process address bytes) (faults.Page p) rises =
    MayMiss m process.0 address bytes p.0 rises
MayFault m u (commands.Load process address bytes) faults.Victim rises = 0 < rises.pushes
MayFault m u (commands.Store process address piece) (faults.Page p) rises =
    MayMiss m process.0 address (length piece) p.0 rises
MayFault m u (commands.Store process address piece) faults.Victim rises = 0 < rises.pushes
MayFault m u (commands.PageOut count) faults.Victim rises = 0 < rises.pushes
MayFault m u command at rises = ⊥

-- the calls that take memory, and of which the manager may have too many
abbrev pub MayLack : MixCommand → Type 0
MayLack (commands.Exec seg text data_pages stack) = Unit {0}
MayLack (commands.Fork process) = Unit {0}
MayLack (commands.Grow process pages) = Unit {0}
MayLack command = ⊥

-- Nothing refuses the call, as far as is known before it takes anything: whether there is such a
-- segment, and whether it has enough pages, an exec learns on the way.
abbrev pub GoesOn : ProcessMachine → MixCommand → Segments → Type 0
GoesOn m (commands.Exec seg text data_pages stack) h = is_too_large text data_pages stack ≡ false
GoesOn m command h = IsNotRefused (answer_of m command h).answer

-- All stays; but an exec may have made the image of its segment.
abbrev pub Stays : ProcessMachine → MixCommand → Segments → ProcessMachine → Type 0
Stays m (commands.Exec seg text data_pages stack) h next =
    (next ≡ m) ⊎ (next ≡ with_image m seg.0 (get h.pages seg.0))
Stays m command h next = next ≡ m

-- The answer and the next machine are those of the machine; or it is a fault that has a cause; or
-- want of memory; or too many, where the manager's use with what the call makes would pass a limit.
abbrev pub Outcome : ProcessMachine → Usage → MixCommand → Segments → Answer → ProcessMachine
    → MapperCounts → Type 0
Outcome m u command h (Err (troubles.Mapper at)) next rises =
    (next ≡ m) × (0 < rises.faults) × MayFault m u command at rises × GoesOn m command h
Outcome m u command h (Err troubles.Memory) next rises =
    Stays m command h next × MayLack command × GoesOn m command h
Outcome m u command h (Err (troubles.Refused TooMany)) next rises =
    Stays m command h next × MayLack command × GoesOn m command h
    × IsTrue (would_pass u (makes m command h))
Outcome m u command h (Err (troubles.Refused r)) next rises =
    answer_of m command h ≡ record { answer = Err (troubles.Refused r); next = next }
Outcome m u command h (Ok r) next rises =
    answer_of m command h ≡ record { answer = Ok r; next = next }
