-- How pages of caches that segments name come to be written.
use Rattle.std.specs.Prelude.{◌≡◌, ℕ, ◌+◌, Option, if◌then◌else◌}
use Rattle.vm_port.specs.declared.traits.mapper.Mapper.{Ghosts}
use Rattle.vm_ids.specs.Held.{Held}
use Rattle.vm_ids.specs.declared.command.Extent.{Extent}
use Rattle.vm_ids.specs.declared.numbers.SegId.{SegId}
use Rattle.vm_ids.specs.declared.refusal.Refusal.TheVariants.{WriteDenied}
use Rattle.vm_ids.specs.declared.reply.FaultAt.TheVariants.{Access}
use Rattle.vm_ids.specs.declared.reply.Trouble.{Trouble}
use Rattle.vm_ids.specs.declared.reply.Trouble.TheVariants.{Mapper, Refused}
use Rattle.vm_ids.specs.Forest.Commands.{page_name}
use Rattle.local_cache.specs.Arena.{Arena, is_granted, locks_of}
use Rattle.local_cache.specs.Reading.{forest_of}
use Rattle.local_cache.specs.Whole.{IsWhole, SameCaches}
use Rattle.page_commands.specs.Homes.{IsWritable, is_named}
use Rattle.residency.specs.Causes.{Traffic}
use Rattle.segment_ops.specs.Access.{GrantsStay, IsAskedFor, OneDenied}
use Rattle.segment_ops.specs.Ranges.{IsNamedBy, IsPageOf}

-- the same pages are granted
abbrev pub SameGrants : Arena → Arena → Type 0
SameGrants old new = (cache page : ℕ) → is_granted new cache page ≡ is_granted old cache page

-- granted pages stay so, and no other becomes so but those of the range
pub record GrantsWithin (range : Extent) (old new : Arena) : Type 0 where
  pub kept : GrantsStay old new
  pub others : (cache page : ℕ) → (cache ≡ range.cache.0 → IsPageOf range page → ⊥)
      → is_granted new cache page ≡ is_granted old cache page

-- where the pages of a range end for which the mapper is asked: of a temporary cache for none
abbrev pub asked_end : Arena → Extent → ℕ
asked_end a range = range.first.0 + (if is_named a range.cache then range.pages else 0)

-- The mapper was called for write access alone, where it was called at all: no page was pulled or
-- pushed, and it holds and gives what it did.
pub record OnlyAsked {M : Type 0} (mapper : Ghosts M) (before after : M) : Type 0 where
  pub traffic : Traffic 0 0 (mapper.counts before) (mapper.counts after)
  pub held : mapper.held after ≡ mapper.held before
  pub given : mapper.given after ≡ mapper.given before

-- grants alone changed, and none went: the nodes stay, and so do the sizes and segments of the
-- caches, the locks, the counters and the room
pub record KeepsNodes (old new : Arena) : Type 0 where
  pub same : SameCaches old new
  pub cells : new.cells ≡ old.cells
  pub grants : GrantsStay old new
  pub locks : (cache page : ℕ) → locks_of new cache page ≡ locks_of old cache page
  pub nodes : forest_of new ≡ forest_of old
  pub whole : IsWhole new
  pub made : new.made ≡ old.made
  pub copies : new.copies ≡ old.copies
  pub room : new.room ≡ old.room

-- each page of the range may be written
abbrev pub AreWritable : Extent → Arena → Type 0
AreWritable range a =
    (page : ℕ) → IsPageOf range page → IsWritable a (page_name range.cache page)

-- why not all of them may: the mapper denies one, or it failed when it was asked for one
abbrev pub IsDenied : Extent → Option Held → SegId → Arena → Arena → Trouble → Type 0
IsDenied range told segment old new (Refused WriteDenied) =
    OneDenied range told segment old new
IsDenied range told segment old new (Mapper (Access page)) =
    IsAskedFor range page.0 told segment old new
IsDenied range told segment old new trouble = ⊥

-- the cache of the range is named by a segment, and not all its pages may be written
pub record IsNotGranted (range : Extent) (told : Option Held) (old new : Arena) (trouble : Trouble)
    : Type 0 where
  pub segment : SegId
  pub named : IsNamedBy old range segment
  pub denied : IsDenied range told segment old new trouble
