-- What is kept of a manager while its pages are readied to be replaced, and what is said of them
-- then.
use Rattle.std.specs.Prelude.{◌≡◌, ◌≢◌, ◌⊎◌, ℕ, ◌+◌, ◌≤◌, Bool, true, false, Option, IsSome, is_some, option_and_then, Result, Ok, Err, unwrap_or}
use Rattle.vm_ids.specs.Counting.{MapperCounts}
use Rattle.vm_ids.specs.Held.{Held, segments_of}
use Rattle.vm_ids.specs.declared.command.Extent.{Extent}
use Rattle.vm_ids.specs.declared.numbers.CacheId.{CacheId}
use Rattle.vm_ids.specs.declared.refusal.Refusal.{Refusal}
use Rattle.vm_ids.specs.declared.refusal.Refusal.TheVariants.{WriteDenied}
use Rattle.vm_ids.specs.declared.reply.FaultAt.TheVariants.{Access, Page, Save}
use Rattle.vm_ids.specs.declared.reply.Trouble.{Trouble}
use Rattle.vm_ids.specs.declared.reply.Trouble.TheVariants.{Mapper, Memory, Refused}
use Rattle.vm_ids.specs.Forest.Commands.{extent_names}
use Rattle.vm_ids.specs.Forest.Saving.{saved, saves, unsaved}
use Rattle.local_cache.specs.Arena.{Arena, table_of}
use Rattle.local_cache.specs.Whole.{SameCaches, size_of}
use Rattle.page_commands.specs.Homes.{AreAllSaved}
use Rattle.segment_ops.specs.Access.{GrantsBefore, IsGranted}
use Rattle.segment_ops.specs.Saving.{AreSavedNow}
use Rattle.segment_ops.specs.Ranges.{IsPageOf}
use Rattle.vm_model.specs.PageForest.{PageForest}
use Rattle.vm_model.specs.Synchronised.{ArePushed}
use Rattle.pvm_core.specs.Manager.{Manager, forest_of, machine_by, machine_of}
use Rattle.pvm_core.specs.Reaching.{Reach}
use Rattle.pvm_core.specs.Writes.{AreWritable, IsNotGranted, asked_end}

-- The machine stays, whose pages may have been pushed meanwhile, and no node was made.
pub record KeepsMachine (p q : Manager) (h g : Option Held) (c d : MapperCounts) : Type 0 where
  pub machine : machine_of q g ≡ machine_of p h
  pub by : (f : PageForest) → machine_by q f ≡ machine_by p f
  pub same : SameCaches p.caches q.caches
  pub made : q.caches.made ≡ p.caches.made
  pub reach : Reach (machine_of p h) h g c d

-- a segment names the cache
abbrev pub is_named : Arena → ℕ → Bool
is_named a cache = is_some (option_and_then (λ t. t.segment) (table_of a cache))

-- So many saves of the pages of a range were done when one failed, and each was a copy.
pub record FailedToSave (range : Extent) (done : ℕ) (p q : Manager) (h g : Option Held)
    : Type 0 where
  pub named : is_named p.caches range.cache.0 ≡ true
  pub forest : forest_of q g ≡ saves done (extent_names range) (forest_of p h)
  pub left : (n : ℕ) → n ≤ done
      → IsSome (unsaved (saves n (extent_names range) (forest_of p h)) (extent_names range))
  pub copies : q.caches.copies ≡ p.caches.copies + done

-- why not all pages of a range were saved
abbrev pub IsNotSaved : Extent → Manager → Option Held → Manager → Option Held → Trouble → Type 0
IsNotSaved range p h q g (Mapper (Save done)) = FailedToSave range done p q h g
IsNotSaved range p h q g trouble = ⊥

-- the forest stays, and so does the number of copies
pub record KeepsForest (p q : Manager) (h g : Option Held) : Type 0 where
  pub forest : forest_of q g ≡ forest_of p h
  pub copies : q.caches.copies ≡ p.caches.copies

-- the segment that names the cache of a range holds all pages of the range
abbrev pub IsPushed : Extent → Manager → Option Held → Option Held → Type 0
IsPushed range p h g = ArePushed (machine_of p h) (segments_of g) range.cache.0 range.first.0
    (range.first.0 + range.pages)

-- The mapper failed at this page of a range, and before it the segment holds the pages of the
-- range.
pub record FailedToPush (range : Extent) (page : ℕ) (p q : Manager) (h g : Option Held)
    : Type 0 where
  pub named : is_named p.caches range.cache.0 ≡ true
  pub kept : KeepsForest p q h g
  pub stop : IsPageOf range page
  pub pushed : ArePushed (machine_of p h) (segments_of g) range.cache.0 range.first.0 page

-- The pages of a range may go: where a segment names the cache it holds them, and their heirs have
-- their saves.
pub record IsWrittenBack (range : Extent) (p q : Manager) (h g : Option Held) : Type 0 where
  pub forest : forest_of q g
      ≡ saved (is_named p.caches range.cache.0) (extent_names range) (forest_of p h)
  pub pushed : IsPushed range p h g
  pub saved_now : AreAllSaved q.caches range.cache (extent_names range)

-- Why they may not: the mapper failed at a page, or a save failed, when all pages were pushed.
abbrev pub IsNotWrittenBack : Extent → Manager → Option Held → Manager → Option Held → Trouble
    → Type 0
IsNotWrittenBack range p h q g (Mapper (Page page)) = FailedToPush range page.0 p q h g
IsNotWrittenBack range p h q g (Mapper (Save done)) =
    FailedToSave range done p q h g × IsPushed range p h g
IsNotWrittenBack range p h q g trouble = ⊥

-- The pages of a range may be replaced: they may be written, the heirs of those of a named cache
-- have their saves, and so many nodes fit.
pub record IsMadeReady (range : Extent) (nodes : ℕ) (p q : Manager) (h g : Option Held)
    : Type 0 where
  pub forest : forest_of q g
      ≡ saved (is_named p.caches range.cache.0) (extent_names range) (forest_of p h)
  pub writable : AreWritable range q.caches
  pub saved_now : AreAllSaved q.caches range.cache (extent_names range)
  pub room : nodes ≤ q.caches.room.nodes

-- of the manager the caches alone may have changed
abbrev pub KeepsStore : Manager → Manager → Type 0
KeepsStore p q = q ≡ record p { caches = q.caches }

-- all writes of a range were granted, room was taken, and else nothing changed
pub record HasGranted (range : Extent) (p q : Manager) : Type 0 where
  pub store : KeepsStore p q
  pub grants : GrantsBefore range (asked_end p.caches range) p.caches
      (record q.caches { room = p.caches.room })

-- Why they may not, and what is kept: one is denied, or the mapper failed when it was asked for
-- one, and the pages before it are granted; or memory is wanting, or a save failed, and all are.
abbrev pub IsNotReady : Extent → Manager → Option Held → Manager → Option Held → Trouble → Type 0
IsNotReady range p h q g (Refused WriteDenied) =
    KeepsForest p q h g × IsNotGranted range h p.caches q.caches (Refused WriteDenied)
    × KeepsStore p q
IsNotReady range p h q g (Mapper (Access page)) =
    KeepsForest p q h g × IsNotGranted range h p.caches q.caches (Mapper (Access page))
    × KeepsStore p q
IsNotReady range p h q g Memory =
    KeepsForest p q h g × AreWritable range q.caches × HasGranted range p q
IsNotReady range p h q g (Mapper (Save done)) =
    FailedToSave range done p q h g × AreWritable range q.caches
IsNotReady range p h q g trouble = ⊥

-- what comes before any save: every trouble but a failed save
abbrev pub IsBeforeSaves : Trouble → Type 0
IsBeforeSaves trouble = (done : ℕ) → trouble ≢ Mapper (Save done)

-- No page of a range needs a save: no segment names their cache, or none has an own page that an
-- heir reads.
abbrev pub NeedsNoSave : Arena → Extent → Type 0
NeedsNoSave a range = (is_named a range.cache.0 ≡ false) ⊎ AreSavedNow a (extent_names range)

-- The pages of a range may be replaced with neither push nor save: no segment names their cache, or
-- each was granted, and none has an own page that an heir reads.
abbrev pub NeedsNothing : Arena → Extent → Type 0
NeedsNothing a range = (is_named a range.cache.0 ≡ false)
    ⊎ (IsGranted a range × AreSavedNow a (extent_names range))

-- all pages of a cache, or none where it isn't live
abbrev pub all_of : Arena → CacheId → Extent
all_of a cache = record {
  cache = cache;
  first = record { 0 = 0 };
  pages = unwrap_or (size_of a cache.0) 0;
}

-- The pages that a call copied are those of the saves of a range: all of them, or those that were
-- done before one failed.
abbrev pub CopiesSaved : Extent → Manager → Option Held → Manager → Result (Unit {0}) Trouble
    → Type 0
CopiesSaved range p h q (Ok x) = q.caches.copies
    ≡ (saved (is_named p.caches range.cache.0) (extent_names range) (forest_of p h)).copies
CopiesSaved range p h q (Err (Mapper (Save done))) = q.caches.copies ≡ p.caches.copies + done
CopiesSaved range p h q (Err trouble) = q.caches.copies ≡ p.caches.copies

-- A refusal leaves the manager and the mapper: before `WriteDenied` alone the mapper is asked, and
-- what it allowed stays granted.
abbrev pub RefusedOf : {M : Type 0} → Manager → Manager → M → M → Result (Unit {0}) Trouble → Type 0
RefusedOf p q before after result = (r : Refusal) → result ≡ Err (Refused r) → r ≢ WriteDenied
    → (q ≡ p) × (after ≡ before)

-- Any other error of a call that replaces the pages of a range tells why they weren't ready.
abbrev pub IfNotReady : Extent → Manager → Option Held → Manager → Option Held
    → Result (Unit {0}) Trouble → Type 0
IfNotReady range p h q g result = (trouble : Trouble) → result ≡ Err trouble
    → ((r : Refusal) → trouble ≡ Refused r → r ≡ WriteDenied) → IsNotReady range p h q g trouble
