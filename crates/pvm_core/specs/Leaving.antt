-- What calls leave of a manager, and of the mapper that they took.
use Rattle.std.specs.Prelude.{◌≡◌, ℕ, ◌+◌, ◌*◌, ◌≤◌, min, length, IsSome, Result, Ok, Err, IfErr, OnErr, OnOk}
use Rattle.vm_ids.specs.declared.access.Access.{Access}
use Rattle.vm_ids.specs.declared.access.Access.TheVariants.{Load, Store}
use Rattle.vm_ids.specs.declared.command.Extent.{Extent}
use Rattle.vm_ids.specs.declared.node_name.NodeName.{NodeName}
use Rattle.vm_ids.specs.declared.numbers.ActorId.{ActorId}
use Rattle.vm_ids.specs.declared.refusal.Refusal.{Refusal}
use Rattle.vm_ids.specs.declared.reply.Reply.TheVariants.{Bytes}
use Rattle.vm_ids.specs.declared.reply.Trouble.{Trouble}
use Rattle.vm_ids.specs.declared.reply.Trouble.TheVariants.{Refused}
use Rattle.vm_ids.specs.Forest.Laws.Settling.{IsSettled}
use Rattle.vm_port.specs.declared.traits.mapper.Mapper.{Ghosts}
use Rattle.frame_pool.specs.Pool.{held_count}
use Rattle.fault_path.specs.Costs.{TrafficAtMost}
use Rattle.residency.specs.Frames.{evictable_count}
use Rattle.segment_ops.specs.Access.{GrantsStay}
use Rattle.segment_ops.specs.Synced.{AreSynced, unclean_count}
use Rattle.vm_model.specs.Answering.{Answer}
use Rattle.pvm_core.specs.Access.{IsLoaded}
use Rattle.pvm_core.specs.Keeping.{CopiesNothing, FillsOnly, HasMoreRoom, SameButSeen, SameMeaning}
use Rattle.pvm_core.specs.Manager.{Manager, nodes_of, world_of}
use Rattle.pvm_core.specs.Saving.{CopiesSaved, IfNotReady, IsBeforeSaves, NeedsNoSave, NeedsNothing, RefusedOf}
use Rattle.pvm_core.specs.Translated.{found_for, frame_to_write}
use Rattle.pvm_core.specs.Writes.{AreWritable, GrantsWithin, OnlyAsked}

-- a store of so many bytes at an address of an actor has a translation for writing
abbrev pub IsTranslatedToWrite : Manager → ℕ → ℕ → ℕ → Type 0
IsTranslatedToWrite p actor address length =
    IsSome (frame_to_write (found_for p.page_bytes p.store.tables actor address length))

-- What an answered store leaves, from the manager `old` to `new`:
--     copies       two pages were copied at most
--     grants       what was granted stays so
--     translated   where it was carried out, the next store to the page has a translation
pub record IsStored (old new : Manager) (actor address length : ℕ) (answer : Answer)
    : Type 0 where
  pub copies : new.caches.copies ≤ old.caches.copies + 2
  pub grants : GrantsStay old.caches new.caches
  pub translated : OnOk answer (IsTranslatedToWrite new actor address length)

-- What an answered access of an actor leaves: a load that is carried out gives the bytes that it
-- loaded, and a store is stored.
abbrev pub AccessLeaves : {Mapper : Type 0} → Ghosts Mapper → Mapper → Manager → ActorId → Access
    → Answer → Mapper → Manager → Type 0
AccessLeaves M before old actor (Load address length) (Ok (Bytes piece)) after new =
    IsLoaded (M.counts before) (M.counts after) (M.given after) old new
    actor.0 address length piece
AccessLeaves M before old actor (Load address length) (Ok reply) after new = ⊥
AccessLeaves M before old actor (Load address length) (Err trouble) after new = Unit {0}
AccessLeaves M before old actor (Store address piece) answer after new =
    IsStored old new actor.0 address (length piece) answer

-- What the issue of an access leaves, answered or not: that of a load doesn't call the mapper, and
-- changes translations and marks alone; that of a store takes no grant away.
abbrev pub IssueLeaves : {Mapper : Type 0} → Access → Mapper → Manager → Mapper → Manager → Type 0
IssueLeaves (Load address length) before old after new =
    SameButSeen old new × (after ≡ before)
IssueLeaves (Store address piece) before old after new = GrantsStay old.caches new.caches

-- so many frames fell free, or all in which no locked page is, where these are fewer
abbrev pub FrameCountFalls : ℕ → Manager → Manager → Type 0
FrameCountFalls count old new =
    held_count new.store.frames + min count (evictable_count old.store.frames)
    ≡ held_count old.store.frames

-- What a push of these pages to their segment leaves:
--     stays     the manager stands for what it did
--     refused   a refusal leaves manager and mapper
--     synced    where it was carried out the segment holds the pages, so a further push is none
--     most      a page that it held took no pull and no push, any other a pull and two pushes at most
pub record PushesPages {Mapper : Type 0} (M : Ghosts Mapper) (range : Extent) (before : Mapper)
    (old : Manager) (result : Result (Unit {0}) Trouble) (after : Mapper) (new : Manager)
    : Type 0 where
  pub stays : SameMeaning old new (M.held before) (M.held after)
  pub refused : (r : Refusal) → result ≡ Err (Refused r) → (new ≡ old) × (after ≡ before)
  pub synced : OnOk result
      (AreSynced range (range.first.0 + range.pages) (world_of new (M.held after)))
  pub most : TrafficAtMost (unclean_count old.caches range.cache.0 range.first.0 range.pages)
      (2 * unclean_count old.caches range.cache.0 range.first.0 range.pages)
      (M.counts before) (M.counts after)

-- What a copy or a move leaves, which replaces the pages of a range; of the pages that it replaced
-- or took away `gone` holds:
--     copies     a page was copied for a save alone
--     still      where no save was needed no page was pulled, pushed or brought to another frame
--     idle       where the writes were granted too the mapper wasn't called
--     fills      no page came to a frame but those that were saved and those that got them
--     settled    where it was carried out each working node has two children at least
--     refused    a refusal leaves manager and mapper, but for what is asked before `WriteDenied`
--     unready    any other error tells why the range wasn't ready
--     first      before a save the mapper was asked for write access alone
--     grants     what was granted stays so, and no page became so but those of the range
--     writable   where it was carried out each page of the range may be written
pub record ReplacesPages {Mapper Chooser : Type 0} (M : Ghosts Mapper) (range : Extent)
    (gone : NodeName → Type 0) (before : Mapper) (chooser : Chooser) (old : Manager)
    (result : Result (Unit {0}) Trouble) (after : Mapper) (chooser_then : Chooser)
    (new : Manager) : Type 0 where
  pub copies : CopiesSaved range old (M.held before) new result
  pub still : NeedsNoSave old.caches range
      → OnlyAsked M before after × (chooser_then ≡ chooser) × CopiesNothing old new
  pub idle : NeedsNothing old.caches range
      → (after ≡ before) × OnErr result (HasMoreRoom old new)
  pub fills : FillsOnly range gone old new
  pub settled : OnOk result (IsSettled (nodes_of new))
  pub refused : RefusedOf old new before after result
  pub unready : IfNotReady range old (M.held before) new (M.held after) result
  pub first : IfErr result (λ trouble. IsBeforeSaves trouble
      → OnlyAsked M before after × (chooser_then ≡ chooser))
  pub grants : GrantsWithin range old.caches new.caches
  pub writable : OnOk result (AreWritable range new.caches)
