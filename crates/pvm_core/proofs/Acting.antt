-- Calls without a mapper that change actors alone, or nothing.
use Rattle.std.proofs.Common.{◌≡◌, ℕ, [], length, Option, Some, refl}
use Rattle.vm_ids.specs.Counting.{no_counts}
use Rattle.vm_ids.specs.Held.{Held, Segments, segments_of}
use Rattle.vm_ids.specs.declared.command.Command.{Command}
use Rattle.vm_ids.specs.declared.command.Command.TheVariants as commands
use Rattle.vm_ids.specs.declared.command.Prot.{Prot}
use Rattle.vm_ids.specs.declared.numbers.ActorId.{ActorId}
use Rattle.vm_ids.specs.declared.numbers.RegionId.{RegionId}
use Rattle.vm_ids.specs.declared.reply.FaultAt.TheVariants as faults
use Rattle.vm_model.specs.Answering.{Answer}
use Rattle.vm_model.specs.Asking.{ReachesMapper}
use Rattle.vm_model.specs.Following.{followed, pages_passed}
use Rattle.vm_model.specs.Machine.{Machine}
use Rattle.vm_model.specs.Outcome.{MayFault, Outcome}
use Rattle.vm_model.specs.PageForest.{PageForest}
use Rattle.vm_model.specs.Run.{AnswerIs}
use Rattle.vm_model.specs.Synchronised.{IsSynchronised}
use Rattle.local_cache.specs.Arena.{Arena}
use Rattle.local_cache.specs.Whole.{IsWhole}
use Rattle.residency.specs.declared.store.Store.{Store}
use Rattle.contexts.specs.Actors.{Actors, machine_with}
use Rattle.pvm_core.specs.Manager.{IsValid, Manager, caches_shown, forest_of, machine_of, state_at}
use Rattle.pvm_core.proofs.Answering.Answered.{seated}
use Rattle.pvm_core.proofs.Answering.Kept.{seated_valid, seen, valid_seen, answer_seen, answer_still}

-- a command that saves nothing, locks nothing, reaches no mapper, and leaves the segments and the
-- forest
pub record IsOfActors (command : Command) : Type 1 where
  pub none : (done : ℕ) (m : Machine) (f : Option PageForest) (s : Segments) → MayFault m f command s (faults.Save done) no_counts → ⊥
  pub reaches : ReachesMapper command no_counts
  pub synchronised : (m : Machine) (s : Option Segments) (answer : Answer) → IsSynchronised m s command answer
  pub stays : (m next : Machine) (f : PageForest) → followed f m command next ≡ f
  pub passes : (m : Machine) (page : ℕ) → pages_passed m command page ≡ []

module _ (a : Arena) (s : Store) (t : Actors) (p : Manager) (view : seen a s t ≡ p) (h : Option Held) (valid : IsValid p h) where
  -- a manager that was valid is so with other actors
  pub acted_valid : (u : Actors) → u.page_bytes ≡ t.page_bytes → IsValid (seen a s u) h
  acted_valid u page = seated_valid (seen a s t) (seen a s u) h refl refl page (valid_seen view valid)

  module _ (command : Command) (of : IsOfActors command) (answer : Answer) (nodes : IsWhole a) where
    -- a call that changes actors
    pub acted : (u : Actors) → u.page_bytes ≡ t.page_bytes
        → ((f : PageForest) (g : Option PageForest) (k : Segments) → Outcome (machine_with (caches_shown f 1 a.caches) (length s.frames.held) t) g command k answer
        (machine_with (caches_shown f 1 a.caches) (length s.frames.held) u) no_counts)
        → AnswerIs (state_at p h) command answer [] no_counts (state_at (seen a s u) h)
    acted u page outcome =
        answer_seen h view (seated (seen a s t) (seen a s u) h command answer nodes nodes (acted_valid u page) refl of.none of.reaches (of.synchronised (machine_of (seen a s t) h) (segments_of h) answer) (of.stays (machine_of (seen a s t) h) (machine_of (seen a s u) h)) (of.passes (machine_of (seen a s t) h)) (λ f. outcome f (Some (forest_of (seen a s t) h))))

    -- a call that changes nothing
    pub told : ((f : PageForest) (g : Option PageForest) (k : Segments) → Outcome (machine_with (caches_shown f 1 a.caches) (length s.frames.held) t) g command k answer
        (machine_with (caches_shown f 1 a.caches) (length s.frames.held) t) no_counts)
        → AnswerIs (state_at p h) command answer [] no_counts (state_at p h)
    told outcome =
        answer_still h view (seated (seen a s t) (seen a s t) h command answer nodes nodes (acted_valid t refl) refl of.none of.reaches (of.synchronised (machine_of (seen a s t) h) (segments_of h) answer) (of.stays (machine_of (seen a s t) h) (machine_of (seen a s t) h)) (of.passes (machine_of (seen a s t) h)) (λ f. outcome f (Some (forest_of (seen a s t) h))))

-- The commands

pub exited : (actor : ActorId) → IsOfActors (commands.ExitActor actor)
exited actor = record { none = λ done m f s none. none; reaches = refl; synchronised = λ m s answer. tt; stays = λ m next f. refl; passes = λ m page. refl }

pub cut : (region : RegionId) (pages : ℕ) → IsOfActors (commands.Split region pages)
cut region pages = record { none = λ done m f s none. none; reaches = refl; synchronised = λ m s answer. tt; stays = λ m next f. refl; passes = λ m page. refl }

pub protected : (region : RegionId) (prot : Prot) → IsOfActors (commands.Protect region prot)
protected region prot = record { none = λ done m f s none. none; reaches = refl; synchronised = λ m s answer. tt; stays = λ m next f. refl; passes = λ m page. refl }

pub told_of : (region : RegionId) → IsOfActors (commands.Status region)
told_of region = record { none = λ done m f s none. none; reaches = refl; synchronised = λ m s answer. tt; stays = λ m next f. refl; passes = λ m page. refl }

pub found : (actor : ActorId) (address : ℕ) → IsOfActors (commands.Find actor address)
found actor address = record { none = λ done m f s none. none; reaches = refl; synchronised = λ m s answer. tt; stays = λ m next f. refl; passes = λ m page. refl }

pub unmapped : (region : RegionId) → IsOfActors (commands.Unmap region)
unmapped region = record { none = λ done m f s none. none; reaches = refl; synchronised = λ m s answer. tt; stays = λ m next f. refl; passes = λ m page. refl }
