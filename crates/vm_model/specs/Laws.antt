-- The laws of the machine and the page forest that follows it. The contracts of the functions in
-- src/laws.rt name them, and so each is proved.
use Rattle.std.specs.Prelude.{◌≡◌, ℕ, ◌+◌, ◌≤◌, List, length, Option, Some, None, IfOk, IsSome, IsSomeAnd, All}
use Rattle.std.specs.List.{AllByRecursion}
use Rattle.vm_ids.specs.Counting.{MapperCounts}
use Rattle.vm_ids.specs.Held.{Segments}
use Rattle.vm_ids.specs.declared.command.Command.{Command}
use Rattle.vm_ids.specs.declared.node_name.NodeName.{NodeName}
use Rattle.vm_ids.specs.Forest.Shape.{IsConsistent}
use Rattle.vm_ids.specs.Forest.Saving.{saves, unsaved}
use Rattle.vm_ids.specs.Forest.Nodes.{no_forest}
use Rattle.vm_model.specs.Machine.{Machine, Cache, Region, Actor, numbered, start}
use Rattle.vm_model.specs.PageForest.{PageForest, Agrees, page_in, plain_forest}
use Rattle.vm_model.specs.Place.{Place, place}
use Rattle.vm_model.specs.Answering.{Answer}
use Rattle.vm_model.specs.Asking.{IsWellFormed}
use Rattle.vm_model.specs.Following.{forest_after}
use Rattle.vm_model.specs.Outcome.{BlankOutcome, HasWholePages, Outcome}
use Rattle.vm_model.specs.Run.{Read, State, command_semantics}
use Rattle.vm_model.specs.Steps.{Chain, Step}

-- The forest has its shape, and agrees with the machine.
pub record IsFollowed (m : Machine) (f : PageForest) : Type 0 where
  pub consistent : IsConsistent f
  pub agrees : Agrees m f

-- What an actor can access is a page of a live cache.
abbrev pub HasMappedPages : Machine → Type 0
HasMappedPages m =
    (actor address length : ℕ)
    → IfOk (place m actor address length)
    (λ (at : Place). IsSome (page_in m at.region.cache at.page))

-- The region's pages are those of a live cache.
pub record LiesIn (caches : List (Option Cache)) (r : Region) : Type 0 where
  pub cache : Cache
  pub there : numbered caches r.cache ≡ Some cache
  pub within : r.offset + r.pages ≤ length cache.pages

abbrev pub LieIn : List (Option Cache) → Option Actor → Type 0
LieIn caches None = Unit {0}
LieIn caches (Some regions) = All (LiesIn caches) regions

-- What holds of a machine between two answers, with its bytes or without them: its regions lie in
-- live caches.
pub record IsLaid (m : Machine) : Type 0 where
  pub some : 1 ≤ m.page_bytes
  pub lie : All (LieIn m.caches) m.actors

abbrev pub LaidMachinesAreMapped : Type 0
LaidMachinesAreMapped = (m : Machine) → IsLaid m → HasMappedPages m

abbrev pub MachinesStayLaid : Type 0
MachinesStayLaid =
    (m next : Machine) (f : PageForest) (command : Command) (h : Segments) (answer : Answer)
    (rises : MapperCounts)
    → IsLaid m → Outcome m (Some f) command h answer next rises → IsLaid next

-- Where the mapper tells nothing, the forest without bytes agrees with the machine without bytes,
-- and goes on so.
abbrev pub UntoldAnswersAreFollowed : Type 0
UntoldAnswersAreFollowed =
    (m next : Machine) (f : PageForest) (command : Command) (answer : Answer) (rises : MapperCounts)
    → IsLaid m → IsWellFormed command → IsFollowed m f
    → BlankOutcome m (Some f) command answer next rises
    → IsFollowed next (forest_after f m command answer next) × IsLaid next

-- the start: no cache, no actor, and the empty forest
abbrev pub started : ℕ → ℕ → Option Segments → State
started frames bytes told =
    record { machine = start frames bytes; forest = Some no_forest; segments = told }

-- Whatever steps lead from the start and the empty forest, the last forest agrees with the last
-- machine, whether the mapper tells what it holds or not.
abbrev pub RunsAreFollowed : Type 0
RunsAreFollowed =
    (frames bytes : ℕ) (told : Option Segments) (steps : List (Step Read)) (after : State)
    → 1 ≤ bytes
    → AllByRecursion (λ (step : Step Read). IfOk step.read IsWellFormed) steps
    → Chain command_semantics (started frames bytes told) steps after
    → IsSomeAnd after.forest (IsFollowed after.machine)

abbrev pub PlainForestFollows : Type 0
PlainForestFollows = (m : Machine) → IsFollowed m (plain_forest m)

-- Whatever a manager may answer, the forest that follows agrees with the machine that follows.
abbrev pub AnswersAreFollowed : Type 0
AnswersAreFollowed =
    (m next : Machine) (f : PageForest) (command : Command) (h : Segments) (answer : Answer)
    (rises : MapperCounts)
    → IsLaid m → HasWholePages m → IsWellFormed command → IsFollowed m f
    → Outcome m (Some f) command h answer next rises
    → IsFollowed next (forest_after f m command answer next)

-- Where a page is left to save after so many saves, there was one at each of them.
abbrev pub EarlierSavesWereLeft : Type 0
EarlierSavesWereLeft =
    (f : PageForest) (pages : List NodeName) (done n : ℕ) → n ≤ done
    → IsSome (unsaved (saves done pages f) pages)
    → IsSome (unsaved (saves n pages f) pages)
