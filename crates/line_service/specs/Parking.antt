-- The accesses that wait for their page, beside the service that answers them. In each definition
-- `V`, `M` and `R` are the ghost members of the service, the mapper and the replies.
use Rattle.std.specs.Prelude.{◌≡◌, ℕ, ◌+◌, ◌*◌, Bool, true, false, not, List, [], ◌∷◌, length, map, Option, Some, Result, Ok, Err}
use Rattle.std.specs.List.{AllByRecursion, list_any}
use Rattle.vm_ids.specs.Held.{Held}
use Rattle.vm_ids.specs.declared.access.Parked.{Parked}
use Rattle.vm_model.specs.Events.{waits_for}
use Rattle.vm_port.specs.declared.traits.mapper.Mapper.{Ghosts as GhostsOfMapper}
use Rattle.line_service.specs.Going.{GoesOr, Known, Scene, stand_at}
use Rattle.line_service.specs.Putting.{PutsAll, PutsTillLast}
use Rattle.line_service.specs.Serving.{AreDistinct, IsReadSomewhere, answer_budget}
use Rattle.line_service.specs.declared.replies.Replies.{Ghosts as GhostsOfReplies}
use Rattle.line_service.specs.declared.service.Service.{Ghosts as GhostsOfService}

-- parked accesses as lines: the number of each, and what was read there
abbrev pub lines_parked : {Service Mapper Chooser : Type 0}
    → (V : GhostsOfService Service Mapper Chooser) → List Parked → List (ℕ × V.semantics.Read)
lines_parked V waits = map (λ (p : Parked). (p.line, V.access_of p.actor p.access)) waits

-- A parked access was read in some line, it can't be refused any more, and its actor is alive.
pub record IsLetIn {Service Mapper Chooser : Type 0} (V : GhostsOfService Service Mapper Chooser)
    (service : Service) (held : Option Held) (p : Parked) : Type 0 where
  pub read : IsReadSomewhere V.read (V.access_of p.actor p.access)
  pub actor : V.semantics.actor_of (V.access_of p.actor p.access) ≡ Some p.actor.0
  pub admitted : V.admits service (V.access_of p.actor p.access)
  pub alive : V.lives service held p.actor.0

-- it isn't ready
abbrev pub IsAway : {Service Mapper Chooser : Type 0}
    → (V : GhostsOfService Service Mapper Chooser) → Service → Parked → Type 0
IsAway V service p = V.ready service p.actor p.access ≡ false

-- none of these is ready
abbrev pub AreAway : {Service Mapper Chooser : Type 0}
    → (V : GhostsOfService Service Mapper Chooser) → Service → List Parked → Type 0
AreAway V service waits = AllByRecursion (IsAway V service) waits

-- whose accesses these are
abbrev pub actors_of : List Parked → List ℕ
actors_of waits = map (λ (p : Parked). p.actor.0) waits

-- The service can be called, and these that are parked were let in, each of another actor.
pub record CanServe {Service Mapper Chooser : Type 0}
    (V : GhostsOfService Service Mapper Chooser) (M : GhostsOfMapper Mapper) (service : Service)
    (mapper : Mapper) (waits : List Parked) : Type 0 where
  pub able : V.able service (M.held mapper) (M.page_bytes mapper)
  pub let_in : AllByRecursion (IsLetIn V service (M.held mapper)) waits
  pub apart : AreDistinct (actors_of waits)

-- the number that bounds the service's counters, as if each access that waits were answered
abbrev pub made_with : {Service Mapper Chooser : Type 0}
    → (V : GhostsOfService Service Mapper Chooser) → Service → List Parked → ℕ
made_with V service waits = V.made service + answer_budget * length waits

-- a try left the access parked
abbrev pub is_left : {E : Type 0} → Result Bool E → Bool
is_left (Ok answered) = not answered
is_left (Err e) = false

-- nothing is parked
abbrev pub is_none_parked : List Parked → Bool
is_none_parked [] = true
is_none_parked (p ∷ waits) = false

-- An access of this actor, or, where none is named, any other line or the end of the script has to
-- wait.
abbrev pub has_to_wait : Option ℕ → List Parked → Bool
has_to_wait actor waits = list_any (λ (p : Parked). waits_for actor (Some p.actor.0)) waits

-- A run goes on from so many parked and issued lines to so many, while the dispatcher is asked or
-- isn't; or an answer couldn't be put on the way.
abbrev pub GoesOn : {T E Service Mapper Chooser Replies Sink : Type 0} → Result T E
    → (V : GhostsOfService Service Mapper Chooser) → GhostsOfReplies Replies Sink
    → Known V.semantics.Read
    → Scene V.semantics (Replies × Sink) → List Parked → ℕ → Bool
    → Scene V.semantics (Replies × Sink) → List Parked → ℕ → Bool → Type 0
GoesOn result V R known before waits issued asking after waits_now issued_now asking_now =
    GoesOr result V.semantics (PutsAll R.puts) (PutsTillLast R.puts R.fails) known before after
    (stand_at before (lines_parked V waits) issued asking)
    (stand_at after (lines_parked V waits_now) issued_now asking_now)
