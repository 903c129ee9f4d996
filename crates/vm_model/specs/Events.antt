-- A run of a script whose accesses may wait for their pages. It goes by events, and between two of
-- them there is a stand.
--
-- Before each line and before the end of the script, while an access is parked, the dispatcher is
-- asked which is delivered next, until it names none. Then, while the coming line or the end has to
-- wait, it is asked again, and where it names none the oldest is delivered.
use Rattle.std.specs.Prelude.{◌≡◌, ◌==◌, ◌⊎◌, ◌<◌, ◌+◌, ℕ, Bool, true, false, if◌then◌else◌, nat_lt, List, [], ◌∷◌, ◌++◌, length, remove, slice_get, Option, None, Some, option_and_then, unwrap_or, IsSome, Err}
use Rattle.std.specs.List.{AllByRecursion, list_any}
use Rattle.std.specs.Option.{option_map_or}
use Rattle.vm_ids.specs.declared.reply.Trouble.TheVariants.{Mapper}
use Rattle.vm_model.specs.Answering.{Answer}
use Rattle.vm_model.specs.Steps.{Chain, Semantics, Step, line_answered, lines_answered}

-- What there is between two events:
--     state    what the answers so far lead to
--     parked   the accesses that wait for their page, in order of issue: the number of the line,
--              and what was read there
--     issued   how many lines were answered at once or parked
--     asking   the dispatcher wasn't answered with none since the last of these lines
pub record Stand (S : Semantics) : Type 0 where
  pub state : S.State
  pub parked : List (ℕ × S.Read)
  pub issued : ℕ
  pub asking : Bool

-- before the first event
abbrev pub opening : (S : Semantics) → S.State → Stand S
opening S state = record { state = state; parked = []; issued = 0; asking = true }

-- An event:
--     line       the coming line is answered, by this step
--     park       the coming line, an access, is parked
--     pause      the dispatcher was asked, and named none
--     delivery   the dispatcher was asked, and by its turn the parked access at a place is
--                answered, by the first step, and some of the others that are parked, by the other
--                steps
pub data Event (Read : Type 0) : Type 0 where
  line : Step Read → Event Read
  park : ℕ → Read → Event Read
  pause : Event Read
  delivery : Option ℕ → ℕ → Step Read → List (Step Read) → Event Read

-- the steps of events
abbrev pub steps_of : {Read : Type 0} → List (Event Read) → List (Step Read)
steps_of [] = []
steps_of (line step ∷ events) = step ∷ steps_of events
steps_of (park number read ∷ events) = steps_of events
steps_of (pause ∷ events) = steps_of events
steps_of (delivery turn place first others ∷ events) = first ∷ (others ++ steps_of events)

-- the coming line; none at the end of the script
abbrev pub coming_line : (S : Semantics) → List S.Read → Stand S → Option S.Read
coming_line S reads s = slice_get reads s.issued

-- Whether a line waits for a parked access, by the actors of both: an access waits for that of its
-- own actor, and any other line, as the end of the script, for each.
abbrev pub waits_for : Option ℕ → Option ℕ → Bool
waits_for None parked = true
waits_for (Some actor) parked = option_map_or (λ a. a == actor) parked false

-- the coming line, or the end of the script, has to wait
abbrev pub has_to_wait : (S : Semantics) → List S.Read → Stand S → Bool
has_to_wait S reads s =
    let actor = option_and_then S.actor_of (coming_line S reads s) in
    list_any (λ (p : ℕ × S.Read). waits_for actor (S.actor_of p.1)) s.parked

-- The dispatcher is asked; where it isn't, the line comes.
abbrev pub is_asked : (S : Semantics) → List S.Read → Stand S → Bool
is_asked S reads s =
    if s.asking then nat_lt 0 (length s.parked) else has_to_wait S reads s

-- The coming line is answered. Where that is an access, no page is pulled.
pub record IsLine (S : Semantics) (reads : List S.Read) (before : Stand S) (step : Step S.Read)
    (after : Stand S) : Type 0 where
  pub free : is_asked S reads before ≡ false
  pub comes : coming_line S reads before ≡ Some step.read
  pub number : step.number ≡ before.issued + 1
  pub is : S.StepIs before.state step.read step.answer step.rises after.state
  pub no_pull : IsSome (S.actor_of step.read) → step.rises.pulls ≡ 0
  pub leaves : after ≡ record before {
    state = after.state;
    issued = before.issued + 1;
    asking = true;
  }

-- The coming line is an access that nothing refuses, and is parked. The state stays.
pub record IsPark (S : Semantics) (reads : List S.Read) (before : Stand S) (number : ℕ)
    (read : S.Read) (after : Stand S) : Type 0 where
  pub free : is_asked S reads before ≡ false
  pub comes : coming_line S reads before ≡ Some read
  pub number_is : number ≡ before.issued + 1
  pub access : IsSome (S.actor_of read)
  pub admitted : S.Admits before.state read
  pub leaves : after ≡ record before {
    parked = before.parked ++ (number, read) ∷ [];
    issued = before.issued + 1;
    asking = true;
  }

-- The dispatcher names none, for the first time since the last line.
pub record IsPause (S : Semantics) (reads : List S.Read) (before after : Stand S) : Type 0 where
  pub asked : is_asked S reads before ≡ true
  pub first : before.asking ≡ true
  pub leaves : after ≡ record before { asking = false }

-- The place that is delivered by a turn of the dispatcher. Where it is asked until it names none,
-- it is the place that the turn names; behind that it is the oldest where it names none.
abbrev pub IsPlaceOf : Bool → Option ℕ → ℕ → Type 0
IsPlaceOf true turn place = turn ≡ Some place
IsPlaceOf false turn place = unwrap_or turn 0 ≡ place

-- a call of the mapper failed
abbrev pub IsMapperFault : Answer → Type 0
IsMapperFault (Err (Mapper at)) = Unit {0}
IsMapperFault answer = ⊥

-- Some elements of a list are taken, and the others left, both in their order.
pub data IsParted {A : Type 0} : List A → List A → List A → Type 0 where
  ended : IsParted [] [] []
  taken : {x : A} {xs ts ls : List A} → IsParted xs ts ls → IsParted (x ∷ xs) (x ∷ ts) ls
  left : {x : A} {xs ts ls : List A} → IsParted xs ts ls → IsParted (x ∷ xs) ts (x ∷ ls)

-- The parked access at the place is answered: its page is pulled, or a call of the mapper failed.
-- Then others that are parked are answered without a pull, in order of issue. These are parked no
-- longer.
pub record IsDelivery (S : Semantics) (reads : List S.Read) (before : Stand S) (turn : Option ℕ)
    (place : ℕ) (first : Step S.Read) (others : List (Step S.Read)) (after : Stand S)
    : Type 0 where
  pub asked : is_asked S reads before ≡ true
  pub place_is : IsPlaceOf before.asking turn place
  pub first_is : slice_get before.parked place ≡ Some (line_answered first)
  pub came : (0 < first.rises.pulls) ⊎ IsMapperFault first.answer
  pub others_are : IsParted (remove before.parked place) (lines_answered others) after.parked
  pub no_pull : AllByRecursion (λ (step : Step S.Read). step.rises.pulls ≡ 0) others
  pub chain : Chain S before.state (first ∷ others) after.state
  pub leaves : after ≡ record before { state = after.state; parked = after.parked }

abbrev pub EventIs : (S : Semantics) → List S.Read → Stand S → Event S.Read → Stand S → Type 0
EventIs S reads before (line step) after = IsLine S reads before step after
EventIs S reads before (park number read) after = IsPark S reads before number read after
EventIs S reads before pause after = IsPause S reads before after
EventIs S reads before (delivery turn place first others) after =
    IsDelivery S reads before turn place first others after

-- One event after another over the lines of a script. They may end anywhere.
abbrev pub Leads : (S : Semantics) → List S.Read → Stand S → List (Event S.Read) → Stand S
    → Type 0
Leads S reads before [] after = after ≡ before
Leads S reads before (event ∷ events) after =
    (between : Stand S) × EventIs S reads before event between
    × Leads S reads between events after

-- A run over these lines, from a state on: where it leads to.
abbrev pub RunOf : (S : Semantics) → S.State → List S.Read → List (Event S.Read) → Stand S
    → Type 0
RunOf S before reads events after = Leads S reads (opening S before) events after

-- Each of these lines is answered.
pub record IsOver (S : Semantics) (reads : List S.Read) (s : Stand S) : Type 0 where
  pub parked : s.parked ≡ []
  pub issued : s.issued ≡ length reads
