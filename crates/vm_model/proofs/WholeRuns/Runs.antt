-- A run from the start and the empty forest.
use Rattle.std.proofs.Common.{◌≡◌, ◌≤◌, ℕ, List, [], ◌∷◌, Option, Some, None, refl, sym, ap, subst, ◌∙◌}
use Rattle.std.specs.Prelude.{option_map, IfOk, IfSome, IsSomeAnd, Ok, Err}
use Rattle.std.specs.List.{AllByRecursion}
use Rattle.std.proofs.lemmas.List.Elements.{All-nil}
use Rattle.vm_ids.specs.Counting.{MapperCounts}
use Rattle.vm_ids.specs.Held.{Segments}
use Rattle.vm_ids.specs.declared.command.Command.{Command}
use Rattle.vm_ids.specs.Forest.Nodes.{no_forest}
use Rattle.vm_model.specs.Machine.{Machine, start}
use Rattle.vm_model.specs.PageForest.{PageForest, plain_forest}
use Rattle.vm_model.specs.Answering.{Answer}
use Rattle.vm_model.specs.Asking.{IsWellFormed}
use Rattle.vm_model.specs.Following.{forest_after}
use Rattle.vm_model.specs.Outcome.{HasWholePages, IsWhole, Outcome, OutcomeAt}
use Rattle.vm_model.specs.Pushing.{segments_after}
use Rattle.vm_model.specs.Run.{AnswerIs, Read, State, StepIs, command_semantics}
use Rattle.vm_model.specs.Steps.{Chain, Step}
use Rattle.vm_model.specs.Laws.{IsFollowed, IsLaid, LieIn, RunsAreFollowed}
use Rattle.vm_model.proofs.Forests.Followed.{answers_are_followed}
use Rattle.vm_model.proofs.Forests.PlainFollows.{plain_forest_follows}
use Rattle.vm_model.proofs.Forests.Untold.{untold_answers_are_followed}
use Rattle.vm_model.proofs.Outcomes.Laid.{machines_stay_laid}

-- what holds between two answers, where the forest is told
record Holds (s : State) : Type 0 where
  forest : PageForest
  told_forest : s.forest ≡ Some forest
  laid : IsLaid s.machine
  whole : IfSome s.segments (λ h. HasWholePages s.machine)
  follows : IsFollowed s.machine forest

still_told : (m : Machine) (pushes : List (ℕ × ℕ)) (o : Option Segments) (h : Segments) → o ≡ Some h → (k : Segments) × (segments_after m pushes o ≡ Some k)
still_told m [] o h e = (h, e)
still_told m (p ∷ ps) o h e = still_told m ps _ _ (ap (option_map _) e)

still_untold : (m : Machine) (pushes : List (ℕ × ℕ)) (o : Option Segments) → o ≡ None → segments_after m pushes o ≡ None
still_untold m [] o e = e
still_untold m (p ∷ ps) o e = still_untold m ps _ (ap (option_map _) e)

answer_holds : (s t : State) (command : Command) (answer : Answer) (pushes : List (ℕ × ℕ)) (rises : MapperCounts) → IsWellFormed command → Holds s → AnswerIs s command answer pushes rises t → Holds t
answer_holds s t command answer pushes rises w H a = go s.segments refl H.whole
  where
    next : t.forest ≡ Some (forest_after H.forest s.machine command answer t.machine)
    next = a.forest ∙ ap (option_map (λ f. forest_after f s.machine command answer t.machine)) H.told_forest

    at : (o : Option Segments) → t.segments ≡ o → OutcomeAt o s.machine (Some H.forest) command answer t.machine rises
    at o e = subst (λ (f : Option PageForest). OutcomeAt o s.machine f command answer t.machine rises) H.told_forest (subst (λ (o : Option Segments). OutcomeAt o s.machine s.forest command answer t.machine rises) e a.outcome)

    go : (o : Option Segments) → s.segments ≡ o → IfSome o (λ h. HasWholePages s.machine) → Holds t
    go (Some h) e whole =
        let k = still_told s.machine pushes s.segments h e in
        let told : t.segments ≡ Some k.0 = a.pushed.pushed ∙ k.1 in
        let outcome : Outcome s.machine (Some H.forest) command k.0 answer t.machine rises = at (Some k.0) told in
        record {
          forest = forest_after H.forest s.machine command answer t.machine;
          told_forest = next;
          laid = machines_stay_laid s.machine t.machine H.forest command k.0 answer rises H.laid outcome;
          whole = a.whole;
          follows = answers_are_followed s.machine t.machine H.forest command k.0 answer rises H.laid whole w H.follows outcome;
        }
    go None e whole =
        let untold : t.segments ≡ None = a.pushed.pushed ∙ still_untold s.machine pushes s.segments e in
        let both = untold_answers_are_followed s.machine t.machine H.forest command answer rises H.laid w H.follows (at None untold) in
        record {
          forest = forest_after H.forest s.machine command answer t.machine;
          told_forest = next;
          laid = both.1;
          whole = a.whole;
          follows = both.0;
        }

step_holds : (s t : State) (read : Read) (answer : Answer) (pushes : List (ℕ × ℕ)) (rises : MapperCounts) → IfOk read IsWellFormed → Holds s → StepIs s read answer pushes rises t → Holds t
step_holds s t (Err r) answer pushes rises w H is = subst Holds (sym is.same) H
step_holds s t (Ok command) answer pushes rises w H is = answer_holds s t command answer pushes rises w H is

chain_holds : (steps : List (Step Read)) (s t : State) → AllByRecursion (λ (step : Step Read). IfOk step.read IsWellFormed) steps → Holds s → Chain command_semantics s steps t → Holds t
chain_holds [] s t w H c = subst Holds (sym c) H
chain_holds (step ∷ steps) s t w H c = chain_holds steps c.0 t w.1 (step_holds s c.0 step.read step.answer c.1.0 step.rises w.0 H c.1.1) c.2

start_follows : (frames bytes : ℕ) → IsFollowed (start frames bytes) no_forest
unfolding plain_forest
start_follows frames bytes = plain_forest_follows (start frames bytes)

start_laid : (frames bytes : ℕ) → 1 ≤ bytes → IsLaid (start frames bytes)
start_laid frames bytes some = record { some = some; lie = All-nil (LieIn []) }

start_whole : (frames bytes : ℕ) (told : Option Segments) → IfSome told (λ h. HasWholePages (start frames bytes))
start_whole frames bytes (Some h) = All-nil (IsWhole bytes)
start_whole frames bytes None = tt

told_and : (o : Option PageForest) (f : PageForest) (P : PageForest → Type 0) → o ≡ Some f → P f → IsSomeAnd o P
told_and o f P e p = subst (λ (x : Option PageForest). IsSomeAnd x P) (sym e) p

pub runs_are_followed : RunsAreFollowed
runs_are_followed frames bytes told steps after some w chain =
    let H : Holds after = chain_holds steps _ after w (record { forest = no_forest; told_forest = refl; laid = start_laid frames bytes some; whole = start_whole frames bytes told; follows = start_follows frames bytes }) chain in
    told_and after.forest H.forest (IsFollowed after.machine) H.told_forest H.follows
