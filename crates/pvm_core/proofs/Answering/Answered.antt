-- The answers of a manager, with bytes and without, from those of a machine with any bytes.
use Rattle.std.proofs.Common.{◌≡◌, ℕ, [], Option, Some, None, refl, sym, ap, ◌∙◌, subst, arith}
use Rattle.std.specs.Prelude.{Result, Ok, Err, OnErr, OnOk, is_some, length}
use Rattle.std.specs.FinMap.{empty}
use Rattle.vm_ids.specs.Counting.{MapperCounts, no_counts}
use Rattle.vm_ids.specs.Held.{Held, Segments, segments_in, segments_of}
use Rattle.vm_ids.specs.declared.command.Command.{Command}
use Rattle.vm_ids.specs.declared.command.Command.TheVariants as commands
use Rattle.vm_ids.specs.declared.reply.Reply.TheVariants as replies
use Rattle.vm_ids.specs.declared.reply.FaultAt.TheVariants as faults
use Rattle.vm_ids.specs.declared.reply.Trouble.{Trouble}
use Rattle.vm_ids.specs.declared.reply.Trouble.TheVariants as troubles
use Rattle.vm_port.specs.declared.traits.failed.Failed.{Failed}
use Rattle.vm_model.specs.Answering.{Answer, answer_by, reply}
use Rattle.vm_model.specs.Asking.{ReachesMapper}
use Rattle.vm_ids.specs.Forest.Commands.{lock}
use Rattle.vm_model.specs.Following.{forest_after, followed, pages_passed}
use Rattle.vm_model.specs.Machine.{Machine}
use Rattle.vm_model.specs.Outcome.{HasWholePages, IsAlike, MayFault, Outcome, OutcomeAt}
use Rattle.vm_model.specs.PageForest.{PageForest}
use Rattle.vm_model.specs.Run.{AnswerIs, CallIs, State}
use Rattle.vm_model.specs.Synchronised.{IsSynchronised}
use Rattle.gmi_calls.specs.Calling.{RaisesMade}
use Rattle.local_cache.specs.Whole.{IsWhole}
use Rattle.pvm_core.specs.Manager.{IsValid, Manager, forest_of, machine_by, machine_of, state_at}
use Rattle.residency.specs.Causes.{Later, Traffic, PushFailed}
use Rattle.pvm_core.specs.Reaching.{Reach}
use Rattle.pvm_core.proofs.Answering.Reaching.{as_segments, no_push, reach_told}
use Rattle.pvm_core.proofs.Answering.Rising.{grown_least, grown_some, rise_between, rises_between}
use Rattle.pvm_core.proofs.Meaning.Values.{blank_of, zeroed, zeroed_whole}

abbrev pub no_segments : Segments
no_segments = record { pages = empty; denied = [] }

pub alike_itself : (a : Answer) → IsAlike a a
alike_itself (Ok (replies.Bytes b)) = refl
alike_itself (Ok replies.Done) = refl
alike_itself (Ok (replies.Actor x)) = refl
alike_itself (Ok (replies.Cache x)) = refl
alike_itself (Ok (replies.Region x)) = refl
alike_itself (Ok (replies.Chain x)) = refl
alike_itself (Ok (replies.Status x)) = refl
alike_itself (Ok (replies.Stat x)) = refl
alike_itself (Ok (replies.Process x)) = refl
alike_itself (Ok (replies.Port x)) = refl
alike_itself (Err e) = refl

-- Where the answer is that of a machine with the pages of any forest, it is the manager's, told or
-- not. Where it isn't told, that is so for these segments.
pub outcome_at : (p q : Manager) (h g : Option Held) (command : Command) (answer : Answer) (rises : MapperCounts) (untold : Segments) → IsWhole p.caches → IsWhole q.caches → is_some (segments_of g) ≡ is_some (segments_of h)
    → (h ≡ None → (f : PageForest) → Outcome (machine_by p f) (Some (forest_of p h)) command untold answer (machine_by q f) rises)
    → ((s : Segments) → segments_of g ≡ Some s → Outcome (machine_of p h) (Some (forest_of p h)) command s answer (machine_of q g) rises)
    → OutcomeAt (segments_of g) (machine_of p h) (Some (forest_of p h)) command answer (machine_of q g) rises
outcome_at p q None None command answer rises untold nodes then same blind told = record {
  whole = machine_by p (zeroed p None);
  whole_next = machine_by q (zeroed p None);
  segments = untold;
  whole_answer = answer;
  is = blank_of p (zeroed p None) nodes;
  is_next = blank_of q (zeroed p None) then;
  pages = zeroed_whole p None nodes;
  alike = alike_itself answer;
  outcome = blind refl (zeroed p None);
}
outcome_at p q (Some h) (Some g) command answer rises untold nodes then same blind told = told (segments_in g) refl
outcome_at p q None (Some g) command answer rises untold nodes then same blind told = absurd (cc same)
outcome_at p q (Some h) None command answer rises untold nodes then same blind told = absurd (cc same)

-- The outcome of an answer at which the machine stays, though its forest may not.
pub outcome_by : (p q : Manager) (h g : Option Held) (command : Command) (answer : Answer) (rises : MapperCounts) (untold : Segments) → IsWhole p.caches → IsWhole q.caches → is_some (segments_of g) ≡ is_some (segments_of h) → machine_of q g ≡ machine_of p h
    → (h ≡ None → (f : PageForest) → Outcome (machine_by p f) (Some (forest_of p h)) command untold answer (machine_by q f) rises)
    → ((s : Segments) → segments_of g ≡ Some s → Outcome (machine_of p h) (Some (forest_of p h)) command s answer (machine_by q (forest_of p h)) rises)
    → ((f : PageForest) → machine_by q f ≡ machine_by p f)
    → OutcomeAt (segments_of g) (machine_of p h) (Some (forest_of p h)) command answer (machine_of q g) rises
outcome_by p q h g command answer rises untold nodes then same machine blind told by = outcome_at p q h g command answer rises untold nodes then same blind
    (λ s e. subst (λ (m : Machine). Outcome (machine_of p h) (Some (forest_of p h)) command s answer m rises) (by (forest_of p h) ∙ sym machine) (told s e))

-- The forest stays at each answer of a command that changes no page, saves none, and locks none.
pub stays_after : (m next : Machine) (f : PageForest) (command : Command) (answer : Answer) → followed f m command next ≡ f → ((page : ℕ) → pages_passed m command page ≡ [])
    → ((done : ℕ) → answer ≡ Err (troubles.Mapper (faults.Save done)) → ⊥) → forest_after f m command answer next ≡ f
stays_after m next f command (Ok r) same passes none = same
stays_after m next f command (Err (troubles.Refused r)) same passes none = refl
stays_after m next f command (Err troubles.Memory) same passes none = refl
stays_after m next f command (Err (troubles.Mapper (faults.Save done))) same passes none = absurd (none done refl)
stays_after m next f command (Err (troubles.Mapper faults.Opening)) same passes none = refl
stays_after m next f command (Err (troubles.Mapper (faults.Access p))) same passes none = refl
stays_after m next f command (Err (troubles.Mapper (faults.Page p))) same passes none = ap (λ xs. lock xs f) (passes p.0)
stays_after m next f command (Err (troubles.Mapper faults.Victim)) same passes none = refl

pub no_save : (m next : Machine) (f : Option PageForest) (command : Command) (h : Segments) (answer : Answer) (rises : MapperCounts) → ((done : ℕ) → MayFault m f command h (faults.Save done) rises → ⊥)
    → Outcome m f command h answer next rises → (done : ℕ) → answer ≡ Err (troubles.Mapper (faults.Save done)) → ⊥
no_save m next f command h answer rises none o done e =
    let parts : Outcome m f command h (Err (troubles.Mapper (faults.Save done))) next rises = subst (λ (a : Answer). Outcome m f command h a next rises) e o in
    none done parts.2

-- A call from its outcome, its forest and what it came to at the mapper.
pub call_is : (c d : MapperCounts) (p q : Manager) (h g : Option Held) (command : Command) (answer : Answer) (reach : Reach (machine_of p h) h g c d) → IsValid q g → ReachesMapper command (rises_between (length reach.pushes) c d)
    → IsSynchronised (machine_of p h) (segments_of g) command answer → forest_of q g ≡ forest_after (forest_of p h) (machine_of p h) command answer (machine_of q g)
    → OutcomeAt (segments_of g) (machine_of p h) (Some (forest_of p h)) command answer (machine_of q g) (rises_between (length reach.pushes) c d) → CallIs c d (state_at p h) command answer (state_at q g)
call_is c d p q h g command answer reach valid reaches synchronised forest outcome = record {
  pushes = reach.pushes;
  rises = rises_between (length reach.pushes) c d;
  rose = rise_between (length reach.pushes) c d reach.later;
  is = record {
    outcome = outcome;
    forest = ap Some forest;
    reaches = reaches;
    few = grown_least (length reach.pushes) c.pushes d.pushes reach.few;
    pushed = reach.rule;
    synchronised = synchronised;
    whole = as_segments (HasWholePages (machine_of q g)) g valid.whole;
  };
}

-- A call with a mapper at whose answer the forest stays, where the outcome rests on what is denied.
pub failed_at : (c d : MapperCounts) (p q : Manager) (h g : Option Held) (command : Command) (answer : Answer) (untold : Segments) (reach : Reach (machine_of p h) h g c d) → IsWhole p.caches → IsWhole q.caches → IsValid q g → forest_of q g ≡ forest_of p h
    → forest_after (forest_of p h) (machine_of p h) command answer (machine_of q g) ≡ forest_of p h → ReachesMapper command (rises_between (length reach.pushes) c d) → IsSynchronised (machine_of p h) (segments_of g) command answer
    → ((f : PageForest) → Outcome (machine_by p f) (Some (forest_of p h)) command untold answer (machine_by q f) (rises_between (length reach.pushes) c d))
    → ((f : PageForest) (s : Segments) → segments_of g ≡ Some s → Outcome (machine_by p f) (Some (forest_of p h)) command s answer (machine_by q f) (rises_between (length reach.pushes) c d))
    → CallIs c d (state_at p h) command answer (state_at q g)
failed_at c d p q h g command answer untold reach nodes then valid forest stays reaches synchronised blind told = call_is c d p q h g command answer reach valid reaches synchronised (forest ∙ sym stays)
    (outcome_at p q h g command answer (rises_between (length reach.pushes) c d) untold nodes then (reach_told (machine_of p h) h g c d reach) (λ e f. blind f)
    (λ s e. subst (λ (f : PageForest). Outcome (machine_of p h) (Some (forest_of p h)) command s answer (machine_by q f) (rises_between (length reach.pushes) c d)) (sym forest) (told (forest_of p h) s e)))

-- A call with a mapper at whose answer the forest stays, where the outcome is one whatever is denied.
pub failed : (c d : MapperCounts) (p q : Manager) (h g : Option Held) (command : Command) (answer : Answer) (reach : Reach (machine_of p h) h g c d) → IsWhole p.caches → IsWhole q.caches → IsValid q g → forest_of q g ≡ forest_of p h
    → forest_after (forest_of p h) (machine_of p h) command answer (machine_of q g) ≡ forest_of p h → ReachesMapper command (rises_between (length reach.pushes) c d) → IsSynchronised (machine_of p h) (segments_of g) command answer
    → ((f : PageForest) (s : Segments) → Outcome (machine_by p f) (Some (forest_of p h)) command s answer (machine_by q f) (rises_between (length reach.pushes) c d))
    → CallIs c d (state_at p h) command answer (state_at q g)
failed c d p q h g command answer reach nodes then valid forest stays reaches synchronised outcome = failed_at c d p q h g command answer no_segments reach nodes then valid forest stays reaches synchronised (λ f. outcome f no_segments) (λ f s e. outcome f s)

-- A call with a mapper, of a command that saves nothing, at whose answer the forest stays.
pub called : (c d : MapperCounts) (p q : Manager) (h g : Option Held) (command : Command) (answer : Answer) (reach : Reach (machine_of p h) h g c d) → IsWhole p.caches → IsWhole q.caches → IsValid q g → forest_of q g ≡ forest_of p h
    → ((done : ℕ) (m : Machine) (f : Option PageForest) (s : Segments) → MayFault m f command s (faults.Save done) (rises_between (length reach.pushes) c d) → ⊥) → ReachesMapper command (rises_between (length reach.pushes) c d)
    → IsSynchronised (machine_of p h) (segments_of g) command answer → ((f : PageForest) → followed f (machine_of p h) command (machine_of q g) ≡ f) → ((page : ℕ) → pages_passed (machine_of p h) command page ≡ [])
    → ((f : PageForest) (s : Segments) → Outcome (machine_by p f) (Some (forest_of p h)) command s answer (machine_by q f) (rises_between (length reach.pushes) c d))
    → CallIs c d (state_at p h) command answer (state_at q g)
called c d p q h g command answer reach nodes then valid forest none reaches synchronised same passes outcome = failed c d p q h g command answer reach nodes then valid forest
    (stays_after (machine_of p h) (machine_of q g) (forest_of p h) command answer (same (forest_of p h)) passes
    (no_save (machine_of p h) (machine_by q (forest_of p h)) (Some (forest_of p h)) command no_segments answer (rises_between (length reach.pushes) c d) (λ done. none done (machine_of p h) (Some (forest_of p h)) no_segments) (outcome (forest_of p h) no_segments)))
    reaches synchronised outcome

-- the answer of a call that pushed nothing, at which the forest stays
pub stayed : (p q : Manager) (h : Option Held) (command : Command) (answer : Answer) (rises : MapperCounts) → IsValid q h → forest_of q h ≡ forest_of p h
    → forest_after (forest_of p h) (machine_of p h) command answer (machine_of q h) ≡ forest_of p h → ReachesMapper command rises → IsSynchronised (machine_of p h) (segments_of h) command answer
    → OutcomeAt (segments_of h) (machine_of p h) (Some (forest_of p h)) command answer (machine_of q h) rises → AnswerIs (state_at p h) command answer [] rises (state_at q h)
stayed p q h command answer rises valid forest stays reaches synchronised outcome = record {
  outcome = outcome;
  forest = ap Some (forest ∙ sym stays);
  reaches = reaches;
  few = omega arith;
  pushed = no_push (machine_of p h) (segments_of h) (segments_of h) refl;
  synchronised = synchronised;
  whole = as_segments (HasWholePages (machine_of q h)) h valid.whole;
}

-- A call without a mapper at whose answer the forest stays.
pub answered : (p q : Manager) (h : Option Held) (command : Command) (answer : Answer) → IsWhole p.caches → IsWhole q.caches → IsValid q h → forest_of q h ≡ forest_of p h
    → forest_after (forest_of p h) (machine_of p h) command answer (machine_of q h) ≡ forest_of p h → ReachesMapper command no_counts → IsSynchronised (machine_of p h) (segments_of h) command answer
    → ((f : PageForest) (s : Segments) → Outcome (machine_by p f) (Some (forest_of p h)) command s answer (machine_by q f) no_counts)
    → AnswerIs (state_at p h) command answer [] no_counts (state_at q h)
answered p q h command answer nodes then valid forest stays reaches synchronised outcome = stayed p q h command answer no_counts valid forest stays reaches synchronised
    (outcome_at p q h h command answer no_counts no_segments nodes then refl (λ e f. outcome f no_segments) (λ s e. subst (λ (f : PageForest). Outcome (machine_of p h) (Some (forest_of p h)) command s answer (machine_by q f) no_counts) (sym forest) (outcome (forest_of p h) s)))

-- A call without a mapper, of a command that saves nothing, at whose answer the forest stays.
pub seated : (p q : Manager) (h : Option Held) (command : Command) (answer : Answer) → IsWhole p.caches → IsWhole q.caches → IsValid q h → forest_of q h ≡ forest_of p h
    → ((done : ℕ) (m : Machine) (f : Option PageForest) (s : Segments) → MayFault m f command s (faults.Save done) no_counts → ⊥) → ReachesMapper command no_counts → IsSynchronised (machine_of p h) (segments_of h) command answer
    → ((f : PageForest) → followed f (machine_of p h) command (machine_of q h) ≡ f) → ((page : ℕ) → pages_passed (machine_of p h) command page ≡ [])
    → ((f : PageForest) (s : Segments) → Outcome (machine_by p f) (Some (forest_of p h)) command s answer (machine_by q f) no_counts)
    → AnswerIs (state_at p h) command answer [] no_counts (state_at q h)
seated p q h command answer nodes then valid forest none reaches synchronised same passes outcome = answered p q h command answer nodes then valid forest
    (stays_after (machine_of p h) (machine_of q h) (forest_of p h) command answer (same (forest_of p h)) passes
    (no_save (machine_of p h) (machine_by q (forest_of p h)) (Some (forest_of p h)) command no_segments answer no_counts (λ done. none done (machine_of p h) (Some (forest_of p h)) no_segments) (outcome (forest_of p h) no_segments)))
    reaches synchronised outcome

-- the counters stay
pub made_stays : (m : Machine) (command : Command) (answer : Answer) (next : Machine) (n k : ℕ) → k ≡ n → RaisesMade m command answer next n k
made_stays m command (Ok r) next n k e = omega (arith, e)
made_stays m command (Err (troubles.Refused r)) next n k e = e
made_stays m command (Err (troubles.Mapper at)) next n k e = omega (arith, e)
made_stays m command (Err troubles.Memory) next n k e = omega (arith, e)

-- The mapper was reached before, with neither pull nor push.
pub call_later : (c d e : MapperCounts) (s t : State) (command : Command) (answer : Answer) → Later c d → Traffic 0 0 c d → CallIs d e s command answer t → CallIs c e s command answer t
call_later c d e s t command answer later made call = record {
  pushes = call.pushes;
  rises = call.rises;
  rose = record {
    faults_later = omega (arith, later.faults, call.rose.faults_later);
    pulls_later = omega (arith, later.pulls, call.rose.pulls_later);
    pushes_later = omega (arith, later.pushes, call.rose.pushes_later);
    faults = λ below. (let l = later.faults in let f = call.rose.faults below in omega (arith, l, f));
    pulls = λ below. (let l = call.rose.pulls_later in let f = call.rose.pulls below in let g = made.pulled (omega (arith, l, below)) in omega (arith, f, g));
    pushes = λ below. (let l = call.rose.pushes_later in let f = call.rose.pushes below in let g = made.pushed (omega (arith, l, below)) in omega (arith, f, g));
  };
  is = call.is;
}

-- a failed push as a fault
abbrev pub victim : Result (Unit {0}) Failed → Result (Unit {0}) Trouble
victim (Ok x) = Ok x
victim (Err e) = Err (troubles.Mapper faults.Victim)

pub on_victim : (P : Type 0) (r : Result (Unit {0}) Failed) → OnOk r P → OnOk (victim r) P
on_victim P (Ok x) p = p
on_victim P (Err e) p = tt

-- pages that are evicted
pub paged_out : (n : ℕ) (m next : Machine) (f : PageForest) (count : ℕ) (s : Segments) (c d : MapperCounts) (result : Result (Unit {0}) Failed) → next ≡ m → OnErr result (PushFailed c d)
    → Outcome m (Some f) (commands.PageOut count) s (answer_by (λ _. replies.Done) (victim result)) next (rises_between n c d)
paged_out n m next f count s c d (Ok x) same cause = λ i. reply replies.Done (sym same i)
paged_out n m next f count s c d (Err e) same cause = (same, grown_some n c.faults d.faults cause.faults, grown_some n c.pushes d.pushes cause.pushes, tt)
