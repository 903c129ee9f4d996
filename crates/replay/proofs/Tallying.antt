-- A trial, from the answers that were counted.
use Rattle.std.proofs.Common.{◌≡◌, ℕ, List, [], ◌∷◌, ◌++◌, map, Option, None, Ok, sym, ap, subst, ◌∙◌, append-nil, append_assoc}
use Rattle.vm_ids.specs.Counting.{no_counts}
use Rattle.vm_ids.specs.declared.command.Command.TheVariants.{Stat}
use Rattle.vm_ids.specs.declared.reply.Counts.{Counts}
use Rattle.vm_ids.specs.declared.reply.Reply.TheVariants as replies
use Rattle.vm_model.specs.Answering.{Answer}
use Rattle.vm_model.specs.Events.{steps_of}
use Rattle.vm_model.specs.Run.{Read, State, command_semantics}
use Rattle.vm_model.specs.Steps.{Step}
use Rattle.actor_script.specs.Summary.{summary_of, Tallies, tally_of}
use Rattle.actor_script.specs.declared.tally.Tally.{Tally}
use Rattle.gmi_calls.specs.Room.{AnswerWithin}
use Rattle.line_service.specs.Ending.{AllAnswered}
use Rattle.line_service.specs.Going.{Scene, Writing}
use Rattle.line_service.specs.Putting.{Puts, PutsAll}
use Rattle.replay.specs.Ending.{Summary, TellsCounts, WritesAs}
use Rattle.replay.specs.declared.status.Status.{Status}

-- the answers are counted, and no sink is touched
abbrev pub Counted : Puts (Tally × Unit {0})
Counted before number answer after = Tallies before.0 answer after.0

abbrev answers : List (Step Read) → List Answer
answers steps = map (λ (step : Step Read). step.answer) steps

-- the tally of answers, and of those of steps behind them
counted_on : (before after : Tally × Unit {0}) (steps : List (Step Read)) (known : List Answer) → PutsAll Counted before steps after → before.0 ≡ tally_of known → after.0 ≡ tally_of (known ++ answers steps)
counted_on before after [] known h is = ap (λ (t : Tally × Unit {0}). t.0) h ∙ is ∙ ap tally_of (sym (append-nil known))
counted_on before after (step ∷ steps) known h is =
    counted_on h.0 after steps (known ++ step.answer ∷ []) h.2 (h.1 known is)
    ∙ ap tally_of (append_assoc known (step.answer ∷ []) (answers steps))

-- What was written is said otherwise.
rewritten : {V W : Type 0} (Put : Writing V Read) (Write : Writing W Read) (a b : Scene command_semantics V) (old new : W) (reads : List Read) → ((steps : List (Step Read)) → Put a.written steps b.written → Write old steps new) → AllAnswered command_semantics Put a b reads
    → AllAnswered command_semantics Write (record { state = a.state; counts = a.counts; turns = a.turns; written = old }) (record { state = b.state; counts = b.counts; turns = b.turns; written = new }) reads
rewritten Put Write a b old new reads by h =
    let goes = h.ran.goes in
    record {
      last = h.last;
      ran = record {
        goes = record {
          events = goes.events;
          leads = goes.leads;
          turned = goes.turned;
          rose = goes.rose;
          put = by (steps_of goes.events) goes.put;
        };
        in_order = h.ran.in_order;
        state_is = h.ran.state_is;
      };
      over = h.over;
      in_order = h.in_order;
    }

-- the summary of the tally is written
pub summed : (status : Status) (a b : Scene command_semantics (Tally × Unit {0})) (reads : List Read) (counts : Counts) (old new : Option (List ℕ)) → a.written.0 ≡ tally_of [] → AllAnswered command_semantics (PutsAll Counted) a b reads
    → WritesAs status old new (summary_of b.written.0 counts)
    → AllAnswered command_semantics (Summary status counts) (record { state = a.state; counts = a.counts; turns = a.turns; written = old }) (record { state = b.state; counts = b.counts; turns = b.turns; written = new }) reads
summed status a b reads counts old new none h writes =
    rewritten (PutsAll Counted) (Summary status counts) a b old new reads
    (λ steps put. subst (λ (t : Tally). WritesAs status old new (summary_of t counts)) (counted_on a.written b.written steps [] put none) writes) h

-- the counts that a manager tells whose room isn't limited
pub told_counts : (room : Option ℕ) (state : State) (counts : Counts) → room ≡ None → AnswerWithin room state Stat (Ok (replies.Stat counts)) [] no_counts state → TellsCounts state counts
told_counts room state counts unlimited answers = subst (λ (o : Option ℕ). AnswerWithin o state Stat (Ok (replies.Stat counts)) [] no_counts state) unlimited answers
