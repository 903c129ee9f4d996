-- What a trial promises, from how its lines are answered.
use Rattle.std.proofs.Common.{◌≡◌, ℕ, map, refl, Option, Some, None, sym, ap, subst, ◌∙◌, arith}
use Rattle.std.specs.Prelude.{Ok, Err}
use Rattle.vm_ids.specs.Counting.{no_counts}
use Rattle.vm_ids.specs.Held.{Segments}
use Rattle.vm_ids.specs.Forest.Nodes.{no_forest}
use Rattle.vm_ids.specs.Forest.Reading.{counts_of}
use Rattle.vm_ids.specs.declared.command.Command.TheVariants.{Stat}
use Rattle.vm_ids.specs.declared.numbers.TheConstants.{PAGE}
use Rattle.vm_ids.specs.declared.reply.Counts.{Counts}
use Rattle.vm_ids.specs.declared.reply.Reply.TheVariants as replies
use Rattle.vm_model.specs.Answering.{Answer, Answered}
use Rattle.vm_model.specs.Machine.{Machine, start}
use Rattle.vm_model.specs.Outcome.{IsAlike, Outcome, OutcomeAt}
use Rattle.vm_model.specs.PageForest.{PageForest}
use Rattle.vm_model.specs.Run.{State}
use Rattle.actor_script.specs.Forms.{command_of}
use Rattle.line_service.specs.Going.Known.{whole}
use Rattle.replay.specs.Ending.{Outside, Summary, Summed, TellsCounts, TrialEnds, lines_made, scene_with}
use Rattle.replay.specs.declared.asked.Generated.{Generated}
use Rattle.replay.specs.declared.status.Status.{Status}
use Rattle.replay.proofs.Promise.{lines_formed, ran_followed}

-- the counts that a manager tells are those of its forest

abbrev answered : Counts → Answer
answered counts = Ok (replies.Stat counts)

same_counts : (a b : Counts) → answered a ≡ answered b → a ≡ b
same_counts a b e = cc

counted : (m next : Machine) (f : PageForest) (counts : Counts) → (let all : Answered = record { answer = answered (counts_of f); next = m } in all) ≡ record { answer = answered counts; next = next } → counts_of f ≡ counts
counted m next f counts e = same_counts (counts_of f) counts (ap (λ (x : Answered). x.answer) e)

counts_at : (told : Option Segments) (m : Machine) (f : PageForest) (counts : Counts) → OutcomeAt told m (Some f) Stat (Ok (replies.Stat counts)) m no_counts → counts_of f ≡ counts
counts_at (Some h) m f counts o = counted m m f counts o
counts_at None m f counts o = by o.whole_answer o.alike o.outcome
  where
    by : (a : Answer) → IsAlike a (answered counts) → Outcome o.whole (Some f) Stat o.segments a o.whole_next no_counts → counts_of f ≡ counts
    by (Err trouble) alike outcome = absurd (cc)
    by (Ok replies.Done) alike outcome = absurd (cc)
    by (Ok (replies.Actor actor)) alike outcome = absurd (cc)
    by (Ok (replies.Cache cache)) alike outcome = absurd (cc)
    by (Ok (replies.Region region)) alike outcome = absurd (cc)
    by (Ok (replies.Bytes bytes)) alike outcome = absurd (cc)
    by (Ok (replies.Status status)) alike outcome = absurd (cc)
    by (Ok (replies.Chain items)) alike outcome = absurd (cc)
    by (Ok (replies.Process process)) alike outcome = absurd (cc)
    by (Ok (replies.Port port)) alike outcome = absurd (cc)
    by (Ok (replies.Stat own)) alike outcome = counted o.whole o.whole_next f own outcome ∙ same_counts own counts alike

pub counts_told : (s : State) (f : PageForest) (counts : Counts) → s.forest ≡ Some f → TellsCounts s counts → counts_of f ≡ counts
counts_told s f counts shown tells = counts_at s.segments s.machine f counts (subst (λ (o : Option PageForest). OutcomeAt s.segments s.machine o Stat (Ok (replies.Stat counts)) s.machine no_counts) shown tells.outcome)

-- from a trial that began with some machine and some forest, which were those of the start
pub trial_ends : (status : Status) (script : Generated) (frames : ℕ) (old now : Outside) (m last : Machine) (f forest : PageForest) (counts : Counts)
    → m ≡ start frames PAGE → f ≡ no_forest → TellsCounts (scene_with now last forest).state counts → Summed status (scene_with old m f) (scene_with now last forest) (map command_of (lines_made script)) counts → TrialEnds status script frames old now
trial_ends status script frames old now m last f forest counts machine_is forest_is tells summed =
    let begun = start frames PAGE in
    let reads = map command_of (lines_made script) in
    let from : Summed status (scene_with old begun no_forest) (scene_with now last forest) reads counts =
    subst (λ (x : Machine). Summed status (scene_with old x no_forest) (scene_with now last forest) reads counts) machine_is (subst (λ (x : PageForest). Summed status (scene_with old m x) (scene_with now last forest) reads counts) forest_is summed) in
    record {
      last = last;
      forest = forest;
      summed = subst (Summed status (scene_with old begun no_forest) (scene_with now last forest) reads) (sym (counts_told (scene_with now last forest).state forest counts refl tells)) from;
      followed = ran_followed (scene_with old begun no_forest) frames PAGE (omega arith) old.segments refl (Summary status counts) (whole reads) old.written now.written (scene_with now last forest) _ reads refl (lines_formed (lines_made script)) from.ran;
    }
