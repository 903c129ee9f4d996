-- Lines that are answered at once: what was answered.
use Rattle.std.proofs.Common.{◌≡◌, Ok, Err, refl, subst}
use Rattle.vm_ids.specs.Counting.{MapperCounts, Rise, no_counts}
use Rattle.vm_ids.specs.declared.refusal.Refusal.{Refusal}
use Rattle.vm_ids.specs.declared.reply.Trouble.TheVariants.{Refused}
use Rattle.vm_model.specs.Answering.{Answer}
use Rattle.gmi_calls.proofs.Rising.{rise_none}
use Rattle.line_service.specs.Serving.{AnswersBy, AnyRise}
use Rattle.replay.specs.AtOnce.{Meaning, Read, StepIs, at_once}

module _ {Command : Type 0} (meaning : Meaning Command) where
  -- a command was answered
  pub answered : (command : Command) (before after rises : MapperCounts) (old : meaning.State) (a : Answer) (new : meaning.State) → Rise before after rises → meaning.Is old command a rises new → AnswersBy (at_once meaning) AnyRise before after old (Ok command) a new
  answered command before after rises old a new rose step = record { rises = rises; rose = rose; is = step; so = tt }

  module _ (read : Read Command) where
    -- a line that is a command
    pub of_line : (command : Command) (before after : MapperCounts) (old : meaning.State) (a : Answer) (new : meaning.State) → Ok command ≡ read → AnswersBy (at_once meaning) AnyRise before after old (Ok command) a new → AnswersBy (at_once meaning) AnyRise before after old read a new
    of_line command before after old a new is h = subst (λ (r : Read Command). AnswersBy (at_once meaning) AnyRise before after old r a new) is h

    -- a line that is none
    pub refused : (refusal : Refusal) (c : MapperCounts) (s : meaning.State) → Err refusal ≡ read → AnswersBy (at_once meaning) AnyRise c c s read (Err (Refused refusal)) s
    refused refusal c s is = record {
      rises = no_counts;
      rose = rise_none c;
      is = subst (λ (r : Read Command). StepIs meaning.Is s r (Err (Refused refusal)) no_counts s) is (record { same = refl; refused = refl; no_rise = refl });
      so = tt;
    }
