use Rattle.std.proofs.Common.{◌∙◌, ap, map}
use Rattle.replay.proofs.CommandLine.Kinds.{trial_asks}
use Rattle.replay.proofs.trial_words.trial_behind.Goals as goal

pub returns : goal.returns
returns c =
    trial_asks c.trial_of.result (map (λ w. w.now) c.args.words.now) _ _ (ap (map (λ w. w.now)) c.deref.ensures.value ∙ c.in_ok-parted.ensures.others) (ap (map (λ w. w.now)) c.deref-2.ensures.value ∙ c.in_ok-parted.ensures.options) c.trial_of.ensures
