use Rattle.std.proofs.Common.{map}
use Rattle.replay.proofs.CommandLine.Parting.{Parting}
use Rattle.replay.proofs.trial_words.part.Given as goal

abbrev pub invariant-loop-word : goal.invariant-loop-word
invariant-loop-word l =
    Parting (map (λ w. w.now) l.words) l.word-index l.is_value (map (λ w. w.now) l.options.items) (map (λ w. w.now) l.others.items)
