use Rattle.std.proofs.Common.{◌≡◌, ◌++◌, length, map}
use Rattle.actor_script.specs.Words.{words_of}
use Rattle.actor_script.proofs.reading.words.split_words.Given as goal

abbrev pub invariant-loop-word : goal.invariant-loop-word
invariant-loop-word l = words_of l.line ≡ map (λ w. w.now) l.words.items ++ words_of l.left

abbrev pub decreases-loop-word : goal.decreases-loop-word
decreases-loop-word l = length l.left
