-- Lines of scripts of processes: which are none, and that they ask only well-formed commands.
use Rattle.std.proofs.Common.{◌≡◌, ◌<◌, ◌≤◌, ◌⊎◌, ℕ, Bool, true, false, List, [], ◌∷◌, length, Option, None, Err, refl, arith}
use Rattle.std.specs.Prelude.{option_and_then, IfSome, bytes_eq, codes, if◌then◌else◌}
use Rattle.vm_ids.specs.declared.command.MixCommand.{MixCommand}
use Rattle.vm_ids.specs.declared.refusal.Refusal.TheVariants.{BadLine}
use Rattle.actor_script.specs.Words.{words_of}
use Rattle.actor_script.specs.Operands.{number_of, count_of, length_of, address_of, bytes_of}
use Rattle.vm_ids.specs.MixAsking.{IsMixWellFormed}
use Rattle.actor_script.specs.MixForms.{process_of, exec_form, fork_form, exit_form, grow_form, load_form, store_form, pageout_form, mix_verb_form, mix_form_of, mix_command_of}
use Rattle.actor_script.proofs.Forms.{not_asked}
use Rattle.actor_script.proofs.WellFormed.{any_then, such_then, counts, lengths}

-- The command of these operands is well formed, and there is none of more than six.
record IsForm (operands : List (List ℕ)) (asked : Option MixCommand) : Type 0 where
  few : 6 < length operands → asked ≡ None
  formed : IfSome asked IsMixWellFormed

none_is : (xs : List (List ℕ)) → IsForm xs None
none_is xs = record { few = λ h. refl; formed = tt }

-- a count of pages, and what it is asked for
pages_then : (word : List ℕ) (f : ℕ → Option MixCommand) → ((n : ℕ) → 1 ≤ n → IfSome (f n) IsMixWellFormed) → IfSome (option_and_then f (count_of word)) IsMixWellFormed
pages_then word f h = such_then (count_of word) f (λ n. 1 ≤ n) IsMixWellFormed (counts word) h

exec_is : (xs : List (List ℕ)) → IsForm xs (exec_form xs)
unfolding exec_form
exec_is [] = none_is _
exec_is (a ∷ []) = none_is _
exec_is (a ∷ b ∷ []) = none_is _
exec_is (a ∷ b ∷ c ∷ []) = none_is _
exec_is (a ∷ b ∷ c ∷ d ∷ []) = record {
  few = λ h. absurd (omega arith);
  formed =
      any_then (number_of a) _ IsMixWellFormed (λ s.
      pages_then b _ (λ t some. pages_then c _ (λ e more. pages_then d _ (λ k last. (some, more, last)))));
}
exec_is (a ∷ b ∷ c ∷ d ∷ e ∷ xs) = none_is _

fork_is : (xs : List (List ℕ)) → IsForm xs (fork_form xs)
unfolding fork_form
fork_is [] = none_is _
fork_is (a ∷ []) = record { few = λ h. absurd (omega arith); formed = any_then (process_of a) _ IsMixWellFormed (λ p. tt) }
fork_is (a ∷ b ∷ xs) = none_is _

exit_is : (xs : List (List ℕ)) → IsForm xs (exit_form xs)
unfolding exit_form
exit_is [] = none_is _
exit_is (a ∷ []) = record { few = λ h. absurd (omega arith); formed = any_then (process_of a) _ IsMixWellFormed (λ p. tt) }
exit_is (a ∷ b ∷ xs) = none_is _

grow_is : (xs : List (List ℕ)) → IsForm xs (grow_form xs)
unfolding grow_form
grow_is [] = none_is _
grow_is (a ∷ []) = none_is _
grow_is (a ∷ b ∷ []) = record {
  few = λ h. absurd (omega arith);
  formed = any_then (process_of a) _ IsMixWellFormed (λ p. pages_then b _ (λ n some. some));
}
grow_is (a ∷ b ∷ c ∷ xs) = none_is _

load_is : (xs : List (List ℕ)) → IsForm xs (load_form xs)
unfolding load_form
load_is [] = none_is _
load_is (a ∷ []) = none_is _
load_is (a ∷ b ∷ []) = none_is _
load_is (a ∷ b ∷ c ∷ []) = record {
  few = λ h. absurd (omega arith);
  formed =
      any_then (process_of a) _ IsMixWellFormed (λ p.
      any_then (address_of b) _ IsMixWellFormed (λ at.
      such_then (length_of c) _ (λ n. (1 ≤ n) × (n ≤ 64)) IsMixWellFormed (lengths c) (λ n within. within)));
}
load_is (a ∷ b ∷ c ∷ d ∷ xs) = none_is _

store_is : (xs : List (List ℕ)) → IsForm xs (store_form xs)
unfolding store_form
store_is [] = none_is _
store_is (a ∷ []) = none_is _
store_is (a ∷ b ∷ []) = none_is _
store_is (a ∷ b ∷ c ∷ []) = record {
  few = λ h. absurd (omega arith);
  formed =
      any_then (process_of a) _ IsMixWellFormed (λ p.
      any_then (address_of b) _ IsMixWellFormed (λ at.
      any_then (bytes_of c) _ IsMixWellFormed (λ piece. tt)));
}
store_is (a ∷ b ∷ c ∷ d ∷ xs) = none_is _

pageout_is : (xs : List (List ℕ)) → IsForm xs (pageout_form xs)
unfolding pageout_form
pageout_is [] = none_is _
pageout_is (a ∷ []) = record { few = λ h. absurd (omega arith); formed = pages_then a _ (λ n some. some) }
pageout_is (a ∷ b ∷ xs) = none_is _

either : (xs : List (List ℕ)) (b : Bool) (o p : Option MixCommand) → IsForm xs o → IsForm xs p → IsForm xs (if b then o else p)
either xs true o p e f = e
either xs false o p e f = f

verb_is : (verb : List ℕ) (xs : List (List ℕ)) → IsForm xs (mix_verb_form verb xs)
unfolding mix_verb_form
verb_is verb xs =
    either xs (bytes_eq verb (codes "exec")) _ _ (exec_is xs) (
    either xs (bytes_eq verb (codes "fork")) _ _ (fork_is xs) (
    either xs (bytes_eq verb (codes "exit")) _ _ (exit_is xs) (
    either xs (bytes_eq verb (codes "grow")) _ _ (grow_is xs) (
    either xs (bytes_eq verb (codes "load")) _ _ (load_is xs) (
    either xs (bytes_eq verb (codes "store")) _ _ (store_is xs) (
    either xs (bytes_eq verb (codes "pageout")) _ _ (pageout_is xs) (none_is xs)))))))

no_longer : (words : List (List ℕ)) → 7 < length words → mix_form_of words ≡ None
no_longer [] h = refl
no_longer (verb ∷ operands) h = (verb_is verb operands).few (omega arith)

pub no_command : (line : List ℕ) → (256 < length line) ⊎ (7 < length (words_of line)) → mix_command_of line ≡ Err BadLine
unfolding mix_command_of
no_command line h = not_asked mix_form_of no_longer line h

pub formed : (words : List (List ℕ)) → IfSome (mix_form_of words) IsMixWellFormed
formed [] = tt
formed (verb ∷ operands) = (verb_is verb operands).formed
