-- The definition of the lines of scripts of processes computes them.
use Rattle.std.proofs.Common.{◌≡◌, [], ◌∷◌, Ok, Err, refl}
use Rattle.std.specs.Prelude.{codes}
use Rattle.std.specs.Fmt.{digits}
use Rattle.hex.specs.Hex.{decode_pairs}
use Rattle.vm_ids.specs.declared.command.MixCommand.TheVariants.{Exec, Grow, Store}
use Rattle.vm_ids.specs.declared.refusal.Refusal.TheVariants.{BadLine}
use Rattle.actor_script.specs.Words.{words_of}
use Rattle.actor_script.specs.Operands.{number_of, count_of, lettered, address_of, bytes_of}
use Rattle.actor_script.specs.MixForms.{exec_form, grow_form, store_form, mix_verb_form, mix_command_of}

pub exec : mix_command_of (codes "exec 1 1 2 1") ≡ Ok (Exec (record { 0 = 1 }) 1 2 1)
unfolding mix_command_of mix_verb_form exec_form words_of number_of count_of digits
exec = refl

pub grow : mix_command_of (codes "grow p12 3") ≡ Ok (Grow (record { 0 = 12 }) 3)
unfolding mix_command_of mix_verb_form grow_form words_of number_of count_of lettered digits
grow = refl

pub store : mix_command_of (codes "store p1 10000000 61") ≡ Ok (Store (record { 0 = 1 }) 268435456 (97 ∷ []))
unfolding mix_command_of mix_verb_form store_form words_of number_of lettered address_of bytes_of digits decode_pairs
store = refl

pub no_pages : mix_command_of (codes "exec 1 0 2 1") ≡ Err BadLine
unfolding mix_command_of mix_verb_form exec_form words_of number_of count_of digits
no_pages = refl
