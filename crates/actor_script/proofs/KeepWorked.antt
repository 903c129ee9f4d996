-- The definition of the lines of scripts of segments that are opened again computes them.
use Rattle.std.proofs.Common.{◌≡◌, Ok, Err, refl}
use Rattle.std.specs.Prelude.{codes}
use Rattle.std.specs.Fmt.{digits}
use Rattle.vm_ids.specs.declared.command.Command.TheVariants.{OpenSegment}
use Rattle.vm_ids.specs.declared.command.KeepCommand.TheVariants.{Close, Plain}
use Rattle.vm_ids.specs.declared.refusal.Refusal.TheVariants.{BadLine}
use Rattle.actor_script.specs.Words.{words_of}
use Rattle.actor_script.specs.Forms.{verb_form, open_form, destroy_form}
use Rattle.actor_script.specs.Operands.{number_of, lettered}
use Rattle.actor_script.specs.KeepForms.{close_form, keep_command_of}

pub open_again : keep_command_of (codes "open 7") ≡ Ok (Plain (OpenSegment (record { 0 = 7 })))
unfolding keep_command_of verb_form open_form words_of number_of digits
open_again = refl

pub close : keep_command_of (codes "close 7") ≡ Ok (Close (record { 0 = 7 }))
unfolding keep_command_of verb_form close_form words_of number_of digits
close = refl

pub two : keep_command_of (codes "close 7 8") ≡ Err BadLine
unfolding keep_command_of verb_form close_form words_of
two = refl

pub not_shared : keep_command_of (codes "destroy c1") ≡ Err BadLine
unfolding keep_command_of verb_form destroy_form words_of number_of lettered digits
not_shared = refl
