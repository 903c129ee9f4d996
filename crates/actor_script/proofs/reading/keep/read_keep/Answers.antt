use Rattle.std.proofs.Common.{sym, ◌∙◌}
use Rattle.vm_ids.specs.declared.command.KeepCommand.TheVariants.{Plain}
use Rattle.actor_script.specs.KeepForms.{is_shared, keep_command_of, own_form_of}
use Rattle.actor_script.proofs.Sharing.{of_shared, of_other, of_none}
use Rattle.actor_script.proofs.reading.keep.read_keep.Goals as goal

pub returns-then-is_shared : goal.returns-then-is_shared
unfolding keep_command_of
returns-then-is_shared c = sym (of_shared is_shared Plain own_form_of c.args.line.now c.in-Ok.command (sym c.in-Ok.ensures.command) (sym c.is_shared.ensures ∙ c.if-is_shared.true))

pub returns-else-is_shared : goal.returns-else-is_shared
unfolding keep_command_of
returns-else-is_shared c = c.read_own.ensures ∙ sym (of_other is_shared Plain own_form_of c.args.line.now c.in-Ok.command (sym c.in-Ok.ensures.command) (sym c.is_shared.ensures ∙ c.if-is_shared.false))

pub returns-in-Err : goal.returns-in-Err
unfolding keep_command_of
returns-in-Err c = c.read_own-in-Err.ensures ∙ sym (of_none is_shared Plain own_form_of c.args.line.now c.in-Err.field-0 (sym c.in-Err.ensures.command))
