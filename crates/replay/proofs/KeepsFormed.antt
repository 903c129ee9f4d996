-- The lines of scripts of segments that are opened again ask only well-formed commands.
use Rattle.std.proofs.Common.{◌≡◌, ℕ, Bool, true, false, List, [], ◌∷◌, Option, None}
use Rattle.std.specs.Prelude.{bytes_eq, codes, if◌then◌else◌, IfOk, IfSome}
use Rattle.vm_ids.specs.declared.command.Command.{Command}
use Rattle.vm_ids.specs.declared.command.Command.TheVariants as plain_commands
use Rattle.vm_ids.specs.declared.command.KeepCommand.{KeepCommand}
use Rattle.vm_ids.specs.declared.command.KeepCommand.TheVariants as commands
use Rattle.vm_model.specs.Asking.{IsWellFormed}
use Rattle.actor_script.specs.KeepForms.{close_form, is_shared, keep_command_of, own_form_of}
use Rattle.actor_script.specs.Operands.{number_of}
use Rattle.actor_script.proofs.Sharing.{formed as with_formed}
use Rattle.actor_script.proofs.WellFormed.{any_then}
use Rattle.seg_manager.specs.Asking.{IsKeepWellFormed}

-- a command of actors that these scripts have
shared_is : (c : Command) → is_shared c ≡ true → IsWellFormed c → IsKeepWellFormed (commands.Plain c)
shared_is plain_commands.MakeActor is h = (tt, h)
shared_is (plain_commands.ExitActor actor) is h = (tt, h)
shared_is (plain_commands.MakeTemp pages) is h = (tt, h)
shared_is (plain_commands.OpenSegment seg) is h = tt
shared_is (plain_commands.Destroy cache) is h = absurd (cc is)
shared_is (plain_commands.Copy span) is h = (tt, h)
shared_is (plain_commands.Move span) is h = absurd (cc is)
shared_is (plain_commands.Map actor mapping) is h = (tt, h)
shared_is (plain_commands.Split region pages) is h = absurd (cc is)
shared_is (plain_commands.Protect region prot) is h = absurd (cc is)
shared_is (plain_commands.Lock region) is h = absurd (cc is)
shared_is (plain_commands.Unlock region) is h = absurd (cc is)
shared_is (plain_commands.Unmap region) is h = (tt, h)
shared_is (plain_commands.Status region) is h = absurd (cc is)
shared_is (plain_commands.Find actor address) is h = absurd (cc is)
shared_is (plain_commands.Load actor address length) is h = (tt, h)
shared_is (plain_commands.Store actor address piece) is h = (tt, h)
shared_is (plain_commands.Sync extent) is h = absurd (cc is)
shared_is (plain_commands.Flush extent) is h = absurd (cc is)
shared_is (plain_commands.Invalidate extent) is h = absurd (cc is)
shared_is (plain_commands.PageOut count) is h = (tt, h)
shared_is (plain_commands.Chain cache page) is h = absurd (cc is)
shared_is plain_commands.Stat is h = absurd (cc is)

close_is : (xs : List (List ℕ)) → IfSome (close_form xs) IsKeepWellFormed
unfolding close_form
close_is [] = tt
close_is (a ∷ []) = any_then (number_of a) _ IsKeepWellFormed (λ s. tt)
close_is (a ∷ b ∷ xs) = tt

if_is : (b : Bool) (o : Option KeepCommand) → IfSome o IsKeepWellFormed → IfSome (if b then o else None) IsKeepWellFormed
if_is true o h = h
if_is false o h = tt

own_is : (words : List (List ℕ)) → IfSome (own_form_of words) IsKeepWellFormed
own_is [] = tt
own_is (verb ∷ xs) = if_is (bytes_eq verb (codes "close")) _ (close_is xs)

pub formed : (line : List ℕ) → IfOk (keep_command_of line) IsKeepWellFormed
unfolding keep_command_of
formed line = with_formed is_shared commands.Plain own_form_of IsKeepWellFormed shared_is own_is line
