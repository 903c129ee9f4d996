-- The lines of scripts of message ports ask only well-formed commands.
use Rattle.std.proofs.Common.{◌≡◌, ◌≤◌, ℕ, Bool, true, false, List, [], ◌∷◌, Option}
use Rattle.std.specs.Prelude.{bytes_eq, codes, if◌then◌else◌, IfOk, IfSome}
use Rattle.vm_ids.specs.declared.command.Command.{Command}
use Rattle.vm_ids.specs.declared.command.Command.TheVariants as plain_commands
use Rattle.vm_ids.specs.declared.command.Extent.{Extent}
use Rattle.vm_ids.specs.declared.command.PortCommand.{PortCommand}
use Rattle.vm_ids.specs.declared.command.PortCommand.TheVariants as commands
use Rattle.vm_model.specs.Asking.{IsWellFormed}
use Rattle.actor_script.specs.Forms.{extent_of}
use Rattle.actor_script.specs.Operands.{count_of, lettered, number_of}
use Rattle.actor_script.specs.PortForms.{depth_of, is_shared, own_form_of, port_command_of, port_form, port_of, port_verb_form, receive_form, send_form}
use Rattle.actor_script.proofs.Sharing.{formed as with_formed}
use Rattle.actor_script.proofs.WellFormed.{any_then, counts, such_then}
use Rattle.transit_ipc.specs.Asking.{IsPortWellFormed}

-- a command of actors that these scripts have
shared_is : (c : Command) → is_shared c ≡ true → IsWellFormed c → IsPortWellFormed (commands.Plain c)
shared_is plain_commands.MakeActor is h = (tt, h)
shared_is (plain_commands.ExitActor actor) is h = absurd (cc is)
shared_is (plain_commands.MakeTemp pages) is h = (tt, h)
shared_is (plain_commands.OpenSegment seg) is h = absurd (cc is)
shared_is (plain_commands.Destroy cache) is h = absurd (cc is)
shared_is (plain_commands.Copy span) is h = absurd (cc is)
shared_is (plain_commands.Move span) is h = absurd (cc is)
shared_is (plain_commands.Map actor mapping) is h = (tt, h)
shared_is (plain_commands.Split region pages) is h = absurd (cc is)
shared_is (plain_commands.Protect region prot) is h = absurd (cc is)
shared_is (plain_commands.Lock region) is h = absurd (cc is)
shared_is (plain_commands.Unlock region) is h = absurd (cc is)
shared_is (plain_commands.Unmap region) is h = absurd (cc is)
shared_is (plain_commands.Status region) is h = absurd (cc is)
shared_is (plain_commands.Find actor address) is h = absurd (cc is)
shared_is (plain_commands.Load actor address length) is h = (tt, h)
shared_is (plain_commands.Store actor address piece) is h = (tt, h)
shared_is (plain_commands.Sync extent) is h = absurd (cc is)
shared_is (plain_commands.Flush extent) is h = absurd (cc is)
shared_is (plain_commands.Invalidate extent) is h = absurd (cc is)
shared_is (plain_commands.PageOut count) is h = (tt, h)
shared_is (plain_commands.Chain cache page) is h = absurd (cc is)
shared_is plain_commands.Stat is h = absurd (cc is)

-- the forms that scripts of ports alone have

port_is : (xs : List (List ℕ)) → IfSome (port_form xs) IsPortWellFormed
unfolding port_form
port_is [] = tt
port_is (a ∷ []) = any_then (depth_of a) _ IsPortWellFormed (λ n. tt)
port_is (a ∷ b ∷ xs) = tt

abbrev HasPages : Extent → Type 0
HasPages e = 1 ≤ e.pages

extent_is : (xs : List (List ℕ)) → IfSome (extent_of xs) HasPages
unfolding extent_of
extent_is [] = tt
extent_is (a ∷ []) = tt
extent_is (a ∷ b ∷ []) = tt
extent_is (a ∷ b ∷ c ∷ []) =
    any_then (lettered 99 a) _ HasPages (λ n.
    any_then (number_of b) _ HasPages (λ o.
    such_then (count_of c) _ (λ n. 1 ≤ n) HasPages (counts c) (λ n some. some)))
extent_is (a ∷ b ∷ c ∷ d ∷ xs) = tt

send_is : (xs : List (List ℕ)) → IfSome (send_form xs) IsPortWellFormed
unfolding send_form
send_is [] = tt
send_is (a ∷ xs) =
    any_then (port_of a) _ IsPortWellFormed (λ q.
    such_then (extent_of xs) _ HasPages IsPortWellFormed (extent_is xs) (λ e some. some))

receive_is : (xs : List (List ℕ)) → IfSome (receive_form xs) IsPortWellFormed
unfolding receive_form
receive_is [] = tt
receive_is (a ∷ []) = tt
receive_is (a ∷ b ∷ []) = tt
receive_is (a ∷ b ∷ c ∷ []) =
    any_then (port_of a) _ IsPortWellFormed (λ q.
    any_then (lettered 99 b) _ IsPortWellFormed (λ n.
    any_then (number_of c) _ IsPortWellFormed (λ o. tt)))
receive_is (a ∷ b ∷ c ∷ d ∷ xs) = tt

-- of two forms, one is chosen
if_both : (b : Bool) (o p : Option PortCommand) → IfSome o IsPortWellFormed → IfSome p IsPortWellFormed → IfSome (if b then o else p) IsPortWellFormed
if_both true o p e f = e
if_both false o p e f = f

own_is : (words : List (List ℕ)) → IfSome (own_form_of words) IsPortWellFormed
unfolding port_verb_form
own_is [] = tt
own_is (verb ∷ xs) =
    if_both (bytes_eq verb (codes "port")) _ _ (port_is xs) (
    if_both (bytes_eq verb (codes "send")) _ _ (send_is xs) (
    if_both (bytes_eq verb (codes "receive")) _ _ (receive_is xs) tt))

-- and so is what a line asks
pub formed : (line : List ℕ) → IfOk (port_command_of line) IsPortWellFormed
unfolding port_command_of
formed line = with_formed is_shared commands.Plain own_form_of IsPortWellFormed shared_is own_is line
