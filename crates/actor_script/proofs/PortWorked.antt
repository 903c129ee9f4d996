-- The definition of the lines of scripts of message ports computes them.
use Rattle.std.proofs.Common.{◌≡◌, Ok, Err, refl}
use Rattle.std.specs.Prelude.{codes}
use Rattle.std.specs.Fmt.{digits}
use Rattle.vm_ids.specs.declared.command.Command.TheVariants.{PageOut}
use Rattle.vm_ids.specs.declared.command.PortCommand.TheVariants.{Plain, Port, Receive, Send}
use Rattle.vm_ids.specs.declared.refusal.Refusal.TheVariants.{BadLine}
use Rattle.actor_script.specs.Words.{words_of}
use Rattle.actor_script.specs.Forms.{verb_form, extent_of, pageout_form, stat_form}
use Rattle.actor_script.specs.Operands.{number_of, count_of, lettered}
use Rattle.actor_script.specs.PortForms.{depth_of, port_form, send_form, receive_form, port_verb_form, port_command_of}

pub port : port_command_of (codes "port 64") ≡ Ok (Port 64)
unfolding port_command_of verb_form port_verb_form port_form words_of number_of count_of depth_of digits
port = refl

pub send : port_command_of (codes "send q1 c2 0 3") ≡ Ok (Send (record { 0 = 1 }) (record { cache = record { 0 = 2 }; first = record { 0 = 0 }; pages = 3 }))
unfolding port_command_of verb_form port_verb_form send_form extent_of words_of number_of count_of lettered digits
send = refl

pub receive : port_command_of (codes "receive q1 c2 0") ≡ Ok (Receive (record { 0 = 1 }) (record { 0 = 2 }) (record { 0 = 0 }))
unfolding port_command_of verb_form port_verb_form receive_form words_of number_of lettered digits
receive = refl

pub shared : port_command_of (codes "pageout 4") ≡ Ok (Plain (PageOut 4))
unfolding port_command_of verb_form pageout_form words_of number_of count_of digits
shared = refl

pub too_deep : port_command_of (codes "port 65") ≡ Err BadLine
unfolding port_command_of verb_form port_verb_form port_form words_of number_of count_of depth_of digits
too_deep = refl

pub not_shared : port_command_of (codes "stat") ≡ Err BadLine
unfolding port_command_of verb_form port_verb_form stat_form words_of
not_shared = refl
