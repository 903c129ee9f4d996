-- What is done to machines without bytes.
use Rattle.std.proofs.Common.{◌≡◌, List, [], Option, Some, None, refl, sym, ap, ◌∙◌}
use Rattle.std.specs.Prelude.{option_map}
use Rattle.std.specs.Option.{option_map_or}
use Rattle.vm_ids.specs.declared.command.PortCommand.{PortCommand}
use Rattle.interface_callers.proofs.Words.{Answer, Cache, Held, Machine, MapperCounts, Page, Segments, blank, blank_cache, cache_of, segments_of}
use Rattle.interface_callers.proofs.Blanks.{as_untold, blank_at, no_segments}
use Rattle.interface_callers.proofs.Answers.{alike_self}
use Rattle.interface_callers.proofs.Lists.{then_same}
use Rattle.transit_ipc.specs.Outcome.{Outcome}
use Rattle.transit_ipc.specs.Seen.{message_seen, port_seen, ports_seen}
use Rattle.transit_ipc.specs.Stepping.{FindsAllBytes, State, StepAt, blank_message, blank_port, blank_ports}
use Rattle.transit_ipc.specs.Transit.{is_transit}
use Rattle.transit_ipc.specs.Tying.{IsUntoldBlank}
use Rattle.transit_ipc.specs.declared.port.Message.{Message}
use Rattle.transit_ipc.specs.declared.port.Port.{Port}
use Rattle.transit_ipc.proofs.Seeing.Seen.{blank_seen}

-- What is seen

abbrev pages_in : Option Cache → List Page
pages_in o = option_map_or (λ (c : Cache). c.pages) o []

pages_blank : (o : Option Cache) → pages_in (option_map blank_cache o) ≡ blank_message (pages_in o)
pages_blank None = refl
pages_blank (Some c) = refl

message_blank : (w : Machine) (x : Message) → message_seen (blank w) x ≡ blank_message (message_seen w x)
message_blank w x = ap pages_in (blank_at w x.cache.0) ∙ pages_blank (cache_of w x.cache.0)

pub seen_blank : (w : Machine) (ports : List Port) → ports_seen (blank w) ports ≡ blank_ports (ports_seen w ports)
seen_blank w ports = λ i. record {
  memory = record w { caches = sym (blank_seen (is_transit ports) 1 w.caches) i };
  ports = sym (then_same blank_port (port_seen w) (port_seen (blank w)) (λ p j. record { depth = p.depth; messages = then_same blank_message (message_seen w) (message_seen (blank w)) (λ x. sym (message_blank w x)) p.messages.items j }) ports) i;
}

-- where a machine has no bytes, neither has what is seen of it
seen_forgotten : (m : Machine) (ports : List Port) → m ≡ blank m → ports_seen m ports ≡ blank_ports (ports_seen m ports)
seen_forgotten m ports is = ap (λ (x : Machine). ports_seen x ports) is ∙ seen_blank m ports

-- the state over a machine
abbrev pub over : Option Segments → Machine → List Port → State
over told m ports = record { ports = ports_seen m ports; segments = told }

-- A step whose outcome doesn't depend on what the segments hold, where this is told and where it
-- isn't.
pub step_over : (was told : Option Held) (m n : Machine) (ports now : List Port) (command : PortCommand) (a : Answer) (rises : MapperCounts) → IsUntoldBlank was m → IsUntoldBlank told n → segments_of told ≡ segments_of was → FindsAllBytes command (ports_seen m ports)
    → ((h : Segments) → Outcome (ports_seen m ports) command h a (ports_seen n now) rises) → StepAt (segments_of told) (over (segments_of was) m ports) command a rises (over (segments_of told) n now)
step_over was (Some h) m n ports now command a rises bare bare_now same bytes outcome = outcome _
step_over was None m n ports now command a rises bare bare_now same bytes outcome = record {
  whole = over (segments_of was) m ports;
  whole_next = over None n now;
  segments = no_segments;
  whole_answer = a;
  is = λ i. record { ports = seen_forgotten m ports (as_untold was (sym same) bare) i; segments = segments_of was };
  is_next = λ i. record { ports = seen_forgotten n now bare_now i; segments = None };
  alike = alike_self a;
  leads = record { bytes = bytes; outcome = outcome no_segments };
}
