-- The machine of ports for which the ports over a manager stand.
use Rattle.std.specs.Prelude.{ℕ, ◌+◌, Bool, List, [], ◌∷◌, map, Option, None, if◌then◌else◌}
use Rattle.std.specs.Option.{option_map_or}
use Rattle.vm_ids.specs.Held.{Held, segments_of}
use Rattle.vm_model.specs.Machine.{Cache, Machine, cache_of}
use Rattle.gmi_calls.specs.declared.gmi.Gmi.{Ghosts as GhostsOfGmi}
use Rattle.transit_ipc.specs.PortMachine as model
use Rattle.transit_ipc.specs.PortMachine.{PortMachine}
use Rattle.transit_ipc.specs.Stepping.{State}
use Rattle.transit_ipc.specs.Transit.{is_transit}
use Rattle.transit_ipc.specs.declared.port.Message.{Message}
use Rattle.transit_ipc.specs.declared.port.Port.{Port}
use Rattle.transit_ipc.specs.declared.table.Ports.{Ports}

-- these caches, the first of which has this number, but for those that are hidden
abbrev pub but_for : (ℕ → Bool) → ℕ → List (Option Cache) → List (Option Cache)
but_for hidden number [] = []
but_for hidden number (c ∷ cs) =
    (if hidden number then None else c) ∷ but_for hidden (number + 1) cs

-- the manager's machine without the caches in which messages wait
abbrev pub memory_seen : Machine → List Port → Machine
memory_seen m ports = record m { caches = but_for (is_transit ports) 1 m.caches }

-- the pages of a message are those of its cache
abbrev pub message_seen : Machine → Message → model.Message
message_seen m x = option_map_or (λ (c : Cache). c.pages) (cache_of m x.cache.0) []

abbrev pub port_seen : Machine → Port → model.Port
port_seen m p = record { depth = p.depth; messages = map (message_seen m) p.messages.items }

abbrev pub ports_seen : Machine → List Port → PortMachine
ports_seen m ports = record { memory = memory_seen m ports; ports = map (port_seen m) ports }

-- what the ports over a manager and what its mapper tells stand for
abbrev pub state_of : {Manager Mapper Chooser : Type 0} → GhostsOfGmi Manager Mapper Chooser
    → Ports Manager → Option Held → State
state_of G ports told = record {
  ports = ports_seen (G.machine ports.gmi told) ports.ports.items;
  segments = segments_of told;
}
