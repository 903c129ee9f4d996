-- Message ports over plain caches. There is no manager here, and no cache stands for a message.
use Rattle.std.specs.Prelude.{ℕ, zero, suc, List, [], ◌∷◌, ◌++◌, length, Option, None, slice_get, slice_set, sum_by}
use Rattle.std.specs.Option.{option_map_or}
use Rattle.vm_model.specs.Machine as plain
use Rattle.vm_model.specs.Machine.{Machine, Page}

-- Each message is the pages that were sent.
abbrev pub Message : Type 0
Message = List Page

-- How many messages may wait, and those that do, the first sent first.
pub record Port : Type 0 where
  pub depth : ℕ
  pub messages : List Message

-- The plain machine of actors, caches and regions, with the ports, which are numbered from 1 in the
-- order of making. A send takes the number of a cache, and no cache is given it.
pub record PortMachine : Type 0 where
  pub memory : Machine
  pub ports : List Port

-- how a run begins
abbrev pub start : ℕ → ℕ → PortMachine
start frames page_bytes = record { memory = plain.start frames page_bytes; ports = [] }

abbrev pub port_in : List Port → ℕ → Option Port
port_in ports zero = None
port_in ports (suc i) = slice_get ports i

abbrev pub port_of : PortMachine → ℕ → Option Port
port_of m n = port_in m.ports n

-- the messages that wait at a port; none where there is no such port
abbrev pub waiting : PortMachine → ℕ → List Message
waiting m n = option_map_or (λ (p : Port). p.messages) (port_of m n) []

-- how many pages wait at all ports
abbrev pub pages_at : Port → ℕ
pages_at p = sum_by length p.messages

abbrev pub waiting_pages : PortMachine → ℕ
waiting_pages m = sum_by pages_at m.ports

abbrev pub put_in : List Port → ℕ → Port → List Port
put_in ports zero p = ports
put_in ports (suc i) p = slice_set ports i p

abbrev pub put_port : PortMachine → ℕ → Port → PortMachine
put_port m n p = record m { ports = put_in m.ports n p }

-- the number of a cache is taken, and no cache has it
abbrev pub take_number : PortMachine → PortMachine
take_number m = record m { memory = record m.memory { caches = m.memory.caches ++ None ∷ [] } }
