-- The law of the ports. The contract of a function in src/laws.rt names it, and so it is proved.
use Rattle.std.specs.Prelude.{◌≡◌, ◌==◌, ℕ, List, [], ◌∷◌, ◌++◌, length, take, drop, slice_get, Ok, if◌then◌else◌}
use Rattle.std.specs.Option.{option_map_or}
use Rattle.vm_ids.specs.Counting.{MapperCounts}
use Rattle.vm_ids.specs.Held.{Segments}
use Rattle.vm_ids.specs.declared.command.PortCommand.{PortCommand}
use Rattle.vm_ids.specs.declared.command.PortCommand.TheVariants as commands
use Rattle.vm_model.specs.Answering.{Answer}
use Rattle.vm_model.specs.Machine.{Cache, Machine, cache_of}
use Rattle.transit_ipc.specs.Outcome.{Outcome}
use Rattle.transit_ipc.specs.PortMachine.{Message, PortMachine, waiting}

-- One answer: to which command, what the segments held, by how much the mapper's counts rose, and
-- the machine before and after.
pub record Step : Type 0 where
  pub before : PortMachine
  pub command : PortCommand
  pub segments : Segments
  pub answer : Answer
  pub rises : MapperCounts
  pub next : PortMachine

-- one answer after another, whatever they are
abbrev pub Chain : PortMachine → List Step → PortMachine → Type 0
Chain m [] after = after ≡ m
Chain m (s ∷ steps) after =
    (s.before ≡ m) × Outcome s.before s.command s.segments s.answer s.next s.rises
    × Chain s.next steps after

-- what so many pages of a cache hold, from this page on
abbrev pub pages_held : Machine → ℕ → ℕ → ℕ → Message
pages_held m cache first pages =
    option_map_or (λ (c : Cache). take pages (drop first c.pages)) (cache_of m cache) []

-- how many pages the first message of a port has
abbrev pub first_length : PortMachine → ℕ → ℕ
first_length m port = option_map_or length (slice_get (waiting m port) 0) 0

-- what a command sends to a port: what its pages hold before it
abbrev pub sent_by : ℕ → Answer → PortCommand → PortMachine → List Message
sent_by port (Ok r) (commands.Send to e) before =
    if to.0 == port then pages_held before.memory e.cache.0 e.first.0 e.pages ∷ [] else []
sent_by port answer command before = []

-- what a command receives from a port: what its pages hold behind it
abbrev pub received_by : ℕ → Answer → PortCommand → PortMachine → PortMachine → List Message
received_by port (Ok r) (commands.Receive from cache first) before next =
    if from.0 == port
    then pages_held next.memory cache.0 first.0 (first_length before port) ∷ [] else []
received_by port answer command before next = []

abbrev pub sent : ℕ → List Step → List Message
sent port [] = []
sent port (s ∷ steps) = sent_by port s.answer s.command s.before ++ sent port steps

abbrev pub received : ℕ → List Step → List Message
received port [] = []
received port (s ∷ steps) =
    received_by port s.answer s.command s.before s.next ++ received port steps

-- Whatever is answered: what waits at a port and what is then sent to it are, in this order, what
-- is received from it and what waits at last. So each message is received once, first in, first
-- out, with the bytes of the moment of sending; or it waits.
abbrev pub MessagesAreInOrder : Type 0
MessagesAreInOrder =
    (m after : PortMachine) (steps : List Step) (port : ℕ) → Chain m steps after
    → waiting m port ++ sent port steps ≡ received port steps ++ waiting after port
