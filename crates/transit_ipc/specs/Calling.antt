-- What the calls of the ports have in common.
use Rattle.std.specs.Prelude.{◌≡◌, ◌≤◌, ℕ, ◌+◌, ◌^◌, [], Option}
use Rattle.vm_ids.specs.Counting.{MapperCounts, Rise, no_counts}
use Rattle.vm_ids.specs.Held.{Segments}
use Rattle.vm_ids.specs.declared.command.Command.{Command}
use Rattle.vm_ids.specs.declared.command.Command.TheVariants as plain_commands
use Rattle.vm_ids.specs.declared.command.PortCommand.{PortCommand}
use Rattle.vm_ids.specs.declared.command.PortCommand.TheVariants as commands
use Rattle.vm_model.specs.Answering.{Answer}
use Rattle.vm_model.specs.Machine.{Machine}
use Rattle.vm_port.specs.declared.traits.mapper.Mapper.{Ghosts as GhostsOfMapper}
use Rattle.gmi_calls.specs.declared.gmi.Gmi.{Ghosts as GhostsOfGmi}
use Rattle.transit_ipc.specs.Outcome.{Outcome}
use Rattle.transit_ipc.specs.Seen.{ports_seen, state_of}
use Rattle.transit_ipc.specs.Stepping.{AnswerIs, State}
use Rattle.transit_ipc.specs.Tying.{AreTied, CanCall}
use Rattle.transit_ipc.specs.declared.table.Ports.{Ports}

-- the commands of the manager that a script of ports has
abbrev pub IsServed : Command → Type 0
IsServed plain_commands.MakeActor = Unit {0}
IsServed (plain_commands.MakeTemp pages) = Unit {0}
IsServed (plain_commands.Map actor mapping) = Unit {0}
IsServed (plain_commands.Load actor address length) = Unit {0}
IsServed (plain_commands.Store actor address piece) = Unit {0}
IsServed (plain_commands.PageOut count) = Unit {0}
IsServed command = ⊥

-- the number that bounds the counters of the manager below
abbrev pub made_by : {Manager Mapper Chooser : Type 0} → GhostsOfGmi Manager Mapper Chooser
    → Ports Manager → ℕ
made_by G ports = G.made ports.gmi

-- there is no port, over a manager that stands for this machine
abbrev pub beginning : Machine → Option Segments → State
beginning m segments = record { ports = record { memory = m; ports = [] }; segments = segments }

-- A call raises the number that bounds the manager's counters by no more than this.
abbrev pub call_budget : ℕ
call_budget = 2 ^ 30

-- A call of the ports. `M` and `G` are the ghost members of the mapper and the manager.
pub record PortCall {Manager Mapper Chooser : Type 0} (M : GhostsOfMapper Mapper)
    (G : GhostsOfGmi Manager Mapper Chooser) (before : Mapper) (old : Ports Manager)
    (command : PortCommand) (answer : Answer) (after : Mapper) (new : Ports Manager) : Type 0 where
  pub can : CanCall G new (M.held after) (M.page_bytes after)
  pub made : G.made new.gmi ≤ G.made old.gmi + call_budget
  pub rises : MapperCounts
  pub rose : Rise (M.counts before) (M.counts after) rises
  pub is : AnswerIs (state_of G old (M.held before)) command answer rises
      (state_of G new (M.held after))

-- A port was made, or not: the manager isn't called.
pub record IsMade {Manager : Type 0} (old : Ports Manager) (depth : ℕ) (answer : Answer)
    (new : Ports Manager) : Type 0 where
  pub gmi : new.gmi ≡ old.gmi
  pub tied : (m : Machine) → AreTied m old.ports.items → AreTied m new.ports.items
  pub outcome : (m : Machine) (h : Segments) → Outcome (ports_seen m old.ports.items)
      (commands.Port depth) h answer (ports_seen m new.ports.items) no_counts
