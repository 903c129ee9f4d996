-- What a chorus is made of, and what holds of it between two calls.
use Rattle.std.specs.Prelude.{◌≡◌, ◌≤◌, ◌+◌, ◌*◌, ℕ, None, Option, Some, refl, replicate}
use Rattle.std.specs.Coded.{Coded, code_by, coded×, coded_ℕ}
use Rattle.vm_ids.specs.Held.{Held}
use Rattle.vm_ids.specs.declared.command.Command.{Command}
use Rattle.vm_ids.specs.declared.command.Command.TheVariants as commands
use Rattle.vm_port.specs.Mapping.{MapperInMemory, held_of}
use Rattle.vm_port.specs.contracts.memory.mapper.MemoryMapper.{the_row as mapper_row}
use Rattle.vm_model.specs.Answering.{Answer}
use Rattle.vm_model.specs.Machine.{Machine, live_pages, start}
use Rattle.vm_model.specs.Run.{CallIs, State}
use Rattle.vm_model.specs.declared.limits.TheConstants.{LIVE_PAGES}
use Rattle.gmi_calls.specs.Calling.{AsksFirst}
use Rattle.pvm_core.specs.Codes.{manager_code}
use Rattle.pvm_core.specs.Manager.{IsValid, Manager, machine_of, numbered, state_at}

-- the manager, its mapper in memory, and a number that the manager's counters don't pass
pub record Parts : Type 0 where
  pub manager : Manager
  pub mapper : MapperInMemory
  pub bound : ℕ

abbrev pub parts_code : Coded Parts
parts_code = code_by (Manager × (MapperInMemory × ℕ))
    (coded× manager_code (coded× mapper_row.coded coded_ℕ))
    (λ c. (c.manager, (c.mapper, c.bound)))
    (λ t. record { manager = t.0; mapper = t.1.0; bound = t.1.1 })
    (λ _. refl)

-- what the mapper holds
abbrev pub told_in : Parts → Option Held
told_in c = Some (held_of c.mapper)

-- the machine of plain bytes that it stands for
abbrev pub machine_in : Parts → Machine
machine_in c = machine_of c.manager (told_in c)

-- the same, with the page forest and the segments
abbrev pub state_in : Parts → State
state_in c = state_at c.manager (told_in c)

-- What holds between two calls: the manager is valid beside what the mapper holds, their pages have
-- one size, no more pages are live than may be, and the counters are within their bound.
pub record IsKept (c : Parts) : Type 0 where
  pub valid : IsValid c.manager (told_in c)
  pub fits : c.mapper.page_bytes ≡ (machine_in c).page_bytes
  pub live : live_pages (machine_in c) ≤ LIVE_PAGES
  pub counted : numbered c.manager ≤ c.bound

-- It just began: so does the machine, there are so many swap slots, which hold nothing, and no
-- segments, and nothing was counted.
pub record IsOpened (frames page swap : ℕ) (c : Parts) : Type 0 where
  pub machine : machine_in c ≡ start frames page
  pub slots : c.mapper.slots ≡ replicate swap None
  pub bound : c.bound ≡ 0

-- by how much a command may raise the counters
abbrev pub raised_by : Command → ℕ
raised_by (commands.Load actor address bytes) = 16
raised_by (commands.Store actor address piece) = 16
raised_by command = 32 * LIVE_PAGES + 8

-- A command is answered: by one call of the manager, which leads from one state to the next and
-- finds what ends it before a page comes or goes; and the bound rises by what the counters may have
-- risen.
pub record Answers (c : Parts) (command : Command) (answer : Answer) (d : Parts) : Type 0 where
  pub call : CallIs c.mapper.counts d.mapper.counts (state_in c) command answer (state_in d)
  pub asks_first : AsksFirst command answer c.mapper.counts d.mapper.counts
  pub bound : d.bound ≡ c.bound + raised_by command
