-- What the calls of the processes have in common.
use Rattle.std.specs.Prelude.{◌≤◌, ℕ, ◌+◌, ◌^◌, Option}
use Rattle.vm_ids.specs.Counting.{MapperCounts, Rise}
use Rattle.vm_ids.specs.Held.{Segments}
use Rattle.vm_ids.specs.declared.command.MixCommand.{MixCommand}
use Rattle.vm_model.specs.Answering.{Answer}
use Rattle.vm_model.specs.Machine.{Machine}
use Rattle.vm_port.specs.declared.traits.mapper.Mapper.{Ghosts as GhostsOfMapper}
use Rattle.gmi_calls.specs.declared.gmi.Gmi.{Ghosts as GhostsOfGmi}
use Rattle.mix_process.specs.Outcome.{usage_of}
use Rattle.mix_process.specs.ProcessMachine.{start}
use Rattle.mix_process.specs.Seen.{state_of}
use Rattle.mix_process.specs.Stepping.{AnswerIs, State}
use Rattle.mix_process.specs.Tying.{CanCall}
use Rattle.mix_process.specs.declared.mix.Mix.{Mix}

-- the number that bounds the counters of the manager below
abbrev pub made_by : {Manager Mapper Chooser : Type 0} → GhostsOfGmi Manager Mapper Chooser
    → Mix Manager → ℕ
made_by G mix = G.made mix.gmi

-- there is no process, over a manager that stands for this machine
abbrev pub beginning : Machine → Option Segments → State
beginning m segments = record {
  processes = start m.page_bytes;
  usage = usage_of m;
  segments = segments;
}

-- A call raises the number that bounds the manager's counters by no more than this.
abbrev pub call_budget : ℕ
call_budget = 2 ^ 30

-- A call of the processes. `M` and `G` are the ghost members of the mapper and the manager.
pub record MixCall {Manager Mapper Chooser : Type 0} (M : GhostsOfMapper Mapper)
    (G : GhostsOfGmi Manager Mapper Chooser) (before : Mapper) (old : Mix Manager)
    (command : MixCommand) (answer : Answer) (after : Mapper) (new : Mix Manager) : Type 0 where
  pub can : CanCall G new (M.held after) (M.page_bytes after)
  pub made : G.made new.gmi ≤ G.made old.gmi + call_budget
  pub rises : MapperCounts
  pub rose : Rise (M.counts before) (M.counts after) rises
  pub is : AnswerIs (state_of G old (M.held before)) command answer rises
      (state_of G new (M.held after))
