-- What a machine answers.
use Rattle.std.proofs.Common.{◌≡◌, ◌+◌, ℕ, Some, subst}
use Rattle.vm_ids.specs.declared.command.Command.{Command}
use Rattle.vm_port.specs.Mapping.{MapperInMemory, held_of}
use Rattle.vm_model.specs.Answering.{Answer}
use Rattle.vm_model.specs.Run.{CallIs}
use Rattle.gmi_calls.specs.Calling.{AsksFirst}
use Rattle.pvm_core.specs.Manager.{Manager, state_at}
use Rattle.chorus_c.specs.Parts.{Answers, Parts, raised_by, state_in}

-- by what its parts were before the call
pub answered : (c d : Parts) (p : Manager) (m : MapperInMemory) (bound : ℕ) (command : Command) (answer : Answer) → record { manager = p; mapper = m; bound = bound } ≡ c
    → CallIs m.counts d.mapper.counts (state_at p (Some (held_of m))) command answer (state_in d) → AsksFirst command answer m.counts d.mapper.counts → d.bound ≡ bound + raised_by command
    → Answers c command answer d
answered c d p m bound command answer is call first risen =
    subst (λ (x : Parts). Answers x command answer d) is (record { call = call; asks_first = first; bound = risen })
