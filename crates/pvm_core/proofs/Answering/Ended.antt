-- How a call with a mapper ends: the manager is sound and valid, the call is answered, and the
-- counters rise no further than they may.
use Rattle.std.proofs.Common.{◌≡◌, ℕ, Option, refl}
use Rattle.vm_ids.specs.Counting.{MapperCounts}
use Rattle.vm_ids.specs.Held.{Held}
use Rattle.vm_ids.specs.declared.command.Command.{Command}
use Rattle.local_cache.specs.Arena.{Arena}
use Rattle.residency.specs.declared.store.Store.{Store}
use Rattle.vm_model.specs.Answering.{Answer}
use Rattle.vm_model.specs.Run.{CallIs}
use Rattle.vm_port.specs.declared.traits.mapper.Mapper.{Ghosts}
use Rattle.gmi_calls.specs.Calling.{AsksFirst, MapperCall, RaisesMade}
use Rattle.contexts.specs.Actors.{Actors}
use Rattle.pvm_core.specs.Manager.{IsManagerSound, IsValid, Manager, machine_of, meaning, numbered, state_at}
use Rattle.pvm_core.proofs.Answering.Kept.{seen}

pub record Ended (p : Manager) (b : Arena) (u : Store) (t : Actors) (live : ℕ) (h g : Option Held) (c d : MapperCounts) (command : Command) (answer : Answer) : Type 0 where
  pub sound : IsManagerSound b u t live
  pub valid : IsValid (seen b u t) g
  pub answers : CallIs c d (state_at p h) command answer (state_at (seen b u t) g)
  pub made : RaisesMade (machine_of p h) command answer (machine_of (seen b u t) g) (numbered p) (numbered (seen b u t))

-- that is what the call promises
pub ended_call : {X : Type 0} (M : Ghosts X) (m n : X) {p : Manager} {b : Arena} {u : Store} {t : Actors} {live : ℕ} {command : Command} {answer : Answer} → Ended p b u t live (M.held m) (M.held n) (M.counts m) (M.counts n) command answer
    → AsksFirst command answer (M.counts m) (M.counts n) → M.page_bytes n ≡ M.page_bytes m → MapperCall M meaning m p command answer n (seen b u t)
ended_call M m n e asks page = record { valid = e.valid; answers = e.answers; asks_first = asks; made = e.made; room = refl; page = page }
