-- What is said of each call, from its parts.
use Rattle.std.proofs.Common.{◌≡◌, [], Option, refl, sym, subst, arith}
use Rattle.std.specs.Prelude.{Err, Ok, Result}
use Rattle.vm_ids.specs.Counting.{MapperCounts, no_counts}
use Rattle.vm_ids.specs.Held.{Held}
use Rattle.vm_ids.specs.declared.command.Command.{Command}
use Rattle.vm_ids.specs.declared.command.Command.TheVariants as commands
use Rattle.vm_ids.specs.declared.numbers.PageNo.{PageNo}
use Rattle.vm_ids.specs.declared.refusal.Refusal.{Refusal}
use Rattle.vm_ids.specs.declared.reply.FaultAt.TheVariants as faults
use Rattle.vm_ids.specs.declared.reply.Reply.TheVariants as replies
use Rattle.vm_ids.specs.declared.reply.Trouble.{Trouble}
use Rattle.vm_ids.specs.declared.reply.Trouble.TheVariants as troubles
use Rattle.vm_port.specs.declared.traits.mapper.Mapper.{Ghosts}
use Rattle.vm_port.specs.declared.traits.failed.Failed.{Failed}
use Rattle.vm_model.specs.Answering.{Answer, answer_by}
use Rattle.vm_model.specs.Run.{AnswerIs, CallIs}
use Rattle.gmi_calls.specs.Calling.{AsksFirst, CallDone, MapperCall, NoTraffic, done_by}
use Rattle.residency.specs.Causes.{Traffic}
use Rattle.residency.specs.declared.miss.Miss.{Miss}
use Rattle.residency.specs.declared.miss.Miss.TheVariants.{Pull, Victim}
use Rattle.pvm_core.specs.Manager.{IsValid, Manager, meaning, state_at}
use Rattle.pvm_core.specs.Pieces.{fault_at}
use Rattle.pvm_core.specs.Saving.{IsBeforeSaves}
use Rattle.pvm_core.proofs.Answering.Answered.{victim}
use Rattle.pvm_core.proofs.Extents.Push.{failing}

-- nothing comes or goes where the counts stay
pub no_traffic : (c : MapperCounts) → NoTraffic c c
no_traffic c = record { pulled = λ low. omega arith; pushed = λ low. omega arith }

-- nor where calls only asked
pub quiet_traffic : {c d : MapperCounts} → Traffic 0 0 c d → NoTraffic c d
quiet_traffic t = record { pulled = t.pulled; pushed = t.pushed }

-- then write access was asked first, whatever the answer is
pub asks_quiet : (command : Command) (answer : Answer) (c d : MapperCounts) → NoTraffic c d → AsksFirst command answer c d
asks_quiet command (Err (troubles.Refused r)) c d t = t
asks_quiet command (Err (troubles.Mapper (faults.Access page))) c d t = t
asks_quiet (commands.OpenSegment seg) (Err troubles.Memory) c d t = tt
asks_quiet command (Err troubles.Memory) c d t = t
asks_quiet command answer c d t = tt

-- and where the saves come behind it
pub asks_before : (command : Command) (trouble : Trouble) (c d : MapperCounts) → (IsBeforeSaves trouble → NoTraffic c d) → AsksFirst command (Err trouble) c d
asks_before command (troubles.Mapper (faults.Save done)) c d t = tt
asks_before command (troubles.Mapper faults.Opening) c d t = tt
asks_before command (troubles.Mapper (faults.Access page)) c d t = t (λ done e. (let no : troubles.Mapper (faults.Access page) ≡ troubles.Mapper (faults.Save done) = e in cc no))
asks_before command (troubles.Mapper (faults.Page page)) c d t = tt
asks_before command (troubles.Mapper faults.Victim) c d t = tt
asks_before command troubles.Memory c d t = asks_quiet command (Err troubles.Memory) c d (t (λ done e. (let no : troubles.Memory ≡ troubles.Mapper (faults.Save done) = e in cc no)))
asks_before command (troubles.Refused r) c d t = t (λ done e. (let no : troubles.Refused r ≡ troubles.Mapper (faults.Save done) = e in cc no))

-- the victim of an eviction
pub asks_victim : (command : Command) (r : Result (Unit {0}) Failed) (c d : MapperCounts) → AsksFirst command (answer_by (λ _. replies.Done) (victim r)) c d
asks_victim command (Ok x) c d = tt
asks_victim command (Err e) c d = tt

-- pages that are pushed
pub asks_failing : (command : Command) (r : Result (Unit {0}) PageNo) (c d : MapperCounts) → AsksFirst command (done_by (failing r)) c d
asks_failing command (Ok x) c d = tt
asks_failing command (Err page) c d = tt

-- a page that can't be brought in
pub asks_missed : (command : Command) (miss : Miss) (page : PageNo) (c d : MapperCounts) → AsksFirst command (Err (troubles.Mapper (fault_at miss page))) c d
asks_missed command Pull page c d = tt
asks_missed command Victim page c d = tt

-- a call without a mapper that is refused leaves the manager
pub refused_call : {p : Manager} {command : Command} {r : Refusal}
    → ((h : Option Held) → IsValid p h → AnswerIs (state_at p h) command (Err (troubles.Refused r)) [] no_counts (state_at p h))
    → CallDone meaning p command (Err (troubles.Refused r)) p
refused_call answers = record { valid = λ h v. v; answers = answers; made = λ h v. refl; room = refl }

-- one with a mapper leaves that too
pub refused_mapper_call : {X : Type 0} {M : Ghosts X} {m : X} {p : Manager} {command : Command} {r : Refusal} → IsValid p (M.held m)
    → CallIs (M.counts m) (M.counts m) (state_at p (M.held m)) command (Err (troubles.Refused r)) (state_at p (M.held m))
    → MapperCall M meaning m p command (Err (troubles.Refused r)) m p
refused_mapper_call {M = M} {m = m} valid answers = record {
  valid = valid;
  answers = answers;
  asks_first = no_traffic (M.counts m);
  made = refl;
  room = refl;
  page = refl;
}

-- of the manager that is seen
pub refused_seen : {X : Type 0} {M : Ghosts X} {m : X} {p q : Manager} {command : Command} {r : Refusal} → q ≡ p → IsValid p (M.held m)
    → (IsValid q (M.held m) → CallIs (M.counts m) (M.counts m) (state_at q (M.held m)) command (Err (troubles.Refused r)) (state_at q (M.held m)))
    → MapperCall M meaning m p command (Err (troubles.Refused r)) m p
refused_seen {M = M} {m = m} {command = command} {r = r} view valid is = refused_mapper_call valid
    (subst (λ (p : Manager). CallIs (M.counts m) (M.counts m) (state_at p (M.held m)) command (Err (troubles.Refused r)) (state_at p (M.held m))) view (is (subst (λ (p : Manager). IsValid p (M.held m)) (sym view) valid)))
