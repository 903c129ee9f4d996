-- A call that leaves the mapper, as one with a mapper; and one behind questions for write access.
use Rattle.std.proofs.Common.{◌≡◌, ℕ, ◌<◌, ◌≤◌, List, [], ◌∷◌, length, Result, Ok, Err, refl, ap, subst, ◌∙◌, arith}
use Rattle.std.specs.Prelude.{IfErr, IfOk}
use Rattle.vm_ids.specs.Counting.{MapperCounts, Rise, last_count, no_counts}
use Rattle.vm_ids.specs.declared.command.Command.{Command}
use Rattle.vm_ids.specs.declared.command.Command.TheVariants as commands
use Rattle.vm_ids.specs.declared.reply.FaultAt.TheVariants as faults
use Rattle.vm_ids.specs.declared.reply.Trouble.TheVariants as troubles
use Rattle.vm_port.specs.declared.traits.mapper.Mapper.{Ghosts}
use Rattle.vm_model.specs.Answering.{Answer}
use Rattle.vm_model.specs.Machine.{Machine}
use Rattle.vm_model.specs.Run.{AnswerIs, CallIs, State}
use Rattle.residency.specs.Causes.{Later, Traffic}
use Rattle.gmi_calls.specs.Calling.{AsksFirst, CallDone, MapperCall, NoTraffic, RaisesMade}
use Rattle.pvm_core.specs.Manager.{IsValid, Manager, machine_of, meaning, numbered, state_at}
use Rattle.pvm_core.proofs.Answering.Answered.{call_later}
use Rattle.pvm_core.proofs.Answering.Recorded.{asks_quiet, no_traffic}

-- what holds of each error that a result may be
pub if_err : {T E : Type 0} (r : Result T E) (P : E → Type 0) → ((e : E) → r ≡ Err e → P e) → IfErr r P
if_err (Ok x) P f = tt
if_err (Err e) P f = f e refl

-- and of each value
pub if_ok_by : {T E : Type 0} (r : Result T E) (P : T → Type 0) → ((x : T) → r ≡ Ok x → P x) → IfOk r P
if_ok_by (Ok x) P f = f x refl
if_ok_by (Err e) P f = tt

empty : (ps : List (ℕ × ℕ)) → length ps ≤ 0 → ps ≡ []
empty [] e = refl
empty (p ∷ ps) e = absurd (omega (arith, e))

-- where no count rises nothing is pushed
pub quiet_answer : (s t : State) (command : Command) (answer : Answer) → CallIs no_counts no_counts s command answer t → AnswerIs s command answer [] no_counts t
quiet_answer s t command answer call =
    let low : 0 < last_count = omega arith in
    let faults : call.rises.faults ≡ 0 = omega (arith, call.rose.faults low) in
    let pulls : call.rises.pulls ≡ 0 = omega (arith, call.rose.pulls low) in
    let pushes : call.rises.pushes ≡ 0 = omega (arith, call.rose.pushes low) in
    let rises : call.rises ≡ no_counts = λ i. record { faults = faults i; pulls = pulls i; pushes = pushes i } in
    let none : call.pushes ≡ [] = empty call.pushes (omega (arith, call.is.few, pushes)) in
    subst (λ (ps : List (ℕ × ℕ)). AnswerIs s command answer ps no_counts t) none (subst (λ (r : MapperCounts). AnswerIs s command answer call.pushes r t) rises call.is)

pub no_rise : (c : MapperCounts) → Rise c c no_counts
no_rise c = record {
  faults_later = omega arith;
  pulls_later = omega arith;
  pushes_later = omega arith;
  faults = λ low. omega arith;
  pulls = λ low. omega arith;
  pushes = λ low. omega arith;
}

-- a call that takes no mapper leaves the one that there is
pub mapper_call : {X : Type 0} {M : Ghosts X} {m : X} {p q : Manager} {command : Command} {answer : Answer} → CallDone meaning p command answer q → IsValid p (M.held m) → MapperCall M meaning m p command answer m q
mapper_call {M = M} {m = m} {command = command} {answer = answer} done valid = record {
  valid = done.valid (M.held m) valid;
  answers = record { pushes = []; rises = no_counts; rose = no_rise (M.counts m); is = done.answers (M.held m) valid };
  asks_first = asks_quiet command answer (M.counts m) (M.counts m) (no_traffic (M.counts m));
  made = done.made (M.held m) valid;
  room = done.room;
  page = refl;
}

-- of a manager that is another
pub mapper_seen : {X : Type 0} {M : Ghosts X} {m n : X} {p q r : Manager} {command : Command} {answer : Answer} → p ≡ r → MapperCall M meaning m p command answer n q → MapperCall M meaning m r command answer n q
mapper_seen {M = M} {m = m} {n = n} {q = q} {command = command} {answer = answer} same call = subst (λ (p : Manager). MapperCall M meaning m p command answer n q) same call

-- The mapper was only asked, and then called

module _ (c d e : MapperCounts) (later : Later d e) (asked : Traffic 0 0 c d) where
  traffic_later : NoTraffic d e → NoTraffic c e
  traffic_later none = record {
    pulled = λ low. (let y = none.pulled low in let x = asked.pulled (omega (arith, later.pulls, low)) in omega (arith, x, y));
    pushed = λ low. (let y = none.pushed low in let x = asked.pushed (omega (arith, later.pushes, low)) in omega (arith, x, y));
  }

  asks_later : (command : Command) (answer : Answer) → AsksFirst command answer d e → AsksFirst command answer c e
  asks_later command (Err (troubles.Refused r)) t = traffic_later t
  asks_later command (Err (troubles.Mapper (faults.Access page))) t = traffic_later t
  asks_later (commands.OpenSegment seg) (Err troubles.Memory) t = tt
  asks_later command (Err troubles.Memory) t = traffic_later t
  asks_later command answer t = tt

pub quiet_then : {X : Type 0} {M : Ghosts X} {m n k : X} {p q r : Manager} {command : Command} {answer : Answer} → Later (M.counts m) (M.counts n) → Traffic 0 0 (M.counts m) (M.counts n) → state_at q (M.held n) ≡ state_at p (M.held m) → numbered q ≡ numbered p
    → M.page_bytes n ≡ M.page_bytes m → MapperCall M meaning n q command answer k r → MapperCall M meaning m p command answer k r
quiet_then {M = M} {m = m} {n = n} {k = k} {p = p} {q = q} {r = r} {command = command} {answer = answer} later traffic state made page call = record {
  valid = call.valid;
  answers = call_later (M.counts m) (M.counts n) (M.counts k) (state_at p (M.held m)) (state_at r (M.held k)) command answer later traffic
      (subst (λ (s : State). CallIs (M.counts n) (M.counts k) s command answer (state_at r (M.held k))) state call.answers);
  asks_first = asks_later (M.counts m) (M.counts n) (M.counts k) (record { faults = call.answers.rose.faults_later; pulls = call.answers.rose.pulls_later; pushes = call.answers.rose.pushes_later }) traffic command answer call.asks_first;
  made = subst (λ (o : Machine). RaisesMade o command answer (machine_of r (M.held k)) (numbered p) (numbered r)) (ap (λ (s : State). s.machine) state)
      (subst (λ (j : ℕ). RaisesMade (machine_of q (M.held n)) command answer (machine_of r (M.held k)) j (numbered r)) made call.made);
  room = call.room;
  page = call.page ∙ page;
}
