-- An access that is answered, by how many pulls there were.
use Rattle.std.specs.Prelude.{IfErr}
use Rattle.pvm_core.specs.Pieces.{fault_at}
use Rattle.residency.specs.declared.miss.Miss.TheVariants.{Pull, Victim}
use Rattle.residency.specs.declared.miss.Miss.{Miss}
use Rattle.vm_ids.specs.declared.numbers.PageNo.{PageNo}
use Rattle.vm_ids.specs.declared.reply.Trouble.{Trouble}
use Rattle.vm_ids.specs.declared.reply.Reply.{Reply}
use Rattle.std.proofs.Common.{◌≡◌, ℕ, Option, Some, None, Result, Ok, Err, refl, sym, ap, subst, ◌∙◌, arith, ◌<◌, ◌==◌, ◌||◌, Bool, true, false, not}
use Rattle.vm_ids.specs.Counting.{MapperCounts, RoseBy}
use Rattle.vm_ids.specs.Held.{Segments}
use Rattle.vm_ids.specs.declared.command.Command.{Command}
use Rattle.vm_ids.specs.declared.command.Command.TheVariants as commands
use Rattle.vm_ids.specs.declared.reply.FaultAt.TheVariants as faults
use Rattle.vm_ids.specs.declared.reply.Trouble.TheVariants as troubles
use Rattle.vm_port.specs.declared.traits.mapper.Mapper.{Ghosts}
use Rattle.vm_model.specs.Answering.{Answer}
use Rattle.vm_model.specs.Asking.{ReachesMapper}
use Rattle.vm_model.specs.Machine.{Machine}
use Rattle.vm_model.specs.Outcome.{IsAlike, Outcome, OutcomeAt}
use Rattle.vm_model.specs.PageForest.{PageForest}
use Rattle.vm_model.specs.Run.{CallIs, State}
use Rattle.gmi_calls.specs.Calling.{MapperCall, done_by}
use Rattle.gmi_calls.specs.Parking.{AccessCall, IsDelivered, has_missed}
use Rattle.pvm_core.specs.Access as access
use Rattle.pvm_core.specs.Manager.{Manager, meaning, state_at}

-- a load or a store
abbrev pub IsLoadOrStore : Command → Type 0
IsLoadOrStore (commands.Load actor address length) = Unit {0}
IsLoadOrStore (commands.Store actor address piece) = Unit {0}
IsLoadOrStore command = ⊥

-- the answer isn't that a page couldn't be pulled
abbrev pub IsNoPage : Answer → Type 0
IsNoPage (Err (troubles.Mapper (faults.Page page))) = ⊥
IsNoPage answer = Unit {0}

abbrev with_pulls : ℕ → MapperCounts → MapperCounts
with_pulls n r = record r { pulls = n }

-- of such an answer no outcome depends on the pulls
outcome_pulls : (n : ℕ) (m next : Machine) (f : Option PageForest) (command : Command) (s : Segments) (answer : Answer) (r : MapperCounts) → IsLoadOrStore command → IsNoPage answer → Outcome m f command s answer next r → Outcome m f command s answer next (with_pulls n r)
outcome_pulls n m next f command s (Ok reply) r is other o = o
outcome_pulls n m next f command s (Err (troubles.Refused x)) r is other o = o
outcome_pulls n m next f command s (Err troubles.Memory) r is other o = o
outcome_pulls n m next f (commands.Load actor address length) s (Err (troubles.Mapper faults.Victim)) r is other o = o
outcome_pulls n m next f (commands.Load actor address length) s (Err (troubles.Mapper (faults.Access page))) r is other o = o
outcome_pulls n m next f (commands.Load actor address length) s (Err (troubles.Mapper (faults.Save done))) r is other o = o
outcome_pulls n m next f (commands.Load actor address length) s (Err (troubles.Mapper faults.Opening)) r is other o = o
outcome_pulls n m next f (commands.Store actor address piece) s (Err (troubles.Mapper faults.Victim)) r is other o = o
outcome_pulls n m next f (commands.Store actor address piece) s (Err (troubles.Mapper (faults.Access page))) r is other o = o
outcome_pulls n m next f (commands.Store actor address piece) s (Err (troubles.Mapper (faults.Save done))) r is other o = o
outcome_pulls n m next f (commands.Store actor address piece) s (Err (troubles.Mapper faults.Opening)) r is other o = o
outcome_pulls n m next f command s (Err (troubles.Mapper (faults.Page page))) r is other o = absurd other
outcome_pulls n m next f command s answer r is other o = absurd is

alike_no_page : (a b : Answer) → IsAlike a b → IsNoPage b → IsNoPage a
alike_no_page (Ok reply) b alike other = tt
alike_no_page (Err trouble) b alike other = subst IsNoPage (sym alike) other

at_pulls : (n : ℕ) (m next : Machine) (f : Option PageForest) (command : Command) (o : Option Segments) (answer : Answer) (r : MapperCounts) → IsLoadOrStore command → IsNoPage answer → OutcomeAt o m f command answer next r → OutcomeAt o m f command answer next (with_pulls n r)
at_pulls n m next f command (Some s) answer r is other o = outcome_pulls n m next f command s answer r is other o
at_pulls n m next f command None answer r is other o = record {
  whole = o.whole;
  whole_next = o.whole_next;
  segments = o.segments;
  whole_answer = o.whole_answer;
  is = o.is;
  is_next = o.is_next;
  pages = o.pages;
  alike = o.alike;
  outcome = outcome_pulls n o.whole o.whole_next f command o.segments o.whole_answer r is (alike_no_page o.whole_answer answer o.alike other) o.outcome;
}

-- an access may reach the mapper
may_reach : (command : Command) → IsLoadOrStore command → (r : MapperCounts) → ReachesMapper command r
may_reach (commands.Load actor address length) is r = tt
may_reach (commands.Store actor address piece) is r = tt
may_reach command is r = absurd is

-- so its call may be said with the pulls that there were
pulled_call : (n : ℕ) (command : Command) → IsLoadOrStore command → (c d : MapperCounts) (s t : State) (answer : Answer) (call : CallIs c d s command answer t) → IsNoPage answer → RoseBy n c.pulls d.pulls → (x : CallIs c d s command answer t) × (x.rises.pulls ≡ n)
pulled_call n command is c d s t answer call other rose = (
  record {
    pushes = call.pushes;
    rises = with_pulls n call.rises;
    rose = record { faults_later = call.rose.faults_later; pulls_later = call.rose.pulls_later; pushes_later = call.rose.pushes_later; faults = call.rose.faults; pulls = rose; pushes = call.rose.pushes };
    is = record {
      outcome = at_pulls n s.machine t.machine s.forest command t.segments answer call.rises is other call.is.outcome;
      forest = call.is.forest;
      reaches = may_reach command is (with_pulls n call.rises);
      few = call.is.few;
      pushed = call.is.pushed;
      synchronised = call.is.synchronised;
      whole = call.is.whole;
    };
  },
  refl,
)

module _ {X : Type 0} {M : Ghosts X} {m k : X} {p q : Manager} {command : Command} {answer : Answer} (P : MapperCounts → Type 0) where
  pub access_call : (n : ℕ) → MapperCall M meaning m p command answer k q → IsLoadOrStore command → IsNoPage answer → RoseBy n (M.counts m).pulls (M.counts k).pulls → ((r : MapperCounts) → r.pulls ≡ n → P r) → AccessCall M meaning P m p command answer k q
  access_call n call is other rose so =
      let x = pulled_call n command is (M.counts m) (M.counts k) (state_at p (M.held m)) (state_at q (M.held k)) answer call.answers other rose in
      record {
        call = record { valid = call.valid; answers = x.0; asks_first = call.asks_first; made = call.made; room = call.room; page = call.page };
        so = so x.0.rises x.1;
      }

  -- whatever pulls there were
  pub any_access : MapperCall M meaning m p command answer k q → ((r : MapperCounts) → P r) → AccessCall M meaning P m p command answer k q
  any_access call so = record { call = call; so = so call.answers.rises }

-- What is told of a delivery

pub came_ok : (ready : Bool) (reply : Reply) (r : MapperCounts) → (ready ≡ false → 0 < r.pulls) → IsDelivered ready (record { answer = Ok reply; came = true }) r
came_ok true reply r some = record { came = refl; pulled = λ no ok. absurd (cc no) }
came_ok false reply r some = record { came = refl; pulled = λ no ok. some refl }

none_missed : (trouble : Trouble) (r : MapperCounts) → r.pulls ≡ 0 → has_missed (Err trouble) r ≡ true
none_missed (troubles.Mapper (faults.Page page)) r e = refl
none_missed trouble r e = ap (λ (k : ℕ). k == 0) e

or_none : (b : Bool) → (b || false) ≡ b
or_none true = refl
or_none false = refl

-- where nothing was pulled the page came where it was ready
pub came_not : (ready came : Bool) (trouble : Trouble) (r : MapperCounts) → came ≡ ready → r.pulls ≡ 0 → IsDelivered ready (record { answer = Err trouble; came = came }) r
came_not ready came trouble r is e = record { came = is ∙ sym (ap (λ (m : Bool). ready || not m) (none_missed trouble r e) ∙ or_none ready); pulled = λ no ok. absurd (cc ok) }

module _ {X : Type 0} {M : Ghosts X} {m k : X} {p q : Manager} {command : Command} where
  -- a page that can't be brought in
  pub missed_access : (miss : Miss) (page : PageNo) → MapperCall M meaning m p command (Err (troubles.Mapper (fault_at miss page))) k q → IsLoadOrStore command → (miss ≡ Victim → RoseBy 0 (M.counts m).pulls (M.counts k).pulls)
      → AccessCall M meaning (IsDelivered false (record { answer = Err (troubles.Mapper (fault_at miss page)); came = false })) m p command (Err (troubles.Mapper (fault_at miss page))) k q
  missed_access Pull page call is none = any_access _ call (λ r. record { came = refl; pulled = λ no ok. absurd (cc ok) })
  missed_access Victim page call is none = access_call _ 0 call is tt (none refl) (λ r e. came_not false false (troubles.Mapper faults.Victim) r refl e)

-- Answers of a store that isn't the fault of a pull

pub trouble_no_page : (trouble : Trouble) → access.IsNoPage trouble → IsNoPage (Err trouble)
trouble_no_page (troubles.Mapper (faults.Page page)) e = absurd e
trouble_no_page trouble e = tt

pub victim_no_page : (r : Result (Unit {0}) Trouble) → IfErr r (λ trouble. trouble ≡ troubles.Mapper faults.Victim) → IsNoPage (done_by r)
victim_no_page (Ok x) e = tt
victim_no_page (Err trouble) e = subst (λ (t : Trouble). IsNoPage (Err t)) (sym e) tt

-- where the access was ready its page came, whatever the answer is
pub came_ready : (ready : Bool) (answer : Answer) (r : MapperCounts) → ready ≡ true → IsDelivered ready (record { answer = answer; came = true }) r
came_ready true answer r is = record { came = refl; pulled = λ no ok. absurd (cc no) }
came_ready false answer r is = absurd (cc is)

-- and where a page was pulled for a store, though a push failed then
pub came_stored : (ready : Bool) (result : Result (Unit {0}) Trouble) (r : MapperCounts) → ready ≡ false → IfErr result (λ trouble. trouble ≡ troubles.Mapper faults.Victim) → r.pulls ≡ 1 → IsDelivered ready (record { answer = done_by result; came = true }) r
came_stored true result r is victim one = absurd (cc is)
came_stored false (Ok x) r is victim one = record { came = refl; pulled = λ no ok. omega (arith, one) }
came_stored false (Err trouble) r is victim one = subst (λ (t : Trouble). IsDelivered false (record { answer = Err t; came = true }) r) (sym victim) (record {
  came = ap (λ (k : ℕ). not (k == 0)) (sym one);
  pulled = λ no ok. absurd (cc ok);
})
