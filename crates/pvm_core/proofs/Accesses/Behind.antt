-- A store behind the fault that brought its page in: the two are one call.
use Rattle.std.proofs.Common.{◌≡◌, ℕ, ◌+◌, ◌++◌, List, Option, Some, None, length, Result, Ok, Err, sym, subst, ◌∙◌, arith}
use Rattle.std.specs.Prelude.{IfErr}
use Rattle.std.proofs.lemmas.List.{length-append}
use Rattle.vm_ids.specs.Counting.{MapperCounts}
use Rattle.vm_ids.specs.Held.{Held, Segments, segments_of}
use Rattle.vm_ids.specs.declared.command.Command.TheVariants as commands
use Rattle.vm_ids.specs.declared.numbers.ActorId.{ActorId}
use Rattle.vm_ids.specs.declared.reply.FaultAt.TheVariants as faults
use Rattle.vm_ids.specs.declared.reply.Trouble.{Trouble}
use Rattle.vm_ids.specs.declared.reply.Trouble.TheVariants as troubles
use Rattle.vm_port.specs.declared.traits.mapper.Mapper.{Ghosts}
use Rattle.vm_model.specs.Answering.{Answer}
use Rattle.vm_model.specs.Machine.{Machine}
use Rattle.vm_model.specs.Outcome.{IsAlike, Outcome, OutcomeAt}
use Rattle.vm_model.specs.PageForest.{PageForest}
use Rattle.vm_model.specs.Run.{CallIs, State}
use Rattle.gmi_calls.specs.Calling.{AsksFirst, MapperCall, RaisesMade, done_by}
use Rattle.pvm_core.specs.Access.{IsLookedFor}
use Rattle.pvm_core.specs.Manager.{Manager, forest_of, machine_of, meaning, numbered, state_at}
use Rattle.pvm_core.specs.Reaching.{Reach}
use Rattle.pvm_core.proofs.Answering.Reaching.{push_then}
use Rattle.pvm_core.proofs.Answering.Rising.{grown, grown_by, grown_least}

-- the store was carried out, or a push failed
abbrev pub IsDoneOrVictim : Answer → Type 0
IsDoneOrVictim (Ok reply) = Unit {0}
IsDoneOrVictim (Err (troubles.Mapper faults.Victim)) = Unit {0}
IsDoneOrVictim answer = ⊥

pub done_or_victim : (r : Result (Unit {0}) Trouble) → IfErr r (λ trouble. trouble ≡ troubles.Mapper faults.Victim) → IsDoneOrVictim (done_by r)
done_or_victim (Ok x) e = tt
done_or_victim (Err trouble) e = subst (λ (t : Trouble). IsDoneOrVictim (Err t)) (sym e) tt

-- the counts with other pulls, and more pushes
abbrev more : ℕ → ℕ → MapperCounts → MapperCounts
more n pulls r = record { faults = r.faults; pulls = pulls; pushes = n + r.pushes }

-- such an outcome stays where more is pulled and pushed
outcome_more : (n pulls : ℕ) (m next : Machine) (f : Option PageForest) (actor : ActorId) (address : ℕ) (piece : List ℕ) (s : Segments) (answer : Answer) (r : MapperCounts) → IsDoneOrVictim answer → Outcome m f (commands.Store actor address piece) s answer next r
    → Outcome m f (commands.Store actor address piece) s answer next (more n pulls r)
outcome_more n pulls m next f actor address piece s (Ok reply) r done o = o
outcome_more n pulls m next f actor address piece s (Err (troubles.Mapper faults.Victim)) r done o = (o.0, o.1, omega (arith, o.2), o.3)
outcome_more n pulls m next f actor address piece s answer r done o = absurd done

alike_done : (a b : Answer) → IsAlike a b → IsDoneOrVictim b → IsDoneOrVictim a
alike_done (Ok reply) b alike done = tt
alike_done (Err trouble) b alike done = subst IsDoneOrVictim (sym alike) done

at_more : (n pulls : ℕ) (m next : Machine) (f : Option PageForest) (actor : ActorId) (address : ℕ) (piece : List ℕ) (o : Option Segments) (answer : Answer) (r : MapperCounts) → IsDoneOrVictim answer → OutcomeAt o m f (commands.Store actor address piece) answer next r
    → OutcomeAt o m f (commands.Store actor address piece) answer next (more n pulls r)
at_more n pulls m next f actor address piece (Some s) answer r done o = outcome_more n pulls m next f actor address piece s answer r done o
at_more n pulls m next f actor address piece None answer r done o = record {
  whole = o.whole;
  whole_next = o.whole_next;
  segments = o.segments;
  whole_answer = o.whole_answer;
  is = o.is;
  is_next = o.is_next;
  pages = o.pages;
  alike = o.alike;
  outcome = outcome_more n pulls o.whole o.whole_next f actor address piece o.segments o.whole_answer r (alike_done o.whole_answer answer o.alike done) o.outcome;
}

-- the mapper was reached before, and what there is stands for the same
behind : (c d e : MapperCounts) (m : Machine) (f : Option PageForest) (h g : Option Held) (t : State) (actor : ActorId) (address : ℕ) (piece : List ℕ) (answer : Answer) → IsDoneOrVictim answer → Reach m h g c d
    → CallIs d e (record { machine = m; forest = f; segments = segments_of g }) (commands.Store actor address piece) answer t → CallIs c e (record { machine = m; forest = f; segments = segments_of h }) (commands.Store actor address piece) answer t
behind c d e m f h g t actor address piece answer done reach call =
    let k = length reach.pushes in
    let n = grown k c.pushes d.pushes in
    let pulls = grown k c.pulls d.pulls + call.rises.pulls in
    record {
      pushes = reach.pushes ++ call.pushes;
      rises = more n pulls call.rises;
      rose = record {
        faults_later = omega (arith, reach.later.faults, call.rose.faults_later);
        pulls_later = omega (arith, reach.later.pulls, call.rose.pulls_later);
        pushes_later = omega (arith, reach.later.pushes, call.rose.pushes_later);
        faults = λ low. (let l = reach.later.faults in let x = call.rose.faults low in omega (arith, l, x));
        pulls = λ low. (let l = call.rose.pulls_later in let y = call.rose.pulls low in let x = grown_by k c.pulls d.pulls reach.later.pulls (omega (arith, l, low)) in omega (arith, x, y));
        pushes = λ low. (let l = call.rose.pushes_later in let y = call.rose.pushes low in let x = grown_by k c.pushes d.pushes reach.later.pushes (omega (arith, l, low)) in omega (arith, x, y));
      };
      is = record {
        outcome = at_more n pulls m t.machine f actor address piece t.segments answer call.rises done call.is.outcome;
        forest = call.is.forest;
        reaches = tt;
        few = (let a = length-append reach.pushes call.pushes in let b = grown_least k c.pushes d.pushes reach.few in let x = call.is.few in omega (arith, a, b, x));
        pushed = push_then m (segments_of h) (segments_of g) t.segments reach.pushes call.pushes reach.rule call.is.pushed;
        synchronised = call.is.synchronised;
        whole = call.is.whole;
      };
    }

asks_done : (actor : ActorId) (address : ℕ) (piece : List ℕ) (answer : Answer) (c d : MapperCounts) → IsDoneOrVictim answer → AsksFirst (commands.Store actor address piece) answer c d
asks_done actor address piece (Ok reply) c d done = tt
asks_done actor address piece (Err (troubles.Mapper faults.Victim)) c d done = tt
asks_done actor address piece answer c d done = absurd done

pub looked_then : {X : Type 0} {M : Ghosts X} {m n k : X} {p q r : Manager} {actor : ActorId} {address : ℕ} {piece : List ℕ} {answer : Answer} → IsLookedFor M m p n q → IsDoneOrVictim answer → MapperCall M meaning n q (commands.Store actor address piece) answer k r
    → MapperCall M meaning m p (commands.Store actor address piece) answer k r
looked_then {M = M} {m = m} {n = n} {k = k} {p = p} {q = q} {r = r} {actor = actor} {address = address} {piece = piece} {answer = answer} looked done call =
    let command = commands.Store actor address piece in
    record {
      valid = call.valid;
      answers = behind (M.counts m) (M.counts n) (M.counts k) (machine_of p (M.held m)) (Some (forest_of p (M.held m))) (M.held m) (M.held n) (state_at r (M.held k)) actor address piece answer done looked.reach
          (subst (λ (s : State). CallIs (M.counts n) (M.counts k) s command answer (state_at r (M.held k))) (λ i. record { machine = looked.machine i; forest = Some (looked.forest i); segments = segments_of (M.held n) }) call.answers);
      asks_first = asks_done actor address piece answer (M.counts m) (M.counts k) done;
      made = subst (λ (o : Machine). RaisesMade o command answer (machine_of r (M.held k)) (numbered p) (numbered r)) looked.machine
          (subst (λ (j : ℕ). RaisesMade (machine_of q (M.held n)) command answer (machine_of r (M.held k)) j (numbered r)) looked.numbered call.made);
      room = call.room;
      page = call.page ∙ looked.page;
    }
