-- What the calls of a manager leave for the next one.
use Rattle.std.proofs.Common.{◌≡◌, ◌+◌, ◌≤◌, ℕ, List, [], Option, Some, None, Ok, Err, refl, sym, ap, subst, arith}
use Rattle.std.specs.Prelude.{IfNone, IfOk, IfSome, IsSome}
use Rattle.vm_ids.specs.Accessing.{command_for}
use Rattle.vm_ids.specs.Counting.{MapperCounts, no_counts}
use Rattle.vm_ids.specs.declared.access.Access.{Access}
use Rattle.vm_ids.specs.declared.command.Command.{Command}
use Rattle.vm_ids.specs.declared.numbers.ActorId.{ActorId}
use Rattle.vm_ids.specs.declared.refusal.Refusal.{Refusal}
use Rattle.vm_ids.specs.declared.reply.Trouble.TheVariants.{Refused}
use Rattle.vm_model.specs.Answering.{Answer}
use Rattle.vm_model.specs.Asking.{IsWellFormed}
use Rattle.vm_model.specs.Machine.{Machine, actor_of, living_actors, live_pages, numbered}
use Rattle.vm_model.specs.Run.{Read, State, StepIs, command_semantics, state_of}
use Rattle.vm_model.specs.declared.limits.TheConstants.{LIVE_PAGES, LIVING_ACTORS}
use Rattle.vm_port.specs.declared.traits.mapper.Mapper.{Ghosts as GhostsOfMapper}
use Rattle.actor_script.specs.Forms.{command_of}
use Rattle.actor_script.proofs.WellFormed.{well_formed}
use Rattle.gmi_calls.specs.Calling.{Fits, MapperCall}
use Rattle.gmi_calls.specs.Managing.{meanings_of}
use Rattle.gmi_calls.specs.Parking.{AccessCall, Waits}
use Rattle.gmi_calls.specs.Room.{CallWithin, StaysLimited}
use Rattle.gmi_calls.specs.declared.gmi.Gmi.{Ghosts as GhostsOfGmi}
use Rattle.gmi_calls.proofs.AccessAnswers.{actors_stay, unrefused_alive}
use Rattle.gmi_calls.proofs.Ready.{fits_after, live_after, living_after, made_after}
use Rattle.gmi_calls.proofs.Rising.{rise_none}
use Rattle.replay.specs.Managing.{CanCall}
use Rattle.line_service.specs.Serving.{AnswersBy, AnyRise, IsReadSomewhere, answer_budget}

-- what is read somewhere is well formed
pub formed : (command : Command) → IsReadSomewhere command_of (Ok command) → IsWellFormed command
formed command h = subst (λ (r : Read). IfOk r IsWellFormed) h.1 (well_formed h.0)

-- a room that isn't limited isn't after a call
still_unlimited : (before now : Option ℕ) → StaysLimited before now → before ≡ None → now ≡ None
still_unlimited before None stays e = refl
still_unlimited None (Some room) stays e = absurd (cc stays)
still_unlimited (Some room) now stays e = absurd (cc e)

-- the actors stay in a call that answers an access
actors_within : (room : Option ℕ) (c d : MapperCounts) (s t : State) (actor : ActorId) (x : Access) (a : Answer) → room ≡ None → CallWithin room c d s (command_for actor x) a t → t.machine.actors ≡ s.machine.actors
actors_within None c d s t actor x a e h = actors_stay t.segments s.machine t.machine s.forest actor x a h.rises h.is.outcome
actors_within (Some room) c d s t actor x a e h = absurd (cc e)

still_alive : (m n : Machine) → n.actors ≡ m.actors → (actor : ℕ) → IsSome (actor_of m actor) → IsSome (actor_of n actor)
still_alive m n same actor h = subst (λ actors. IsSome (numbered actors actor)) (sym same) h

-- a line that is no command
pub refused : (line : List ℕ) (refusal : Refusal) (c : MapperCounts) (s : State) → Err refusal ≡ command_of line → AnswersBy command_semantics AnyRise c c s (command_of line) (Err (Refused refusal)) s
refused line refusal c s is = record {
  rises = no_counts;
  rose = rise_none c;
  is = ([], subst (λ (read : Read). StepIs s read (Err (Refused refusal)) [] no_counts s) is (record { same = refl; refused = refl; no_push = refl; no_rise = refl }));
  so = tt;
}

module _ {Manager Mapper Chooser : Type 0} (G : GhostsOfGmi Manager Mapper Chooser) (M : GhostsOfMapper Mapper) (before after : Mapper) (old new : Manager) (able : CanCall G old (M.held before) (M.page_bytes before)) where
  abbrev Called : Command → Answer → Type 0
  Called command a = MapperCall M (meanings_of G) before old command a after new

  abbrev CanCallAfter : Type 0
  CanCallAfter = CanCall G new (M.held after) (M.page_bytes after)

  abbrev StillAlive : Type 0
  StillAlive = (actor : ℕ) → IsSome (actor_of (G.machine old (M.held before)) actor) → IsSome (actor_of (G.machine new (M.held after)) actor)

  pub able_after : (command : Command) (a : Answer) → Called command a → CanCallAfter
  able_after command a h = record {
    valid = h.valid;
    unlimited = still_unlimited (G.room old) (G.room new) h.room able.unlimited;
    fits = fits_after _ _ _ _ _ _ _ _ _ h.answers h.page able.fits;
    live = live_after _ _ _ _ _ _ _ h.answers able.live;
    living = living_after _ _ _ _ _ _ _ h.answers able.living;
  }

  pub made_little : (command : Command) (a : Answer) → Called command a → G.made new ≤ G.made old + answer_budget
  made_little command a h = omega (arith, made_after _ _ _ _ _ _ _ _ _ h.answers able.live h.made)

  pub alive_after : (actor : ActorId) (x : Access) (a : Answer) → Called (command_for actor x) a → StillAlive
  alive_after actor x a h = still_alive (G.machine old (M.held before)) (G.machine new (M.held after)) (actors_within (G.room old) _ _ _ _ actor x a able.unlimited h.answers)

  -- where an access is issued

  module _ (P : MapperCounts → Type 0) (actor : ActorId) (x : Access) where
    abbrev Issued : Option Answer → Type 0
    Issued r = IfSome r (λ a. AccessCall M (meanings_of G) P before old (command_for actor x) a after new)

    abbrev Waiting : Option Answer → Type 0
    Waiting r = IfNone r (Waits M (meanings_of G) before old (command_for actor x) after new)

    machine_same : Waits M (meanings_of G) before old (command_for actor x) after new → G.machine new (M.held after) ≡ G.machine old (M.held before)
    machine_same w = ap (λ (s : State). s.machine) w.same

    fits_still : (told now : Option ℕ) (m n : Machine) → now ≡ told → n ≡ m → Fits told m → Fits now n
    fits_still told now m n e f h = subst (λ (o : Option ℕ). Fits o n) (sym e) (subst (Fits told) (sym f) h)

    pub able_issued : (r : Option Answer) → Issued r → Waiting r → CanCallAfter
    able_issued (Some a) h w = able_after (command_for actor x) a h.call
    able_issued None h w =
        let same = machine_same w in
        record {
          valid = w.valid;
          unlimited = still_unlimited (G.room old) (G.room new) w.room able.unlimited;
          fits = fits_still (M.page_bytes before) (M.page_bytes after) _ _ w.page same able.fits;
          live = subst (λ (m : Machine). live_pages m ≤ LIVE_PAGES) (sym same) able.live;
          living = subst (λ (m : Machine). living_actors m ≤ LIVING_ACTORS) (sym same) able.living;
        }

    pub made_issued : (r : Option Answer) → Issued r → IfSome r (λ a. G.made new ≤ G.made old + answer_budget)
    made_issued (Some a) h = made_little (command_for actor x) a h.call
    made_issued None h = tt

    pub alive_issued : (r : Option Answer) → Issued r → Waiting r → StillAlive
    alive_issued (Some a) h w = alive_after actor x a h.call
    alive_issued None h w = still_alive (G.machine old (M.held before)) (G.machine new (M.held after)) (ap (λ (m : Machine). m.actors) (machine_same w))

    pub waiter_alive : (r : Option Answer) → Waiting r → IfNone r (IsSome (actor_of (G.machine new (M.held after)) actor.0))
    waiter_alive (Some a) w = tt
    waiter_alive None w =
        subst (λ (m : Machine). IsSome (actor_of m actor.0)) (sym (machine_same w)) (unrefused_alive (state_of G.machine G.forest old (M.held before)) actor x w.unrefused)
