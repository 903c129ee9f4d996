-- What an actor's end, or a region that is taken away, is by the rows of both machines.
use Rattle.std.proofs.Common.{◌≡◌, ◌⊎◌, ℕ, ◌-◌, Bool, true, false, cond, List, map, Option, Some, None, refl, sym, ap, subst, ◌∙◌, inl, inr}
use Rattle.std.specs.Prelude.{Result, Ok, Err, option_map, slice_set}
use Rattle.vm_ids.specs.declared.command.Command.TheVariants.{ExitActor, Unmap}
use Rattle.vm_ids.specs.declared.command.KeepCommand.TheVariants as commands
use Rattle.vm_ids.specs.declared.refusal.Refusal.TheVariants as refusals
use Rattle.vm_ids.specs.declared.reply.Reply.TheVariants as replies
use Rattle.vm_ids.specs.declared.reply.Trouble.TheVariants as troubles
use Rattle.vm_model.specs.Answering as plain
use Rattle.vm_model.specs.Outcome as plain_outcome
use Rattle.vm_model.specs.Regions.{region_with}
use Rattle.interface_callers.proofs.Words.{Actor, Answer, Command, FaultAt, IsAlike, Machine, MapperCounts, MayLackMemory, OutcomeAt, PageForest, Refusal, Region, Segments, blank, forest_shown, numbered, without_region}
use Rattle.seg_manager.specs.Answering.{MayHave, leaving_by, plain_of}
use Rattle.seg_manager.specs.Keeping.{mapped_in, mapped_under}
use Rattle.seg_manager.specs.ReferenceMachine.{ReferenceMachine}
use Rattle.seg_manager.specs.declared.tables.Leaving.{Leaving}
use Rattle.seg_manager.specs.Stepping.{IsWholeFor}
use Rattle.seg_manager.specs.declared.tables.Leaving.TheVariants as leavings

-- The command, and what it says of actors alone

abbrev pub command_of : Leaving → Command
command_of (leavings.Actor actor) = ExitActor actor
command_of (leavings.Region region) = Unmap region

-- the caches that lose a reference
abbrev pub caches_of : Leaving → Machine → List ℕ
caches_of (leavings.Actor actor) m = mapped_in m actor.0
caches_of (leavings.Region region) m = mapped_under m region.0

-- the actors then, or why it is refused
abbrev pub Then : Type 0
Then = Result (List (Option Actor)) Refusal

abbrev pub if_some : {A : Type 0} → Option A → Refusal → (A → Then) → Then
if_some None r go = Err r
if_some (Some x) r go = go x

abbrev pub actors_then : Leaving → List (Option Actor) → Then
actors_then (leavings.Actor actor) actors = if_some (numbered actors actor.0) refusals.NoActor (λ rs. Ok (slice_set actors (actor.0 - 1) None))
actors_then (leavings.Region region) actors = if_some (region_with region.0 actors) refusals.NoRegion (λ r. cond r.locked (Err refusals.Locked) (Ok (map (option_map (without_region region.0)) actors)))

abbrev pub answered_so : Machine → Then → plain.Answered
answered_so m (Ok actors) = plain.reply replies.Done (record m { actors = actors })
answered_so m (Err r) = plain.refuse m r

row : (l : Leaving) (m : Machine) (f : PageForest) (h : Segments) → plain.answer_of m f (command_of l) h ≡ answered_so m (actors_then l m.actors)
unfolding plain.exit_actor_of plain.unmap_of plain.with_some plain.unless
row (leavings.Actor actor) m f h = by (numbered m.actors actor.0)
  where
    by : (o : Option Actor) → plain.with_some o refusals.NoActor m (λ rs. plain.reply replies.Done (record m { actors = slice_set m.actors (actor.0 - 1) None }))
        ≡ answered_so m (if_some o refusals.NoActor (λ rs. Ok (slice_set m.actors (actor.0 - 1) None)))
    by None = refl
    by (Some rs) = refl
row (leavings.Region region) m f h = by (region_with region.0 m.actors)
  where
    locked : (b : Bool) → plain.unless b refusals.Locked m (plain.reply replies.Done (record m { actors = map (option_map (without_region region.0)) m.actors }))
        ≡ answered_so m (cond b (Err refusals.Locked) (Ok (map (option_map (without_region region.0)) m.actors)))
    locked true = refl
    locked false = refl

    by : (o : Option Region) → plain.with_some o refusals.NoRegion m (λ r. plain.unless r.locked refusals.Locked m (plain.reply replies.Done (record m { actors = map (option_map (without_region region.0)) m.actors })))
        ≡ answered_so m (if_some o refusals.NoRegion (λ r. cond r.locked (Err refusals.Locked) (Ok (map (option_map (without_region region.0)) m.actors))))
    by None = refl
    by (Some r) = locked r.locked

-- the same of the machine of segments
pub segment_row : (l : Leaving) (m : ReferenceMachine) (h : Segments) (number : ℕ) → plain_of m (command_of l) h number ≡ leaving_by m (answered_so m.memory (actors_then l m.memory.actors))
segment_row (leavings.Actor actor) m h number = ap (leaving_by m) (row (leavings.Actor actor) m.memory (forest_shown None m.memory) h)
segment_row (leavings.Region region) m h number = ap (leaving_by m) (row (leavings.Region region) m.memory (forest_shown None m.memory) h)

pub may_have : (l : Leaving) (m : ReferenceMachine) (number : ℕ) → MayHave m (commands.Plain (command_of l)) number
may_have (leavings.Actor actor) m number = tt
may_have (leavings.Region region) m number = tt

-- it tells no bytes
pub whole_for : (l : Leaving) (m : ReferenceMachine) → IsWholeFor (commands.Plain (command_of l)) m
whole_for (leavings.Actor actor) m = tt
whole_for (leavings.Region region) m = tt

no_fault : (l : Leaving) (m : Machine) (f : Option PageForest) (h : Segments) (at : FaultAt) (rises : MapperCounts) → plain_outcome.MayFault m f (command_of l) h at rises → ⊥
no_fault (leavings.Actor actor) m f h at rises may = may
no_fault (leavings.Region region) m f h at rises may = may

no_lack : (l : Leaving) → MayLackMemory (command_of l) → ⊥
no_lack (leavings.Actor actor) may = may
no_lack (leavings.Region region) may = may

-- What the manager below may answer

-- It is done.
pub record IsDone (l : Leaving) (m : Machine) (a : Answer) (n : Machine) : Type 0 where
  pub actors : List (Option Actor)
  pub by : actors_then l m.actors ≡ Ok actors
  pub answer : a ≡ Ok replies.Done
  pub next : n ≡ record m { actors = actors }

-- It is refused.
pub record IsRefused (l : Leaving) (m : Machine) (a : Answer) (n : Machine) : Type 0 where
  pub refusal : Refusal
  pub by : actors_then l m.actors ≡ Err refusal
  pub answer : a ≡ Err (troubles.Refused refusal)
  pub next : n ≡ m

by_row : (l : Leaving) (m : Machine) (a : Answer) (n : Machine) → answered_so m (actors_then l m.actors) ≡ record { answer = a; next = n } → IsDone l m a n ⊎ IsRefused l m a n
by_row l m a n e = by (actors_then l m.actors) refl e
  where
    by : (r : Then) → actors_then l m.actors ≡ r → answered_so m r ≡ record { answer = a; next = n } → IsDone l m a n ⊎ IsRefused l m a n
    by (Ok actors) is e = inl (record { actors = actors; by = is; answer = sym (ap (λ (x : plain.Answered). x.answer) e); next = sym (ap (λ (x : plain.Answered). x.next) e) })
    by (Err r) is e = inr (record { refusal = r; by = is; answer = sym (ap (λ (x : plain.Answered). x.answer) e); next = sym (ap (λ (x : plain.Answered). x.next) e) })

by_outcome : (l : Leaving) (m : Machine) (f : Option PageForest) (h : Segments) (a : Answer) (n : Machine) (rises : MapperCounts) → plain_outcome.Outcome m f (command_of l) h a n rises → IsDone l m a n ⊎ IsRefused l m a n
by_outcome l m f h (Ok r) n rises o = by_row l m (Ok r) n (sym (row l m (forest_shown f m) h) ∙ o)
by_outcome l m f h (Err (troubles.Refused r)) n rises o = by_row l m (Err (troubles.Refused r)) n (sym (row l m (forest_shown f m) h) ∙ o)
by_outcome l m f h (Err (troubles.Mapper at)) n rises o = absurd (no_fault l m f h at rises o.2)
by_outcome l m f h (Err troubles.Memory) n rises o = absurd (no_lack l o.1)

alike_to : (r : Answer) (a b : Answer) → a ≡ r → ((c : Answer) → IsAlike r c → c ≡ r) → IsAlike a b → b ≡ r
alike_to r a b e only h = only b (subst (λ (x : Answer). IsAlike x b) e h)

pub answered : (told : Option Segments) (l : Leaving) (m : Machine) (f : Option PageForest) (a : Answer) (n : Machine) (rises : MapperCounts) → OutcomeAt told m f (command_of l) a n rises → IsDone l m a n ⊎ IsRefused l m a n
answered (Some h) l m f a n rises o = by_outcome l m f h a n rises o
answered None l m f a n rises o = elim (by_outcome l o.whole f o.segments o.whole_answer o.whole_next rises o.outcome) [
  | inl g ↦ inl (record {
    actors = g.actors;
    by = ap (λ (x : Machine). actors_then l x.actors) o.is ∙ g.by;
    answer = alike_to (Ok replies.Done) o.whole_answer a g.answer (λ c h. sym h) o.alike;
    next = o.is_next ∙ ap blank g.next ∙ (λ i. record (sym o.is i) { actors = g.actors });
  })
  | inr g ↦ inr (record {
    refusal = g.refusal;
    by = ap (λ (x : Machine). actors_then l x.actors) o.is ∙ g.by;
    answer = alike_to (Err (troubles.Refused g.refusal)) o.whole_answer a g.answer (λ c h. sym h) o.alike;
    next = o.is_next ∙ ap blank g.next ∙ sym o.is;
  })
]
