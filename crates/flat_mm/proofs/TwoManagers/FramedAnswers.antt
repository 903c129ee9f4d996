-- What is answered within so much room is what is computed; and the worked scripts are.
use Rattle.std.proofs.Common.{◌≡◌, ℕ, ◌<◌, ◌≤◌, Bool, true, false, cond, Option, Some, refl, sym, ap, subst, ◌∙◌, arith}
use Rattle.std.specs.Prelude.{◌&&◌, nat_lt, is_ok, Ok, Err}
use Rattle.std.proofs.lemmas.Bool.Decides.{nat_tests}
use Rattle.vm_ids.specs.Counting.{MapperCounts, no_counts}
use Rattle.vm_ids.specs.Held.{Segments}
use Rattle.vm_ids.specs.declared.command.Command.{Command}
use Rattle.vm_ids.specs.declared.refusal.Refusal.TheVariants as refusals
use Rattle.vm_ids.specs.declared.reply.Trouble.TheVariants as troubles
use Rattle.vm_ids.specs.declared.reply.Reply.{Reply}
use Rattle.vm_model.specs.Machine.{Machine}
use Rattle.vm_model.specs.PageForest.{forest_shown}
use Rattle.vm_model.specs.Answering.{Answer, Answered, copy_of, destroy_of, load_of, lock_of, make_actor_of, make_temp_of, map_of, refuse, store_of, unless, unlock_of, unmap_of, with_ok, with_some}
use Rattle.vm_model.specs.Outcome.{OutcomeAt}
use Rattle.vm_model.specs.Run.{State}
use Rattle.gmi_calls.specs.Room.{AnswerWithin, pages_needed}
use Rattle.flat_mm.specs.TwoManagers.{frames_left, is_failure}
use Rattle.flat_mm.specs.FramedAnswers.{FramesAreEnough, FramesRunOut, FramesTellAnswers, framed_answer, within_room}

module _ (room : ℕ) (m : Machine) (command : Command) (a : Answered) where
  has_room : pages_needed m command a.next ≤ room → within_room room m command a ≡ a
  has_room few = by (is_ok a.answer) (nat_lt room (pages_needed m command a.next)) (grind (arith, nat_tests))
    where
      by : (b lacks : Bool) → lacks ≡ false → cond (b && lacks) (refuse m refusals.Full) a ≡ a
      by true lacks e = ap (λ (x : Bool). cond x (refuse m refusals.Full) a) e
      by false lacks e = refl

lacks_room : (room : ℕ) (m next : Machine) (command : Command) (r : Reply) → room < pages_needed m command next → within_room room m command (record { answer = Ok r; next = next }) ≡ refuse m refusals.Full
lacks_room room m next command r more = ap (λ (b : Bool). cond b (refuse m refusals.Full) (record { answer = Ok r; next = next })) (let e : nat_lt room (pages_needed m command next) ≡ true = grind (arith, nat_tests) in e)

pub frames_tell_answers : FramesTellAnswers
frames_tell_answers s u h command answer pushes rises told e w = by answer e w
  where
    at : (b : Answer) (next : Machine) (rises : MapperCounts) → OutcomeAt u.segments s.machine s.forest command b next rises → OutcomeAt (Some h) s.machine s.forest command b next rises
    at b next rises o = subst (λ (t : Option Segments). OutcomeAt t s.machine s.forest command b next rises) told o

    by : (b : Answer) → is_failure b ≡ false → AnswerWithin (Some (frames_left s.machine)) s command b pushes rises u → framed_answer s.machine (forest_shown s.forest s.machine) command h ≡ record { answer = b; next = u.machine }
    by (Ok r) e w =
        ap (within_room (frames_left s.machine) s.machine command) (at (Ok r) u.machine rises w.0.outcome)
        ∙ has_room (frames_left s.machine) s.machine command (record { answer = Ok r; next = u.machine }) w.1
    by (Err (troubles.Refused refusals.Full)) e w =
        ap (within_room (frames_left s.machine) s.machine command) (at (Ok w.reply) w.next no_counts w.outcome)
        ∙ lacks_room (frames_left s.machine) s.machine w.next command w.reply w.more
        ∙ ap (λ (x : State). refuse x.machine refusals.Full) (sym w.same)
    by (Err (troubles.Refused r)) e w = ap (within_room (frames_left s.machine) s.machine command) (at (Err (troubles.Refused r)) u.machine rises w.outcome)
    by (Err (troubles.Mapper p)) e w = absurd (cc e)
    by (Err troubles.Memory) e w = absurd (cc e)

pub frames_run_out : FramesRunOut
unfolding make_actor_of make_temp_of destroy_of copy_of map_of unmap_of load_of store_of unless with_some with_ok
frames_run_out = refl

pub frames_are_enough : FramesAreEnough
unfolding make_actor_of make_temp_of copy_of map_of unmap_of lock_of unlock_of load_of store_of unless with_some with_ok
frames_are_enough = record { framed = refl; unlimited = refl }
