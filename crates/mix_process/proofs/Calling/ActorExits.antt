-- What becomes of a living actor that exits: nothing can keep it from going.
use Rattle.std.proofs.Common.{◌≡◌, ℕ, ◌-◌, set, Option, Some, None, sym, ap, ◌∙◌}
use Rattle.std.specs.Prelude.{Ok, Err}
use Rattle.vm_ids.specs.declared.command.Command.TheVariants as commands
use Rattle.vm_ids.specs.declared.reply.Reply.TheVariants as replies
use Rattle.vm_ids.specs.declared.reply.Trouble.TheVariants as troubles
use Rattle.vm_ids.specs.declared.refusal.Refusal.TheVariants as refusals
use Rattle.interface_callers.proofs.Words.{Actor, ActorId, Answer, Command, FaultAt, Machine, MapperCounts, MayFault, MayLackMemory, Outcome, OutcomeAt, PageForest, Segments, actor_of, answer_of, blank, exit_actor_of, forest_shown, reply, with_some}
use Rattle.interface_callers.proofs.Rows.{IsDone, is_done}
use Rattle.interface_callers.proofs.Answers.{still_done}

-- where the machine answers so, and the command gives no fault and wants no memory
done_by_row : (m : Machine) (f : Option PageForest) (c : Command) (h : Segments) (after : Machine) → answer_of m (forest_shown f m) c h ≡ reply replies.Done after
    → ((at : FaultAt) (rises : MapperCounts) → MayFault m f c h at rises → ⊥) → (MayLackMemory c → ⊥)
    → (a : Answer) (next : Machine) (rises : MapperCounts) → Outcome m f c h a next rises → IsDone a next after
done_by_row m f c h after row sure enough (Ok r) next rises o = is_done after (Ok r) next (sym row ∙ o)
done_by_row m f c h after row sure enough (Err (troubles.Refused r)) next rises o = is_done after (Err (troubles.Refused r)) next (sym row ∙ o)
done_by_row m f c h after row sure enough (Err (troubles.Mapper at)) next rises o = absurd (sure at rises o.2)
done_by_row m f c h after row sure enough (Err troubles.Memory) next rises o = absurd (enough o.1)

abbrev ended : Machine → ℕ → Machine
ended m actor = record m { actors = set m.actors (actor - 1) None }

exited : (m : Machine) (actor : ℕ) (regions : Actor) → actor_of m actor ≡ Some regions → exit_actor_of m actor ≡ reply replies.Done (ended m actor)
unfolding exit_actor_of with_some
exited m actor regions there = ap (λ (o : Option Actor). with_some o refusals.NoActor m (λ regions. reply replies.Done (ended m actor))) there

-- An exit of a living actor is done.
pub living_exited : (told : Option Segments) (m : Machine) (f : Option PageForest) (actor : ActorId) (regions : Actor) → actor_of m actor.0 ≡ Some regions
    → (a : Answer) (next : Machine) (rises : MapperCounts) → OutcomeAt told m f (commands.ExitActor actor) a next rises → IsDone a next (record m { actors = set m.actors (actor.0 - 1) None })
living_exited (Some h) m f actor regions there a next rises o =
    done_by_row m f (commands.ExitActor actor) h (ended m actor.0) (exited m actor.0 regions there) (λ at rises may. may) (λ e. e) a next rises o
living_exited None m f actor regions there a next rises o =
    let w : Machine = o.whole in
    let there_whole : actor_of w actor.0 ≡ Some regions = ap (λ (x : Machine). actor_of x actor.0) (sym o.is) ∙ there in
    let done = done_by_row w f (commands.ExitActor actor) o.segments (ended w actor.0) (exited w actor.0 regions there_whole) (λ at rises may. may) (λ e. e) o.whole_answer o.whole_next rises o.outcome in
    record {
      done = still_done o.whole_answer a done.done o.alike;
      next = o.is_next ∙ ap blank done.next ∙ ap (λ (x : Machine). ended x actor.0) (sym o.is);
    }
