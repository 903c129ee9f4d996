-- Calls that reached the mapper and pushed nothing.
use Rattle.std.proofs.Common.{◌≡◌, ◌<◌, [], Option, Some, None, refl, sym, ap, subst}
use Rattle.std.specs.Prelude.{IfSome, Result, Ok, Err}
use Rattle.vm_ids.specs.Counting.{no_counts}
use Rattle.vm_ids.specs.Held.{Held, segments_in, segments_of}
use Rattle.vm_ids.specs.declared.command.Command.{Command}
use Rattle.vm_ids.specs.declared.refusal.Refusal.TheVariants as refusals
use Rattle.vm_ids.specs.declared.reply.Reply.{Reply}
use Rattle.vm_ids.specs.declared.reply.Trouble.{Trouble}
use Rattle.vm_ids.specs.declared.reply.Trouble.TheVariants as troubles
use Rattle.vm_model.specs.Answering.{Answer}
use Rattle.vm_model.specs.Asking.{ReachesMapper}
use Rattle.vm_model.specs.Machine.{Machine}
use Rattle.vm_model.specs.Outcome.{HasWholePages, IsAlike, OutcomeAt, seen_at}
use Rattle.vm_model.specs.Synchronised.{IsSynchronised}
use Rattle.vm_port.specs.declared.traits.mapper.Mapper.{Ghosts as GhostsOfMapper}
use Rattle.gmi_calls.specs.Backing.{IsReady, eager_state}
use Rattle.gmi_calls.specs.Calling.{AsksFirst, MapperCall}
use Rattle.gmi_calls.specs.Reaching.{Asked, Reached}
use Rattle.gmi_calls.specs.Room.{pages_needed}
use Rattle.gmi_calls.proofs.Called.{OutcomeFor, call_reached, eager_call, ready_after}
use Rattle.gmi_calls.proofs.Still.{made_still}
use Rattle.flat_mm.specs.Manager.{AreKept, IsValid, Manager, flat, machine_in, room_of}
use Rattle.flat_mm.proofs.Calls.{FitsCall, flat_call}
use Rattle.flat_mm.proofs.Storing.{kept_still}

module _ {X T E : Type 0} (M : GhostsOfMapper X) (before after : X) (p : Manager) (command : Command) (valid : IsValid p (M.held before)) (r : Result T E) where
  module _ (same : M.held after ≡ M.held before) (R : Reached (M.counts before) (M.counts after) r) (page : M.page_bytes after ≡ M.page_bytes before) (reaches : ReachesMapper command R.rises) where
    -- one after which the manager stands for the next machine
    pub reached_call : (q : Manager) (a : Answer) → HasWholePages (machine_in q) → OutcomeFor (M.held before) (machine_in p) command a (machine_in q) R.rises → IsSynchronised (machine_in p) (segments_of (M.held after)) command a
        → AsksFirst command a (M.counts before) (M.counts after) → FitsCall p command a q → IfSome (M.held before) (λ h. AreKept (segments_in h) q.store.caches) → MapperCall M flat before p command a after q
    reached_call q a whole outcome said asks fits kept =
        flat_call M before after p q command a fits (kept_still (M.held before) (M.held after) q.store.caches same kept)
        (eager_call M before after (machine_in p) (machine_in q) command a
        (subst (IsReady (machine_in q)) (sym same) (ready_after (M.held before) (machine_in p) (machine_in q) command a R.rises valid.ready whole outcome))
        (call_reached (M.held before) (M.held after) _ _ (machine_in p) (machine_in q) command a r same R valid.ready.whole whole reaches outcome said)
        asks page)

    -- one that changes nothing
    pub left_call : (e : Trouble) → OutcomeFor (M.held before) (machine_in p) command (Err e) (machine_in p) R.rises → IsSynchronised (machine_in p) (segments_of (M.held after)) command (Err e)
        → AsksFirst command (Err e) (M.counts before) (M.counts after) → MapperCall M flat before p command (Err e) after p
    left_call e outcome said asks = reached_call p (Err e) valid.ready.whole outcome said asks (λ told now. tt) valid.kept

  -- one for which there is no room
  pub full_call : Asked M before after r → (reply : Reply) (next : Machine) → IsAlike (Ok reply) (Ok reply) → OutcomeFor (M.held before) (machine_in p) command (Ok reply) next no_counts
      → room_of p < pages_needed (seen_at (M.held before) (machine_in p)) command (seen_at (M.held before) next) → MapperCall M flat before p command (Err (troubles.Refused refusals.Full)) after p
  full_call asked reply next alike outcome more = record {
    valid = subst (IsValid p) (sym asked.held) valid;
    answers = record {
      pushes = [];
      rises = asked.reached.rises;
      rose = asked.reached.rose;
      is = record {
        reply = reply;
        next = seen_at (M.held before) next;
        outcome = subst (λ (o : Option Held). OutcomeAt (segments_of o) (seen_at (M.held before) (machine_in p)) None command (Ok reply) (seen_at (M.held before) next) no_counts) (sym asked.held) (told_outcome (M.held before) outcome);
        more = more;
        same = ap (λ (o : Option Held). eager_state o (machine_in p)) asked.held;
        no_push = refl;
      };
    };
    asks_first = asked.quiet;
    made = made_still (seen_at (M.held before) (machine_in p)) command (Err (troubles.Refused refusals.Full)) (seen_at (M.held after) (machine_in p)) 0;
    room = refl;
    page = asked.page;
  }
    where
      told_outcome : (told : Option Held) → OutcomeFor told (machine_in p) command (Ok reply) next no_counts → OutcomeAt (segments_of told) (seen_at told (machine_in p)) None command (Ok reply) (seen_at told next) no_counts
      told_outcome (Some h) o = o
      told_outcome None o = record {
        whole = machine_in p;
        whole_next = next;
        segments = o.0;
        whole_answer = Ok reply;
        is = refl;
        is_next = refl;
        pages = valid.ready.whole;
        alike = alike;
        outcome = o.1;
      }
