-- Calls of the manager in which each live page has a page frame.
use Rattle.std.proofs.Common.{◌≡◌, ℕ, List, Option, Some, Ok, Err, arith, refl, subst}
use Rattle.vm_ids.specs.Counting.{MapperCounts, Rise, no_counts}
use Rattle.vm_ids.specs.Held.{Held}
use Rattle.vm_ids.specs.declared.command.Command.{Command}
use Rattle.vm_ids.specs.declared.command.Command.TheVariants as commands
use Rattle.vm_ids.specs.declared.refusal.Refusal.TheVariants.{Full}
use Rattle.vm_ids.specs.declared.reply.Trouble.TheVariants.{Refused}
use Rattle.vm_model.specs.Answering.{Answer}
use Rattle.vm_model.specs.Run.{State, state_of}
use Rattle.vm_port.specs.declared.traits.mapper.Mapper.{Ghosts as GhostsOfMapper}
use Rattle.gmi_calls.specs.Calling.{AsksFirst}
use Rattle.gmi_calls.specs.Room.{AnswerWithin, LimitedCall}
use Rattle.gmi_calls.proofs.Ready.{fits_after, live_after}
use Rattle.line_service.specs.Serving.{AnswersBy, AnyRise}
use Rattle.flat_mm.specs.Alone.{AsksAlone, FlatCall}
use Rattle.flat_mm.specs.Manager.{Manager, flat, machine_in, room_of}
use Rattle.flat_mm.specs.TwoManagers.{frames_left}
use Rattle.flat_mm.proofs.Rooms.{same_left}
use Rattle.replay.specs.Framed.{IsQuietlyFull, StaysInFrames, framed_meaning, framed_semantics}
use Rattle.replay.specs.Managing.{CanCallFramed}
use Rattle.replay.proofs.Answered.{answered}

-- where no count rises no page comes or goes
none_moves : (command : Command) → AsksAlone command no_counts
none_moves (commands.Load actor address bytes) = record { pulled = refl; pushed = refl }
none_moves (commands.Store actor address piece) = record { pulled = refl; pushed = refl }
none_moves (commands.Lock region) = record { pulled = refl; pushed = refl }
none_moves (commands.PageOut count) = record { pulled = refl; pushed = refl }
none_moves command = tt

stays_of : (command : Command) (rises : MapperCounts) → AsksAlone command rises → StaysInFrames command rises
stays_of (commands.Load actor address bytes) rises alone = (alone.pulled, alone.pushed)
stays_of (commands.Store actor address piece) rises alone = (alone.pulled, alone.pushed)
stays_of (commands.Lock region) rises alone = (alone.pulled, alone.pushed)
stays_of (commands.PageOut count) rises alone = (alone.pulled, alone.pushed)
stays_of command rises alone = tt

-- there is room for as many pages as frames are left
room_is : (p : Manager) (held : Option Held) → room_of p ≡ frames_left (flat.machine p held)
room_is p held = same_left held (machine_in p)

module _ (n : ℕ) (c d : MapperCounts) (s t : State) (command : Command) (is : n ≡ frames_left s.machine) where
  told : (a : Answer) (pushes : List (ℕ × ℕ)) (rises : MapperCounts) → Rise c d rises → AnswerWithin (Some n) s command a pushes rises t → IsQuietlyFull a rises → AsksAlone command rises → AnswersBy framed_semantics AnyRise c d s (Ok command) a t
  told a pushes rises rose w quiet alone =
      answered framed_meaning command c d rises s a t rose (record { within = (pushes, subst (λ (room : ℕ). AnswerWithin (Some room) s command a pushes rises t) is w); quiet = quiet; stays = stays_of command rises alone })

  -- where it is `Full` no page came or went, and no fault is told
  quietly : (a : Answer) (w : LimitedCall n c d s command a t) → AsksFirst command a c d → AsksAlone command w.rises → AnswersBy framed_semantics AnyRise c d s (Ok command) a t
  quietly (Ok r) w asks alone = told (Ok r) w.pushes w.rises w.rose w.is tt alone
  quietly (Err (Refused Full)) w quiet alone =
      told (Err (Refused Full)) w.pushes no_counts (record {
        faults_later = w.rose.faults_later;
        pulls_later = w.rose.pulls_later;
        pushes_later = w.rose.pushes_later;
        faults = λ e. omega (arith, w.rose.faults_later);
        pulls = quiet.pulled;
        pushes = quiet.pushed;
      }) w.is refl (none_moves command)
  quietly (Err e) w asks alone = told (Err e) w.pushes w.rises w.rose w.is tt alone

module _ {X : Type 0} (M : GhostsOfMapper X) (before after : X) (old new : Manager) (able : CanCallFramed old (M.held before) (M.page_bytes before)) (command : Command) (a : Answer) (E : FlatCall M (AsksAlone command) before old command a after new) where
  abbrev state_before : State
  state_before = state_of flat.machine flat.forest old (M.held before)

  abbrev state_after : State
  state_after = state_of flat.machine flat.forest new (M.held after)

  pub framed_answered : AnswersBy framed_semantics AnyRise (M.counts before) (M.counts after) state_before (Ok command) a state_after
  framed_answered = quietly (room_of old) (M.counts before) (M.counts after) state_before state_after command (room_is old (M.held before)) a E.call.answers E.call.asks_first E.so

  pub framed_able : CanCallFramed new (M.held after) (M.page_bytes after)
  framed_able = record {
    valid = E.call.valid;
    fits = fits_after (flat.room old) (M.counts before) (M.counts after) state_before state_after command a (M.page_bytes before) (M.page_bytes after) E.call.answers E.call.page able.fits;
    live = live_after (flat.room old) (M.counts before) (M.counts after) state_before state_after command a E.call.answers able.live;
  }
