-- Calls of the manager, from those of the machine that it stands for.
use Rattle.std.proofs.Common.{◌≡◌, ℕ, ◌+◌, ◌≤◌, List, [], ◌∷◌, map, Option, Some, None, refl, sym, ◌∙◌, arith}
use Rattle.std.specs.Prelude.{IfSome, Ok, Err, option_map, sum_by}
use Rattle.std.proofs.lemmas.List.{length-map}
use Rattle.std.proofs.lemmas.List.Sums.{sum_by-cons}
use Rattle.vm_ids.specs.Counting.{MapperCounts, no_counts}
use Rattle.vm_ids.specs.Held.{Held, segments_in}
use Rattle.vm_ids.specs.declared.command.Command.{Command}
use Rattle.vm_ids.specs.declared.refusal.Refusal.TheVariants as refusals
use Rattle.vm_ids.specs.declared.reply.Trouble.TheVariants as troubles
use Rattle.vm_model.specs.Answering.{Answer}
use Rattle.vm_model.specs.Asking.{pages_made}
use Rattle.vm_model.specs.Machine.{Cache, Machine, live_pages, pages_in}
use Rattle.vm_model.specs.Outcome.{blank_cache, seen_at}
use Rattle.vm_model.specs.Run.{AnswerIs, CallIs, State}
use Rattle.vm_port.specs.declared.traits.mapper.Mapper.{Ghosts as GhostsOfMapper}
use Rattle.gmi_calls.specs.Backing.{eager, eager_state}
use Rattle.gmi_calls.specs.Calling.{AnswersWithin, CallDone, MapperCall}
use Rattle.gmi_calls.specs.Parking.{AccessCall}
use Rattle.gmi_calls.specs.Reaching.{NoPages}
use Rattle.gmi_calls.specs.Room.{AnswerWithin, LimitedCall, pages_needed}
use Rattle.gmi_calls.proofs.Still.{made_still}
use Rattle.flat_mm.proofs.NeverFull.{never_full}
use Rattle.flat_mm.specs.Manager.{AreKept, IsValid, Manager, flat, machine_in, room_of}

-- How many live pages there are, with or without their bytes

blank_size : (o : Option Cache) → pages_in (option_map blank_cache o) ≡ pages_in o
blank_size None = refl
blank_size (Some c) = length-map c.pages (λ _. let none : List ℕ = [] in none)

blank_live : (cs : List (Option Cache)) → sum_by pages_in (map (option_map blank_cache) cs) ≡ sum_by pages_in cs
blank_live [] = refl
blank_live (c ∷ cs) = sum_by-cons pages_in (option_map blank_cache c) (map (option_map blank_cache) cs) ∙ (λ i. blank_size c i + blank_live cs i) ∙ sym (sum_by-cons pages_in c cs)

pub seen_live : (told : Option Held) (m : Machine) → live_pages (seen_at told m) ≡ live_pages m
seen_live (Some h) m = refl
seen_live None m = blank_live m.caches

-- a machine with no more live pages
pub none_made : (told now : Option Held) (m next : Machine) → live_pages next ≤ live_pages m → pages_made (seen_at told m) (seen_at now next) ≡ 0
none_made told now m next less = omega (arith, seen_live told m, seen_live now next, less)

-- Room

-- there is room for what was done
abbrev pub FitsRoom : ℕ → Machine → Command → Answer → Machine → Type 0
FitsRoom room m command (Err trouble) next = Unit {0}
FitsRoom room m command (Ok reply) next = pages_needed m command next ≤ room

pub within : (room : ℕ) (before after : State) (command : Command) (a : Answer) (pushes : List (ℕ × ℕ)) (rises : MapperCounts) → FitsRoom room before.machine command a after.machine → AnswerIs before command a pushes rises after
    → AnswerWithin (Some room) before command a pushes rises after
within room before after command (Ok r) pushes rises fits is = (is, fits)
within room before after command (Err (troubles.Refused refusals.Full)) pushes rises fits is = absurd (never_full after.segments before.machine after.machine before.forest command rises is.outcome)
within room before after command (Err e) pushes rises fits is = is

abbrev pub FitsCall : Manager → Command → Answer → Manager → Type 0
FitsCall p command a q = (told now : Option Held) → FitsRoom (room_of p) (seen_at told (machine_in p)) command a (seen_at now (machine_in q))

-- Calls

-- one that takes no mapper
pub flat_done : (p q : Manager) (command : Command) (a : Answer) → FitsCall p command a q → ((h : Held) → AreKept (segments_in h) p.store.caches → AreKept (segments_in h) q.store.caches)
    → CallDone eager (machine_in p) command a (machine_in q) → CallDone flat p command a q
flat_done p q command a fits kept E = record {
  valid = valid;
  answers = λ h v. within (room_of p) (eager_state h (machine_in p)) (eager_state h (machine_in q)) command a [] no_counts (fits h h) (E.answers h v.ready);
  made = λ h v. made_still (seen_at h (machine_in p)) command a (seen_at h (machine_in q)) 0;
  room = refl;
}
  where
    valid : (h : Option Held) → IsValid p h → IsValid q h
    valid None v = record { ready = E.valid None v.ready; kept = tt }
    valid (Some h) v = record { ready = E.valid (Some h) v.ready; kept = kept h v.kept }

abbrev pub limited : (room : ℕ) (c d : MapperCounts) (before after : State) (command : Command) (a : Answer) → FitsRoom room before.machine command a after.machine → CallIs c d before command a after → LimitedCall room c d before command a after
limited room c d before after command a fits E = record { pushes = E.pushes; rises = E.rises; rose = E.rose; is = within room before after command a E.pushes E.rises fits E.is }

module _ {X : Type 0} (M : GhostsOfMapper X) (before after : X) (p q : Manager) (command : Command) (a : Answer) (fits : FitsCall p command a q) (kept : IfSome (M.held after) (λ h. AreKept (segments_in h) q.store.caches)) where
  -- one that takes it
  abbrev pub flat_call : MapperCall M eager before (machine_in p) command a after (machine_in q) → MapperCall M flat before p command a after q
  flat_call E = record {
    valid = record { ready = E.valid; kept = kept };
    answers = limited (room_of p) (M.counts before) (M.counts after) (eager_state (M.held before) (machine_in p)) (eager_state (M.held after) (machine_in q)) command a (fits (M.held before) (M.held after)) E.answers;
    asks_first = E.asks_first;
    made = made_still (seen_at (M.held before) (machine_in p)) command a (seen_at (M.held after) (machine_in q)) 0;
    room = refl;
    page = E.page;
  }

  -- one in which no page comes or goes
  pub flat_access : AccessCall M eager NoPages before (machine_in p) command a after (machine_in q) → AccessCall M flat NoPages before p command a after q
  flat_access E = record { call = flat_call E.call; so = E.so }
