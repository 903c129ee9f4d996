-- What the calls of the plain machine of processes say.
use Rattle.std.specs.Prelude.{◌≡◌, ℕ, ◌+◌, nat_lt, List, length, Option, Result, Ok, Err}
use Rattle.std.specs.FinMap.{get}
use Rattle.vm_ids.specs.Held.{Segments}
use Rattle.vm_ids.specs.declared.command.MixCommand.{MixCommand}
use Rattle.vm_ids.specs.declared.command.MixCommand.TheVariants as commands
use Rattle.vm_ids.specs.declared.reply.NoMemory.{NoMemory}
use Rattle.vm_ids.specs.declared.refusal.Refusal.{Refusal}
use Rattle.vm_ids.specs.declared.refusal.Refusal.TheVariants.{BadImage, NoSegment}
use Rattle.vm_model.specs.Answering.{Answer}
use Rattle.vm_model.specs.Machine.{Page}
use Rattle.mix_process.specs.Answering.{Answered, add_process, process_from, unless, with_some}
use Rattle.mix_process.specs.ProcessMachine as model
use Rattle.mix_process.specs.ProcessMachine.{Place, ProcessMachine}
use Rattle.mix_process.specs.declared.plain.process.Spot.{Spot}

-- a place in a process, or why there is none
abbrev pub spot_seen : model.Process → Result Spot Refusal → Result Place Refusal
spot_seen p (Ok s) = Ok (record { process = p; area = s.area; page = s.page; byte = s.byte })
spot_seen p (Err e) = Err e

-- The segment that an exec names holds these pages, if there is one. No other command reads any.
abbrev pub IsRead : MixCommand → Segments → Option (List Page) → Type 0
IsRead (commands.Exec seg text data_pages stack) h held = get h.pages seg.0 ≡ held
IsRead command h held = Unit {0}

-- It was answered so, and the machine is the next one; or there was no memory, and it is as it was.
abbrev pub IsAnswered : ProcessMachine → Answered → Result Answer NoMemory → ProcessMachine
    → Type 0
IsAnswered old row (Ok answer) new = row ≡ record { answer = answer; next = new }
IsAnswered old row (Err e) new = new ≡ old

-- how an exec ends, where the image of its segment is known
abbrev pub exec_ends : ProcessMachine → ℕ → ℕ → ℕ → Option (List Page) → Answered
exec_ends m text data_pages stack image =
    with_some image NoSegment m (λ pages.
    unless (nat_lt (length pages) (text + data_pages)) BadImage m
    (add_process m (process_from m.page_bytes pages text data_pages stack)))
