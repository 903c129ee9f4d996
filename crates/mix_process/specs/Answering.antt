-- The answer to each command of a script of processes, row by row: the first refusal that holds, or
-- else the reply and the change.
use Rattle.std.specs.Prelude.{ℕ, ◌+◌, ◌-◌, ◌||◌, not, Bool, nat_lt, List, [], ◌∷◌, ◌++◌, length, take, drop, replicate, Option, Some, None, slice_get, slice_set, Result, Ok, Err, if◌then◌else◌, unwrap_or}
use Rattle.std.specs.FinMap.{get}
use Rattle.vm_ids.specs.Held.{Segments}
use Rattle.vm_ids.specs.declared.command.MixCommand.{MixCommand}
use Rattle.vm_ids.specs.declared.command.MixCommand.TheVariants as commands
use Rattle.vm_ids.specs.declared.refusal.Refusal.{Refusal}
use Rattle.vm_ids.specs.declared.refusal.Refusal.TheVariants.{BadImage, NoProcess, NoSegment, Protection, TooLarge}
use Rattle.vm_ids.specs.declared.reply.Reply.{Reply}
use Rattle.vm_ids.specs.declared.reply.Reply.TheVariants as replies
use Rattle.vm_ids.specs.declared.reply.Trouble.TheVariants.{Refused}
use Rattle.vm_model.specs.Answering.{Answer, overwrite}
use Rattle.vm_model.specs.Machine.{Page, zero_page}
use Rattle.mix_process.specs.ProcessMachine.{Place, Process, ProcessMachine, image_of, may_write, pages_of, place, process_of, with_pages}
use Rattle.mix_process.specs.declared.area.TheConstants.{MOST_DATA, MOST_STACK, MOST_TEXT}

-- An answer, and the machine after it.
pub record Answered : Type 0 where
  pub answer : Answer
  pub next : ProcessMachine

-- refused: the machine stays
abbrev pub refuse : ProcessMachine → Refusal → Answered
refuse m r = record { answer = Err (Refused r); next = m }

abbrev pub reply : Reply → ProcessMachine → Answered
reply r next = record { answer = Ok r; next = next }

-- refused where this is bad
unfoldable pub unless : Bool → Refusal → ProcessMachine → Answered → Answered
unless bad r m go = if bad then refuse m r else go

-- refused where there is nothing; else it goes on with what was found
unfoldable pub with_some : {A : Type 0} → Option A → Refusal → ProcessMachine → (A → Answered)
    → Answered
with_some None r m go = refuse m r
with_some (Some x) r m go = go x

-- refused as this is; else it goes on with what was found
unfoldable pub with_ok : {A : Type 0} → Result A Refusal → ProcessMachine → (A → Answered)
    → Answered
with_ok (Err r) m go = refuse m r
with_ok (Ok x) m go = go x

-- the machine with an image of a segment that holds these pages, if it has none of it yet
abbrev pub imaged : ProcessMachine → ℕ → Option (List Page) → Option (List Page) → ProcessMachine
imaged m seg (Some image) held = m
imaged m seg None None = m
imaged m seg None (Some pages) = record m { images = m.images ++ (seg, pages) ∷ [] }

abbrev pub with_image : ProcessMachine → ℕ → Option (List Page) → ProcessMachine
with_image m seg held = imaged m seg (image_of m seg) held

-- Text and data are pages of the image, one behind the other, and the stack is zeros.
abbrev pub process_from : ℕ → List Page → ℕ → ℕ → ℕ → Process
process_from page_bytes pages text data_pages stack = record {
  text_pages = take text pages;
  data_pages = take data_pages (drop text pages);
  stack_pages = replicate stack (zero_page page_bytes);
  pieces = data_pages ∷ [];
}

-- a new process, under the next number
abbrev pub add_process : ProcessMachine → Process → Answered
add_process m p =
    reply (replies.Process (record { 0 = length m.processes + 1 }))
    (record m { processes = m.processes ++ Some p ∷ [] })

abbrev pub put_process : ProcessMachine → ℕ → Option Process → ProcessMachine
put_process m process p = record m { processes = slice_set m.processes (process - 1) p }

-- an area of a process would be longer than one may be
abbrev pub is_too_large : ℕ → ℕ → ℕ → Bool
is_too_large text data_pages stack =
    nat_lt MOST_TEXT text || nat_lt MOST_DATA data_pages || nat_lt MOST_STACK stack

-- exec: a new process made of the image of a segment, which holds these pages if there is one
unfoldable pub exec_of : ProcessMachine → ℕ → ℕ → ℕ → ℕ → Option (List Page) → Answered
exec_of m seg text data_pages stack held =
    unless (is_too_large text data_pages stack) TooLarge m
    (let next = with_image m seg held in
    with_some (image_of next seg) NoSegment next (λ pages.
    unless (nat_lt (length pages) (text + data_pages)) BadImage next
    (add_process next (process_from m.page_bytes pages text data_pages stack))))

-- fork: a new process that has what this one has
unfoldable pub fork_of : ProcessMachine → ℕ → Answered
fork_of m process = with_some (process_of m process) NoProcess m (λ p. add_process m p)

-- exit: the process is gone
unfoldable pub exit_of : ProcessMachine → ℕ → Answered
exit_of m process =
    with_some (process_of m process) NoProcess m (λ p.
    reply replies.Done (put_process m process None))

-- the process with so many more pages of zeros behind its data
abbrev pub grown_by : ℕ → ℕ → Process → Process
grown_by page_bytes pages p =
    record p {
      data_pages = p.data_pages ++ replicate pages (zero_page page_bytes);
      pieces = p.pieces ++ pages ∷ [];
    }

-- grow: zeros are appended to the data of the process
unfoldable pub grow_of : ProcessMachine → ℕ → ℕ → Answered
grow_of m process pages =
    with_some (process_of m process) NoProcess m (λ p.
    unless (nat_lt MOST_DATA (length p.data_pages + pages)) TooLarge m
    (reply replies.Done (put_process m process (Some (grown_by m.page_bytes pages p)))))

-- the page of a place, empty where there is none
abbrev pub page_at : Place → Page
page_at at = unwrap_or (slice_get (pages_of at.process at.area) at.page) []

-- load: the bytes at the place
unfoldable pub load_of : ProcessMachine → ℕ → ℕ → ℕ → Answered
load_of m process address length =
    with_ok (place m process address length) m (λ at.
    reply (replies.Bytes (take length (drop at.byte (page_at at)))) m)

-- the process with these bytes at the place
abbrev pub written_at : Place → List ℕ → Process
written_at at bytes =
    with_pages at.area
    (slice_set (pages_of at.process at.area) at.page (overwrite at.byte bytes (page_at at)))
    at.process

-- store: the bytes at the place change
unfoldable pub store_of : ProcessMachine → ℕ → ℕ → List ℕ → Answered
store_of m process address bytes =
    with_ok (place m process address (length bytes)) m (λ at.
    unless (not (may_write at.area)) Protection m
    (reply replies.Done (put_process m process (Some (written_at at bytes)))))

-- the whole table
abbrev pub answer_of : ProcessMachine → MixCommand → Segments → Answered
answer_of m (commands.Exec seg text data_pages stack) h =
    exec_of m seg.0 text data_pages stack (get h.pages seg.0)
answer_of m (commands.Fork process) h = fork_of m process.0
answer_of m (commands.Exit process) h = exit_of m process.0
answer_of m (commands.Grow process pages) h = grow_of m process.0 pages
answer_of m (commands.Load process address length) h = load_of m process.0 address length
answer_of m (commands.Store process address piece) h = store_of m process.0 address piece
answer_of m (commands.PageOut count) h = reply replies.Done m
