-- What C asks for in an exchange, and what is answered in it.
use Rattle.std.specs.Prelude.{◌==◌, ◌||◌, ◌++◌, ℕ, Bool, None, Option, Some, Ok, Err, drop, if◌then◌else◌, length, nat_lt, not, option_and_then, slice_get, take}
use Rattle.vm_ids.specs.Refusing.{refusal_number}
use Rattle.vm_ids.specs.declared.command.Command.{Command}
use Rattle.vm_ids.specs.declared.command.Command.TheVariants as commands
use Rattle.vm_ids.specs.declared.command.Mapping.{Mapping}
use Rattle.vm_ids.specs.declared.command.Prot.{Prot}
use Rattle.vm_ids.specs.declared.command.Span.{Span}
use Rattle.vm_ids.specs.declared.reply.FaultAt.{FaultAt}
use Rattle.vm_ids.specs.declared.reply.FaultAt.TheVariants as faults
use Rattle.vm_ids.specs.declared.reply.Reply.{Reply}
use Rattle.vm_ids.specs.declared.reply.Reply.TheVariants as replies
use Rattle.vm_ids.specs.declared.reply.Trouble.TheVariants as troubles
use Rattle.vm_model.specs.Answering.{Answer}
use Rattle.chorus_c.specs.declared.exchange.Call.{Call}
use Rattle.chorus_c.specs.declared.exchange.Call.TheVariants as calls
use Rattle.chorus_c.specs.declared.exchange.TheConstants.{CALLS}
use Rattle.chorus_c.specs.declared.exchange.Exchange.{Exchange}

-- a command over so many pages or frames, at least one
abbrev pub counted : ℕ → Command → Option Command
counted pages command = if pages == 0 then None else Some command

-- an access of so many bytes, 1 to 64
abbrev pub sized : ℕ → Command → Option Command
sized bytes command = if bytes == 0 || nat_lt 64 bytes then None else Some command

abbrev pub prot_in : Exchange → Prot
prot_in e = record { write = not (e.write == 0) }

abbrev pub span_in : Exchange → Span
span_in e = record {
  from = record { 0 = e.cache };
  from_page = record { 0 = e.page };
  to = record { 0 = e.to_cache };
  to_page = record { 0 = e.to_page };
  pages = e.pages;
}

abbrev pub mapping_in : Exchange → Mapping
mapping_in e = record {
  extent = record {
    cache = record { 0 = e.cache };
    first = record { 0 = e.page };
    pages = e.pages;
  };
  address = e.address;
  prot = prot_in e;
}

-- the command that a call asks for, by the fields that it takes; none where a count is out of range
abbrev pub asked_by : Exchange → Call → Option Command
asked_by e calls.Actor = Some commands.MakeActor
asked_by e calls.Exit = Some (commands.ExitActor (record { 0 = e.actor }))
asked_by e calls.Temp = counted e.pages (commands.MakeTemp e.pages)
asked_by e calls.Destroy = Some (commands.Destroy (record { 0 = e.cache }))
asked_by e calls.Copy = counted e.pages (commands.Copy (span_in e))
asked_by e calls.Move = counted e.pages (commands.Move (span_in e))
asked_by e calls.Map = counted e.pages (commands.Map (record { 0 = e.actor }) (mapping_in e))
asked_by e calls.Split = counted e.pages (commands.Split (record { 0 = e.region }) e.pages)
asked_by e calls.Protect = Some (commands.Protect (record { 0 = e.region }) (prot_in e))
asked_by e calls.Lock = Some (commands.Lock (record { 0 = e.region }))
asked_by e calls.Unlock = Some (commands.Unlock (record { 0 = e.region }))
asked_by e calls.Unmap = Some (commands.Unmap (record { 0 = e.region }))
asked_by e calls.Find = Some (commands.Find (record { 0 = e.actor }) e.address)
asked_by e calls.Status = Some (commands.Status (record { 0 = e.region }))
asked_by e calls.Load =
    sized e.length (commands.Load (record { 0 = e.actor }) e.address e.length)
asked_by e calls.Store =
    sized e.length (commands.Store (record { 0 = e.actor }) e.address (take e.length e.bytes))
asked_by e calls.PageOut = counted e.pages (commands.PageOut e.pages)
asked_by e calls.Stat = Some commands.Stat

-- the command that an exchange asks for, if it asks for one
abbrev pub command_of : Exchange → Option Command
command_of e = option_and_then (asked_by e) (slice_get CALLS e.call)

abbrev pub flag : Bool → ℕ
flag is = if is then 1 else 0

-- the exchange with what a reply tells
abbrev pub with_reply : Exchange → Reply → Exchange
with_reply e (replies.Actor actor) = record e { actor = actor.0 }
with_reply e (replies.Cache cache) = record e { cache = cache.0 }
with_reply e (replies.Region region) = record e { region = region.0 }
with_reply e (replies.Bytes piece) = record e { bytes = piece ++ drop (length piece) e.bytes }
with_reply e (replies.Status s) = record e {
  actor = s.actor.0;
  cache = s.mapping.extent.cache.0;
  page = s.mapping.extent.first.0;
  pages = s.mapping.extent.pages;
  address = s.mapping.address;
  write = flag s.mapping.prot.write;
  locked = flag s.locked;
}
with_reply e (replies.Stat counts) =
    record e { live = counts.live; working = counts.working; copies = counts.copies }
with_reply e reply = e

-- the same of an answer: one that isn't a reply leaves the exchange
abbrev pub with_answer : Exchange → Answer → Exchange
with_answer e (Ok reply) = with_reply e reply
with_answer e (Err trouble) = e

-- the numbers of faults
abbrev pub fault_number : FaultAt → ℕ
fault_number faults.Opening = 101
fault_number (faults.Access page) = 102
fault_number (faults.Save done) = 103
fault_number (faults.Page page) = 104
fault_number faults.Victim = 105

-- the number of an answer: 0 where the command was carried out
abbrev pub answer_number : Answer → ℕ
answer_number (Ok reply) = 0
answer_number (Err (troubles.Refused refusal)) = refusal_number refusal
answer_number (Err (troubles.Mapper at)) = fault_number at
answer_number (Err troubles.Memory) = 200
