-- The answer to each command of a script of ports, row by row: the first refusal that holds, or
-- else the reply and the change.
use Rattle.std.specs.Prelude.{◌==◌, ℕ, ◌+◌, ◌||◌, Bool, false, nat_le, nat_lt, [], ◌∷◌, ◌++◌, length, take, drop, Option, Some, None, slice_get, Ok, Err, if◌then◌else◌}
use Rattle.vm_ids.specs.Held.{Segments}
use Rattle.vm_ids.specs.declared.command.Command.{Command}
use Rattle.vm_ids.specs.declared.command.Command.TheVariants as plain_commands
use Rattle.vm_ids.specs.declared.command.Extent.{Extent}
use Rattle.vm_ids.specs.declared.command.PortCommand.{PortCommand}
use Rattle.vm_ids.specs.declared.command.PortCommand.TheVariants as commands
use Rattle.vm_ids.specs.declared.command.Span.{Span}
use Rattle.vm_ids.specs.declared.numbers.CacheId.{CacheId}
use Rattle.vm_ids.specs.declared.numbers.PageNo.{PageNo}
use Rattle.vm_ids.specs.declared.refusal.Refusal.{Refusal}
use Rattle.vm_ids.specs.declared.refusal.Refusal.TheVariants.{Locked, NoCache, NoPort, OutOfCache, PortEmpty, PortFull, TooMany, WriteDenied}
use Rattle.vm_ids.specs.declared.reply.Reply.{Reply}
use Rattle.vm_ids.specs.declared.reply.Reply.TheVariants as replies
use Rattle.vm_ids.specs.declared.reply.Trouble.TheVariants.{Refused}
use Rattle.vm_model.specs.Answering as plain
use Rattle.vm_model.specs.Answering.{Answer, is_any_denied, is_any_locked, passes_end, put_cache, put_pages}
use Rattle.vm_model.specs.Machine.{Cache, cache_of, live_pages}
use Rattle.vm_model.specs.PageForest.{plain_forest}
use Rattle.vm_model.specs.declared.limits.TheConstants.{LIVE_PAGES, MOST_MADE}
use Rattle.transit_ipc.specs.PortMachine.{Message, Port, PortMachine, port_of, put_port, take_number, waiting_pages}
use Rattle.transit_ipc.specs.declared.limits.TheConstants.{MOST_PORTS}

-- An answer, and the machine after it.
pub record Answered : Type 0 where
  pub answer : Answer
  pub next : PortMachine

-- refused: the machine stays
abbrev pub refuse : PortMachine → Refusal → Answered
refuse m r = record { answer = Err (Refused r); next = m }

abbrev pub reply : Reply → PortMachine → Answered
reply r next = record { answer = Ok r; next = next }

-- refused where this is bad
unfoldable pub unless : Bool → Refusal → PortMachine → Answered → Answered
unless bad r m go = if bad then refuse m r else go

-- refused where there is nothing; else it goes on with what was found
unfoldable pub with_some : {A : Type 0} → Option A → Refusal → PortMachine → (A → Answered)
    → Answered
with_some None r m go = refuse m r
with_some (Some x) r m go = go x

-- a new port, at which nothing waits
abbrev pub empty_port : ℕ → Port
empty_port depth = record { depth = depth; messages = [] }

-- port: a new one, under the next number
unfoldable pub make_port_of : PortMachine → ℕ → Answered
make_port_of m depth =
    unless (nat_le MOST_PORTS (length m.ports)) TooMany m
    (reply (replies.Port (record { 0 = length m.ports + 1 }))
    (record m { ports = m.ports ++ empty_port depth ∷ [] }))

-- No cache of so many pages more can be made. The messages that wait count with the caches.
abbrev pub lacks_room : PortMachine → ℕ → Bool
lacks_room m pages =
    nat_le MOST_MADE (length m.memory.caches)
    || nat_lt LIVE_PAGES (live_pages m.memory + waiting_pages m + pages)

-- what these pages of a cache hold
abbrev pub pages_of : Cache → Extent → Message
pages_of c e = take e.pages (drop e.first.0 c.pages)

abbrev pub put_last : Message → Port → Port
put_last message p = record p { messages = p.messages ++ message ∷ [] }

abbrev pub without_first : Port → Port
without_first p = record p { messages = drop 1 p.messages }

-- send: what the pages hold now waits behind the other messages of the port
unfoldable pub send_of : PortMachine → ℕ → Extent → Answered
send_of m port e =
    with_some (port_of m port) NoPort m (λ p.
    unless (length p.messages == p.depth) PortFull m
    (unless (lacks_room m e.pages) TooMany m
    (let next = take_number m in
    with_some (cache_of m.memory e.cache.0) NoCache next (λ c.
    unless (passes_end c e.first.0 e.pages) OutOfCache next
    (reply replies.Done (put_port next port (put_last (pages_of c e) p)))))))

-- a move of so many pages to a cache from this page on, from nowhere
abbrev pub span_to : CacheId → PageNo → ℕ → Span
span_to cache first pages = record {
  from = record { 0 = 0 };
  from_page = record { 0 = 0 };
  to = cache;
  to_page = first;
  pages = pages;
}

-- receive: the first message of the port is taken out, and its pages are put into the cache
unfoldable pub receive_of : PortMachine → ℕ → CacheId → PageNo → Segments → Answered
receive_of m port cache first h =
    with_some (port_of m port) NoPort m (λ p.
    with_some (slice_get p.messages 0) PortEmpty m (λ message.
    with_some (cache_of m.memory cache.0) NoCache m (λ c.
    unless (passes_end c first.0 (length message)) OutOfCache m
    (unless (is_any_locked m.memory cache first.0 (length message)) Locked m
    (unless (is_any_denied m.memory h (span_to cache first (length message))) WriteDenied m
    (let received = put_cache m.memory cache.0 (put_pages first.0 message c) in
    reply replies.Done
    (put_port (record m { memory = received }) port (without_first p))))))))

-- the plain machine answers, and the ports stay
abbrev pub within : PortMachine → plain.Answered → Answered
within m a = record { answer = a.answer; next = record m { memory = a.next } }

-- the command makes a cache for which there is no room beside the messages
abbrev pub is_too_much : PortMachine → Command → Bool
is_too_much m (plain_commands.MakeTemp pages) = lacks_room m pages
is_too_much m command = false

-- a command of the plain machine
unfoldable pub plain_of : PortMachine → Command → Segments → Answered
plain_of m command h =
    unless (is_too_much m command) TooMany m
    (within m (plain.answer_of m.memory (plain_forest m.memory) command h))

-- the whole table
abbrev pub answer_of : PortMachine → PortCommand → Segments → Answered
answer_of m (commands.Port depth) h = make_port_of m depth
answer_of m (commands.Send port extent) h = send_of m port.0 extent
answer_of m (commands.Receive port cache first) h = receive_of m port.0 cache first h
answer_of m (commands.Plain command) h = plain_of m command h
