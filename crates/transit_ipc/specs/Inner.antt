-- What the inner calls say, by which messages are sent and received.
use Rattle.std.specs.Prelude.{◌≡◌, ◌==◌, ℕ, List, [], drop, Some, slice_get, slice_set, Result, Ok, Err, if◌then◌else◌}
use Rattle.std.specs.VecDeque.{deque_capacity}
use Rattle.vm_ids.specs.declared.command.Extent.{Extent}
use Rattle.vm_ids.specs.declared.command.Mapping.{Mapping}
use Rattle.vm_ids.specs.declared.command.Span.{Span}
use Rattle.vm_ids.specs.declared.numbers.CacheId.{CacheId}
use Rattle.vm_ids.specs.declared.numbers.PageNo.{PageNo}
use Rattle.vm_ids.specs.declared.refusal.Refusal.{Refusal}
use Rattle.vm_ids.specs.declared.refusal.Refusal.TheVariants.{PortEmpty}
use Rattle.transit_ipc.specs.Transit.{is_transit}
use Rattle.transit_ipc.specs.declared.port.Message.{Message}
use Rattle.transit_ipc.specs.declared.port.Port.{Port}

-- the cache as a command finds it: none where a message waits in it
abbrev pub shown : List Port → CacheId → CacheId
shown ports cache = if is_transit ports cache.0 then record { 0 = 0 } else cache

-- the source of a message: the cache of the message itself isn't found either
abbrev pub source_of : List Port → Message → CacheId → CacheId
source_of ports message cache =
    if cache.0 == message.cache.0 then record { 0 = 0 } else shown ports cache

-- what is sent goes into the cache of its message
abbrev pub sent_span : List Port → Message → Extent → Span
sent_span ports message e = record {
  from = source_of ports message e.cache;
  from_page = e.first;
  to = message.cache;
  to_page = record { 0 = 0 };
  pages = e.pages;
}

-- a message goes out of its cache, into another as a command finds it
abbrev pub received_span : List Port → Message → CacheId → PageNo → Span
received_span ports message cache page = record {
  from = message.cache;
  from_page = record { 0 = 0 };
  to = shown ports cache;
  to_page = page;
  pages = message.pages;
}

-- the first message, or there is none
abbrev pub IsFirst : Port → Result Message Refusal → Type 0
IsFirst p (Ok message) = slice_get p.messages.items 0 ≡ Some message
IsFirst p (Err PortEmpty) = p.messages.items ≡ []
IsFirst p (Err r) = ⊥

-- The first message of the port at a place is gone.
pub record IsTaken (ports : List Port) (place : ℕ) (p : Port) (now : List Port) : Type 0 where
  pub port : Port
  pub is : now ≡ slice_set ports place port
  pub depth : port.depth ≡ p.depth
  pub room : deque_capacity port.messages ≡ deque_capacity p.messages
  pub messages : port.messages.items ≡ drop 1 p.messages.items

-- the mapping of a cache as it is found
abbrev pub mapping_shown : List Port → Mapping → Mapping
mapping_shown ports mapping =
    record mapping { extent = record mapping.extent { cache = shown ports mapping.extent.cache } }
