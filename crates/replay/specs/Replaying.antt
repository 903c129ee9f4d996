-- What the replay of a script takes, and what it promises.
use Rattle.std.specs.Prelude.{◌≡◌, ◌≢◌, ◌≤◌, ◌<◌, ◌+◌, ◌^◌, ◌↔◌, ◌⊎◌, ℕ, length, Option, IfSome, IsSomeAnd}
use Rattle.std.specs.Borrow.{MutBor}
use Rattle.vm_ids.specs.Counting.{Rose, last_count}
use Rattle.vm_port.specs.declared.traits.dispatcher.Dispatcher.{Ghosts as GhostsOfDispatcher}
use Rattle.vm_port.specs.declared.traits.mapper.Mapper.{Ghosts as GhostsOfMapper}
use Rattle.vm_port.specs.declared.traits.sink.Sink.{Ghosts as GhostsOfSink}
use Rattle.vm_port.specs.declared.traits.source.Source.{Ghosts as GhostsOfSource}
use Rattle.line_service.specs.Ending.{Told}
use Rattle.line_service.specs.Script.{most_bytes}
use Rattle.replay.specs.Ending.{Outside, outside_of}
use Rattle.replay.specs.declared.given.Given.{Given}
use Rattle.replay.specs.declared.status.Status.{Status}
use Rattle.replay.specs.declared.status.Status.TheVariants as statuses

-- A manager may begin with so many page frames of so many bytes, over a mapper whose pages have as
-- many, where it tells.
pub record CanBegin (frames bytes : ℕ) (told : Option ℕ) : Type 0 where
  pub few : 3 ≤ frames
  pub most : frames ≤ 2 ^ 16
  pub some : 1 ≤ bytes
  pub small : bytes ≤ 2 ^ 16
  pub page : IfSome told (λ n. n ≡ bytes)

-- a source, a sink, a mapper, a chooser and a dispatcher
abbrev pub Parts : (Source Sink Mapper Chooser Dispatcher : Type 0) → Type 0
Parts Source Sink Mapper Chooser Dispatcher = Source × Sink × Mapper × Chooser × Dispatcher

-- the parts of what a run is given, as a call finds them
abbrev pub found : {Source Sink Mapper Chooser Dispatcher : Type 0}
    → Given Source Sink Mapper Chooser Dispatcher → Parts Source Sink Mapper Chooser Dispatcher
found given = (
  given.source.now,
  given.sink.now,
  given.mapper.now,
  given.chooser.now,
  given.dispatcher.now,
)

-- and as it leaves them
abbrev pub left : {Source Sink Mapper Chooser Dispatcher : Type 0}
    → MutBor Source × (MutBor Sink × (MutBor Mapper × (MutBor Chooser
    × (MutBor Dispatcher × Unit {0})))) → Parts Source Sink Mapper Chooser Dispatcher
left lent = (
  lent.0.now,
  lent.1.0.now,
  lent.1.1.0.now,
  lent.1.1.1.0.now,
  lent.1.1.1.1.0.now,
)

-- What is told of the sink, the mapper and the dispatcher among them.
abbrev pub outside_in : {Source Sink Mapper Chooser Dispatcher : Type 0} → GhostsOfSink Sink
    → GhostsOfMapper Mapper → GhostsOfDispatcher Dispatcher
    → Parts Source Sink Mapper Chooser Dispatcher → Outside
outside_in K M D parts = outside_of M parts.2 (D.turns parts.4) (K.written parts.1)

-- A replay ends so, but for want of memory to begin with; then nothing outside was touched. A fault
-- is told only where one was counted, and `TooLong` exactly where the byte behind the limit was
-- taken. A script within the limit is done where there is no fault, but for want of memory. `S`,
-- `K`, `M` and `D` are the ghost members of what it is given: source, sink, mapper and dispatcher.
pub record Replayed {Source Sink Mapper Chooser Dispatcher : Type 0} (S : GhostsOfSource Source)
    (K : GhostsOfSink Sink) (M : GhostsOfMapper Mapper) (D : GhostsOfDispatcher Dispatcher)
    (Ends : Outside → Outside → Told → Told → Type 0) (status : Status)
    (old new : Parts Source Sink Mapper Chooser Dispatcher) : Type 0 where
  pub ends : status ≢ statuses.NoMemory
      → Ends (outside_in K M D old) (outside_in K M D new) (S.left old.0) (S.left new.0)
  pub untouched : status ≡ statuses.NoMemory → new ≡ old
  pub not_usage : status ≢ statuses.Usage
  pub source_fault : status ≡ statuses.SourceFault → Rose (S.faults old.0) (S.faults new.0)
  pub sink_fault : status ≡ statuses.SinkFault → Rose (K.faults old.1) (K.faults new.1)
  pub too_long : IfSome (S.left old.0) (λ all. IfSome (S.left new.0) (λ rest.
      (status ≡ statuses.TooLong) ↔ (length all ≡ length rest + (most_bytes + 1))))
  pub complete : IsSomeAnd (S.left old.0) (λ all. length all ≤ most_bytes)
      → S.faults new.0 ≡ S.faults old.0 → S.faults new.0 < last_count
      → K.faults new.1 ≡ K.faults old.1 → K.faults new.1 < last_count
      → (status ≡ statuses.Done) ⊎ (status ≡ statuses.NoMemory)
