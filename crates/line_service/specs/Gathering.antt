-- Replies that wait to be written.
use Rattle.std.specs.Prelude.{◌<◌, ◌≤◌, ℕ, ◌+◌, List, ◌++◌, length, Option, option_map}
use Rattle.vm_ids.specs.Counting.{Rose}
use Rattle.vm_port.specs.declared.traits.sink.Sink.{Ghosts as GhostsOfSink}
use Rattle.actor_script.specs.Writing.{Writes, WritesFront}

-- What a sink was given, and behind it the bytes that are gathered for it.
abbrev pub with_gathered : Option (List ℕ) → List ℕ → Option (List ℕ)
with_gathered written gathered = option_map (λ given. given ++ gathered) written

-- So many bytes are gathered at most.
abbrev pub most_gathered : ℕ
most_gathered = 4096

-- The line fits behind what is gathered, and doesn't fill the buffer.
abbrev pub HasRoomFor : List ℕ → List ℕ → Type 0
HasRoomFor gathered line = length gathered + length line < most_gathered

-- What a sink was given only grew.
abbrev pub Grew : Option (List ℕ) → Option (List ℕ) → Type 0
Grew before after = (more : List ℕ) × Writes before after more

-- what a sink was given, and behind it what is gathered for it
abbrev pub given_by : {Sink : Type 0} → GhostsOfSink Sink → List ℕ × Sink → Option (List ℕ)
given_by K w = with_gathered (K.written w.1) w.0

-- Bytes were gathered or written, or some of them, as `Write` says.
pub record Gathers {Sink : Type 0} (K : GhostsOfSink Sink)
    (Write : Option (List ℕ) → Option (List ℕ) → List ℕ → Type 0) (before after : List ℕ × Sink)
    (bytes : List ℕ) : Type 0 where
  pub wrote : Write (given_by K before) (given_by K after) bytes
  pub grew : Grew (K.written before.1) (K.written after.1)
  pub later : K.faults before.1 ≤ K.faults after.1

-- A front of them was, since a write failed.
pub record GathersFront {Sink : Type 0} (K : GhostsOfSink Sink) (before after : List ℕ × Sink)
    (bytes : List ℕ) : Type 0 where
  pub part : Gathers K WritesFront before after bytes
  pub rose : Rose (K.faults before.1) (K.faults after.1)
