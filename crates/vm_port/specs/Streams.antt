-- What sources and sinks in memory are.
use Rattle.std.specs.Prelude.{ℕ, List}

-- The bytes left, how many one read gives at most, the calls that fail, and the counts of calls and
-- faults.
pub record SourceInMemory : Type 0 where
  pub left : List ℕ
  pub most : ℕ
  pub fails : List ℕ
  pub calls : ℕ
  pub faults : ℕ

-- The bytes written, for how many there is room, the calls that fail, and the counts of calls and
-- faults.
pub record SinkInMemory : Type 0 where
  pub written : List ℕ
  pub room : ℕ
  pub fails : List ℕ
  pub calls : ℕ
  pub faults : ℕ
