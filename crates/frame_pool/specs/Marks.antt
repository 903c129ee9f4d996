-- A list of marks.
use Rattle.std.specs.Prelude.{ℕ, Bool, List, count_by}

-- how many of them are set
abbrev pub set_count : List Bool → ℕ
set_count marks = count_by (λ mark. mark) marks
