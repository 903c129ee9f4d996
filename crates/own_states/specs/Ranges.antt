-- Maps with a state for numbers in a row.
use Rattle.std.specs.Prelude.{ℕ, zero, suc, ◌+◌}
use Rattle.std.specs.Ordering.{nat_cmp}
use Rattle.std.specs.FinMap.{FinMap}
use Rattle.std.specs.FinMap as map
use Rattle.own_states.specs.declared.own.Own.{Own}
use Rattle.own_states.specs.declared.own.Own.TheVariants.{Plain as PlainOwn}
use Rattle.own_states.specs.declared.own.Plain.{Plain}

-- the map with this state for so many numbers, from one on
abbrev pub with_range : FinMap nat_cmp Own → ℕ → ℕ → Own → FinMap nat_cmp Own
with_range m first zero state = m
with_range m first (suc k) state = map.insert (with_range m first k state) (first + k) state

-- the same with a plain state
abbrev pub with_plain : FinMap nat_cmp Own → ℕ → ℕ → Plain → FinMap nat_cmp Own
with_plain m first count plain = with_range m first count (PlainOwn plain)
