-- Which caches hold a message that waits, and the table that tells it.
use Rattle.std.specs.Prelude.{◌≡◌, ◌==◌, ℕ, ◌≤◌, ◌<◌, Bool, false, List, length, slice_get}
use Rattle.std.specs.List.{list_any}
use Rattle.std.specs.Option.{option_map_or}
use Rattle.vm_model.specs.declared.limits.TheConstants.{MOST_MADE}
use Rattle.transit_ipc.specs.declared.port.Message.{Message}
use Rattle.transit_ipc.specs.declared.port.Port.{Port}

-- a message of the port waits in the cache with this number
abbrev pub waits_in : ℕ → Port → Bool
waits_in cache p = list_any (λ (x : Message). x.cache.0 == cache) p.messages.items

-- a message waits in the cache with this number
abbrev pub is_transit : List Port → ℕ → Bool
is_transit ports cache = list_any (waits_in cache) ports

-- what a table has at this place; false behind its end
abbrev pub is_marked : List Bool → ℕ → Bool
is_marked table n = option_map_or (λ (b : Bool). b) (slice_get table n) false

-- Of each number the table tells whether a message waits in the cache with it. Where there is a
-- port, the table has a place for each number that a cache may have.
pub record IsTable (ports : List Port) (table : List Bool) : Type 0 where
  pub tells : (n : ℕ) → is_marked table n ≡ is_transit ports n
  pub covers : 1 ≤ length ports → MOST_MADE < length table
