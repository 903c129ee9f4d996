-- How the fields of a pool belong together. No public clause cites this module.
use Rattle.std.specs.Prelude.{◌≡◌, ◌≢◌, ℕ, ◌+◌, ◌-◌, ◌++◌, ◌<◌, ◌≤◌, ◌^◌, Bool, false, List, length, replicate, All, vec_capacity}
use Rattle.std.specs.List.{AllPairs}
use Rattle.number_pool.specs.Numbers.{is_taken, taken_count}
use Rattle.number_pool.specs.declared.pool.NumberPool.TheInside.{Inside}

-- the numbers that were never taken are free
abbrev pub numbers_seen : Inside → List Bool
numbers_seen a = a.taken.items ++ replicate (a.bound - length a.taken.items) false

-- a free number that was taken before
pub record IsReturned (taken : List Bool) (number : ℕ) : Type 0 where
  pub before : number < length taken
  pub free : is_taken taken number ≡ false

-- each number that was taken before is taken or returned, once
pub record IsSplit (taken : List Bool) (returned : List ℕ) : Type 0 where
  pub each : All (IsReturned taken) returned
  pub once : AllPairs (λ x y. x ≢ y) returned
  pub counted : taken_count taken + length returned ≡ length taken

-- and there is room for all numbers to be taken, and to be returned
pub record IsSound (a : Inside) : Type 0 where
  pub split : IsSplit a.taken.items a.returned.items
  pub within : length a.taken.items ≤ a.bound
  pub to_take : a.bound ≤ vec_capacity a.taken
  pub to_return : a.bound ≤ vec_capacity a.returned
  pub few : a.bound < 2 ^ 32
