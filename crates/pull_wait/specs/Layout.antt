-- How a list of parked accesses is kept. No public clause cites this module.
use Rattle.std.specs.Prelude.{◌≤◌, length, vec_capacity}
use Rattle.pull_wait.specs.Waiting.{IsOneOfEach}
use Rattle.pull_wait.specs.declared.waiting.PullWait.TheInside.{Inside}

-- At most one of each actor is parked, and there are places for 256.
pub record IsSound (a : Inside) : Type 0 where
  pub apart : IsOneOfEach a.parked.items
  pub few : length a.parked.items ≤ 256
  pub room : 256 ≤ vec_capacity a.parked
