-- A tally of answers that has room for more.
use Rattle.std.specs.Prelude.{◌≡◌, ◌≤◌, ℕ, ◌+◌, ◌^◌, List, length}
use Rattle.vm_model.specs.Answering.{Answer}
use Rattle.actor_script.specs.Summary.{tally_of}
use Rattle.actor_script.specs.declared.tally.Tally.{Tally}

-- The tally is that of some answers, and so many more can be counted.
pub record HasRoom (tally : Tally) (more : ℕ) : Type 0 where
  pub answers : List Answer
  pub is : tally ≡ tally_of answers
  pub few : length answers + more ≤ 2 ^ 31
