-- What is said of a machine above a manager where the mapper doesn't tell what it holds.
use Rattle.std.specs.Prelude.{◌≡◌}
use Rattle.vm_ids.specs.Held.{Segments}
use Rattle.vm_model.specs.Answering.{Answer}
use Rattle.vm_model.specs.Outcome.{IsAlike}

-- A step of states without bytes. There are states with bytes, which these are but for them, and
-- some segments, that the step leads between, and it has this answer but for which bytes are in it.
pub record UntoldStep {State : Type 0} (forget : State → State)
    (Leads : Segments → State → Answer → State → Type 0) (before : State) (answer : Answer)
    (after : State) : Type 0 where
  pub whole : State
  pub whole_next : State
  pub segments : Segments
  pub whole_answer : Answer
  pub is : before ≡ forget whole
  pub is_next : after ≡ forget whole_next
  pub alike : IsAlike whole_answer answer
  pub leads : Leads segments whole whole_answer whole_next
