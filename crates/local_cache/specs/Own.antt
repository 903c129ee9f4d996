-- What an own state says of a node's own page.
use Rattle.std.specs.Prelude.{ℕ, Bool, true, false, ◌==◌, List, map}
use Rattle.std.specs.FinMap.{values}
use Rattle.vm_ids.specs.declared.numbers.NodeId.{NodeId}
use Rattle.local_cache.specs.Arena.{Arena, cell}
use Rattle.local_cache.specs.declared.own_state.OwnState.{OwnState}
use Rattle.local_cache.specs.declared.own_state.OwnState.TheVariants.{Absent, Zero, Resident, Slot, OnSegment}

abbrev pub is_absent : OwnState → Bool
is_absent Absent = true
is_absent Zero = false
is_absent (Resident dirty) = false
is_absent (Slot s) = false
is_absent OnSegment = false

abbrev pub is_resident : OwnState → Bool
is_resident Absent = false
is_resident Zero = false
is_resident (Resident dirty) = true
is_resident (Slot s) = false
is_resident OnSegment = false

abbrev pub is_in_slot : OwnState → Bool
is_in_slot Absent = false
is_in_slot Zero = false
is_in_slot (Resident dirty) = false
is_in_slot (Slot s) = true
is_in_slot OnSegment = false

abbrev pub is_slot : ℕ → OwnState → Bool
is_slot s Absent = false
is_slot s Zero = false
is_slot s (Resident dirty) = false
is_slot s (Slot t) = t.0 == s
is_slot s OnSegment = false

abbrev pub is_on_segment : OwnState → Bool
is_on_segment Absent = false
is_on_segment Zero = false
is_on_segment (Resident dirty) = false
is_on_segment (Slot s) = false
is_on_segment OnSegment = true

-- the own state of a node, or Absent where there is no node
abbrev pub own_of : Arena → NodeId → OwnState
own_of a n = (cell a n).own

-- the own states of all nodes, in the order of their numbers
abbrev pub own_states : Arena → List OwnState
own_states a = map (λ c. c.own) (values a.cells)
