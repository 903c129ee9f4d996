-- Numbers in a row, and what is done to each of so many.
use Rattle.std.specs.Prelude.{◌≢◌, ℕ, zero, suc, ◌+◌, ◌<◌, Option, None, Some}
use Rattle.vm_ids.specs.declared.command.Span.{Span}
use Rattle.vm_ids.specs.declared.numbers.NodeId.{NodeId}
use Rattle.vm_ids.specs.Forest.Commands.{page_name}

-- what becomes of a value by so many steps, from the first one on
abbrev pub each : {A : Type 0} → (ℕ → A → A) → ℕ → A → A
each step zero a = a
each step (suc k) a = step k (each step k a)

-- the node so many numbers further on
abbrev pub next_node : NodeId → ℕ → NodeId
next_node n k = record { 0 = n.0 + k }

-- the same, of a node or none
abbrev pub next_if : Option NodeId → ℕ → Option NodeId
next_if None k = None
next_if (Some n) k = Some (next_node n k)

-- no page of the source of a span is one of its destination
abbrev pub IsApart : Span → Type 0
IsApart span =
    (i j : ℕ) → i < span.pages → j < span.pages
    → page_name span.from (span.from_page.0 + i) ≢ page_name span.to (span.to_page.0 + j)
