-- A change of one node as one of so many nodes.
use Rattle.std.proofs.Common.{◌≡◌, ℕ, ◌+◌, ◌<◌, ◌≤◌, ◌^◌, Option, None, Some, ap, sym, subst, ◌∙◌, arith}
use Rattle.std.specs.Prelude.{IfSome}
use Rattle.vm_ids.specs.declared.numbers.NodeId.{NodeId}
use Rattle.local_cache.specs.Arena.{Arena, Cell, HasNode}
use Rattle.local_cache.specs.Many.{HaveNodes}
use Rattle.local_cache.specs.ManyNodes.{next_if, next_node}
use Rattle.local_cache.specs.NodeCells.{with_child}
use Rattle.local_cache.specs.OnCells.{on_cell, on_cells}
use Rattle.local_cache.proofs.Alike.{node_here}

pub one_held : (a : Arena) (n : NodeId) (count : ℕ) → count ≡ 1 → HaveNodes a n count → HasNode a n
one_held a n count one held =
    let at : n.0 + 0 ≡ n.0 = omega arith in
    subst (λ (k : ℕ). HasNode a (record { 0 = k })) at (held 0 (omega (arith, one)))

pub one_cell : (a : Arena) (n : NodeId) (f : Cell → Cell) (g : ℕ → Cell → Cell) (count : ℕ) → count ≡ 1 → f ≡ g 0 → on_cell a n f ≡ on_cells a n g count
one_cell a n f g count one first =
    let at : n.0 ≡ n.0 + 0 = omega arith in
    (λ i. on_cell a (record { 0 = at i }) (first i)) ∙ ap (λ (k : ℕ). on_cells a n g k) (sym one)

pub first_child : (gone : NodeId) (instead : Option NodeId) → with_child gone instead ≡ with_child (next_node gone 0) (next_if instead 0)
first_child gone instead =
    let at : gone.0 ≡ gone.0 + 0 = omega arith in
    let other = sym (node_here instead) in
    λ i. with_child (record { 0 = at i }) (other i)

-- there are so many numbers behind a node, if there is one
pub short_if : (o : Option NodeId) (count k : ℕ) → k < count → IfSome o (λ n. n.0 + count ≤ 2 ^ 64) → IfSome o (λ n. n.0 + k < 2 ^ 64)
short_if None count k less short = short
short_if (Some n) count k less short = omega (arith, less, short)
