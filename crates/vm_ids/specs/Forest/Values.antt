-- The value of a node as a relation by cases, which needs no bound on the steps.
use Rattle.std.specs.Prelude.{◌≡◌, Some, None}
use Rattle.vm_ids.specs.declared.node_name.NodeName.{NodeName}
use Rattle.vm_ids.specs.Forest.Nodes.{Forest, node, parent}

-- The value of a node with an own page is that page, that of any other node the value of its
-- parent.
pub data IsValue {P : Type 0} (f : Forest P) : NodeName → P → Type 0 where
  itself : {x : NodeName} {v : P} → (node f x).own ≡ Some v → IsValue f x v
  above : {x p : NodeName} {v : P} → (node f x).own ≡ None → parent f x ≡ Some p → IsValue f p v
      → IsValue f x v
