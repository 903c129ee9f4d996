-- Forgetting: behind the saves of a range nobody else reads its own pages, and other pages may take
-- their places.
use Rattle.std.specs.Prelude.{List, [], ◌∷◌, Some, None}
use Rattle.vm_ids.specs.declared.node_name.NodeName.{NodeName}
use Rattle.vm_ids.specs.Forest.Nodes.{Forest, node}
use Rattle.vm_ids.specs.Forest.Changes.{edit, with_own}

module _ {P : Type 0} where
  -- p in place of the own page of x, where x has one
  unfoldable pub forget : Forest P → NodeName → P → Forest P
  forget f x p = elim (node f x).own [ None ↦ f | Some v ↦ edit f x (with_own (Some p)) ]

  -- p in place of the own page of each node of the list that has one
  abbrev pub forgotten : List NodeName → P → Forest P → Forest P
  forgotten [] p f = f
  forgotten (x ∷ xs) p f = forgotten xs p (forget f x p)
