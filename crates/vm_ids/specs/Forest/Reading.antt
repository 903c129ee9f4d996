-- What is read of a forest: the value, the owner and the chain of a node, and the counts.
use Rattle.std.specs.Prelude.{ℕ, suc, zero, List, [], ◌∷◌, map, length, not, Option, Some, None, filter}
use Rattle.vm_ids.specs.declared.node_name.NodeName.{NodeName}
use Rattle.vm_ids.specs.declared.chain.ChainItem.{ChainItem}
use Rattle.vm_ids.specs.declared.reply.Counts.{Counts}
use Rattle.vm_ids.specs.Forest.NameLists.{last_or}
use Rattle.vm_ids.specs.Forest.NameMap.{len, keys}
use Rattle.vm_ids.specs.Forest.Nodes.{Forest, node, parent, child_count, is_live}

module _ {P : Type 0} where
  -- the own page, or else what `above` gives for the parent
  abbrev pub page_or : Option P → Option NodeName → (NodeName → Option P) → Option P
  page_or (Some v) up above = Some v
  page_or None (Some p) above = above p
  page_or None None above = None

  -- the value of x, found in at most so many steps
  unfoldable pub value_within : ℕ → Forest P → NodeName → Option P
  value_within zero f x = None
  value_within (suc n) f x = page_or (node f x).own (parent f x) (value_within n f)

  -- The value of x: its own page, or else the value of its parent. A path by parents has no more
  -- nodes than the forest, so that many steps are enough.
  unfoldable pub value_of : Forest P → NodeName → Option P
  value_of f = value_within (len f.nodes) f

  -- nothing where the node has an own page, or else what `above` gives for the parent
  abbrev pub names_above : Option P → Option NodeName → (NodeName → List NodeName) → List NodeName
  names_above (Some v) up above = []
  names_above None (Some p) above = above p
  names_above None None above = []

  -- the path of x, followed for at most so many steps
  unfoldable pub path_within : ℕ → Forest P → NodeName → List NodeName
  path_within zero f x = []
  path_within (suc n) f x = x ∷ names_above (node f x).own (parent f x) (path_within n f)

  -- the nodes from x up to the first one with an own page
  unfoldable pub path_of : Forest P → NodeName → List NodeName
  path_of f = path_within (len f.nodes) f

  -- The owner of x is the first node with an own page on the way up, x itself included.
  unfoldable pub owner_of : Forest P → NodeName → NodeName
  owner_of f x = last_or x (path_of f x)

  -- The chain of x: the nodes from x to its owner, each with its number of children.
  unfoldable pub chain_of : Forest P → NodeName → List ChainItem
  chain_of f x = map (λ y. record { name = y; children = child_count f y }) (path_of f x)

  -- how many pages live caches have
  abbrev pub live_count : Forest P → ℕ
  live_count f = length (filter is_live (keys f.nodes))

  -- how many working nodes there are
  abbrev pub working_count : Forest P → ℕ
  working_count f = length (filter (λ x. not (is_live x)) (keys f.nodes))

  -- how many live and working nodes there are, and how many pages were copied
  abbrev pub counts_of : Forest P → Counts
  counts_of f = record { live = live_count f; working = working_count f; copies = f.copies }
