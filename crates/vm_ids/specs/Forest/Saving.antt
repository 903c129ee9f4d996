-- Saves: before pages of a named cache are replaced, their heirs get them.
use Rattle.std.specs.Prelude.{ℕ, suc, zero, List, Bool, cond, ◌&&◌, Option, Some, None, is_some, filter}
use Rattle.vm_ids.specs.declared.node_name.NodeName.{NodeName}
use Rattle.vm_ids.specs.Forest.NameLists.{first}
use Rattle.vm_ids.specs.Forest.NameMap.{len}
use Rattle.vm_ids.specs.Forest.Nodes.{Forest, node}
use Rattle.vm_ids.specs.Forest.Rules.{heir, heir_gets}

module _ {P : Type 0} where
  -- x has an own page that an heir still reads
  abbrev pub is_unsaved : Forest P → NodeName → Bool
  is_unsaved f x = is_some (node f x).own && is_some (heir f x)

  -- the node of the range whose save comes next: the first one with an own page and an heir
  unfoldable pub unsaved : Forest P → List NodeName → Option NodeName
  unsaved f xs = first (filter (is_unsaved f) xs)

  -- the first n saves over the range xs, or fewer where no more are needed
  unfoldable pub saves : ℕ → List NodeName → Forest P → Forest P
  saves zero xs f = f
  saves (suc n) xs f = elim (unsaved f xs) [ None ↦ f | Some x ↦ saves n xs (heir_gets f x) ]

  -- All saves of the range xs. Each gives an own page to a node that had none, so that as many as
  -- there are nodes are enough.
  unfoldable pub save_range : List NodeName → Forest P → Forest P
  save_range xs f = saves (len f.nodes) xs f

  -- the saves of the range, where its cache is named by a segment
  abbrev pub saved : Bool → List NodeName → Forest P → Forest P
  saved named xs f = cond named (save_range xs f) f
