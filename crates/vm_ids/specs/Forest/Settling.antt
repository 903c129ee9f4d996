-- Settle: working nodes with fewer than two children give way.
use Rattle.std.specs.Prelude.{ℕ, suc, zero, ◌++◌, map, Bool, false, cond, ◌&&◌, Option, Some, None, is_some, filter, ltb}
use Rattle.std.specs.Option.{option_or}
use Rattle.vm_ids.specs.declared.node_name.NodeName.{NodeName}
use Rattle.vm_ids.specs.Forest.NameLists.{first, renamed}
use Rattle.vm_ids.specs.Forest.NameMap.{len, keys}
use Rattle.vm_ids.specs.Forest.Nodes.{Forest, node, child_count, is_live, is_stub}
use Rattle.vm_ids.specs.Forest.Nodes.Hang.{Root}
use Rattle.vm_ids.specs.Forest.Changes.{free, edit, with_own, with_hang, relist, cut}

module _ {P : Type 0} where
  -- a working node with fewer than two children
  abbrev pub is_thin : Forest P → NodeName → Bool
  is_thin f x = cond (is_live x) false (ltb (child_count f x) 2)

  -- The thin node with the least number. Names are in order, so that it is the first one.
  unfoldable pub thin : Forest P → Option NodeName
  thin f = first (filter (is_thin f) (keys f.nodes))

  -- y, which has no parent, in the place of w, which is left without a parent
  unfoldable pub take_place : Forest P → NodeName → NodeName → Forest P
  take_place f w y =
      let h = (node f w).hang in
      edit (edit (relist f h (map (renamed w y))) y (with_hang h)) w (with_hang Root)

  -- y gets the page of w, if w has one and y has none
  unfoldable pub pass_page : Forest P → NodeName → NodeName → Forest P
  pass_page f w y = edit f y (λ n. with_own (option_or n.own (node f w).own) n)

  -- w goes, whose only child y was cut off: y takes its place, but has no parent where it would
  -- hang by a stub link with an own page
  unfoldable pub give_way : Forest P → NodeName → NodeName → Forest P
  give_way f w y =
      free (cond (is_stub (node f w).hang && is_some (node f y).own) (cut f w) (take_place f w y)) w

  -- One step of settle, at the thin node w: it is freed, and its only child, where it has one,
  -- takes its page and its place.
  unfoldable pub settle_step : Forest P → NodeName → Forest P
  settle_step f w = elim (first ((node f w).tree ++ (node f w).stubs)) [
    | None ↦ free (cut f w) w
    | Some y ↦ give_way (pass_page (cut f y) w y) w y
  ]

  -- at most so many steps of settle
  unfoldable pub settle_within : ℕ → Forest P → Forest P
  settle_within zero f = f
  settle_within (suc n) f = elim (thin f) [ None ↦ f | Some w ↦ settle_within n (settle_step f w) ]

  -- Steps of settle while a node is thin. Each takes a node away, so that as many as there are
  -- nodes are enough.
  unfoldable pub settle : Forest P → Forest P
  settle f = settle_within (len f.nodes) f
