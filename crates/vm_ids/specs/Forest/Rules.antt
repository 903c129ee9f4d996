-- The rules of the page forest for one node.
use Rattle.std.specs.Prelude.{suc, zero, ◌+◌, [], ◌∷◌, ◌++◌, Bool, cond, Option, Some, None, option_map, is_none, filter}
use Rattle.vm_ids.specs.declared.node_name.NodeName.{NodeName}
use Rattle.vm_ids.specs.Forest.Names.{Working}
use Rattle.vm_ids.specs.Forest.NameLists.{first}
use Rattle.vm_ids.specs.Forest.Nodes.{Forest, node, child_count, childless}
use Rattle.vm_ids.specs.Forest.Nodes.Hang.{Root, StubOf}
use Rattle.vm_ids.specs.Forest.Reading.{value_of}
use Rattle.vm_ids.specs.Forest.Changes.{put, free, edit, with_own, with_hang, with_stubs, count_copy, count_working, cut, cut_stub, hang_all, set_tree, rename}

module _ {P : Type 0} where
  -- v becomes the own page of x, which then hangs by no stub link. A tree link stays.
  unfoldable pub gets : Forest P → NodeName → Option P → Forest P
  gets f x v = cut_stub (edit f x (with_own v)) x

  -- x, which has no own page, gets its value as its own page.
  unfoldable pub own : Forest P → NodeName → Forest P
  own f x = count_copy (gets f x (value_of f x))

  -- own, where x has no own page
  abbrev pub owned : Forest P → NodeName → Forest P
  owned f x = cond (is_none (node f x).own) (own f x) f

  -- The heir of x keeps the page that x is about to lose: its tree child, where that has no own
  -- page, or else the first of its stubs.
  unfoldable pub heir : Forest P → NodeName → Option NodeName
  heir f x = first (filter (λ t. is_none (node f t).own) (node f x).tree ++ (node f x).stubs)

  -- the stubs of x become stubs of h, behind those that h has
  unfoldable pub hand_stubs : Forest P → NodeName → NodeName → Forest P
  hand_stubs f x h =
      let left = (node f x).stubs in
      edit (edit (hang_all f left (StubOf h)) h (λ n. with_stubs (n.stubs ++ left) n)) x
      (with_stubs [])

  -- The heir of x, where there is one, gets the page of x and all other stubs of x.
  unfoldable pub heir_gets : Forest P → NodeName → Forest P
  heir_gets f x =
      elim (heir f x) [ None ↦ f | Some h ↦ count_copy (hand_stubs (gets f h (value_of f x)) x h) ]

  -- A write to x: x owns its page, the heir gets the page as it was, and then the page changes.
  unfoldable pub write : Forest P → NodeName → (P → P) → Forest P
  write f x change = edit (heir_gets (owned f x) x) x (λ n. with_own (option_map change n.own) n)

  -- x stands for a page of a cache no more: it is freed, or it becomes the next working node where
  -- it has children.
  unfoldable pub retire : Forest P → NodeName → Forest P
  retire f x = elim (child_count f x) [
    | zero ↦ free (cut f x) x
    | suc n ↦ count_working (rename f x (Working (f.made + 1)))
  ]

  -- x is retired, and a fresh node without parent and children takes its name, with this own page
  -- or with none.
  unfoldable pub detach : Forest P → NodeName → Option P → Forest P
  detach f x page = put (retire f x) x (childless page Root)

  -- The fresh node d, a page of a large copy, is linked to its source s: it becomes the tree child
  -- of s, or a new working node comes between s and its tree child and takes d as its second child.
  unfoldable pub link : Forest P → NodeName → NodeName → Forest P
  link f d s = elim (node f s).tree [
    | [] ↦ set_tree f s (d ∷ [])
    | h ∷ _ ↦ let w =
        Working (f.made + 1) in count_working (set_tree (set_tree f s (w ∷ [])) w (h ∷ d ∷ []))
  ]

  -- The fresh node d, a page of a small copy, becomes the last stub of its source s.
  unfoldable pub stub : Forest P → NodeName → NodeName → Forest P
  stub f d s = edit (edit f s (λ n. with_stubs (n.stubs ++ d ∷ []) n)) d (with_hang (StubOf s))

  -- one page of a copy, from s to d
  abbrev pub copy_page : Bool → Forest P → NodeName → NodeName → Forest P
  copy_page is_small f d s = cond is_small (stub (detach f d None) d s) (link (detach f d None) d s)

  -- One page of a move, from s to d: the node s becomes d with all that it has, and s is a fresh
  -- zero page.
  abbrev pub move_page : Forest P → NodeName → NodeName → P → Forest P
  move_page f d s zeros = put (rename (retire f d) s d) s (childless (Some zeros) Root)
