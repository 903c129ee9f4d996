-- Small changes of a forest, of which the rules are made.
use Rattle.std.specs.Prelude.{◌+◌, List, [], ◌∷◌, map, cond, Option}
use Rattle.vm_ids.specs.declared.node_name.NodeName.{NodeName}
use Rattle.vm_ids.specs.Forest.NameLists.{without, swapped}
use Rattle.vm_ids.specs.Forest.NameMap.{insert, remove, entries, from_entries}
use Rattle.vm_ids.specs.Forest.Nodes.{Hang, Node, Forest, node, is_stub}
use Rattle.vm_ids.specs.Forest.Nodes.Hang.{Root, TreeOf, StubOf}

-- the link, where the names a and b change places
abbrev pub swapped_hang : NodeName → NodeName → Hang → Hang
swapped_hang a b Root = Root
swapped_hang a b (TreeOf p) = TreeOf (swapped a b p)
swapped_hang a b (StubOf p) = StubOf (swapped a b p)

-- the node, where the names a and b change places
abbrev pub swapped_node : {P : Type 0} → NodeName → NodeName → Node P → Node P
swapped_node a b n = record {
  own = n.own;
  hang = swapped_hang a b n.hang;
  tree = map (swapped a b) n.tree;
  stubs = map (swapped a b) n.stubs;
}

module _ {P : Type 0} where
  -- the node of this name becomes n
  unfoldable pub put : Forest P → NodeName → Node P → Forest P
  put f x n = record f { nodes = insert f.nodes x n }

  -- the node x is gone
  unfoldable pub free : Forest P → NodeName → Forest P
  free f x = record f { nodes = remove f.nodes x }

  -- the node x, changed
  abbrev pub edit : Forest P → NodeName → (Node P → Node P) → Forest P
  edit f x change = put f x (change (node f x))

  -- the node with this own page or with none
  abbrev pub with_own : Option P → Node P → Node P
  with_own v n = record n { own = v }

  -- the node with this link
  abbrev pub with_hang : Hang → Node P → Node P
  with_hang h n = record n { hang = h }

  -- the node with these tree children
  abbrev pub with_tree : List NodeName → Node P → Node P
  with_tree xs n = record n { tree = xs }

  -- the node with these stubs
  abbrev pub with_stubs : List NodeName → Node P → Node P
  with_stubs xs n = record n { stubs = xs }

  -- one more page copied
  abbrev pub count_copy : Forest P → Forest P
  count_copy f = record f { copies = f.copies + 1 }

  -- one more working node made
  abbrev pub count_working : Forest P → Forest P
  count_working f = record f { made = f.made + 1 }

  -- the list that the link h names, changed
  unfoldable pub relist : Forest P → Hang → (List NodeName → List NodeName) → Forest P
  relist f Root change = f
  relist f (TreeOf p) change = edit f p (λ n. with_tree (change n.tree) n)
  relist f (StubOf p) change = edit f p (λ n. with_stubs (change n.stubs) n)

  -- x taken out of its parent's list, and without a parent
  unfoldable pub cut : Forest P → NodeName → Forest P
  cut f x = edit (relist f (node f x).hang (without x)) x (with_hang Root)

  -- cut, where x hangs by a stub link
  unfoldable pub cut_stub : Forest P → NodeName → Forest P
  cut_stub f x = cond (is_stub (node f x).hang) (cut f x) f

  -- the nodes xs hang by this link
  unfoldable pub hang_all : Forest P → List NodeName → Hang → Forest P
  hang_all f [] h = f
  hang_all f (x ∷ xs) h = edit (hang_all f xs h) x (with_hang h)

  -- xs are the tree children of p, in this order
  unfoldable pub set_tree : Forest P → NodeName → List NodeName → Forest P
  set_tree f p xs = hang_all (edit f p (with_tree xs)) xs (TreeOf p)

  -- The node a is named b wherever it is named, where no node is named b.
  unfoldable pub rename : Forest P → NodeName → NodeName → Forest P
  rename f a b =
      record f {
        nodes = from_entries
            (map (λ e. (swapped a b e.0, swapped_node a b e.1)) (entries f.nodes));
      }
