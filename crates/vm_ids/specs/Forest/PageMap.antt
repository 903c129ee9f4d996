-- A forest with other pages at the same nodes, and the forest without what its pages hold.
use Rattle.std.specs.Prelude.{◌≡◌, ◌&&◌, T, List, [], ◌∷◌, map, option_map, refl}
use mathlib.Core.Path.{ap, sym, subst}
use Rattle.std.specs.Ordering.{is_lt}
use Rattle.std.specs.FinMap.Entries.{below_all, is_sorted}
use Rattle.vm_ids.specs.declared.node_name.NodeName.{NodeName}
use Rattle.vm_ids.specs.Forest.Names.{name_cmp}
use Rattle.vm_ids.specs.Forest.NameMap.{NameMap}
use Rattle.vm_ids.specs.Forest.Nodes.{Node, Forest}

module _ {X Y : Type 0} (h : X → Y) where
  -- the entries, each with what h gives for its value
  abbrev pub map_entries : List (NodeName × X) → List (NodeName × Y)
  map_entries es = map (λ e. (e.0, h e.1)) es

  below_mapped : (x : NodeName) (es : List (NodeName × X))
      → below_all name_cmp x (map_entries es) ≡ below_all name_cmp x es
  below_mapped x [] = refl
  below_mapped x (e ∷ es) = ap (λ b. is_lt (name_cmp x e.0) && b) (below_mapped x es)

  sorted_mapped : (es : List (NodeName × X))
      → is_sorted name_cmp (map_entries es) ≡ is_sorted name_cmp es
  sorted_mapped [] = refl
  sorted_mapped (e ∷ es) = λ i. below_mapped e.0 es i && sorted_mapped es i

  pub is_sorted-mapped : (es : List (NodeName × X)) → T (is_sorted name_cmp es)
      → T (is_sorted name_cmp (map_entries es))
  is_sorted-mapped es s = subst T (sym (sorted_mapped es)) s

  -- the same names, each with what h gives for what it stood for
  unfoldable pub map_values : NameMap X → NameMap Y
  map_values m = record { list = map_entries m.list; sorted = is_sorted-mapped m.list m.sorted }

module _ {P Q : Type 0} (h : P → Q) where
  -- the node, with what h gives for its own page
  abbrev pub map_node : Node P → Node Q
  map_node n = record { own = option_map h n.own; hang = n.hang; tree = n.tree; stubs = n.stubs }

  -- the forest, with what h gives for each own page
  unfoldable pub map_pages : Forest P → Forest Q
  map_pages f = record { nodes = map_values map_node f.nodes; made = f.made; copies = f.copies }

-- the forest without its pages: names, links, counters, and which nodes have an own page
abbrev pub no_page : {P : Type 0} → P → Unit {0}
no_page v = tt

abbrev pub bare : {P : Type 0} → Forest P → Forest (Unit {0})
bare f = map_pages no_page f
