-- A finite map from names: std's `FinMap` over `name_cmp`, whose functions unfold here, so that
-- examples compute.
use Rattle.std.specs.Prelude.{◌≡◌, ℕ, Bool, not, T, List, [], ◌∷◌, map, length, is_some, Option}
use mathlib.Core.HLevel.{Σ_prop_path}
use lib.Dec.{T_prop}
use Rattle.std.specs.FinMap.Entries.{find, put, where_key, is_sorted, is_sorted-put, is_sorted-where_key}
use Rattle.vm_ids.specs.declared.node_name.NodeName.{NodeName}
use Rattle.vm_ids.specs.Forest.Names.{name_cmp, name_cmp_total, same}

-- the names with what they stand for, in the order of names
pub record NameMap (X : Type 0) : Type 0 where
  pub list : List (NodeName × X)
  pub sorted : T (is_sorted name_cmp list)

module _ {X : Type 0} where
  -- the names with what they stand for
  abbrev pub entries : NameMap X → List (NodeName × X)
  entries m = m.list

  -- the names, in their order
  abbrev pub keys : NameMap X → List NodeName
  keys m = map (λ e. e.0) m.list

  -- how many names there are
  abbrev pub len : NameMap X → ℕ
  len m = length m.list

  -- no names
  unfoldable pub empty : NameMap X
  empty = record { list = []; sorted = tt }

  -- what x stands for, where it is there
  unfoldable pub get : NameMap X → NodeName → Option X
  get m x = find name_cmp x m.list

  -- x is there
  abbrev pub contains_key : NameMap X → NodeName → Bool
  contains_key m x = is_some (get m x)

  -- x stands for n
  unfoldable pub insert : NameMap X → NodeName → X → NameMap X
  insert m x n =
      record {
        list = put name_cmp x n m.list;
        sorted = is_sorted-put name_cmp name_cmp_total x n m.list m.sorted;
      }

  -- x is there no more
  unfoldable pub remove : NameMap X → NodeName → NameMap X
  remove m x =
      record {
        list = where_key name_cmp (λ y. not (same x y)) m.list;
        sorted = is_sorted-where_key name_cmp (λ y. not (same x y)) m.list m.sorted;
      }

  -- Of two entries of one name the first one counts.
  unfoldable pub from_entries : List (NodeName × X) → NameMap X
  from_entries [] = empty
  from_entries (e ∷ es) = insert (from_entries es) e.0 e.1

  pub same_list : (m n : NameMap X) → m.list ≡ n.list → m ≡ n
  same_list m n e =
      let pairs : ◌≡◌ {A = (es : List (NodeName × X)) × T (is_sorted name_cmp es)}
      (m.list, m.sorted) (n.list, n.sorted) = Σ_prop_path (λ es. T_prop _) e in
      λ i. record { list = (pairs i).0; sorted = (pairs i).1 }
