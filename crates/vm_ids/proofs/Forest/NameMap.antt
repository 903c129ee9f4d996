-- What maps from names answer.
use Rattle.std.proofs.Common.{◌≡◌, ◌+◌, Bool, true, false, cond, not, List, [], ◌∷◌, Some, None, refl, sym, ap, ◌∙◌}
use Rattle.std.specs.List.{list_any}
use Rattle.std.specs.Ordering.{eq_by_cmp, is_eq}
use Rattle.std.specs.Cmp.{alike_right, eq_by_cmp_equiv}
use Rattle.std.specs.FinMap.Entries.{find, find-put, find-where_key, is_some-find, length-put, length_without, same_entries}
use Rattle.vm_ids.specs.declared.node_name.NodeName.{NodeName}
use Rattle.vm_ids.specs.Forest.Names.{name_cmp, name_cmp_total, same}
use Rattle.vm_ids.specs.Forest.NameMap.{NameMap, keys, len, empty, get, contains_key, insert, remove, from_entries, same_list}
use Rattle.vm_ids.proofs.Forest.Names.{name_cmp-IsAntisymmetric}

turned : {A : Type 0} (b : Bool) (x y : A) → cond (not b) x y ≡ cond b y x
turned true x y = refl
turned false x y = refl

module _ {X : Type 0} where
  -- maps that answer alike are equal
  pub same_map : (m n : NameMap X) → ((x : NodeName) → get m x ≡ get n x) → m ≡ n
  unfolding get
  same_map m n alike = same_list m n (same_entries name_cmp name_cmp_total name_cmp-IsAntisymmetric m.list n.list m.sorted n.sorted alike)

  pub get-insert : (m : NameMap X) (x : NodeName) (n : X) (y : NodeName) → get (insert m x n) y ≡ cond (same y x) (Some n) (get m y)
  unfolding get insert same
  get-insert m x n y = find-put name_cmp name_cmp_total y x n m.list

  pub get-remove : (m : NameMap X) (x y : NodeName) → get (remove m x) y ≡ cond (same y x) None (get m y)
  unfolding get remove same
  get-remove m x y = find-where_key name_cmp (λ z. not (eq_by_cmp name_cmp x z)) y (λ z t. ap (λ r. not (is_eq r)) (sym (alike_right name_cmp_total y z x t))) m.list
      ∙ turned (eq_by_cmp name_cmp x y) _ _ ∙ ap (λ b. cond b None (get m y)) ((eq_by_cmp_equiv name_cmp_total).symm x y)

  pub get-empty : (x : NodeName) → get (empty {X = X}) x ≡ None
  unfolding get empty
  get-empty x = refl

  pub get-from_entries : (es : List (NodeName × X)) (x : NodeName) → get (from_entries es) x ≡ find name_cmp x es
  unfolding from_entries same
  get-from_entries [] x = get-empty x
  get-from_entries (e ∷ es) x = get-insert (from_entries es) e.0 e.1 x ∙ ap (cond (eq_by_cmp name_cmp x e.0) (Some e.1)) (get-from_entries es x)

  pub contains_key-keys : (m : NameMap X) (x : NodeName) → contains_key m x ≡ list_any (same x) (keys m)
  unfolding get same
  contains_key-keys m x = is_some-find name_cmp x m.list

  pub len-insert : (m : NameMap X) (x : NodeName) (n : X) → len (insert m x n) ≡ cond (contains_key m x) (len m) (len m + 1)
  unfolding get insert
  len-insert m x n = length-put name_cmp name_cmp_total x n m.list m.sorted

  pub len-remove : (m : NameMap X) (x : NodeName) → cond (contains_key m x) 1 0 + len (remove m x) ≡ len m
  unfolding get remove same
  len-remove m x = length_without name_cmp name_cmp_total x m.list m.sorted
