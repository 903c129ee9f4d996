-- Codes of names, nodes and forests, which let a forest be the value of a model.
use Rattle.std.specs.Prelude.{◌≡◌, ℕ, List, Bool, true, false, Option, Some, None, ◌⊎◌, refl}
use mathlib.Core.Logic.{inl, inr}
use Rattle.std.specs.Coded.{Coded, coded_ℕ, coded_bool, coded_list, coded×, coded⊎, coded_option, code_by}
use base.Stored.{coded_via}
use Rattle.vm_ids.specs.declared.node_name.NodeName.{NodeName}
use Rattle.vm_ids.specs.Forest.Names.{Live, Working}
use Rattle.vm_ids.specs.Forest.NameMap.{NameMap, entries, same_list}
use Rattle.vm_ids.specs.Forest.Nodes.{Hang, Node, Forest}
use Rattle.vm_ids.specs.Forest.Nodes.Hang.{Root, TreeOf, StubOf}

-- the parts of a name, and the name of its parts
abbrev pub name_parts : NodeName → (ℕ × ℕ) ⊎ ℕ
name_parts (Live c p) = inl (c.0, p.0)
name_parts (Working k) = inr k

abbrev pub name_from : (ℕ × ℕ) ⊎ ℕ → NodeName
name_from (inl t) = Live (record { 0 = t.0 }) (record { 0 = t.1 })
name_from (inr k) = Working k

pub name_back : (x : NodeName) → name_from (name_parts x) ≡ x
name_back (Live c p) = refl
name_back (Working k) = refl

-- names as numbers
abbrev pub name_code : Coded NodeName
name_code =
    code_by ((ℕ × ℕ) ⊎ ℕ) (coded⊎ (coded× coded_ℕ coded_ℕ) coded_ℕ) name_parts name_from name_back

-- the parts of a link, and the link of its parts
abbrev pub hang_parts : Hang → Option (Bool × NodeName)
hang_parts Root = None
hang_parts (TreeOf p) = Some (false, p)
hang_parts (StubOf p) = Some (true, p)

abbrev pub hang_by : Bool → NodeName → Hang
hang_by false p = TreeOf p
hang_by true p = StubOf p

abbrev pub hang_from : Option (Bool × NodeName) → Hang
hang_from None = Root
hang_from (Some t) = hang_by t.0 t.1

pub hang_back : (h : Hang) → hang_from (hang_parts h) ≡ h
hang_back Root = refl
hang_back (TreeOf p) = refl
hang_back (StubOf p) = refl

-- links as a flag and a name
abbrev pub hang_code : Coded Hang
hang_code =
    code_by (Option (Bool × NodeName))
    (coded_option (coded× coded_bool name_code)) hang_parts hang_from hang_back

module _ {P : Type 0} (page : Coded P) where
  -- nodes, maps and forests as tuples and lists
  abbrev pub node_code : Coded (Node P)
  node_code =
      code_by (Option P × (Hang × (List NodeName × List NodeName)))
      (coded× (coded_option page)
      (coded× hang_code (coded× (coded_list name_code) (coded_list name_code))))
      (λ n. (n.own, (n.hang, (n.tree, n.stubs))))
      (λ t. record { own = t.0; hang = t.1.0; tree = t.1.1.0; stubs = t.1.1.1 }) (λ _. refl)

  abbrev pub map_code : Coded (NameMap (Node P))
  map_code = coded_via (coded_list (coded× name_code node_code)) entries same_list

  abbrev pub forest_code : Coded (Forest P)
  forest_code = code_by (NameMap (Node P) × (ℕ × ℕ)) (coded× map_code (coded× coded_ℕ coded_ℕ))
      (λ f. (f.nodes, (f.made, f.copies)))
      (λ t. record { nodes = t.0; made = t.1.0; copies = t.1.1 }) (λ _. refl)
