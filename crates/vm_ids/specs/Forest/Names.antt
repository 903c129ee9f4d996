-- The names of page nodes, in an order: live ones by cache and page, then working ones by number.
use Rattle.std.specs.Prelude.{ℕ, List, [], ◌∷◌, Bool}
use Rattle.std.specs.declared.cmp.Ordering.{Ordering}
use Rattle.std.specs.Cmp.{IsTotalOrder, on_total}
use Rattle.std.specs.Cmp.Lexicographic.{slice_cmp, nat_list_cmp_total}
use Rattle.std.specs.Ordering.{nat_cmp, on, eq_by_cmp}
use Rattle.vm_ids.specs.declared.node_name.NodeName.{NodeName}
pub use Rattle.vm_ids.specs.declared.node_name.NodeName.TheVariants.{Live, Working}

-- Names are in the order of these lists of numbers.
abbrev pub name_key : NodeName → List ℕ
name_key (Live c p) = 0 ∷ c.0 ∷ p.0 ∷ []
name_key (Working k) = 1 ∷ k ∷ []

-- the order of names, which is a total one
abbrev pub name_cmp : NodeName → NodeName → Ordering
name_cmp = on name_key (slice_cmp nat_cmp)

pub name_cmp_total : IsTotalOrder name_cmp
name_cmp_total = on_total name_key nat_list_cmp_total

-- x and y are one name
unfoldable pub same : NodeName → NodeName → Bool
same = eq_by_cmp name_cmp
