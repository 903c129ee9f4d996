-- Words on names and on lists of names.
use Rattle.std.specs.Prelude.{◌≡◌, List, [], ◌∷◌, not, cond, ◌⊎◌, Option, Some, None, filter}
use Rattle.vm_ids.specs.declared.node_name.NodeName.{NodeName}
use Rattle.vm_ids.specs.Forest.Names.{same}

infix 50 ◌∈◌
-- x stands in the list
abbrev pub ◌∈◌ : NodeName → List NodeName → Type 0
x ∈ [] = ⊥
x ∈ (y ∷ ys) = (x ≡ y) ⊎ (x ∈ ys)

-- No name stands in the list twice.
abbrev pub Once : List NodeName → Type 0
Once [] = Unit {0}
Once (x ∷ xs) = (x ∈ xs → ⊥) × Once xs

-- the list, x left out
abbrev pub without : NodeName → List NodeName → List NodeName
without x = filter (λ y. not (same x y))

-- the first of the list
abbrev pub first : List NodeName → Option NodeName
first [] = None
first (x ∷ xs) = Some x

-- the last of the list, or x where it is empty
abbrev pub last_or : NodeName → List NodeName → NodeName
last_or x [] = x
last_or x (y ∷ ys) = last_or y ys

-- x, where `to` stands in place of `from`
abbrev pub renamed : NodeName → NodeName → NodeName → NodeName
renamed from to x = cond (same from x) to x

-- x, where the names a and b change places
abbrev pub swapped : NodeName → NodeName → NodeName → NodeName
swapped a b x = cond (same a x) b (cond (same b x) a x)
