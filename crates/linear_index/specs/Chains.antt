-- Chains of places, which run through the cells. No public clause cites this module.
use Rattle.std.specs.Prelude.{◌≡◌, ◌≢◌, ◌⊎◌, ◌↔◌, ℕ, Bool, true, List, [], ◌∷◌, Option, Some, None, slice_index_or}
use Rattle.linear_index.specs.declared.cell.Cell.{Cell}
use Rattle.linear_index.specs.declared.cell.Link.{Link}
use Rattle.linear_index.specs.declared.cell.Link.TheVariants.{Free, Last, Before}

-- the place behind a place with this link
abbrev pub behind_of : Link → Option ℕ
behind_of Free = None
behind_of Last = None
behind_of (Before place) = Some place

-- the link of a place that has this place behind it, or none
abbrev pub link_to : Option ℕ → Link
link_to None = Last
link_to (Some place) = Before place

-- the key, where the link says that one is entered
abbrev pub key_by : Link → ℕ → Option ℕ
key_by Free key = None
key_by Last key = Some key
key_by (Before place) key = Some key

-- the key that is entered at a place with this cell
abbrev pub key_in : Cell → Option ℕ
key_in c = key_by c.link c.key

-- a place at which no key is entered
abbrev pub free : Cell
free = record { key = 0; link = Free }

-- the cell of a place; places past the last are free
abbrev pub cell_at : List Cell → ℕ → Cell
cell_at cells place = slice_index_or cells place free

-- the key that is entered at a place
abbrev pub key_at : List Cell → ℕ → Option ℕ
key_at cells place = key_in (cell_at cells place)

-- the place behind a place
abbrev pub next_at : List Cell → ℕ → Option ℕ
next_at cells place = behind_of (cell_at cells place).link

-- from this place on, the chain has these places, in order, and a key is entered at each
abbrev pub IsChain : List Cell → Option ℕ → List ℕ → Type 0
IsChain cells from [] = from ≡ None
IsChain cells from (p ∷ ps) =
    (from ≡ Some p) × (key_at cells p ≢ None) × IsChain cells (next_at cells p) ps

-- the chain from this place on ends
abbrev pub Ends : List Cell → Option ℕ → Type 0
Ends cells from = (places : List ℕ) × IsChain cells from places

-- a place is one of these
abbrev pub IsOn : List ℕ → ℕ → Type 0
IsOn [] place = ⊥
IsOn (p ∷ ps) place = (p ≡ place) ⊎ IsOn ps place

-- a place is in the chain from this place on
abbrev pub IsIn : List Cell → Option ℕ → ℕ → Type 0
IsIn cells from place = (places : List ℕ) × IsChain cells from places × IsOn places place

-- each place has the key that it had
abbrev pub SameKeys : List Cell → List Cell → Type 0
SameKeys old new = (place : ℕ) → key_at new place ≡ key_at old place

-- what is left of a chain: the places that pass the test, with the keys that they had
pub record IsPart (old new : List Cell) (first part : Option ℕ) (passes : ℕ → Bool) : Type 0 where
  pub ends : Ends new part
  pub places : (place : ℕ) → IsIn new part place ↔ (IsIn old first place × (passes place ≡ true))

-- each place that isn't in the chain has the cell that it had
abbrev pub KeepsOthers : List Cell → List Cell → Option ℕ → Type 0
KeepsOthers old new first =
    (place : ℕ) → ¬ IsIn old first place → cell_at new place ≡ cell_at old place
