-- How the list of a node's stubs is threaded through their links.
use Rattle.std.specs.Prelude.{◌≡◌, List, [], ◌∷◌, length, true, Option, Some, None}
use Rattle.vm_ids.specs.declared.numbers.NodeId.{NodeId}
use Rattle.local_cache.specs.Arena.{Arena, cell, HasNode}
use Rattle.local_cache.specs.Reading.{stubs_of}

abbrev pub head_or : List NodeId → Option NodeId → Option NodeId
head_or [] o = o
head_or (y ∷ ys) o = Some y

abbrev pub last_or : List NodeId → Option NodeId → Option NodeId
last_or [] o = o
last_or (y ∷ ys) o = last_or ys (Some y)

-- y is a stub of x between two neighbours
pub record IsStub (a : Arena) (x : NodeId) (before : Option NodeId) (y : NodeId)
    (behind : Option NodeId) : Type 0 where
  pub held : HasNode a y
  pub parent : (cell a y).links.parent ≡ Some x
  pub by_stub : (cell a y).links.by_stub ≡ true
  pub has_before : (cell a y).links.before ≡ before
  pub has_behind : (cell a y).links.behind ≡ behind

-- ys are stubs of x in a row between two neighbours
abbrev pub Row : Arena → NodeId → Option NodeId → List NodeId → Option NodeId → Type 0
Row a x before [] behind = Unit {0}
Row a x before (y ∷ ys) behind =
    IsStub a x before y (head_or ys behind) × Row a x (Some y) ys behind

-- ys is the list of stubs that the links of x and of the ys make
pub record IsThreaded (a : Arena) (x : NodeId) (ys : List NodeId) : Type 0 where
  pub row : Row a x None ys None
  pub first : (cell a x).links.first ≡ head_or ys None
  pub last : (cell a x).links.last ≡ last_or ys None
  pub count : (cell a x).links.stubs ≡ length ys

-- the links of each node make its list of stubs
abbrev pub AreThreaded : Arena → Type 0
AreThreaded a = (x : NodeId) → HasNode a x → IsThreaded a x (stubs_of a x)
