-- What whole commands keep and change.
use Rattle.std.specs.Prelude.{◌+◌, ◌≡◌, List, [], ◌∷◌, cond, true, Bool, Option, Some, None, is_none, length, filter}
use Rattle.std.specs.Option.{option_or, IsSome}
use Rattle.std.specs.List.{list_any}
use Rattle.vm_ids.specs.declared.node_name.NodeName.{NodeName}
use Rattle.vm_ids.specs.Forest.Names.{same}
use Rattle.vm_ids.specs.Forest.NameLists.{◌∈◌, Once}
use Rattle.vm_ids.specs.Forest.Nodes.{Forest, node, no_forest, IsNode, is_live}
use Rattle.vm_ids.specs.Forest.Shape.{IsWellShaped, IsBounded, IsConsistent}
use Rattle.vm_ids.specs.Forest.Reading.{value_of}
use Rattle.vm_ids.specs.Forest.Saving.{saved}
use Rattle.vm_ids.specs.Forest.Commands.{firsts, seconds, make, copy, move_, invalidate, destroy, lock}
use Rattle.vm_ids.specs.Forest.Laws.Settling.{IsSettled}

-- the page of a copy or move that y gets: the second of its pair, or else y itself
abbrev pub source_of : List (NodeName × NodeName) → NodeName → NodeName
source_of [] y = y
source_of (e ∷ es) y = cond (same y e.0) e.1 (source_of es y)

-- the page that is given to y, where there is one
abbrev pub given : {P : Type 0} → List (NodeName × P) → NodeName → Option P
given [] y = None
given (e ∷ es) y = cond (same y e.0) (Some e.1) (given es y)

abbrev pub is_in : NodeName → List NodeName → Bool
is_in y xs = list_any (same y) xs

-- Each name stands there once, and is that of a page.
pub record ArePagesOnce {P : Type 0} (f : Forest P) (xs : List NodeName) : Type 0 where
  pub once : Once xs
  pub live : (x : NodeName) → x ∈ xs → IsNode f x × (is_live x ≡ true)

-- Each name stands there once, and is that of a page that is to be made.
pub record AreFresh {P : Type 0} (f : Forest P) (pages : List (NodeName × P)) : Type 0 where
  pub once : Once (firsts pages)
  pub fresh : (x : NodeName) → x ∈ firsts pages → (IsNode f x → ⊥) × (is_live x ≡ true)

-- The pages that a copy or move fills stand there once, and none of them is read by it.
pub record CanCopy {P : Type 0} (f : Forest P) (pairs : List (NodeName × NodeName)) : Type 0 where
  pub destinations : ArePagesOnce f (firsts pairs)
  pub sources : (s : NodeName) → s ∈ seconds pairs
      → IsNode f s × (is_live s ≡ true) × (s ∈ firsts pairs → ⊥)

module _ (P : Type 0) where
  abbrev pub NoForestIsConsistent : Type 0
  NoForestIsConsistent = IsConsistent (no_forest {P = P})

  abbrev pub NoForestIsBounded : Type 0
  NoForestIsBounded = IsBounded (no_forest {P = P})

  abbrev pub MakeKeepsConsistency : Type 0
  MakeKeepsConsistency =
      (pages : List (NodeName × P)) (f : Forest P) → IsConsistent f → AreFresh f pages
      → IsConsistent (make pages f)

  abbrev pub MakeKeepsBound : Type 0
  MakeKeepsBound =
      (pages : List (NodeName × P)) (f : Forest P) → AreFresh f pages → IsBounded f
      → IsBounded (make pages f)

  abbrev pub MakeGivesPages : Type 0
  MakeGivesPages =
      (pages : List (NodeName × P)) (f : Forest P) → IsConsistent f → AreFresh f pages
      → (y : NodeName)
      → value_of (make pages f) y ≡ option_or (given pages y) (value_of f y)

  abbrev pub CopyKeepsConsistency : Type 0
  CopyKeepsConsistency =
      (named : Bool) (pairs : List (NodeName × NodeName)) (f : Forest P) → IsConsistent f
      → CanCopy f pairs
      → IsConsistent (copy named pairs f)

  -- Each destination has what its source had before, and every other page what it had.
  abbrev pub CopyCopies : Type 0
  CopyCopies =
      (named : Bool) (pairs : List (NodeName × NodeName)) (f : Forest P) → IsConsistent f
      → CanCopy f pairs
      → (y : NodeName) → is_live y ≡ true
      → value_of (copy named pairs f) y ≡ value_of f (source_of pairs y)

  abbrev pub CopyBounds : Type 0
  CopyBounds =
      (named : Bool) (pairs : List (NodeName × NodeName)) (f : Forest P) → IsConsistent f
      → CanCopy f pairs
      → IsBounded (copy named pairs f)

  abbrev pub CopySettles : Type 0
  CopySettles =
      (named : Bool) (pairs : List (NodeName × NodeName)) (f : Forest P) → IsConsistent f
      → CanCopy f pairs
      → IsSettled (copy named pairs f)

  -- The copies rise by the saves alone.
  abbrev pub CopyCountsSaves : Type 0
  CopyCountsSaves = (named : Bool) (pairs : List (NodeName × NodeName)) (f : Forest P)
      → (copy named pairs f).copies ≡ (saved named (firsts pairs) f).copies

  abbrev pub MoveKeepsConsistency : Type 0
  MoveKeepsConsistency =
      (named : Bool) (zeros : P) (pairs : List (NodeName × NodeName)) (f : Forest P)
      → IsConsistent f
      → CanCopy f pairs → Once (seconds pairs) → IsConsistent (move_ named zeros pairs f)

  -- Each destination has what its source had, each source is zero, and every other page has what it
  -- had.
  abbrev pub MoveMoves : Type 0
  MoveMoves =
      (named : Bool) (zeros : P) (pairs : List (NodeName × NodeName)) (f : Forest P)
      → IsConsistent f
      → CanCopy f pairs → Once (seconds pairs) → (y : NodeName) → is_live y ≡ true
      → value_of (move_ named zeros pairs f) y
      ≡ cond (is_in y (seconds pairs)) (Some zeros) (value_of f (source_of pairs y))

  abbrev pub MoveBounds : Type 0
  MoveBounds =
      (named : Bool) (zeros : P) (pairs : List (NodeName × NodeName)) (f : Forest P)
      → IsConsistent f
      → CanCopy f pairs → Once (seconds pairs) → IsBounded (move_ named zeros pairs f)

  abbrev pub MoveSettles : Type 0
  MoveSettles =
      (named : Bool) (zeros : P) (pairs : List (NodeName × NodeName)) (f : Forest P)
      → IsConsistent f
      → CanCopy f pairs → Once (seconds pairs) → IsSettled (move_ named zeros pairs f)

  abbrev pub MoveCountsSaves : Type 0
  MoveCountsSaves = (named : Bool) (zeros : P) (pairs : List (NodeName × NodeName)) (f : Forest P)
      → (move_ named zeros pairs f).copies ≡ (saved named (firsts pairs) f).copies

  abbrev pub InvalidateKeepsConsistency : Type 0
  InvalidateKeepsConsistency =
      (pages : List (NodeName × P)) (f : Forest P) → IsConsistent f → ArePagesOnce f (firsts pages)
      → IsConsistent (invalidate pages f)

  -- Each page of the range is the one given, and every other page has what it had.
  abbrev pub InvalidateGivesPages : Type 0
  InvalidateGivesPages =
      (pages : List (NodeName × P)) (f : Forest P) → IsConsistent f → ArePagesOnce f (firsts pages)
      → (y : NodeName) → is_live y ≡ true
      → value_of (invalidate pages f) y ≡ option_or (given pages y) (value_of f y)

  abbrev pub InvalidateBounds : Type 0
  InvalidateBounds =
      (pages : List (NodeName × P)) (f : Forest P) → IsConsistent f → ArePagesOnce f (firsts pages)
      → IsBounded (invalidate pages f)

  abbrev pub InvalidateSettles : Type 0
  InvalidateSettles =
      (pages : List (NodeName × P)) (f : Forest P) → IsConsistent f → ArePagesOnce f (firsts pages)
      → IsSettled (invalidate pages f)

  abbrev pub InvalidateCountsSaves : Type 0
  InvalidateCountsSaves = (pages : List (NodeName × P)) (f : Forest P)
      → (invalidate pages f).copies ≡ (saved true (firsts pages) f).copies

  abbrev pub DestroyKeepsConsistency : Type 0
  DestroyKeepsConsistency =
      (named : Bool) (xs : List NodeName) (f : Forest P) → IsConsistent f → ArePagesOnce f xs
      → IsConsistent (destroy named xs f)

  -- The pages are gone, and every other page has what it had.
  abbrev pub DestroyDestroys : Type 0
  DestroyDestroys =
      (named : Bool) (xs : List NodeName) (f : Forest P) → IsConsistent f → ArePagesOnce f xs
      → (y : NodeName)
      → is_live y ≡ true → value_of (destroy named xs f) y ≡ cond (is_in y xs) None (value_of f y)

  abbrev pub DestroyBounds : Type 0
  DestroyBounds =
      (named : Bool) (xs : List NodeName) (f : Forest P) → IsConsistent f → ArePagesOnce f xs
      → IsBounded (destroy named xs f)

  abbrev pub DestroySettles : Type 0
  DestroySettles =
      (named : Bool) (xs : List NodeName) (f : Forest P) → IsConsistent f → ArePagesOnce f xs
      → IsSettled (destroy named xs f)

  abbrev pub DestroyCountsSaves : Type 0
  DestroyCountsSaves = (named : Bool) (xs : List NodeName) (f : Forest P)
      → (destroy named xs f).copies ≡ (saved named xs f).copies

  abbrev pub LockKeepsConsistency : Type 0
  LockKeepsConsistency =
      (xs : List NodeName) (f : Forest P) → IsConsistent f → ((x : NodeName) → x ∈ xs → IsNode f x)
      → IsConsistent (lock xs f)

  abbrev pub LockKeepsBound : Type 0
  LockKeepsBound =
      (xs : List NodeName) (f : Forest P) → IsWellShaped f → ((x : NodeName) → x ∈ xs → IsNode f x)
      → IsBounded f
      → IsBounded (lock xs f)

  -- No name gains, loses or changes a value.
  abbrev pub LockKeepsValues : Type 0
  LockKeepsValues =
      (xs : List NodeName) (f : Forest P) → IsWellShaped f → ((x : NodeName) → x ∈ xs → IsNode f x)
      → (y : NodeName) → value_of (lock xs f) y ≡ value_of f y

  abbrev pub LockOwnsPages : Type 0
  LockOwnsPages =
      (xs : List NodeName) (f : Forest P) → IsWellShaped f → ((x : NodeName) → x ∈ xs → IsNode f x)
      → (x : NodeName) → x ∈ xs → IsSome (node (lock xs f) x).own

  -- One copy is counted for each page that had no own page, and none for heirs.
  abbrev pub LockCountsItsPages : Type 0
  LockCountsItsPages =
      (xs : List NodeName) (f : Forest P) → IsWellShaped f → Once xs
      → ((x : NodeName) → x ∈ xs → IsNode f x)
      → (lock xs f).copies ≡ f.copies + length (filter (λ x. is_none (node f x).own) xs)
