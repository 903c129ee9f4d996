-- What is read of a forest, and what the rules do, goes with a change of its pages: no rule looks
-- at what a page holds.
use Rattle.std.specs.Prelude.{◌≡◌, ℕ, List, Bool, Option, option_map}
use Rattle.vm_ids.specs.declared.node_name.NodeName.{NodeName}
use Rattle.vm_ids.specs.Forest.Nodes.{Forest}
use Rattle.vm_ids.specs.Forest.PageMap.{map_entries, map_pages}
use Rattle.vm_ids.specs.Forest.Reading.{value_of, owner_of, chain_of, counts_of}
use Rattle.vm_ids.specs.Forest.Rules.{own, heir_gets, write, detach, link, stub, copy_page, move_page}
use Rattle.vm_ids.specs.Forest.Settling.{settle_step, settle}
use Rattle.vm_ids.specs.Forest.Saving.{saves}
use Rattle.vm_ids.specs.Forest.Commands.{make, copy, move_, invalidate, destroy, lock}

module _ (P Q : Type 0) where
  abbrev pub ValuesGoWithPages : Type 0
  ValuesGoWithPages = (h : P → Q) (f : Forest P) (x : NodeName)
      → value_of (map_pages h f) x ≡ option_map h (value_of f x)

  abbrev pub OwnersStay : Type 0
  OwnersStay = (h : P → Q) (f : Forest P) (x : NodeName) → owner_of (map_pages h f) x ≡ owner_of f x

  abbrev pub ChainsStay : Type 0
  ChainsStay = (h : P → Q) (f : Forest P) (x : NodeName) → chain_of (map_pages h f) x ≡ chain_of f x

  abbrev pub CountsStay : Type 0
  CountsStay = (h : P → Q) (f : Forest P) → counts_of (map_pages h f) ≡ counts_of f

  abbrev pub OwnGoesWithPages : Type 0
  OwnGoesWithPages = (h : P → Q) (f : Forest P) (x : NodeName)
      → map_pages h (own f x) ≡ own (map_pages h f) x

  abbrev pub HeirGetsGoesWithPages : Type 0
  HeirGetsGoesWithPages = (h : P → Q) (f : Forest P) (x : NodeName)
      → map_pages h (heir_gets f x) ≡ heir_gets (map_pages h f) x

  -- where what is written goes with the change
  abbrev pub WriteGoesWithPages : Type 0
  WriteGoesWithPages = (h : P → Q) (f : Forest P) (x : NodeName) (change : P → P) (then : Q → Q)
      → ((v : P) → h (change v) ≡ then (h v))
      → map_pages h (write f x change) ≡ write (map_pages h f) x then

  abbrev pub DetachGoesWithPages : Type 0
  DetachGoesWithPages = (h : P → Q) (f : Forest P) (x : NodeName) (page : Option P)
      → map_pages h (detach f x page) ≡ detach (map_pages h f) x (option_map h page)

  abbrev pub LinkGoesWithPages : Type 0
  LinkGoesWithPages = (h : P → Q) (f : Forest P) (d s : NodeName)
      → map_pages h (link f d s) ≡ link (map_pages h f) d s

  abbrev pub StubGoesWithPages : Type 0
  StubGoesWithPages = (h : P → Q) (f : Forest P) (d s : NodeName)
      → map_pages h (stub f d s) ≡ stub (map_pages h f) d s

  abbrev pub CopyPageGoesWithPages : Type 0
  CopyPageGoesWithPages = (h : P → Q) (is_small : Bool) (f : Forest P) (d s : NodeName)
      → map_pages h (copy_page is_small f d s) ≡ copy_page is_small (map_pages h f) d s

  abbrev pub MovePageGoesWithPages : Type 0
  MovePageGoesWithPages = (h : P → Q) (f : Forest P) (d s : NodeName) (zeros : P)
      → map_pages h (move_page f d s zeros) ≡ move_page (map_pages h f) d s (h zeros)

  abbrev pub StepGoesWithPages : Type 0
  StepGoesWithPages = (h : P → Q) (f : Forest P) (w : NodeName)
      → map_pages h (settle_step f w) ≡ settle_step (map_pages h f) w

  abbrev pub SettleGoesWithPages : Type 0
  SettleGoesWithPages = (h : P → Q) (f : Forest P) → map_pages h (settle f) ≡ settle (map_pages h f)

  abbrev pub SavesGoWithPages : Type 0
  SavesGoWithPages = (h : P → Q) (n : ℕ) (xs : List NodeName) (f : Forest P)
      → map_pages h (saves n xs f) ≡ saves n xs (map_pages h f)

  abbrev pub MakeGoesWithPages : Type 0
  MakeGoesWithPages = (h : P → Q) (pages : List (NodeName × P)) (f : Forest P)
      → map_pages h (make pages f) ≡ make (map_entries h pages) (map_pages h f)

  abbrev pub CopyGoesWithPages : Type 0
  CopyGoesWithPages = (h : P → Q) (named : Bool) (pairs : List (NodeName × NodeName)) (f : Forest P)
      → map_pages h (copy named pairs f) ≡ copy named pairs (map_pages h f)

  abbrev pub MoveGoesWithPages : Type 0
  MoveGoesWithPages = (h : P
      → Q) (named : Bool) (zeros : P) (pairs : List (NodeName × NodeName)) (f : Forest P)
      → map_pages h (move_ named zeros pairs f) ≡ move_ named (h zeros) pairs (map_pages h f)

  abbrev pub InvalidateGoesWithPages : Type 0
  InvalidateGoesWithPages = (h : P → Q) (pages : List (NodeName × P)) (f : Forest P)
      → map_pages h (invalidate pages f) ≡ invalidate (map_entries h pages) (map_pages h f)

  abbrev pub DestroyGoesWithPages : Type 0
  DestroyGoesWithPages = (h : P → Q) (named : Bool) (xs : List NodeName) (f : Forest P)
      → map_pages h (destroy named xs f) ≡ destroy named xs (map_pages h f)

  abbrev pub LockGoesWithPages : Type 0
  LockGoesWithPages = (h : P → Q) (xs : List NodeName) (f : Forest P)
      → map_pages h (lock xs f) ≡ lock xs (map_pages h f)
