-- How many working nodes the rules make.
use Rattle.std.specs.Prelude.{◌≡◌, ℕ, ◌+◌, ◌*◌, ◌≤◌, List, length, Bool, Option}
use Rattle.vm_ids.specs.declared.node_name.NodeName.{NodeName}
use Rattle.vm_ids.specs.Forest.Nodes.{Forest}
use Rattle.vm_ids.specs.Forest.Rules.{own, heir_gets, write, detach, link, stub, copy_page, move_page}
use Rattle.vm_ids.specs.Forest.Settling.{settle_step, settle}
use Rattle.vm_ids.specs.Forest.Saving.{saves}
use Rattle.vm_ids.specs.Forest.Commands.{make, copy, move_, invalidate, destroy, lock}

module _ (P : Type 0) where
  abbrev pub OwnMakesNone : Type 0
  OwnMakesNone = (f : Forest P) (x : NodeName) → (own f x).made ≡ f.made

  abbrev pub HeirGetsMakesNone : Type 0
  HeirGetsMakesNone = (f : Forest P) (x : NodeName) → (heir_gets f x).made ≡ f.made

  abbrev pub WriteMakesNone : Type 0
  WriteMakesNone = (f : Forest P) (x : NodeName) (change : P → P) → (write f x change).made ≡ f.made

  abbrev pub DetachMakesAtMostOne : Type 0
  DetachMakesAtMostOne = (f : Forest P) (x : NodeName) (page : Option P)
      → (detach f x page).made ≤ f.made + 1

  abbrev pub LinkMakesAtMostOne : Type 0
  LinkMakesAtMostOne = (f : Forest P) (d s : NodeName) → (link f d s).made ≤ f.made + 1

  abbrev pub StubMakesNone : Type 0
  StubMakesNone = (f : Forest P) (d s : NodeName) → (stub f d s).made ≡ f.made

  abbrev pub CopyPageMakesAtMostTwo : Type 0
  CopyPageMakesAtMostTwo = (is_small : Bool) (f : Forest P) (d s : NodeName)
      → (copy_page is_small f d s).made ≤ f.made + 2

  abbrev pub MovePageMakesAtMostOne : Type 0
  MovePageMakesAtMostOne = (f : Forest P) (d s : NodeName) (zeros : P)
      → (move_page f d s zeros).made ≤ f.made + 1

  abbrev pub StepMakesNone : Type 0
  StepMakesNone = (f : Forest P) (w : NodeName) → (settle_step f w).made ≡ f.made

  abbrev pub SettleMakesNone : Type 0
  SettleMakesNone = (f : Forest P) → (settle f).made ≡ f.made

  abbrev pub SavesMakeNone : Type 0
  SavesMakeNone = (n : ℕ) (xs : List NodeName) (f : Forest P) → (saves n xs f).made ≡ f.made

  -- The nodes of a new cache are live ones.
  abbrev pub MakeMakesNone : Type 0
  MakeMakesNone = (pages : List (NodeName × P)) (f : Forest P) → (make pages f).made ≡ f.made

  abbrev pub CopyMakesAtMostTwoAPage : Type 0
  CopyMakesAtMostTwoAPage = (named : Bool) (pairs : List (NodeName × NodeName)) (f : Forest P)
      → (copy named pairs f).made ≤ f.made + 2 * length pairs

  abbrev pub MoveMakesAtMostOneAPage : Type 0
  MoveMakesAtMostOneAPage = (named : Bool) (zeros : P) (pairs : List (NodeName × NodeName))
      (f : Forest P)
      → (move_ named zeros pairs f).made ≤ f.made + length pairs

  abbrev pub InvalidateMakesAtMostOneAPage : Type 0
  InvalidateMakesAtMostOneAPage = (pages : List (NodeName × P)) (f : Forest P)
      → (invalidate pages f).made ≤ f.made + length pages

  abbrev pub DestroyMakesAtMostOneAPage : Type 0
  DestroyMakesAtMostOneAPage = (named : Bool) (xs : List NodeName) (f : Forest P)
      → (destroy named xs f).made ≤ f.made + length xs

  abbrev pub LockMakesNone : Type 0
  LockMakesNone = (xs : List NodeName) (f : Forest P) → (lock xs f).made ≡ f.made
