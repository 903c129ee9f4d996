-- How many working nodes the rules make.
use Rattle.std.proofs.Common.{◌≡◌, ℕ, suc, zero, ◌+◌, ◌*◌, ◌≤◌, List, [], ◌∷◌, length, leb, Bool, true, false, Option, Some, None, refl, ◌∙◌, arith}
use Rattle.vm_ids.specs.declared.node_name.NodeName.{NodeName}
use Rattle.vm_ids.specs.Forest.NameMap.{len}
use Rattle.vm_ids.specs.Forest.Nodes.{Forest, childless}
use Rattle.vm_ids.specs.Forest.Nodes.Hang.{Root}
use Rattle.vm_ids.specs.Forest.Rules.{heir_gets, retire, detach, copy_page, move_page, owned}
use Rattle.vm_ids.specs.Forest.Saving.{saves, saved, save_range, unsaved}
use Rattle.vm_ids.specs.Forest.Commands.{make, firsts, copy_pages, move_pages, replace_pages, retire_all, small_copy}
use Rattle.vm_ids.specs.Forest.Laws.Made.{OwnMakesNone, HeirGetsMakesNone, WriteMakesNone, DetachMakesAtMostOne, LinkMakesAtMostOne, StubMakesNone, CopyPageMakesAtMostTwo, MovePageMakesAtMostOne, StepMakesNone, SettleMakesNone, SavesMakeNone, MakeMakesNone, CopyMakesAtMostTwoAPage, MoveMakesAtMostOneAPage, InvalidateMakesAtMostOneAPage, DestroyMakesAtMostOneAPage, LockMakesNone}
use Rattle.vm_ids.proofs.Forest.Counters.{heir_gets-made, own-made, owned-made, put-counters, settle-counters, settle_step-counters, write-made}
use Rattle.vm_ids.proofs.Forest.Made.{copy_page-made, detach-made, link-made, move_page-made, retire-made, stub-makes}

module _ {P : Type 0} where
  pub own_makes_none : OwnMakesNone P
  own_makes_none f x = own-made f x

  pub heir_gets_makes_none : HeirGetsMakesNone P
  heir_gets_makes_none f x = heir_gets-made f x

  pub write_makes_none : WriteMakesNone P
  write_makes_none f x change = write-made f x change

  pub detach_makes_at_most_one : DetachMakesAtMostOne P
  detach_makes_at_most_one f x page = detach-made f x page

  pub link_makes_at_most_one : LinkMakesAtMostOne P
  link_makes_at_most_one f d s = link-made f d s

  pub stub_makes_none : StubMakesNone P
  stub_makes_none f d s = stub-makes f d s

  pub copy_page_makes_at_most_two : CopyPageMakesAtMostTwo P
  copy_page_makes_at_most_two is_small f d s = copy_page-made f is_small d s

  pub move_page_makes_at_most_one : MovePageMakesAtMostOne P
  move_page_makes_at_most_one f d s zeros = move_page-made f d s zeros

  pub step_makes_none : StepMakesNone P
  step_makes_none f w = (settle_step-counters f w).made

  pub settle_makes_none : SettleMakesNone P
  settle_makes_none f = (settle-counters f).made

  abbrev made_of : Forest P → ℕ
  made_of f = f.made

  pub saves_make_none : SavesMakeNone P
  unfolding saves
  saves_make_none zero xs f = refl
  saves_make_none (suc n) xs f = go (unsaved f xs) (λ g. saves_make_none n xs g)
    where
      go : (o : Option NodeName) → ((g : Forest P) → (saves n xs g).made ≡ g.made) → made_of (elim o [ None ↦ f | Some x ↦ saves n xs (heir_gets f x) ]) ≡ f.made
      go None more = refl
      go (Some x) more = more (heir_gets f x) ∙ heir_gets-made f x

  saved-made : (named : Bool) (xs : List NodeName) (f : Forest P) → (saved named xs f).made ≡ f.made
  unfolding save_range
  saved-made true xs f = saves_make_none (len f.nodes) xs f
  saved-made false xs f = refl

  pub make_makes_none : MakeMakesNone P
  make_makes_none [] f = refl
  make_makes_none (e ∷ es) f = (put-counters (make es f) e.0 (childless (Some e.1) Root)).made ∙ make_makes_none es f

  copy_pages-made : (is_small : Bool) (pairs : List (NodeName × NodeName)) (f : Forest P) → (copy_pages is_small pairs f).made ≤ f.made + 2 * length pairs
  copy_pages-made is_small [] f = omega arith
  copy_pages-made is_small (e ∷ es) f = omega (arith, copy_pages-made is_small es (copy_page is_small f e.0 e.1), copy_page-made f is_small e.0 e.1)

  pub copy_makes_at_most_two_a_page : CopyMakesAtMostTwoAPage P
  copy_makes_at_most_two_a_page named pairs f =
      let small = leb (length pairs) small_copy in
      omega (arith, settle_makes_none (copy_pages small pairs (saved named (firsts pairs) f)), copy_pages-made small pairs (saved named (firsts pairs) f), saved-made named (firsts pairs) f)

  move_pages-made : (zeros : P) (pairs : List (NodeName × NodeName)) (f : Forest P) → (move_pages zeros pairs f).made ≤ f.made + length pairs
  move_pages-made zeros [] f = omega arith
  move_pages-made zeros (e ∷ es) f = omega (arith, move_pages-made zeros es (move_page f e.0 e.1 zeros), move_page-made f e.0 e.1 zeros)

  pub move_makes_at_most_one_a_page : MoveMakesAtMostOneAPage P
  move_makes_at_most_one_a_page named zeros pairs f = omega (arith, settle_makes_none (move_pages zeros pairs (saved named (firsts pairs) f)), move_pages-made zeros pairs (saved named (firsts pairs) f), saved-made named (firsts pairs) f)

  replace_pages-made : (pages : List (NodeName × P)) (f : Forest P) → (replace_pages pages f).made ≤ f.made + length pages
  replace_pages-made [] f = omega arith
  replace_pages-made (e ∷ es) f = omega (arith, replace_pages-made es (detach f e.0 (Some e.1)), detach-made f e.0 (Some e.1))

  pub invalidate_makes_at_most_one_a_page : InvalidateMakesAtMostOneAPage P
  invalidate_makes_at_most_one_a_page pages f = omega (arith, settle_makes_none (replace_pages pages (saved true (firsts pages) f)), replace_pages-made pages (saved true (firsts pages) f), saved-made true (firsts pages) f)

  retire_all-made : (xs : List NodeName) (f : Forest P) → (retire_all xs f).made ≤ f.made + length xs
  retire_all-made [] f = omega arith
  retire_all-made (x ∷ xs) f = omega (arith, retire_all-made xs (retire f x), retire-made f x)

  pub destroy_makes_at_most_one_a_page : DestroyMakesAtMostOneAPage P
  destroy_makes_at_most_one_a_page named xs f = omega (arith, settle_makes_none (retire_all xs (saved named xs f)), retire_all-made xs (saved named xs f), saved-made named xs f)

  pub lock_makes_none : LockMakesNone P
  lock_makes_none [] f = refl
  lock_makes_none (x ∷ xs) f = lock_makes_none xs (owned f x) ∙ owned-made f x
