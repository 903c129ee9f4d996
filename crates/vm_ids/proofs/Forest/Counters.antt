-- What small changes and rules do to the two counters.
use Rattle.std.proofs.Common.{◌≡◌, ℕ, suc, zero, ◌+◌, ◌≤◌, List, [], ◌∷◌, ◌++◌, Bool, true, false, cond, ◌&&◌, Option, Some, None, is_some, is_none, refl, sym, ap, subst, ◌∙◌, arith}
use Rattle.vm_ids.specs.declared.node_name.NodeName.{NodeName}
use Rattle.vm_ids.specs.Forest.Names.{Working}
use Rattle.vm_ids.specs.Forest.NameLists.{first, without}
use Rattle.vm_ids.specs.Forest.NameMap.{len}
use Rattle.vm_ids.specs.Forest.Nodes.{Hang, Node, Forest, node, child_count, is_stub}
use Rattle.vm_ids.specs.Forest.Nodes.Hang.{Root, TreeOf, StubOf}
use Rattle.vm_ids.specs.Forest.Reading.{value_of}
use Rattle.vm_ids.specs.Forest.Changes.{put, free, with_own, relist, cut, cut_stub, hang_all, set_tree, rename, count_copy, count_working}
use Rattle.vm_ids.specs.Forest.Rules.{gets, own, owned, heir, hand_stubs, heir_gets, write, retire, detach, link, stub, copy_page, move_page}
use Rattle.vm_ids.specs.Forest.Settling.{take_place, pass_page, give_way, settle_step, settle_within, settle, thin}
use Rattle.vm_ids.specs.Forest.Commands.{copy_pages, move_pages, replace_pages, retire_all}

-- g has the counters of f
pub record SameCounters {P : Type 0} (g f : Forest P) : Type 0 where
  pub made : g.made ≡ f.made
  pub copies : g.copies ≡ f.copies

module _ {P : Type 0} where
  abbrev made_of : Forest P → ℕ
  made_of f = f.made

  abbrev copies_of : Forest P → ℕ
  copies_of f = f.copies

  then_same : {f g h : Forest P} → SameCounters h g → SameCounters g f → SameCounters h f
  then_same a b = record { made = a.made ∙ b.made; copies = a.copies ∙ b.copies }

  same : {f : Forest P} → SameCounters f f
  same = record { made = refl; copies = refl }

  pub put-counters : (f : Forest P) (x : NodeName) (n : Node P) → SameCounters (put f x n) f
  unfolding put
  put-counters f x n = record { made = refl; copies = refl }

  pub free-counters : (f : Forest P) (x : NodeName) → SameCounters (free f x) f
  unfolding free
  free-counters f x = record { made = refl; copies = refl }

  pub relist-counters : (f : Forest P) (h : Hang) (change : List NodeName → List NodeName) → SameCounters (relist f h change) f
  unfolding relist
  relist-counters f Root change = same
  relist-counters f (TreeOf p) change = put-counters f p _
  relist-counters f (StubOf p) change = put-counters f p _

  pub cut-counters : (f : Forest P) (x : NodeName) → SameCounters (cut f x) f
  unfolding cut
  cut-counters f x = then_same (put-counters _ x _) (relist-counters f (node f x).hang (without x))

  pub cut_stub-counters : (f : Forest P) (x : NodeName) → SameCounters (cut_stub f x) f
  unfolding cut_stub
  cut_stub-counters f x = go (is_stub (node f x).hang)
    where
      go : (b : Bool) → SameCounters (cond b (cut f x) f) f
      go true = cut-counters f x
      go false = same

  pub hang_all-counters : (f : Forest P) (xs : List NodeName) (h : Hang) → SameCounters (hang_all f xs h) f
  unfolding hang_all
  hang_all-counters f [] h = same
  hang_all-counters f (x ∷ xs) h = then_same (put-counters (hang_all f xs h) x _) (hang_all-counters f xs h)

  pub set_tree-counters : (f : Forest P) (p : NodeName) (xs : List NodeName) → SameCounters (set_tree f p xs) f
  unfolding set_tree
  set_tree-counters f p xs = then_same (hang_all-counters _ xs (TreeOf p)) (put-counters f p _)

  pub rename-counters : (f : Forest P) (a b : NodeName) → SameCounters (rename f a b) f
  unfolding rename
  rename-counters f a b = record { made = refl; copies = refl }

  pub gets-counters : (f : Forest P) (x : NodeName) (v : Option P) → SameCounters (gets f x v) f
  unfolding gets
  gets-counters f x v = then_same (cut_stub-counters _ x) (put-counters f x _)

  pub own-made : (f : Forest P) (x : NodeName) → (own f x).made ≡ f.made
  unfolding own
  own-made f x = (gets-counters f x (value_of f x)).made

  pub own-copies : (f : Forest P) (x : NodeName) → (own f x).copies ≡ f.copies + 1
  unfolding own
  own-copies f x = ap (λ n. n + 1) (gets-counters f x (value_of f x)).copies

  pub owned-made : (f : Forest P) (x : NodeName) → (owned f x).made ≡ f.made
  owned-made f x = go (is_none (node f x).own)
    where
      go : (b : Bool) → (cond b (own f x) f).made ≡ f.made
      go true = own-made f x
      go false = refl

  pub owned-copies : (f : Forest P) (x : NodeName) → (owned f x).copies ≤ f.copies + 1
  owned-copies f x = go (is_none (node f x).own)
    where
      go : (b : Bool) → (cond b (own f x) f).copies ≤ f.copies + 1
      go true = let e = own-copies f x in omega arith
      go false = omega arith

  pub hand_stubs-counters : (f : Forest P) (x h : NodeName) → SameCounters (hand_stubs f x h) f
  unfolding hand_stubs
  hand_stubs-counters f x h = then_same (put-counters _ x _) (then_same (put-counters _ h _) (hang_all-counters f (node f x).stubs _))

  pub heir_gets-made : (f : Forest P) (x : NodeName) → (heir_gets f x).made ≡ f.made
  unfolding heir_gets
  heir_gets-made f x = go (heir f x)
    where
      go : (o : Option NodeName) → made_of (elim o [ None ↦ f | Some h ↦ count_copy (hand_stubs (gets f h (value_of f x)) x h) ]) ≡ f.made
      go None = refl
      go (Some h) = (then_same (hand_stubs-counters (gets f h (value_of f x)) x h) (gets-counters f h _)).made

  -- a copy is counted where there is an heir
  pub heir_gets-copies : (f : Forest P) (x : NodeName) → (heir_gets f x).copies ≡ f.copies + cond (is_some (heir f x)) 1 0
  unfolding heir_gets
  heir_gets-copies f x = go (heir f x)
    where
      go : (o : Option NodeName) → copies_of (elim o [ None ↦ f | Some h ↦ count_copy (hand_stubs (gets f h (value_of f x)) x h) ]) ≡ f.copies + cond (is_some o) 1 0
      go None = omega arith
      go (Some h) = ap (λ n. n + 1) (then_same (hand_stubs-counters (gets f h (value_of f x)) x h) (gets-counters f h _)).copies

  pub heir_gets-copies-most : (f : Forest P) (x : NodeName) → (heir_gets f x).copies ≤ f.copies + 1
  heir_gets-copies-most f x = go (is_some (heir f x)) (heir_gets-copies f x)
    where
      go : (b : Bool) → (heir_gets f x).copies ≡ f.copies + cond b 1 0 → (heir_gets f x).copies ≤ f.copies + 1
      go true e = omega arith
      go false e = omega arith

  pub write-made : (f : Forest P) (x : NodeName) (change : P → P) → (write f x change).made ≡ f.made
  unfolding write
  write-made f x change = (put-counters _ x _).made ∙ heir_gets-made (owned f x) x ∙ owned-made f x

  pub write-copies : (f : Forest P) (x : NodeName) (change : P → P) → (write f x change).copies ≤ f.copies + 2
  unfolding write
  write-copies f x change =
      let p = (put-counters (heir_gets (owned f x) x) x (with_own _ (node (heir_gets (owned f x) x) x))).copies in
      let h = heir_gets-copies-most (owned f x) x in
      let o = owned-copies f x in
      subst (λ n. n ≤ f.copies + 2) (sym p) (omega arith)

  pub retire-copies : (f : Forest P) (x : NodeName) → (retire f x).copies ≡ f.copies
  unfolding retire
  retire-copies f x = go (child_count f x)
    where
      go : (n : ℕ) → copies_of (elim n [ zero ↦ free (cut f x) x | suc n ↦ count_working (rename f x (Working (f.made + 1))) ]) ≡ f.copies
      go zero = (then_same (free-counters (cut f x) x) (cut-counters f x)).copies
      go (suc n) = (rename-counters f x _).copies

  pub detach-copies : (f : Forest P) (x : NodeName) (page : Option P) → (detach f x page).copies ≡ f.copies
  unfolding detach
  detach-copies f x page = (put-counters (retire f x) x _).copies ∙ retire-copies f x

  pub link-copies : (f : Forest P) (d s : NodeName) → (link f d s).copies ≡ f.copies
  unfolding link
  link-copies f d s = go (node f s).tree
    where
      go : (xs : List NodeName) → copies_of (elim xs [
        | [] ↦ set_tree f s (d ∷ [])
        | h ∷ _ ↦ let w = Working (f.made + 1) in count_working (set_tree (set_tree f s (w ∷ [])) w (h ∷ d ∷ []))
      ]) ≡ f.copies
      go [] = (set_tree-counters f s _).copies
      go (h ∷ xs) = (then_same (set_tree-counters (set_tree f s (Working (f.made + 1) ∷ [])) _ _) (set_tree-counters f s _)).copies

  pub stub-copies : (f : Forest P) (d s : NodeName) → (stub f d s).copies ≡ f.copies
  unfolding stub
  stub-copies f d s = (then_same (put-counters _ d _) (put-counters f s _)).copies

  pub copy_page-copies : (is_small : Bool) (f : Forest P) (d s : NodeName) → (copy_page is_small f d s).copies ≡ f.copies
  copy_page-copies true f d s = stub-copies (detach f d None) d s ∙ detach-copies f d None
  copy_page-copies false f d s = link-copies (detach f d None) d s ∙ detach-copies f d None

  pub move_page-copies : (f : Forest P) (d s : NodeName) (zeros : P) → (move_page f d s zeros).copies ≡ f.copies
  move_page-copies f d s zeros = (then_same (put-counters _ s _) (rename-counters (retire f d) s d)).copies ∙ retire-copies f d

  pub take_place-counters : (f : Forest P) (w y : NodeName) → SameCounters (take_place f w y) f
  unfolding take_place
  take_place-counters f w y = then_same (put-counters _ w _) (then_same (put-counters _ y _) (relist-counters f (node f w).hang _))

  pub pass_page-counters : (f : Forest P) (w y : NodeName) → SameCounters (pass_page f w y) f
  unfolding pass_page
  pass_page-counters f w y = put-counters f y _

  pub give_way-counters : (f : Forest P) (w y : NodeName) → SameCounters (give_way f w y) f
  unfolding give_way
  give_way-counters f w y = go (is_stub (node f w).hang && is_some (node f y).own)
    where
      go : (b : Bool) → SameCounters (free (cond b (cut f w) (take_place f w y)) w) f
      go true = then_same (free-counters (cut f w) w) (cut-counters f w)
      go false = then_same (free-counters (take_place f w y) w) (take_place-counters f w y)

  pub settle_step-counters : (f : Forest P) (w : NodeName) → SameCounters (settle_step f w) f
  unfolding settle_step
  settle_step-counters f w = go (first ((node f w).tree ++ (node f w).stubs))
    where
      go : (o : Option NodeName) → SameCounters (elim o [ None ↦ free (cut f w) w | Some y ↦ give_way (pass_page (cut f y) w y) w y ]) f
      go None = then_same (free-counters (cut f w) w) (cut-counters f w)
      go (Some y) = then_same (give_way-counters _ w y) (then_same (pass_page-counters _ w y) (cut-counters f y))

  pub settle_within-counters : (n : ℕ) (f : Forest P) → SameCounters (settle_within n f) f
  unfolding settle_within
  settle_within-counters zero f = same
  settle_within-counters (suc n) f = go (thin f) (λ g. settle_within-counters n g)
    where
      go : (o : Option NodeName) → ((g : Forest P) → SameCounters (settle_within n g) g) → SameCounters (elim o [ None ↦ f | Some w ↦ settle_within n (settle_step f w) ]) f
      go None more = same
      go (Some w) more = then_same (more (settle_step f w)) (settle_step-counters f w)

  pub settle-counters : (f : Forest P) → SameCounters (settle f) f
  unfolding settle
  settle-counters f = settle_within-counters (len f.nodes) f

  pub copy_pages-copies : (is_small : Bool) (pairs : List (NodeName × NodeName)) (f : Forest P) → (copy_pages is_small pairs f).copies ≡ f.copies
  copy_pages-copies is_small [] f = refl
  copy_pages-copies is_small (e ∷ es) f = copy_pages-copies is_small es (copy_page is_small f e.0 e.1) ∙ copy_page-copies is_small f e.0 e.1

  pub move_pages-copies : (zeros : P) (pairs : List (NodeName × NodeName)) (f : Forest P) → (move_pages zeros pairs f).copies ≡ f.copies
  move_pages-copies zeros [] f = refl
  move_pages-copies zeros (e ∷ es) f = move_pages-copies zeros es (move_page f e.0 e.1 zeros) ∙ move_page-copies f e.0 e.1 zeros

  pub replace_pages-copies : (pages : List (NodeName × P)) (f : Forest P) → (replace_pages pages f).copies ≡ f.copies
  replace_pages-copies [] f = refl
  replace_pages-copies (e ∷ es) f = replace_pages-copies es (detach f e.0 (Some e.1)) ∙ detach-copies f e.0 (Some e.1)

  pub retire_all-copies : (xs : List NodeName) (f : Forest P) → (retire_all xs f).copies ≡ f.copies
  retire_all-copies [] f = refl
  retire_all-copies (x ∷ xs) f = retire_all-copies xs (retire f x) ∙ retire-copies f x
