-- How many working nodes a rule of one page makes.
use Rattle.std.proofs.Common.{◌≡◌, ℕ, suc, zero, ◌+◌, ◌≤◌, List, [], ◌∷◌, Bool, true, false, Option, Some, None, sym, ◌∙◌, subst, arith}
use Rattle.vm_ids.specs.declared.node_name.NodeName.{NodeName}
use Rattle.vm_ids.specs.declared.node_name.NodeName.TheVariants.{Working}
use Rattle.vm_ids.specs.Forest.Nodes.{Forest, child_count, childless, node}
use Rattle.vm_ids.specs.Forest.Nodes.Hang.{Root}
use Rattle.vm_ids.specs.Forest.Changes.{free, cut, set_tree, rename, count_working}
use Rattle.vm_ids.specs.Forest.Rules.{copy_page, detach, link, move_page, retire, stub}
use Rattle.vm_ids.proofs.Forest.Counters.{put-counters, free-counters, cut-counters, set_tree-counters, rename-counters}

module _ {P : Type 0} (f : Forest P) where
  abbrev made_of : Forest P → ℕ
  made_of g = g.made

  pub retire-made : (x : NodeName) → (retire f x).made ≤ f.made + 1
  unfolding retire
  retire-made x = go (child_count f x)
    where
      go : (n : ℕ) → made_of (elim n [ zero ↦ free (cut f x) x | suc n ↦ count_working (rename f x (Working (f.made + 1))) ]) ≤ f.made + 1
      go zero =
          let freed : (free (cut f x) x).made ≡ (cut f x).made = (free-counters (cut f x) x).made in
          let was : (cut f x).made ≡ f.made = (cut-counters f x).made in
          omega arith
      go (suc n) = let named : (rename f x (Working (f.made + 1))).made ≡ f.made = (rename-counters f x _).made in omega arith

  pub detach-made : (x : NodeName) (page : Option P) → (detach f x page).made ≤ f.made + 1
  unfolding detach
  detach-made x page = subst (λ n. n ≤ f.made + 1) (sym (put-counters (retire f x) x _).made) (retire-made x)

  pub link-made : (d s : NodeName) → (link f d s).made ≤ f.made + 1
  unfolding link
  link-made d s = go (node f s).tree
    where
      go : (xs : List NodeName) → made_of (elim xs [
        | [] ↦ set_tree f s (d ∷ [])
        | h ∷ _ ↦ let w = Working (f.made + 1) in count_working (set_tree (set_tree f s (w ∷ [])) w (h ∷ d ∷ []))
      ]) ≤ f.made + 1
      go [] = let same : (set_tree f s (d ∷ [])).made ≡ f.made = (set_tree-counters f s _).made in omega arith
      go (h ∷ xs) =
          let w = Working (f.made + 1) in
          let one : (set_tree f s (w ∷ [])).made ≡ f.made = (set_tree-counters f s _).made in
          let two : (set_tree (set_tree f s (w ∷ [])) w (h ∷ d ∷ [])).made ≡ (set_tree f s (w ∷ [])).made = (set_tree-counters (set_tree f s (w ∷ [])) w _).made in
          omega arith

  pub stub-makes : (d s : NodeName) → (stub f d s).made ≡ f.made
  unfolding stub
  stub-makes d s = (put-counters _ d _).made ∙ (put-counters f s _).made

  pub move_page-made : (d s : NodeName) (zeros : P) → (move_page f d s zeros).made ≤ f.made + 1
  move_page-made d s zeros =
      let one : (move_page f d s zeros).made ≡ (rename (retire f d) s d).made = (put-counters (rename (retire f d) s d) s (childless (Some zeros) Root)).made in
      let two : (rename (retire f d) s d).made ≡ (retire f d).made = (rename-counters (retire f d) s d).made in
      omega (arith, one, two, retire-made d)

module _ {P : Type 0} (f : Forest P) where
  pub copy_page-made : (is_small : Bool) (d s : NodeName) → (copy_page is_small f d s).made ≤ f.made + 2
  copy_page-made true d s = omega (arith, detach-made f d None, stub-makes (detach f d None) d s)
  copy_page-made false d s = omega (arith, detach-made f d None, link-made (detach f d None) d s)
