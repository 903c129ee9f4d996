-- A page on which nothing hangs is such a one still when other pages are retired or replaced.
use Rattle.std.proofs.Common.{◌≡◌, ◌≢◌, ℕ, zero, suc, ◌+◌, Bool, true, false, cond, List, [], ◌∷◌, length, Option, Some, sym, refl, ap, ap₂, ◌∙◌, inl, inr, arith}
use Rattle.std.proofs.lemmas.List.{length-map}
use Rattle.vm_ids.specs.declared.node_name.NodeName.{NodeName}
use Rattle.vm_ids.specs.Forest.Changes.{count_working, cut, free, rename}
use Rattle.vm_ids.specs.Forest.Commands.{firsts, replace_pages, retire_all}
use Rattle.vm_ids.specs.Forest.NameLists.{◌∈◌, swapped, without}
use Rattle.vm_ids.specs.declared.node_name.NodeName.TheVariants.{Working}
use Rattle.vm_ids.specs.Forest.Names.{same}
use Rattle.vm_ids.specs.Forest.Nodes.{Forest, Hang, child_count, childless, is_live, node}
use Rattle.vm_ids.specs.Forest.Nodes.Hang.{Root, TreeOf, StubOf}
use Rattle.vm_ids.specs.Forest.Rules.{detach, retire}
use Rattle.vm_ids.proofs.Forest.Columns.{left_stubs}
use Rattle.vm_ids.proofs.Forest.Cutting.{cut-stubs, cut-tree}
use Rattle.vm_ids.proofs.Forest.Detaching.{swapped_other}
use Rattle.vm_ids.proofs.Forest.LinkingOver.{node-count_working}
use Rattle.vm_ids.proofs.Forest.NodesAfter.{node-free_other, node-put_other}
use Rattle.vm_ids.proofs.Forest.Renaming.{node-rename}
use Rattle.tree_merge.proofs.Leaving.Retired.{retire_none, retire_some}

no_list : {A : Type 0} (xs : List A) → length xs ≡ 0 → xs ≡ []
no_list [] e = refl
no_list (x ∷ xs) e = absurd (omega arith)

both_none : (b : Bool) (y : NodeName) → cond b (without y []) [] ≡ []
both_none true y = refl
both_none false y = refl

left_none : (y : NodeName) (h : Hang) (x : NodeName) → left_stubs y h x [] ≡ []
left_none y Root x = refl
left_none y (TreeOf p) x = refl
left_none y (StubOf p) x = both_none (same p x) y

not_working : (x : NodeName) (k : ℕ) → is_live x ≡ true → x ≢ Working k
not_working x k live e = let clash : true ≡ false = sym live ∙ ap is_live e in cc clash

module _ {P : Type 0} where
  -- one page
  module _ (f : Forest P) (y x : NodeName) (apart : x ≢ y) (live : is_live x ≡ true) (none : child_count f x ≡ 0) where
    tree : (node f x).tree ≡ []
    tree = no_list (node f x).tree (omega (arith, none))

    stubs : (node f x).stubs ≡ []
    stubs = no_list (node f x).stubs (omega (arith, none))

    gone : child_count (free (cut f y) y) x ≡ 0
    gone =
        ap (λ n. length n.tree + length n.stubs) (node-free_other (cut f y) y x apart)
        ∙ ap₂ (λ (ts ss : List NodeName). length ts + length ss) (cut-tree f y x ∙ ap (left_stubs y _ x) tree ∙ left_none y _ x) (cut-stubs f y x ∙ ap (left_stubs y _ x) stubs ∙ left_none y _ x)

    renamed : (w : NodeName) → x ≢ w → child_count (count_working (rename f y w)) x ≡ 0
    renamed w other =
        let same_place = swapped_other y w x apart other in
        ap (λ n. length n.tree + length n.stubs) (node-count_working (rename f y w) x ∙ node-rename y w f x)
        ∙ ap₂ (λ (m n : ℕ). m + n) (length-map (node f (swapped y w x)).tree (swapped y w)) (length-map (node f (swapped y w x)).stubs (swapped y w))
        ∙ ap (child_count f) same_place ∙ none

    pub retire_childless : child_count (retire f y) x ≡ 0
    retire_childless = go (child_count f y) refl
      where
        go : (k : ℕ) → child_count f y ≡ k → child_count (retire f y) x ≡ 0
        go zero e = ap (λ g. child_count g x) (retire_none f y e) ∙ gone
        go (suc k) e = ap (λ g. child_count g x) (retire_some f y (omega (arith, e))) ∙ renamed (Working (f.made + 1)) (not_working x (f.made + 1) live)

    detach_childless : (v : Option P) → child_count (detach f y v) x ≡ 0
    unfolding detach
    detach_childless v = ap (λ n. length n.tree + length n.stubs) (node-put_other (retire f y) y x (childless v Root) apart) ∙ retire_childless

  -- some pages, one after the other
  pub retired_childless : (xs : List NodeName) (f : Forest P) (x : NodeName) → is_live x ≡ true → (x ∈ xs → ⊥) → child_count f x ≡ 0 → child_count (retire_all xs f) x ≡ 0
  retired_childless [] f x live out none = none
  retired_childless (y ∷ ys) f x live out none = retired_childless ys (retire f y) x live (λ i. out (inr i)) (retire_childless f y x (λ e. out (inl e)) live none)

  pub replaced_childless : (pages : List (NodeName × P)) (f : Forest P) (x : NodeName) → is_live x ≡ true → (x ∈ firsts pages → ⊥) → child_count f x ≡ 0 → child_count (replace_pages pages f) x ≡ 0
  replaced_childless [] f x live out none = none
  replaced_childless (e ∷ es) f x live out none = replaced_childless es (detach f e.0 (Some e.1)) x live (λ i. out (inr i)) (detach_childless f e.0 x (λ q. out (inl q)) live none (Some e.1))
