-- Whole commands keep the values of the pages that they don't name.
use Rattle.std.proofs.Common.{◌≡◌, List, [], ◌∷◌, Bool, true, false, cond, ◌||◌, Some, None, refl, ap, ◌∙◌, inl, inr}
use Rattle.vm_ids.specs.declared.node_name.NodeName.{NodeName}
use Rattle.vm_ids.specs.Forest.Names.{same}
use Rattle.vm_ids.specs.Forest.NameLists.{◌∈◌}
use Rattle.vm_ids.specs.Forest.Nodes.{Forest, is_live}
use Rattle.vm_ids.specs.Forest.Shape.{IsConsistent}
use Rattle.vm_ids.specs.Forest.Reading.{value_of}
use Rattle.vm_ids.specs.Forest.Rules.{detach, move_page}
use Rattle.vm_ids.specs.Forest.Settling.{settle}
use Rattle.vm_ids.specs.Forest.Commands.{copy, destroy, firsts, move_, move_pages, replace_pages, seconds}
use Rattle.vm_ids.specs.Forest.Laws.Commands.{ArePagesOnce, CanCopy, is_in, source_of}
use Rattle.vm_ids.proofs.Forest.Names.{same_apart}
use Rattle.vm_ids.proofs.Forest.Laws.Copying.{copy_copies, first_pages, later_can, still_can, still_pages}
use Rattle.vm_ids.proofs.Forest.Laws.Commands.{destroy_destroys, later_pages}
use Rattle.vm_ids.proofs.Forest.Laws.Settling.{settle_keeps_live_values}
use Rattle.vm_ids.proofs.Forest.Moving.{move_page_stays}
use Rattle.vm_ids.proofs.Forest.OnePage.{move_page-consistent, move_page-value}
use Rattle.vm_ids.proofs.Forest.OneDetached.{detach-consistent, detach-value}
use Rattle.page_commands.proofs.CommandSteps.Replacing.{detach_stays}

source_out : (pairs : List (NodeName × NodeName)) (x : NodeName) → (x ∈ firsts pairs → ⊥) → source_of pairs x ≡ x
source_out [] x out = refl
source_out (e ∷ es) x out = ap (λ (b : Bool). cond b e.1 (source_of es x)) (same_apart x e.0 (λ q. out (inl q))) ∙ source_out es x (λ i. out (inr i))

not_in : (xs : List NodeName) (x : NodeName) → (x ∈ xs → ⊥) → is_in x xs ≡ false
not_in [] x out = refl
not_in (y ∷ ys) x out = ap (λ (b : Bool). b || is_in x ys) (same_apart x y (λ q. out (inl q))) ∙ not_in ys x (λ i. out (inr i))

module _ {P : Type 0} (x : NodeName) (live : is_live x ≡ true) where
  pub copy_outside : (pairs : List (NodeName × NodeName)) (f : Forest P) → IsConsistent f → CanCopy f pairs → (x ∈ firsts pairs → ⊥) → value_of (copy false pairs f) x ≡ value_of f x
  copy_outside pairs f c can out = copy_copies false pairs f c can x live ∙ ap (value_of f) (source_out pairs x out)

  pub destroy_outside : (xs : List NodeName) (f : Forest P) → IsConsistent f → ArePagesOnce f xs → (x ∈ xs → ⊥) → value_of (destroy false xs f) x ≡ value_of f x
  destroy_outside xs f c are out = destroy_destroys false xs f c are x live ∙ ap (λ (b : Bool). cond b None (value_of f x)) (not_in xs x out)

  -- the pages of a move, one after the other
  pub moved_outside : (zeros : P) (pairs : List (NodeName × NodeName)) (f : Forest P) → IsConsistent f → CanCopy f pairs → (x ∈ firsts pairs → ⊥) → (x ∈ seconds pairs → ⊥)
      → IsConsistent (move_pages zeros pairs f) × (value_of (move_pages zeros pairs f) x ≡ value_of f x)
  moved_outside zeros [] f c can out none = (c, refl)
  moved_outside zeros (e ∷ es) f c can out none =
      let pages = first_pages f e es can in
      let g = move_page f e.0 e.1 zeros in
      let rest = moved_outside zeros es g (move_page-consistent f c e.0 e.1 pages zeros) (still_can f g es (λ y on is. move_page_stays f c e.0 e.1 pages zeros y is) (later_can f e es can)) (λ i. out (inr i)) (λ i. none (inr i)) in (
        rest.0,
        rest.1 ∙ move_page-value f c e.0 e.1 pages zeros x live
            ∙ ap (λ (b : Bool). cond b (Some zeros) (cond (same x e.0) (value_of f e.1) (value_of f x))) (same_apart x e.1 (λ q. none (inl q)))
            ∙ ap (λ (b : Bool). cond b (value_of f e.1) (value_of f x)) (same_apart x e.0 (λ q. out (inl q))),
      )

  pub move_outside : (zeros : P) (pairs : List (NodeName × NodeName)) (f : Forest P) → IsConsistent f → CanCopy f pairs → (x ∈ firsts pairs → ⊥) → (x ∈ seconds pairs → ⊥) → value_of (move_ false zeros pairs f) x ≡ value_of f x
  move_outside zeros pairs f c can out none = let k = moved_outside zeros pairs f c can out none in settle_keeps_live_values (move_pages zeros pairs f) k.0 x live ∙ k.1

  -- the pages of a range, one after the other
  pub replaced_outside : (pages : List (NodeName × P)) (f : Forest P) → IsConsistent f → ArePagesOnce f (firsts pages) → (x ∈ firsts pages → ⊥)
      → IsConsistent (replace_pages pages f) × (value_of (replace_pages pages f) x ≡ value_of f x)
  replaced_outside [] f c are out = (c, refl)
  replaced_outside (e ∷ es) f c are out =
      let at = are.live e.0 (inl refl) in
      let g = detach f e.0 (Some e.1) in
      let rest = replaced_outside es g (detach-consistent f c e.0 at.0 at.1 e.1) (still_pages f g (firsts es) (λ y i is. detach_stays f c e.0 at.0 at.1 e.1 y is) (later_pages f e.0 (firsts es) are)) (λ i. out (inr i)) in (
        rest.0,
        rest.1 ∙ detach-value f c e.0 at.0 at.1 e.1 x live ∙ ap (λ (b : Bool). cond b (Some e.1) (value_of f x)) (same_apart x e.0 (λ q. out (inl q))),
      )

  pub replace_outside : (pages : List (NodeName × P)) (f : Forest P) → IsConsistent f → ArePagesOnce f (firsts pages) → (x ∈ firsts pages → ⊥) → value_of (settle (replace_pages pages f)) x ≡ value_of f x
  replace_outside pages f c are out = let k = replaced_outside pages f c are out in settle_keeps_live_values (replace_pages pages f) k.0 x live ∙ k.1
