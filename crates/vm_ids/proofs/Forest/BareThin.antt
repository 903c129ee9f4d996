-- Which node is thin, and whether a forest is consistent, doesn't depend on its pages.
use Rattle.std.proofs.Common.{◌≡◌, ◌≤◌, sym, ap, ◌∙◌, subst}
use Rattle.vm_ids.specs.declared.node_name.NodeName.{NodeName}
use Rattle.vm_ids.specs.declared.node_name.NodeName.TheVariants.{Working}
use Rattle.vm_ids.specs.Forest.NameMap.{contains_key}
use Rattle.vm_ids.specs.Forest.Nodes.{Forest}
use Rattle.vm_ids.specs.Forest.PageMap.{bare, no_page}
use Rattle.vm_ids.specs.Forest.Settling.{thin}
use Rattle.vm_ids.specs.Forest.Shape.{IsConsistent}
use Rattle.vm_ids.proofs.Forest.BareShape.{IsNode-map, bare-shaped}
use Rattle.vm_ids.proofs.Forest.PageMap.{made-map, thin-map}

module _ {P Q : Type 0} (f : Forest P) (g : Forest Q) (alike : bare f ≡ bare g) where
  pub bare-thin : thin f ≡ thin g
  bare-thin = sym (thin-map no_page f) ∙ ap thin alike ∙ thin-map no_page g

  pub bare-IsNode : (x : NodeName) → contains_key f.nodes x ≡ contains_key g.nodes x
  bare-IsNode x = sym (IsNode-map no_page f x) ∙ ap (λ k. contains_key k.nodes x) alike ∙ IsNode-map no_page g x

  pub bare-made : f.made ≡ g.made
  bare-made = sym (made-map no_page f) ∙ ap (λ k. k.made) alike ∙ made-map no_page g

  pub bare-consistent : IsConsistent f → IsConsistent g
  bare-consistent c = record {
    shaped = bare-shaped f g alike c.shaped;
    counted = λ k is. subst (λ n. k ≤ n) bare-made (c.counted k (bare-IsNode (Working k) ∙ is));
  }
