-- The rule link leaves each node the own page that it has.
use Rattle.std.proofs.Common.{◌≡◌, ◌+◌, List, [], ◌∷◌, refl, sym, ap, ◌∙◌}
use Rattle.vm_ids.specs.declared.node_name.NodeName.{NodeName}
use Rattle.vm_ids.specs.declared.node_name.NodeName.TheVariants.{Working}
use Rattle.vm_ids.specs.Forest.Changes.{count_working, set_tree}
use Rattle.vm_ids.specs.Forest.Nodes.{Forest, node}
use Rattle.vm_ids.specs.Forest.Nodes.Hang.{TreeOf}
use Rattle.vm_ids.specs.Forest.Rules.{link}
use Rattle.vm_ids.proofs.Forest.NodesAfter.{hang_all-keeps, keeps}
use Rattle.vm_ids.specs.declared.numbers.NodeId.{NodeId}
use Rattle.local_cache.specs.Arena.{Arena, HasNode}
use Rattle.local_cache.specs.Own.{own_of}
use Rattle.local_cache.specs.Reading.{AreNamesApart, forest_of, name_of}
use Rattle.local_cache.proofs.Forest.Reading.{node-forest_of}
use Rattle.local_cache.proofs.Forest.ReadingBy.{same_own}

module _ {P : Type 0} where
  set_tree-own : (f : Forest P) (p : NodeName) (xs : List NodeName) (y : NodeName) → (node (set_tree f p xs) y).own ≡ (node f y).own
  unfolding set_tree
  set_tree-own f p xs y = hang_all-keeps (λ n. n.own) (λ n h. refl) _ xs (TreeOf p) y ∙ keeps (λ n. n.own) f p _ refl y

  node-count_working : (f : Forest P) (y : NodeName) → node (count_working f) y ≡ node f y
  unfolding node
  node-count_working f y = refl

  pub link-own : (f : Forest P) (d s y : NodeName) → (node (link f d s) y).own ≡ (node f y).own
  unfolding link
  link-own f d s y = go (node f s).tree
    where
      go : (ts : List NodeName) → (node (elim ts [ [] ↦ set_tree f s (d ∷ []) | h ∷ _ ↦ count_working (set_tree (set_tree f s (Working (f.made + 1) ∷ [])) (Working (f.made + 1)) (h ∷ d ∷ [])) ]) y).own ≡ (node f y).own
      go [] = set_tree-own f s _ y
      go (h ∷ hs) = ap (λ n. n.own) (node-count_working _ y) ∙ set_tree-own _ _ _ y ∙ set_tree-own f s _ y

-- so each node has its own state still
pub states-link : (a b : Arena) → AreNamesApart a → AreNamesApart b → (d s : NodeName) → forest_of b ≡ link (forest_of a) d s
    → (n : NodeId) → HasNode a n → HasNode b n → name_of b n ≡ name_of a n → own_of b n ≡ own_of a n
states-link a b was is d s forest n h after name = same_own (own_of b n) (own_of a n) (
    sym (ap (λ k. k.own) (node-forest_of b is n after)) ∙ ap (λ f. (node f (name_of b n)).own) forest ∙ link-own (forest_of a) d s (name_of b n)
    ∙ ap (λ x. (node (forest_of a) x).own) name ∙ ap (λ k. k.own) (node-forest_of a was n h))
