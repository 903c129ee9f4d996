-- A node is retired: it goes, or becomes a working node.
use Rattle.std.proofs.Common.{◌≡◌, ℕ, zero, suc, ◌+◌, ◌<◌, true, refl, sym, ap, ◌∙◌, subst, arith}
use Rattle.vm_ids.specs.declared.node_name.NodeName.{NodeName}
use Rattle.vm_ids.specs.declared.node_name.NodeName.TheVariants.{Working}
use Rattle.vm_ids.specs.Forest.Nodes.{Forest, IsNode, child_count, is_live}
use Rattle.vm_ids.specs.Forest.Shape.{IsLinked}
use Rattle.vm_ids.specs.Forest.Changes.{count_working, rename, free, cut}
use Rattle.vm_ids.specs.Forest.Rules.{retire}
use Rattle.vm_ids.proofs.Forest.Detaching.{retire-Freed}
use Rattle.vm_ids.specs.declared.numbers.NodeId.{NodeId}
use Rattle.tree_merge.specs.Releasing.{IsRetired, OwnsAfter}
use Rattle.tree_merge.specs.Staying.{IsGone}
use Rattle.tree_merge.specs.declared.released.Released.{Released}
use Rattle.tree_merge.specs.declared.released.Released.TheVariants.{Nothing, Dropped}
use Rattle.local_cache.specs.Arena.{Arena, HasNode, as_working}
use Rattle.local_cache.specs.Own.{own_of}
use Rattle.local_cache.specs.Reading.{name_of, forest_of}
use Rattle.local_cache.specs.Sound.{IsSound}
use Rattle.local_cache.proofs.Changes.SameNodes.{forest_of-made}
use Rattle.local_cache.proofs.Forest.Reading.{forest_of-IsNode, IsNode-forest_of}
use Rattle.local_cache.proofs.Names.Renaming.{working-forest, working-kept}

some : (n : ℕ) → 0 < n → (m : ℕ) × (n ≡ suc m)
some zero h = absurd (omega arith)
some (suc m) h = (m, refl)

pub retire_some : {P : Type 0} (f : Forest P) (x : NodeName) → 0 < child_count f x → retire f x ≡ count_working (rename f x (Working (f.made + 1)))
unfolding retire
retire_some {P} f x h =
    let by : ℕ → Forest P = λ n. elim n [ zero ↦ free (cut f x) x | suc m ↦ count_working (rename f x (Working (f.made + 1))) ] in
    ap by (some (child_count f x) h).1

pub retire_none : {P : Type 0} (f : Forest P) (x : NodeName) → child_count f x ≡ 0 → retire f x ≡ free (cut f x) x
unfolding retire
retire_none {P} f x h =
    let by : ℕ → Forest P = λ n. elim n [ zero ↦ free (cut f x) x | suc m ↦ count_working (rename f x (Working (f.made + 1))) ] in
    ap by h

module _ (a : Arena) (sound : IsSound a) (n : NodeId) (hn : HasNode a n) (live : is_live (name_of a n) ≡ true) (children : 0 < child_count (forest_of a) (name_of a n)) where
  pub retired-forest : forest_of (as_working a n) ≡ retire (forest_of a) (name_of a n)
  retired-forest = working-forest a sound.kept n hn
      ∙ ap (λ k. count_working (rename (forest_of a) (name_of a n) (Working (k + 1)))) (sym (forest_of-made a))
      ∙ sym (retire_some (forest_of a) (name_of a n) children)

  not_counted : IsNode (forest_of a) (Working ((forest_of a).made + 1)) → ⊥
  not_counted is =
      let f = forest_of-IsNode a (Working ((forest_of a).made + 1)) is in
      let low = sound.kept.named.counted f.0 ((forest_of a).made + 1) f.1 f.2 in
      omega (arith, forest_of-made a)

  pub retired-sound : IsSound (as_working a n)
  retired-sound =
      record { kept = working-kept a sound.kept n hn; linked = subst IsLinked (sym retired-forest) (retire-Freed (forest_of a) sound.linked (name_of a n) (IsNode-forest_of a sound.kept.named n hn) live not_counted).shape }

-- what is told of a node that became a working node
pub retired_parent : (a b : Arena) (n : NodeId) → 0 < child_count (forest_of a) (name_of a n) → b ≡ as_working a n → IsRetired a b n Nothing
retired_parent a b n children is = record {
  leaf = λ none. absurd (omega arith);
  parent = λ _. (refl, is);
}

-- and of one that is gone
pub retired_leaf : (a b : Arena) (n : NodeId) (released : Released) → child_count (forest_of a) (name_of a n) ≡ 0 → released ≡ Dropped n (own_of a n) → IsGone a b n → OwnsAfter a b n released → IsRetired a b n released
retired_leaf a b n released none is gone owns = record {
  leaf = λ _. (is, gone, owns);
  parent = λ children. absurd (omega arith);
}
