-- Pages of a cache whose nodes are alike.
use Rattle.std.proofs.Common.{◌≡◌, ℕ, ◌+◌, ◌-◌, ◌<◌, ◌≤◌, ◌&&◌, ◌++◌, true, false, List, [], ◌∷◌, map, filter, Some, None, is_some, is_none, refl, sym, ap, ap₂, ◌∙◌, subst, arith, inl, inr, ◌⊎◌}
use Rattle.std.specs.Prelude.{slice_get}
use Rattle.vm_ids.specs.declared.command.Extent.{Extent}
use Rattle.vm_ids.specs.declared.numbers.CacheId.{CacheId}
use Rattle.vm_ids.specs.declared.numbers.NodeId.{NodeId}
use Rattle.vm_ids.specs.Forest.Commands.{page_name}
use Rattle.vm_ids.specs.Forest.NameLists.{first}
use Rattle.vm_ids.specs.Forest.Nodes.{node}
use Rattle.vm_ids.specs.Forest.Rules.{heir}
use Rattle.vm_ids.specs.Forest.Saving.{is_unsaved}
use Rattle.vm_ids.specs.Forest.Shape.{IsWellShaped}
use Rattle.local_cache.specs.Arena.{Arena, HasNode, cell, node_at}
use Rattle.local_cache.specs.Many.{AreAlike}
use Rattle.local_cache.specs.ManyNodes.{next_node}
use Rattle.local_cache.specs.Own.{is_absent, is_resident, own_of}
use Rattle.local_cache.specs.Reading.{forest_of, name_of, stubs_of, walk}
use Rattle.local_cache.specs.Sound.{IsSound}
use Rattle.local_cache.proofs.Forest.Reading.{node-forest_of}
use Rattle.residency.specs.World.{IsStoreRight, World, is_clean}
use Rattle.segment_ops.specs.Synced.{AreOut, AreSynced}
use Rattle.segment_ops.proofs.Saves.{both_false}
use Rattle.segment_ops.proofs.SyncedPages.{clean_synced}
use Rattle.segment_ops.proofs.Unsaved.{bare_saved}

pub no_children : (ms : List NodeId) → slice_get ms 0 ≡ None → ms ≡ []
no_children [] e = refl
no_children (m ∷ ms) e = absurd (cc e)

-- a node without children has no heir
leaf_saved : (a : Arena) → IsSound a → (n : NodeId) → HasNode a n → (cell a n).tree ≡ [] → (cell a n).links.stubs ≡ 0 → is_unsaved (forest_of a) (name_of a n) ≡ false
unfolding heir stubs_of
leaf_saved a sound n held leaf none =
    let here = node-forest_of a sound.kept.named n held in
    let tree : (node (forest_of a) (name_of a n)).tree ≡ [] = ap (λ k. k.tree) here ∙ ap (map (name_of a)) leaf in
    let stubs : (node (forest_of a) (name_of a n)).stubs ≡ [] = ap (λ k. k.stubs) here ∙ ap (λ (k : ℕ). map (name_of a) (walk a k (cell a n).links.first)) none in
    let heirless : heir (forest_of a) (name_of a n) ≡ None = ap₂ (λ ts ss. first (filter (λ t. is_none (node (forest_of a) t).own) ts ++ ss)) tree stubs in
    ap (λ o. is_some (node (forest_of a) (name_of a n)).own && is_some o) heirless ∙ both_false (is_some (node (forest_of a) (name_of a n)).own)

-- from this page on, whose node is n
module _ (a : Arena) (sound : IsSound a) (cache : CacheId) (page : ℕ) (n : NodeId) (here : node_at a cache.0 page ≡ Some n) (count : ℕ) (alike : AreAlike a n count) where
  named : (k : ℕ) → k < count → name_of a (next_node n k) ≡ page_name cache (page + k)
  named k low = (alike k low).page cache (record { 0 = page }) (sound.kept.listed.nodes cache.0 page n here).1

  node_there : (k : ℕ) → k < count → node_at a cache.0 (page + k) ≡ Some (next_node n k)
  node_there k low = sound.kept.listed.pages cache.0 (page + k) (next_node n k) (alike k low).held (named k low)

  -- each has the own state that n has
  pub own_there : (p : ℕ) (m : NodeId) → page ≤ p → p < page + count → node_at a cache.0 p ≡ Some m → HasNode a m × (own_of a m ≡ own_of a n)
  own_there p m from below at =
      let place : page + (p - page) ≡ p = omega (arith, from) in
      let low : p - page < count = omega (arith, from, below) in
      let there : Some (next_node n (p - page)) ≡ Some m = sym (node_there (p - page) low) ∙ ap (node_at a cache.0) place ∙ at in
      let same : next_node n (p - page) ≡ m = cc there in
      (subst (HasNode a) same (alike (p - page) low).held, ap (own_of a) (sym same) ∙ (alike (p - page) low).own)

  -- none has an heir that is to get its page, where n has no own page or no children
  pub alike_saved : ((is_absent (own_of a n) ≡ true) ⊎ ((cell a n).tree ≡ [])) → (p : ℕ) → page ≤ p → p < page + count → is_unsaved (forest_of a) (page_name cache p) ≡ false
  alike_saved none p from below =
      let k = p - page in
      let place : page + (p - page) ≡ p = omega (arith, from) in
      let low : p - page < count = omega (arith, from, below) in
      let m : NodeId = next_node n (p - page) in
      ap (λ q. is_unsaved (forest_of a) (page_name cache q)) (sym place) ∙ ap (is_unsaved (forest_of a)) (sym (named (p - page) low))
      ∙ elim none [
        | inl absent ↦ bare_saved a sound m (alike (p - page) low).held (ap is_absent (alike (p - page) low).own ∙ absent)
        | inr leaf ↦ leaf_saved a sound m (alike (p - page) low).held ((alike (p - page) low).tree ∙ ap (map (λ (c : NodeId). next_node c (p - page))) leaf) (ap (λ l. l.stubs) (alike (p - page) low).links)
      ]

-- pages that their segment holds
pub alike_synced : (w : World) → IsStoreRight w → IsSound w.caches → IsWellShaped (forest_of w.caches) → (range : Extent) (n : NodeId) → node_at w.caches range.cache.0 range.first.0 ≡ Some n
    → (count : ℕ) → AreAlike w.caches n count → is_clean (own_of w.caches n) ≡ true → AreSynced range (range.first.0 + count) w
alike_synced w right sound shaped range n here count alike clean page m from below at =
    let own = own_there w.caches sound range.cache range.first.0 n here count alike page m from below at in
    clean_synced w right sound shaped m own.0 (ap is_clean own.1 ∙ clean)

-- pages in no frame
pub alike_out : (a : Arena) → IsSound a → (range : Extent) (n : NodeId) → node_at a range.cache.0 range.first.0 ≡ Some n → (count : ℕ) → AreAlike a n count → is_resident (own_of a n) ≡ false → AreOut (record range { pages = count }) a
alike_out a sound range n here count alike out page m is at = ap is_resident (own_there a sound range.cache range.first.0 n here count alike page m is.0 is.1 at).1 ∙ out
