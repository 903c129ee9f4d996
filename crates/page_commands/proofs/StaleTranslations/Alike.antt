-- Pages whose nodes are alike and in no frame are seen in none.
use Rattle.std.proofs.Common.{◌≡◌, ℕ, ◌+◌, ◌<◌, true, false, List, Option, Some, None, IsSome, is_some, refl, sym, ap, ◌∙◌}
use Rattle.std.specs.Prelude.{option_and_then}
use Rattle.vm_ids.specs.declared.node_name.NodeName.{NodeName}
use Rattle.vm_ids.specs.declared.numbers.CacheId.{CacheId}
use Rattle.vm_ids.specs.declared.numbers.NodeId.{NodeId}
use Rattle.vm_ids.specs.declared.numbers.PageNo.{PageNo}
use Rattle.vm_ids.specs.Forest.Commands.{page_name}
use Rattle.vm_ids.specs.Forest.Nodes.{node}
use Rattle.vm_ids.specs.Forest.Shape.{IsConsistent}
use Rattle.global_map.specs.Pairs.{frame_of}
use Rattle.local_cache.specs.declared.own_state.OwnState.{OwnState}
use Rattle.local_cache.specs.declared.own_state.OwnState.TheVariants.{Absent, Zero, Resident, Slot, OnSegment}
use Rattle.local_cache.specs.Arena.{Arena, node_at}
use Rattle.local_cache.specs.Many.{AreAlike}
use Rattle.local_cache.specs.ManyNodes.{next_node}
use Rattle.local_cache.specs.Own.{is_absent, is_resident, own_of}
use Rattle.local_cache.specs.Reading.{forest_of, name_of}
use Rattle.local_cache.specs.Sound.{IsSound}
use Rattle.residency.specs.Seeing.{frame_forest, seen_in}
use Rattle.residency.specs.World.{page_by}
use Rattle.page_commands.specs.Translating.{own_in}
use Rattle.page_commands.proofs.StaleTranslations.Seen.{in_none, own_at, owned_seen}

has_own : (s : OwnState) (f : ℕ) → is_absent s ≡ false → is_some (page_by None (Some f) (λ slot. None) None s) ≡ true
has_own Absent f h = absurd (cc h)
has_own Zero f h = refl
has_own (Resident d) f h = refl
has_own (Slot k) f h = refl
has_own OnSegment f h = refl

-- the first of them is the node of this page
module _ (a : Arena) (map : List (Option NodeId)) (sound : IsSound a) (c : CacheId) (p : PageNo) (n : NodeId) (here : node_at a c.0 p.0 ≡ Some n) where
  module _ (count : ℕ) (alike : AreAlike a n count) (out : is_resident (own_of a n) ≡ false) where
    named : (k : ℕ) → k < count → name_of a (next_node n k) ≡ page_name c (p.0 + k)
    named k low = (alike k low).page c p (sound.kept.listed.nodes c.0 p.0 n here).1

    pub none_owned : (k : ℕ) → k < count → own_in a map (page_name c (p.0 + k)) ≡ None
    none_owned k low =
        let m : NodeId = next_node n k in
        ap (own_in a map) (sym (named k low))
        ∙ ap (option_and_then (λ frame. frame)) (own_at a map sound m (alike k low).held)
        ∙ in_none (own_of a m) (frame_of map m.0) (ap is_resident (alike k low).own ∙ out)

    -- where they are their own owners
    pub none_seen : IsConsistent (forest_of a) → is_absent (own_of a n) ≡ false → (k : ℕ) → k < count → seen_in a map (page_name c (p.0 + k)) ≡ None
    none_seen consistent own k low =
        let m : NodeId = next_node n k in
        let x : NodeName = page_name c (p.0 + k) in
        let has : IsSome (node (frame_forest a map) x).own =
        ap (λ y. is_some (node (frame_forest a map) y).own) (sym (named k low))
        ∙ ap is_some (own_at a map sound m (alike k low).held)
        ∙ has_own (own_of a m) (frame_of map m.0) (ap is_absent (alike k low).own ∙ own) in
        owned_seen a map sound consistent x has ∙ none_owned k low
