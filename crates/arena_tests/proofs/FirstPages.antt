-- What is known of the pages of the first cache that was made.
use Rattle.std.proofs.Common.{◌≡◌, ◌<◌, ◌^◌, ℕ, List, [], length, None, subst, arith}
use Rattle.vm_ids.specs.declared.numbers.CacheId.{CacheId}
use Rattle.vm_ids.specs.declared.numbers.NodeId.{NodeId}
use Rattle.vm_ids.specs.Forest.Commands.{make, page_name}
use Rattle.vm_ids.specs.Forest.Nodes.{IsNode, no_forest}
use Rattle.vm_ids.specs.Forest.Shape.{IsConsistent}
use Rattle.local_cache.specs.declared.own_state.OwnState.TheVariants.{Zero}
use Rattle.local_cache.specs.Arena.{Arena, HasPage, IsMade}
use Rattle.local_cache.specs.Reading.{forest_of}
use Rattle.local_cache.specs.Sound.{IsSound}
use Rattle.local_cache.proofs.Forest.Reading.{IsNode-forest_of}
use Rattle.local_cache.proofs.NewCache.Whole.{none_len, none_whole, pages_with, whole_begun}

-- a page is a node of the forest
pub page_is : (a : Arena) → IsSound a → (cache : CacheId) (page : ℕ) → HasPage a cache page Zero → IsNode (forest_of a) (page_name cache page)
page_is a sound cache page has =
    let l = sound.kept.listed.nodes cache.0 page has.node has.at in
    subst (IsNode (forest_of a)) l.1 (IsNode-forest_of a sound.kept.named has.node l.0)

-- the caches are consistent where the first cache was made
pub begun : (pages : ℕ) → pages < 2 ^ 32 → (a b : Arena) → a.caches ≡ [] → forest_of a ≡ no_forest → IsSound a → (cache : CacheId) (nodes : List NodeId) → length nodes ≡ pages → IsMade a b cache None Zero nodes
    → forest_of b ≡ make (pages_with Zero cache pages) (forest_of a) → IsSound b → IsConsistent (forest_of b)
begun pages few a b none empty sound cache nodes size made forest sound_b =
    (whole_begun a b (none_whole a none empty sound) cache pages None Zero nodes size made forest sound_b (omega (arith, few, none_len (forest_of a) empty))).consistent
