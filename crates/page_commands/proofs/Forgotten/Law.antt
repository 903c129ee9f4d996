-- What is forgotten isn't seen in the end, and the caches are whole still.
use Rattle.std.proofs.Common.{◌≡◌, Bool, true, false, List, refl, sym, ap, ◌∙◌}
use Rattle.vm_ids.specs.declared.node_name.NodeName.{NodeName}
use Rattle.vm_ids.specs.Forest.Commands.{copy, firsts, move_}
use Rattle.vm_ids.specs.Forest.Forgetting.{forgotten}
use Rattle.vm_ids.specs.Forest.Laws.Commands.{CanCopy}
use Rattle.vm_ids.specs.Forest.NameLists.{◌∈◌}
use Rattle.vm_ids.specs.Forest.Nodes.{Forest}
use Rattle.vm_ids.specs.Forest.PageMap.{bare}
use Rattle.vm_ids.specs.Forest.Saving.{is_unsaved}
use Rattle.vm_ids.specs.Forest.Shape.{IsConsistent}
use Rattle.vm_ids.proofs.Forest.BareShape.{bare-shaped}
use Rattle.vm_ids.proofs.Forest.Laws.Forgetting.{copy-forgets, move-forgets}
use Rattle.vm_ids.proofs.Forest.LostPages.{forgotten-bare}
use Rattle.local_cache.specs.Arena.{Arena}
use Rattle.local_cache.specs.Reading.{forest_of}
use Rattle.local_cache.specs.Sound.{IsSound}
use Rattle.local_cache.specs.Whole.{IsWhole}
use Rattle.local_cache.specs.declared.own_state.OwnState.TheVariants.{Zero}
use Rattle.residency.specs.World.{SameNodes}
use Rattle.residency.proofs.Worlds.Nodes.{still_like}
use Rattle.page_commands.specs.Steps.{forgotten_where}
use Rattle.local_cache.proofs.Whole.Like.{like_whole}

-- The caches are whole
pub forgotten_whole : (a b : Arena) (names : List NodeName) → IsWhole a → SameNodes a b → IsSound b → forest_of b ≡ forgotten names Zero (forest_of a) → IsWhole b
forgotten_whole a b names whole same sound is = like_whole a b whole (still_like a b same) sound
    (bare-shaped (forest_of a) (forest_of b) (sym (ap bare is ∙ forgotten-bare names Zero (forest_of a))) whole.consistent.shaped)

-- A command that goes on isn't told
module _ {P : Type 0} where
  pub copy_forgotten : (named : Bool) (pairs : List (NodeName × NodeName)) (f : Forest P) → IsConsistent f → CanCopy f pairs → (named ≡ true → (x : NodeName) → x ∈ firsts pairs → is_unsaved f x ≡ false) → (p : P)
      → copy false pairs (forgotten_where named (firsts pairs) p f) ≡ copy false pairs f
  copy_forgotten false pairs f c can saved p = refl
  copy_forgotten true pairs f c can saved p = copy-forgets pairs f c can (saved refl) p

  pub move_forgotten : (named : Bool) (pairs : List (NodeName × NodeName)) (f : Forest P) → IsConsistent f → CanCopy f pairs → (named ≡ true → (x : NodeName) → x ∈ firsts pairs → is_unsaved f x ≡ false) → (zeros p : P)
      → move_ false zeros pairs (forgotten_where named (firsts pairs) p f) ≡ move_ false zeros pairs f
  move_forgotten false pairs f c can saved zeros p = refl
  move_forgotten true pairs f c can saved zeros p = move-forgets pairs f c can (saved refl) zeros p
