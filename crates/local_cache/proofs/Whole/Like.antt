-- The caches stay whole where nodes keep their numbers and names.
use Rattle.std.proofs.Common.{[], sym, ◌∙◌, subst, arith, inr}
use Rattle.std.specs.Prelude.{◌≤◌}
use Rattle.vm_ids.specs.declared.node_name.NodeName.{NodeName}
use Rattle.vm_ids.specs.Forest.NameMap.{len}
use Rattle.vm_ids.specs.declared.node_name.NodeName.TheVariants.{Working}
use Rattle.vm_ids.specs.Forest.Commands.{page_name}
use Rattle.vm_ids.specs.Forest.Nodes.{IsNode}
use Rattle.vm_ids.specs.Forest.Shape.{IsWellShaped}
use Rattle.local_cache.specs.Arena.{Arena}
use Rattle.local_cache.specs.Changes.{Like}
use Rattle.local_cache.specs.Reading.{forest_of}
use Rattle.local_cache.specs.Sound.{IsSound}
use Rattle.local_cache.proofs.Changes.SameNodes.{forest_of-made}
use Rattle.local_cache.proofs.Forest.Reading.{IsNode-forest_of, forest_of-IsNode}
use Rattle.local_cache.specs.Whole.{IsWhole}
use Rattle.vm_ids.proofs.Forest.Lengths.{more_names}
use Rattle.local_cache.proofs.Tables.Sizes.{sizes_same}

pub like_node : (a b : Arena) → IsSound b → Like a b → (x : NodeName) → IsNode (forest_of a) x → IsNode (forest_of b) x
like_node a b sound like x is =
    let n = forest_of-IsNode a x is in
    subst (IsNode (forest_of b)) (like.name n.0 ∙ n.2) (IsNode-forest_of b sound.kept.named n.0 (like.held n.0 ∙ n.1))

node_like : (a b : Arena) → IsSound a → Like a b → (x : NodeName) → IsNode (forest_of b) x → IsNode (forest_of a) x
node_like a b sound like x is =
    let n = forest_of-IsNode b x is in
    subst (IsNode (forest_of a)) (sym (like.name n.0) ∙ n.2) (IsNode-forest_of a sound.kept.named n.0 (sym (like.held n.0) ∙ n.1))

-- there are no more nodes
pub like_len : (a b : Arena) → IsSound a → Like a b → len (forest_of b).nodes ≤ len (forest_of a).nodes
like_len a b sound like = let most = more_names (forest_of a) (forest_of b) [] (λ z is. inr (node_like a b sound like z is)) in omega (arith, most)

pub like_whole : (a b : Arena) → IsWhole a → Like a b → IsSound b → IsWellShaped (forest_of b) → IsWhole b
like_whole a b whole like sound shaped = record {
  sound = sound;
  consistent = record {
    shaped = shaped;
    counted = λ k is. (let n = forest_of-IsNode b (Working k) is in let low = sound.kept.named.counted n.0 k n.1 n.2 in omega (arith, low, forest_of-made b));
  };
  pages = λ cache page count size low. like_node a b sound like (page_name cache page) (whole.pages cache page count (sym ((sizes_same a b like.caches).sizes cache.0) ∙ size) low);
  few = omega (arith, like_len a b whole.sound like, whole.few);
}
