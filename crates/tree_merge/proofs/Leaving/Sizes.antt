-- As many caches of the same sizes are live after the node of a page was retired, or a fresh one
-- was made.
use Rattle.std.proofs.Common.{◌≡◌, ℕ, zero, suc, Some, None, refl, ap, ◌∙◌, arith}
use Rattle.vm_ids.specs.declared.node_name.NodeName.{NodeName}
use Rattle.vm_ids.specs.declared.numbers.NodeId.{NodeId}
use Rattle.vm_ids.specs.Forest.Nodes.{child_count}
use Rattle.local_cache.specs.declared.own_state.OwnState.{OwnState}
use Rattle.local_cache.specs.Arena.{Arena, as_working, put, tables_with, with_new}
use Rattle.local_cache.specs.Reading.{forest_of, name_of}
use Rattle.local_cache.specs.Whole.{SameCaches}
use Rattle.local_cache.proofs.Tables.Sizes.{sizes_by, sizes_then}
use Rattle.tree_merge.specs.declared.released.Released.{Released}
use Rattle.tree_merge.specs.Releasing.{IsRetired}

caches_working : (a : Arena) (n : NodeId) → (as_working a n).caches ≡ tables_with a.caches (name_of a n) None
unfolding put
caches_working a n = refl

pub sizes_retired : (a b : Arena) (n : NodeId) (released : Released) → IsRetired a b n released → SameCaches a b
sizes_retired a b n released r = go (child_count (forest_of a) (name_of a n)) refl
  where
    go : (k : ℕ) → child_count (forest_of a) (name_of a n) ≡ k → SameCaches a b
    go zero e = sizes_by a b (name_of a n) None (r.leaf e).1.caches
    go (suc k) e = sizes_by a b (name_of a n) None (ap (λ (c : Arena). c.caches) (r.parent (omega arith)).1 ∙ caches_working a n)

-- the tables with a fresh node
pub new_tables : (a : Arena) (d : NodeId) (x : NodeName) (s : OwnState) → (with_new a d x s).caches ≡ tables_with a.caches x (Some d)
unfolding with_new
new_tables a d x s = refl

pub sizes_new : (a b c : Arena) (d : NodeId) (x : NodeName) (s : OwnState) → SameCaches a b → c ≡ with_new b d x s → SameCaches a c
sizes_new a b c d x s same is = sizes_then a b c same (sizes_by b c x (Some d) (ap (λ (k : Arena). k.caches) is ∙ new_tables b d x s))
