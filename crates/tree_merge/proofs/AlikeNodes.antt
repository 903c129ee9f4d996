-- Nodes that are alike, and have no children where the first of them has none.
use Rattle.std.proofs.Common.{◌≡◌, ℕ, ◌+◌, ◌<◌, ◌≤◌, ◌^◌, List, [], ◌∷◌, length, map, None, refl, sym, ap, subst, ◌∙◌, arith, inl, inr}
use Rattle.std.proofs.lemmas.List.{length-map}
use Rattle.std.specs.Prelude.{slice_get}
use Rattle.vm_ids.specs.declared.node_name.NodeName.TheVariants.{Live}
use Rattle.vm_ids.specs.declared.numbers.CacheId.{CacheId}
use Rattle.vm_ids.specs.declared.numbers.NodeId.{NodeId}
use Rattle.vm_ids.specs.declared.numbers.PageNo.{PageNo}
use Rattle.local_cache.specs.Arena.{Arena, cell}
use Rattle.local_cache.specs.Many.{AreAlike, AreNamed, CanBeAlike, IsPlain}
use Rattle.local_cache.specs.ManyNodes.{next_node}
use Rattle.local_cache.specs.Own.{own_of}
use Rattle.local_cache.specs.Reading.{name_of}
use Rattle.tree_merge.specs.Copyable.{AreLeaves}
use Rattle.tree_merge.specs.Copying.{AreEmpty, IsEmpty, IsLeafOf}
use Rattle.tree_merge.specs.Sharing.{AreShared, HasTreeChild}

pub no_children : (ms : List NodeId) → slice_get ms 0 ≡ None → ms ≡ []
no_children [] e = refl
no_children (m ∷ ms) e = absurd (cc e)

-- many such nodes can be said at once
pub can_be_alike : (a : Arena) (n : NodeId) → IsLeafOf (cell a n).links.parent (cell a n) → IsEmpty (own_of a n) → CanBeAlike (cell a n)
can_be_alike a n leaf (inl e) = record { own = subst IsPlain (sym e) tt; links = leaf.links }
can_be_alike a n leaf (inr e) = record { own = subst IsPlain (sym e) tt; links = leaf.links }

pub fewer : (a : Arena) (n : NodeId) (most count : ℕ) → count ≤ most → AreAlike a n most → AreAlike a n count
fewer a n most count few alike k less = alike k (omega arith)

pub fewer_leaves : (a : Arena) (n : NodeId) (most count : ℕ) → count ≤ most → AreLeaves a n most → AreLeaves a n count
fewer_leaves a n most count few all = record {
  alike = fewer a n most count few all.alike;
  leaves = λ k less. all.leaves k (omega arith);
  empty = λ k less. all.empty k (omega arith);
  short = omega (arith, all.short);
}

module _ (a : Arena) (n : NodeId) (count : ℕ) (alike : AreAlike a n count) where
  pub alike_named : (cache : CacheId) (page : PageNo) → name_of a n ≡ Live cache page → AreNamed a n cache page count
  alike_named cache page e k less = ((alike k less).held, (alike k less).page cache page e)

  alike_empty : IsEmpty (own_of a n) → AreEmpty a n count
  alike_empty (inl e) k less = inl ((alike k less).own ∙ e)
  alike_empty (inr e) k less = inr ((alike k less).own ∙ e)

  pub alike_trees : (ms : List NodeId) → (cell a n).tree ≡ ms → (k : ℕ) → k < count → (cell a (next_node n k)).tree ≡ map (λ m. next_node m k) ms
  alike_trees ms e k less = (alike k less).tree ∙ ap (map (λ m. next_node m k)) e

  -- nothing hangs on them where nothing hangs on the first one
  pub alike_leaves : (cell a n).tree ≡ [] → IsEmpty (own_of a n) → n.0 + count ≤ 2 ^ 64 → AreLeaves a n count
  alike_leaves leaf empty short = record {
    alike = alike;
    leaves = λ k less. record { links = (alike k less).links; tree = alike_trees [] leaf k less };
    empty = alike_empty empty;
    short = short;
  }

  pub alike_shared : HasTreeChild (cell a n) → IsEmpty (own_of a n) → AreShared a n count
  alike_shared some empty = record {
    alike = alike;
    shared = λ k less. let as_many = length-map (cell a n).tree (λ m. next_node m k) in omega (arith, some, ap length (alike k less).tree, as_many);
    empty = alike_empty empty;
  }
