-- The way up, on the arena.
use Rattle.std.proofs.Common.{◌≡◌, ℕ, zero, suc, ◌<◌, Option, None, Some, refl, sym, ap, ◌∙◌}
use Rattle.std.specs.Prelude.{option_and_then, option_map}
use Rattle.std.proofs.lemmas.Option.{none-some, same_Some}
use Rattle.vm_ids.specs.declared.numbers.NodeId.{NodeId}
use Rattle.local_cache.specs.Arena as arena
use Rattle.local_cache.specs.ArenaBy.{CacheRows, arena_by}
use Rattle.local_cache.specs.Looking.{IsInRow, IsOwner, up}
use Rattle.local_cache.specs.NodeCells.{cell_at}
use Rattle.local_cache.specs.OnCells.{AreInRow, IsOwnerOf}
use Rattle.local_cache.specs.OnCells as on
use Rattle.local_cache.specs.PageNodes.{PageNodes, name_behind}
use Rattle.vm_ids.specs.declared.node_name.NodeName.{NodeName}

of_number : (o : Option NodeId) (p : ℕ) → option_map (λ (q : NodeId). q.0) o ≡ Some p → o ≡ Some (record { 0 = p })
of_number None p e = absurd (none-some p e)
of_number (Some q) p e = (let same = same_Some q.0 p e in λ i. Some (record { 0 = same i }))

module _ (m : PageNodes) (c : CacheRows) where
  next_by : (o : Option NodeId) (p : Option ℕ) → option_map (λ (q : NodeId). q.0) o ≡ p
      → option_map (λ (q : NodeId). q.0) (option_and_then (λ q. (arena.cell (arena_by m c) q).links.parent) o)
      ≡ option_and_then (λ q. option_map (λ (r : NodeId). r.0) (cell_at m.cells q).links.parent) p
  unfolding arena.cell
  next_by None p e = ap (option_and_then (λ q. option_map (λ (r : NodeId). r.0) (cell_at m.cells q).links.parent)) e
  next_by (Some q) p e = ap (option_and_then (λ q. option_map (λ (r : NodeId). r.0) (cell_at m.cells q).links.parent)) e

  up_by : (k : ℕ) (n : NodeId) → option_map (λ (q : NodeId). q.0) (on.up (arena_by m c) k n) ≡ up m.cells k n.0
  up_by zero n = refl
  up_by (suc k) n = next_by (on.up (arena_by m c) k n) (up m.cells k n.0) (up_by k n)

  pub owner_in : (n owner : NodeId) → IsOwnerOf (arena_by m c) n owner → IsOwner m.cells n.0 owner.0
  unfolding arena.cell
  owner_in n owner o = record {
    steps = o.steps;
    few = o.few;
    reached = sym (up_by o.steps n) ∙ ap (option_map (λ (q : NodeId). q.0)) o.reached;
    owns = o.owns;
    first = λ k p less e. o.first k (record { 0 = p }) less (of_number (on.up (arena_by m c) k n) p (up_by k n ∙ e));
    held = λ k p less e. o.held k (record { 0 = p }) less (of_number (on.up (arena_by m c) k n) p (up_by k n ∙ e));
  }

  pub owner_by : (n owner : NodeId) → IsOwner m.cells n.0 owner.0 → IsOwnerOf (arena_by m c) n owner
  unfolding arena.cell
  owner_by n owner o = record {
    steps = o.steps;
    few = o.few;
    reached = of_number (on.up (arena_by m c) o.steps n) owner.0 (up_by o.steps n ∙ o.reached);
    owns = o.owns;
    first = λ k p less e. o.first k p.0 less (sym (up_by k n) ∙ ap (option_map (λ (q : NodeId). q.0)) e);
    held = λ k p less e. o.held k p.0 less (sym (up_by k n) ∙ ap (option_map (λ (q : NodeId). q.0)) e);
  }

  pub row_by : (n : NodeId) (count : ℕ) → ((k : ℕ) → k < count → IsInRow m.cells n.0 k) → AreInRow (arena_by m c) n count
  unfolding arena.cell
  row_by n count row = record {
    named = λ cache page is k less. ((row k less).held, (row k less).name ∙ ap (λ (x : NodeName). name_behind x k) is);
    children = λ k less. (row k less).child;
    alone = λ k less. (row k less).alone;
  }
