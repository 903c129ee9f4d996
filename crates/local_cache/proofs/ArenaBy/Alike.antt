-- Page nodes that are alike, on the arena.
use Rattle.std.proofs.Common.{◌≡◌, ℕ, ◌+◌, ◌-◌, ◌^◌, ◌<◌, max, min, map as list_map, Option, Some, None, refl, ap, sym, subst, ◌∙◌, inl, inr, arith}
use Rattle.std.specs.Prelude.{is_some, unwrap_or}
use Rattle.std.proofs.lemmas.Bool.{cases_eq}
use Rattle.vm_ids.specs.declared.node_name.NodeName.{NodeName}
use Rattle.vm_ids.specs.declared.numbers.NodeId.{NodeId}
use Rattle.local_cache.specs.declared.runs.run.PlainState.{PlainState}
use Rattle.local_cache.specs.declared.runs.run.PlainState.TheVariants.{Absent as PlainAbsent, Zero as PlainZero, OnSegment as PlainOnSegment}
use Rattle.local_cache.specs.Arena.{Cell, blank, no_links}
use Rattle.local_cache.specs.Arena as arena
use Rattle.local_cache.specs.ArenaBy.{CacheRows, arena_by}
use Rattle.local_cache.specs.GoingOn.{run_goes_on}
use Rattle.local_cache.specs.Many.{AreAlike, IsPlain}
use Rattle.local_cache.specs.ManyNodes.{next_if, next_node}
use Rattle.local_cache.specs.NodeCells.{cell_at, own_of_plain, run_cell, tree_of}
use Rattle.local_cache.specs.NodeTable.{AreSaidAlike, HasNumber}
use Rattle.local_cache.specs.PageNodes.{PageNodes, name_behind}
use Rattle.local_cache.specs.Runs.{further_if, run_after}
use Rattle.local_cache.proofs.Alike.{node_here}
use Rattle.local_cache.proofs.RunAfter.{further_next_if, run_cell_after}

further_here : (o : Option NodeId) → further_if o 0 ≡ o
further_here None = refl
further_here (Some n) = (let e : max n.0 (min (n.0 + 0) (2 ^ 64 - 1)) ≡ n.0 = omega arith in λ i. Some (record { 0 = e i }))

-- the next node, as far as there are numbers
number_on : (o : Option NodeId) (k : ℕ) → (0 < k → HasNumber o k) → further_if o k ≡ next_if o k
number_on o k short = elim (cases_eq k 0) [
  | inl none ↦ ap (further_if o) none ∙ further_here o ∙ sym (node_here o) ∙ ap (next_if o) (sym none)
  | inr some ↦ further_next_if o k (short (omega (arith, some)))
]

tree_next : (older newer : Option NodeId) (k : ℕ) → tree_of (next_if older k) (next_if newer k) ≡ list_map (λ n. next_node n k) (tree_of older newer)
tree_next None None k = refl
tree_next None (Some n) k = refl
tree_next (Some n) None k = refl
tree_next (Some n) (Some m) k = refl

plain_own : (p : PlainState) → IsPlain (own_of_plain p)
plain_own PlainAbsent = tt
plain_own PlainZero = tt
plain_own PlainOnSegment = tt

module _ (m : PageNodes) (c : CacheRows) (n : NodeId) (count : ℕ) (alike : AreSaidAlike m.cells n.0 count) where
  first_cell : 0 < count → cell_at m.cells n.0 ≡ run_cell alike.run
  first_cell some =
      let here : n.0 + 0 ≡ n.0 = omega arith in
      ap (λ (k : ℕ). cell_at m.cells k) (sym here)
      ∙ ap (λ (o : Option Cell). unwrap_or o blank) (alike.said 0 some)
      ∙ ap run_cell (run_goes_on.starts alike.run)

  cell_on : (k : ℕ) → k < count → cell_at m.cells (n.0 + k) ≡ run_cell (run_after alike.run k)
  cell_on k less = ap (λ (o : Option Cell). unwrap_or o blank) (alike.said k less)

  name_on : (k : ℕ) → k < count → (cell_at m.cells (n.0 + k)).name ≡ name_behind (cell_at m.cells n.0).name k
  name_on k less =
      ap (λ (d : Cell). d.name) (cell_on k less ∙ run_cell_after alike.run k)
      ∙ ap (λ (d : Cell). name_behind d.name k) (sym (first_cell (omega (arith, less))))

  pub alike_by : AreAlike (arena_by m c) n count
  unfolding arena.cell
  alike_by k less =
      let first = first_cell (omega (arith, less)) in
      let on = cell_on k less in
      let parent = number_on alike.run.parent k (λ some. alike.parent k some less) in
      let older = number_on alike.run.older k (λ some. alike.older k some less) in
      let newer = number_on alike.run.newer k (λ some. alike.newer k some less) in
      record {
        held = ap is_some (alike.said k less);
        own = ap (λ (d : Cell). d.own) on ∙ ap (λ (d : Cell). d.own) (sym first);
        plain = subst (λ (d : Cell). IsPlain d.own) (sym first) (plain_own alike.run.own);
        links = ap (λ (d : Cell). d.links) on ∙ (λ i. record no_links { parent = parent i })
            ∙ ap (λ (d : Cell). record no_links { parent = next_if d.links.parent k }) (sym first);
        tree = ap (λ (d : Cell). d.tree) on ∙ (λ i. tree_of (older i) (newer i)) ∙ tree_next alike.run.older alike.run.newer k
            ∙ ap (λ (d : Cell). list_map (λ (child : NodeId). next_node child k) d.tree) (sym first);
        page = λ cache page is. name_on k less ∙ ap (λ (x : NodeName). name_behind x k) is;
        working = λ number is. name_on k less ∙ ap (λ (x : NodeName). name_behind x k) is;
      }
