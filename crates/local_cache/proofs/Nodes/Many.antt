-- Nodes that stay there after a change of many nodes.
use Rattle.std.proofs.Common.{ℕ, zero, suc, refl, sym, subst, inl, inr, arith}
use Rattle.std.proofs.lemmas.Bool.{cases_eq}
use Rattle.vm_ids.specs.declared.numbers.NodeId.{NodeId}
use Rattle.local_cache.specs.Arena.{Arena, Cell, HasNode, NodesStay, cell}
use Rattle.local_cache.specs.Many.{HaveNodes, as_working_many, hung_many, over_two_many, with_working_many}
use Rattle.local_cache.specs.ManyNodes.{next_node}
use Rattle.local_cache.specs.NodeCells.{named}
use Rattle.local_cache.specs.OnCells.{exchanged_many, on_cell, on_cells}
use Rattle.local_cache.proofs.Nodes.Cells.{held-working, stays-as_working, stays-put, stays-working}

module _ (a : Arena) (n : NodeId) where
  pub stay_hung : (parent : NodeId) (k : ℕ) → NodesStay a (hung_many a n parent k)
  stay_hung parent zero q h = h
  stay_hung parent (suc k) q h =
      stays-put (hung_many a n parent k) _ (next_node n k) _ refl q (stay_hung parent k q h)

  pub stay_over_two : (older newer : NodeId) (k : ℕ) → NodesStay a (over_two_many a n older newer k)
  stay_over_two older newer zero q h = h
  stay_over_two older newer (suc k) q h =
      stays-put (over_two_many a n older newer k) _ (next_node n k) _ refl q (stay_over_two older newer k q h)

  pub stay_cells : (f : ℕ → Cell → Cell) (k : ℕ) → NodesStay a (on_cells a n f k)
  stay_cells f zero q h = h
  stay_cells f (suc k) q h =
      stays-put (on_cells a n f k) _ (next_node n k) _ refl q (stay_cells f k q h)

  pub stay_exchanged : (o : NodeId) (k : ℕ) → NodesStay a (exchanged_many a n o k)
  stay_exchanged o zero q h = h
  stay_exchanged o (suc k) q h =
      let b = exchanged_many a n o k in
      let x = on_cell b (next_node n k) (named (cell b (next_node o k)).name) in
      let y = on_cell x (next_node o k) (named (cell b (next_node n k)).name) in
      stays-put x y (next_node o k) _ refl q (stays-put b x (next_node n k) _ refl q (stay_exchanged o k q h))

  pub stay_as_working : (k : ℕ) → NodesStay a (as_working_many a n k)
  stay_as_working zero q h = h
  stay_as_working (suc k) q h =
      stays-as_working (as_working_many a n k) _ (next_node n k) refl q (stay_as_working k q h)

  pub stay_working : (k : ℕ) → NodesStay a (with_working_many a n k)
  stay_working zero q h = h
  stay_working (suc k) q h =
      stays-working (with_working_many a n k) _ (next_node n k) refl q (stay_working k q h)

  pub held_working_many : (k : ℕ) → HaveNodes (with_working_many a n k) n k
  held_working_many zero j less = let bad : ⊥ = omega (arith, less) in absurd bad
  held_working_many (suc k) j less = elim (cases_eq j k) [
    | inl same ↦
        subst (λ (i : ℕ). HasNode (with_working_many a n (suc k)) (next_node n i)) (sym same)
        (held-working (with_working_many a n k) _ (next_node n k) refl)
    | inr other ↦
        stays-working (with_working_many a n k) _ (next_node n k) refl (next_node n j)
        (held_working_many k j (omega (arith, less, other)))
  ]
