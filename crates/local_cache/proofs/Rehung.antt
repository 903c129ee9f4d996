-- A page node that gets another own state and another parent in one write.
use Rattle.std.proofs.Common.{◌≡◌, ℕ, Option, ap, sym, ◌∙◌}
use Rattle.std.specs.Prelude.{unwrap_or}
use Rattle.std.specs.FinMap as map
use Rattle.vm_ids.specs.declared.numbers.NodeId.{NodeId}
use Rattle.local_cache.specs.declared.own_state.OwnState.{OwnState}
use Rattle.local_cache.specs.Arena.{Arena, Cell, blank, cell, hung, put, with_own}
use Rattle.local_cache.specs.NodeCells.{Cells, changed, hanging, owning}
use Rattle.local_cache.specs.OnCells.{on_cell}
use Rattle.local_cache.proofs.NodeCells.{inserted_by, inserted_here, inserted_other}

-- of two changes of one cell
pub changed_twice : (m : Cells) (n : ℕ) (f g : Cell → Cell) → changed (changed m n f) n g ≡ changed m n (λ d. g (f d))
changed_twice m n f g =
    let there = inserted_here m n (f (unwrap_or (map.get m n) blank)) in
    ap (λ (o : Option Cell). map.insert (changed m n f) n (g (unwrap_or o blank))) there
    ∙ inserted_by m _ n (g (f (unwrap_or (map.get m n) blank)))
    (inserted_here (changed m n f) n (g (f (unwrap_or (map.get m n) blank))))
    (λ q other. inserted_other (changed m n f) n _ q other ∙ inserted_other m n _ q other)
