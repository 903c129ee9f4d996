-- A fresh node: its name and its own state, and those of all others.
use Rattle.std.proofs.Common.{◌≡◌, ◌≢◌, cond, Some, None, is_some, unwrap_or, refl, sym, ap, ◌∙◌, subst}
use Rattle.std.proofs.lemmas.Bool.{false≢true}
use Rattle.vm_ids.specs.declared.node_name.NodeName.{NodeName}
use Rattle.vm_ids.specs.declared.numbers.NodeId.{NodeId}
use Rattle.local_cache.specs.declared.own_state.OwnState.{OwnState}
use Rattle.local_cache.specs.Arena.{Arena, HasNode, blank, cell, find, new_cell, with_new}
use Rattle.local_cache.specs.Own.{own_of}
use Rattle.local_cache.specs.Reading.{name_of}
use Rattle.local_cache.proofs.Nodes.Cells.{find-with_new}
use Rattle.local_cache.proofs.Nodes.Numbers.{apart, tied}

module _ (a : Arena) (d : NodeId) (free : find a d ≡ None) (x : NodeName) (s : OwnState) where
  abbrev b : Arena
  b = with_new a d x s

  cell_of : (k : Arena) (m : NodeId) → cell k m ≡ unwrap_or (find k m) blank
  unfolding cell
  cell_of k m = refl

  pub fresh_found : find (with_new a d x s) d ≡ Some (new_cell x s)
  fresh_found = find-with_new a d d x s ∙ ap (λ t. cond t (Some (new_cell x s)) (find a d)) (tied d.0 d.0 refl)

  pub found_other : (m : NodeId) → m ≢ d → find (with_new a d x s) m ≡ find a m
  found_other m ne = find-with_new a d m x s ∙ ap (λ t. cond t (Some (new_cell x s)) (find a m)) (apart m.0 d.0 (λ e. ne (λ i. record { 0 = e i })))

  cell_other : (m : NodeId) → m ≢ d → cell (with_new a d x s) m ≡ cell a m
  cell_other m ne = cell_of b m ∙ ap (λ o. unwrap_or o blank) (found_other m ne) ∙ sym (cell_of a m)

  pub fresh_name : name_of (with_new a d x s) d ≡ x
  fresh_name = ap (λ c. c.name) (cell_of b d ∙ ap (λ o. unwrap_or o blank) fresh_found)

  pub fresh_own : own_of (with_new a d x s) d ≡ s
  fresh_own = ap (λ c. c.own) (cell_of b d ∙ ap (λ o. unwrap_or o blank) fresh_found)

  pub fresh_own_other : (m : NodeId) → m ≢ d → own_of (with_new a d x s) m ≡ own_of a m
  fresh_own_other m ne = ap (λ c. c.own) (cell_other m ne)

  pub fresh_name_other : (m : NodeId) → m ≢ d → name_of (with_new a d x s) m ≡ name_of a m
  fresh_name_other m ne = ap (λ c. c.name) (cell_other m ne)

  -- what is there is another node
  pub other_node : (m : NodeId) → HasNode a m → m ≢ d
  other_node m h e = false≢true (sym (ap is_some free) ∙ subst (HasNode a) e h)
