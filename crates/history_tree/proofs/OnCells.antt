-- Cells changed one after the other.
use Rattle.std.proofs.Common.{◌≡◌, ◌≢◌, ℕ, ◌+◌, [], ◌∷◌, Some, sym, ap, subst, ◌∙◌, inl, inr, arith}
use Rattle.vm_ids.specs.declared.numbers.NodeId.{NodeId}
use Rattle.local_cache.specs.Arena.{Arena, Cell, HasNode, cell, hung, put, with_tree, with_working}
use Rattle.local_cache.specs.Many.{HaveNodes}
use Rattle.local_cache.specs.ManyNodes.{next_node}
use Rattle.local_cache.specs.NodeCells.{hanging, over}
use Rattle.local_cache.specs.OnCells.{on_cell, working_over}
use Rattle.local_cache.proofs.Exchanged.{changed_swap}
use Rattle.local_cache.proofs.Nodes.Cells.{cell-put, cell-put_other}
use Rattle.local_cache.proofs.Nodes.OwnStates.{id_cases}
use Rattle.local_cache.proofs.Rehung.{changed_twice}
use Rattle.history_tree.specs.Hanging.{set_one, set_two}

-- a node is the one that is no numbers behind it
pub here : (n : NodeId) → next_node n 0 ≡ n
here n = let e : n.0 + 0 ≡ n.0 = omega arith in λ i. record { 0 = e i }

-- a node that is there is one node that is there
pub one_held : (a : Arena) (n : NodeId) → HasNode a n → HaveNodes a n 1
one_held a n h k less =
    let e : n.0 ≡ n.0 + k = omega (arith, less) in
    subst (λ (q : ℕ). HasNode a (record { 0 = q })) e h

-- two changes of one node are one
pub on_twice : (a : Arena) (n : NodeId) (f g : Cell → Cell) → on_cell (on_cell a n f) n g ≡ on_cell a n (λ c. g (f c))
unfolding put cell
on_twice a n f g = let twice = changed_twice a.cells n.0 f g in λ i. record a { cells = twice i }

-- changes of two nodes can be done in either order
pub on_swap : (a : Arena) (n m : NodeId) (f g : Cell → Cell) → n ≢ m → on_cell (on_cell a n f) m g ≡ on_cell (on_cell a m g) n f
unfolding put cell
on_swap a n m f g apart =
    let swap = changed_swap a.cells n.0 m.0 f g (λ e. apart (λ i. record { 0 = e i })) in
    λ i. record a { cells = swap i }

-- what a change of one node leaves in each column
pub on_keeps : {A : Type 0} (col : Cell → A) (a : Arena) (n : NodeId) (f : Cell → Cell) (m : NodeId) → ((c : Cell) → col (f c) ≡ col c) → col (cell (on_cell a n f) m) ≡ col (cell a m)
on_keeps col a n f m same = elim (id_cases m n) [
  | inl e ↦ ap (λ k. col (cell (on_cell a n f) k)) e ∙ ap col (cell-put a n (f (cell a n))) ∙ same (cell a n) ∙ ap (λ k. col (cell a k)) (sym e)
  | inr ne ↦ ap col (cell-put_other a n m (f (cell a n)) ne)
]

-- A node that is made over its tree children and on its parent is one that is made, becomes the
-- tree child of this, and is put over those.

one_made : (a : Arena) (w s h d : NodeId) → working_over a w s h d 1 ≡ on_cell (on_cell (with_working a w) w (over (h ∷ d ∷ []))) w (hanging (Some s))
one_made a w s h d = λ i. hung (with_tree (with_working a (here w i)) (here w i) (here h i ∷ here d i ∷ [])) (here w i) (Some (here s i))

pub put_between_is : (a : Arena) (w s h d : NodeId) → w ≢ s
    → hung (hung (with_tree (working_over a w s h d 1) s (w ∷ [])) d (Some w)) h (Some w) ≡ set_two (set_one (with_working a w) s w) w h d
put_between_is a w s h d apart =
    let b = with_working a w in
    let two : Cell → Cell = over (h ∷ d ∷ []) in
    let up : Cell → Cell = hanging (Some s) in
    let one : Cell → Cell = over (w ∷ []) in
    let same : on_cell (working_over a w s h d 1) s one ≡ on_cell (on_cell (on_cell b s one) w up) w two =
    ap (λ x. on_cell x s one) (one_made a w s h d)
    ∙ on_swap (on_cell b w two) w s up one apart
    ∙ ap (λ x. on_cell x w up) (on_swap b w s two one apart)
    ∙ on_twice (on_cell b s one) w two up
    ∙ sym (on_twice (on_cell b s one) w up two) in
    ap (λ x. hung (hung x d (Some w)) h (Some w)) same
