-- How many nodes have an own state of some kind after one of them went.
use Rattle.std.proofs.Common.{◌≡◌, ◌≢◌, ◌+◌, Bool, true, List, [], ◌∷◌, length, map, None, is_some, refl, sym, ap, ◌∙◌, arith, inl, inr}
use Rattle.std.specs.List.{count_by}
use Rattle.std.specs.Cmp.{nat_cmp_total}
use Rattle.std.specs.FinMap.{entries, entries-insert, get-entries, values}
use Rattle.vm_ids.specs.declared.numbers.NodeId.{NodeId}
use Rattle.vm_ids.proofs.Places.{bit, count_cons}
use Rattle.local_cache.specs.declared.own_state.OwnState.{OwnState}
use Rattle.local_cache.specs.Arena.{Arena, Cell, cell, find, put}
use Rattle.local_cache.specs.Own.{own_of, own_states}
use Rattle.local_cache.proofs.Nodes.Cells.{cell-put, cell-put_other, find-put, find-put_other}
use Rattle.local_cache.proofs.Nodes.OwnStates.{fresh, id_cases}
use Rattle.local_cache.proofs.Nodes.Values.{same_own_states}
use Rattle.tree_merge.specs.Releasing.{Went}

map_count : (p : OwnState → Bool) (cs : List Cell) → count_by p (map (λ c. c.own) cs) ≡ count_by (λ c. p c.own) cs
map_count p [] = refl
map_count p (c ∷ cs) = count_cons p c.own (map (λ c. c.own) cs) ∙ ap (λ k. bit (p c.own) + k) (map_count p cs) ∙ sym (count_cons (λ c. p c.own) c cs)

-- one more node, at a number that was free
pub put_count : (p : OwnState → Bool) (b : Arena) (n : NodeId) (c : Cell) → find b n ≡ None → count_by p (own_states (put b n c)) ≡ bit (p c.own) + count_by p (own_states b)
unfolding put
put_count p b n c none =
    map_count p (values (put b n c).cells) ∙ ap (λ es. count_by (λ c. p c.own) (map (λ e. e.1) es)) (entries-insert nat_cmp_total b.cells n.0 c)
    ∙ fresh (λ c. p c.own) (entries b.cells) n.0 c (sym (get-entries b.cells n.0) ∙ none) ∙ ap (λ k. bit (p c.own) + k) (sym (map_count p (values b.cells)))

-- the nodes of a are those of b, and n
pub went_count : (p : OwnState → Bool) (a b : Arena) (n : NodeId) → Went a b n → ((m : NodeId) → m ≢ n → own_of b m ≡ own_of a m) → count_by p (own_states a) ≡ bit (p (own_of a n)) + count_by p (own_states b)
went_count p a b n went owns = ap (λ xs. count_by p xs) (same_own_states (put b n (cell a n)) a
    (λ m. elim (id_cases m n) [
      | inl e ↦ ap (λ k. is_some (find a k)) e ∙ went.was ∙ sym (ap is_some (find-put b n (cell a n))) ∙ ap (λ k. is_some (find (put b n (cell a n)) k)) (sym e)
      | inr d ↦ sym (went.held m d) ∙ sym (ap is_some (find-put_other b n m (cell a n) d))
    ])
    (λ m. elim (id_cases m n) [
      | inl e ↦ ap (own_of a) e ∙ sym (ap (λ c. c.own) (cell-put b n (cell a n))) ∙ ap (own_of (put b n (cell a n))) (sym e)
      | inr d ↦ sym (owns m d) ∙ sym (ap (λ c. c.own) (cell-put_other b n m (cell a n) d))
    ]))
    ∙ put_count p b n (cell a n) went.gone

pub all_count : (xs : List OwnState) → count_by (λ x. true) xs ≡ length xs
all_count [] = refl
all_count (x ∷ xs) = count_cons (λ x. true) x xs ∙ omega (arith, all_count xs)

pub went_length : (a b : Arena) (n : NodeId) → Went a b n → ((m : NodeId) → m ≢ n → own_of b m ≡ own_of a m) → length (own_states a) ≡ 1 + length (own_states b)
went_length a b n went owns = sym (all_count (own_states a)) ∙ went_count (λ x. true) a b n went owns ∙ ap (λ k. 1 + k) (all_count (own_states b))
