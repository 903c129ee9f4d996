-- What is found after a change of one node.
use Rattle.std.proofs.Common.{◌≡◌, ◌≢◌, ◌+◌, Bool, true, false, cond, is_some, subst, inl, inr, Some, unwrap_or, refl, sym, ap, ◌∙◌}
use Rattle.std.specs.Ordering.{nat_cmp, eq_by_cmp}
use Rattle.std.specs.Cmp.{nat_cmp_total}
use Rattle.std.specs.FinMap.{get-insert}
use Rattle.std.proofs.lemmas.Bool.{cases_eq}
use Rattle.vm_ids.specs.declared.node_name.NodeName.{NodeName}
use Rattle.vm_ids.specs.declared.node_name.NodeName.TheVariants.{Working}
use Rattle.vm_ids.specs.declared.numbers.NodeId.{NodeId}
use Rattle.local_cache.specs.declared.own_state.OwnState.{OwnState}
use Rattle.local_cache.specs.declared.own_state.OwnState.TheVariants.{Absent}
use Rattle.local_cache.specs.Arena.{Arena, Cell, HasNode, as_working, blank, cell, find, new_cell, put, with_name, with_new, with_working}
use Rattle.local_cache.proofs.Nodes.Numbers.{tied, apart}

pub find-put : (a : Arena) (n : NodeId) (c : Cell) → find (put a n c) n ≡ Some c
unfolding put
find-put a n c = get-insert nat_cmp_total a.cells n.0 c n.0 ∙ rw (tied n.0 n.0 refl)

pub find-put_other : (a : Arena) (n m : NodeId) (c : Cell) → m ≢ n → find (put a n c) m ≡ find a m
unfolding put
find-put_other a n m c h = get-insert nat_cmp_total a.cells n.0 c m.0 ∙ rw (apart m.0 n.0 (λ e. h (λ i. record { 0 = e i })))

pub cell-put : (a : Arena) (n : NodeId) (c : Cell) → cell (put a n c) n ≡ c
unfolding cell
cell-put a n c = ap (λ o. unwrap_or o blank) (find-put a n c)

pub cell-put_other : (a : Arena) (n m : NodeId) (c : Cell) → m ≢ n → cell (put a n c) m ≡ cell a m
unfolding cell
cell-put_other a n m c h = ap (λ o. unwrap_or o blank) (find-put_other a n m c h)

-- a held node stays held
pub stays-put : (a b : Arena) (n : NodeId) (c : Cell) → b ≡ put a n c → (m : NodeId) → HasNode a m → HasNode b m
stays-put a b n c e m h = subst (λ x. HasNode x m) (sym e) (elim (cases_eq m.0 n.0) [
  | inl same ↦ ap is_some (ap (λ k. find (put a n c) k) (number m n same) ∙ find-put a n c)
  | inr ne ↦ ap is_some (find-put_other a n m c (λ q. ne (ap (λ k. k.0) q))) ∙ h
])
  where
    number : (m n : NodeId) → m.0 ≡ n.0 → m ≡ n
    number m n e = λ i. record { 0 = e i }

-- a node more
pub find-with_new : (a : Arena) (n m : NodeId) (x : NodeName) (s : OwnState) → find (with_new a n x s) m ≡ cond (eq_by_cmp nat_cmp m.0 n.0) (Some (new_cell x s)) (find a m)
unfolding with_new
find-with_new a n m x s = get-insert nat_cmp_total a.cells n.0 _ m.0

pub stays-new : (a b : Arena) (n : NodeId) (x : NodeName) (s : OwnState) → b ≡ with_new a n x s → (m : NodeId) → HasNode a m → HasNode b m
stays-new a b n x s e m h = subst (λ y. HasNode y m) (sym e) (ap is_some (find-with_new a n m x s) ∙ go (eq_by_cmp nat_cmp m.0 n.0))
  where
    go : (t : Bool) → is_some (cond t (Some (new_cell x s)) (find a m)) ≡ true
    go true = refl
    go false = h

pub held-new : (a b : Arena) (n : NodeId) (x : NodeName) (s : OwnState) → b ≡ with_new a n x s → HasNode b n
held-new a b n x s e = subst (λ y. HasNode y n) (sym e) (ap is_some (find-with_new a n n x s) ∙ rw (tied n.0 n.0 refl))

-- another name
pub stays-named : (a b : Arena) (n : NodeId) (x : NodeName) → b ≡ with_name a n x → (m : NodeId) → HasNode a m → HasNode b m
stays-named a b n x e m h = subst (λ y. HasNode y m) (sym e) (stays-put a (put a n (record (cell a n) { name = x })) n (record (cell a n) { name = x }) refl m h)

-- a working node more
module _ (a b : Arena) (n : NodeId) (e : b ≡ with_working a n) where
  working : Arena
  working = with_new a n (Working (a.made + 1)) Absent

  pub stays-working : (m : NodeId) → HasNode a m → HasNode b m
  unfolding working
  stays-working m h =
      subst (λ y. HasNode y m) (sym e) (stays-new a working n (Working (a.made + 1)) Absent refl m h)

  pub held-working : HasNode b n
  unfolding working
  held-working =
      subst (λ y. HasNode y n) (sym e) (held-new a working n (Working (a.made + 1)) Absent refl)

-- the next working name
pub stays-as_working : (a b : Arena) (n : NodeId) → b ≡ as_working a n → (m : NodeId) → HasNode a m
    → HasNode b m
stays-as_working a b n e m h =
    subst (λ y. HasNode y m) (sym e)
    (stays-named a (with_name a n (Working (a.made + 1))) n (Working (a.made + 1)) refl m h)
