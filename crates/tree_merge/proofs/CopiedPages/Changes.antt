-- Changes of nodes one after the other: those of different numbers may be made in either order.
use Rattle.std.proofs.Common.{◌≡◌, ◌≢◌, ℕ, zero, suc, ◌+◌, Bool, true, false, eqb, cond, set, get_or, List, Option, Some, None, option_map, unwrap_or, refl, sym, ap, ◌∙◌}
use Rattle.std.proofs.lemmas.Bool.{eqb-true, ne_eqb, eq-eqb}
use Rattle.std.proofs.lemmas.List.{set-set, set_comm}
use Rattle.std.specs.Ordering.{nat_cmp}
use Rattle.std.specs.FinMap.{FinMap}
use Rattle.std.specs.FinMap as map
use Rattle.vm_ids.specs.declared.node_name.NodeName.{NodeName}
use Rattle.vm_ids.specs.declared.node_name.NodeName.TheVariants.{Working}
use Rattle.vm_ids.specs.declared.numbers.NodeId.{NodeId}
use Rattle.local_cache.specs.declared.own_state.OwnState.{OwnState}
use Rattle.local_cache.specs.declared.own_state.OwnState.TheVariants.{Absent}
use Rattle.local_cache.specs.OnCells.{on_cell}
use Rattle.local_cache.specs.Arena.{Arena, Cell, Table, blank, cache_with, cell, find, new_cell, put, table_with, tables_with, with_new, with_working, without}
use Rattle.local_cache.proofs.Exchanged.{insert_swap}
use Rattle.local_cache.proofs.Singles.{get_inserted, get_removed, same_maps}
use Rattle.local_cache.proofs.Tables.Listing.{read_set}
use Rattle.local_cache.proofs.Nodes.Cells.{cell-put, cell-put_other}
use Rattle.history_tree.proofs.OnCells.{on_twice}
pub use Rattle.history_tree.proofs.OnCells.{on_swap}

pub differ : (n m : NodeId) → n ≢ m → n.0 ≢ m.0
differ n m ne e = ne (λ i. record { 0 = e i })

-- In a map

not_both : (p q r : ℕ) → p ≢ q → eqb r q ≡ true → eqb r p ≡ true → ⊥
not_both p q r ne at_q at_p = ne (sym (eqb-true r p at_p) ∙ eqb-true r q at_q)

module _ {X : Type 0} where
  by_tests : (t u : Bool) → (t ≡ true → u ≡ true → ⊥) → (x y o : Option X) → cond t x (cond u y o) ≡ cond u y (cond t x o)
  by_tests true true apart x y o = absurd (apart refl refl)
  by_tests true false apart x y o = refl
  by_tests false true apart x y o = refl
  by_tests false false apart x y o = refl

  twice : (t : Bool) (x y o : Option X) → cond t x (cond t y o) ≡ cond t x o
  twice true x y o = refl
  twice false x y o = refl

  pub inserted_again : (m : FinMap nat_cmp X) (p : ℕ) (x y : X) → map.insert (map.insert m p x) p y ≡ map.insert m p y
  inserted_again m p x y = same_maps _ _ (λ r.
      get_inserted (map.insert m p x) p y r ∙ ap (cond (eqb r p) (Some y)) (get_inserted m p x r)
      ∙ twice (eqb r p) (Some y) (Some x) (map.get m r) ∙ sym (get_inserted m p y r))

  -- a number that is changed, and goes
  removed_again : (m : FinMap nat_cmp X) (p : ℕ) (x : X) → map.remove (map.insert m p x) p ≡ map.remove m p
  removed_again m p x = same_maps _ _ (λ r.
      get_removed (map.insert m p x) p r ∙ ap (cond (eqb r p) None) (get_inserted m p x r)
      ∙ twice (eqb r p) None (Some x) (map.get m r) ∙ sym (get_removed m p r))

  -- one that goes, and comes again
  pub inserted_for : (m : FinMap nat_cmp X) (p : ℕ) (x : X) → map.insert (map.remove m p) p x ≡ map.insert m p x
  inserted_for m p x = same_maps _ _ (λ r.
      get_inserted (map.remove m p) p x r ∙ ap (cond (eqb r p) (Some x)) (get_removed m p r)
      ∙ twice (eqb r p) (Some x) None (map.get m r) ∙ sym (get_inserted m p x r))

  pub removes : (m : FinMap nat_cmp X) (p q : ℕ) (x : X) → p ≢ q → map.remove (map.insert m p x) q ≡ map.insert (map.remove m q) p x
  removes m p q x ne = same_maps _ _ (λ r.
      get_removed (map.insert m p x) q r ∙ ap (cond (eqb r q) None) (get_inserted m p x r)
      ∙ by_tests (eqb r q) (eqb r p) (not_both p q r ne) None (Some x) (map.get m r)
      ∙ sym (get_inserted (map.remove m q) p x r ∙ ap (cond (eqb r p) (Some x)) (get_removed m q r)))

-- In the tables

-- two pages of one cache
two_pages : (p q : ℕ) (o r : Option NodeId) → p ≢ q → (t : Table) → table_with q r (table_with p o t) ≡ table_with p o (table_with q r t)
two_pages p q o r ne t = λ i. record t { pages = set_comm t.pages p q (record { node = o }) (record { node = r }) ne i }

two_pages_of : (p q : ℕ) (o r : Option NodeId) → p ≢ q → (t : Option Table) → option_map (table_with q r) (option_map (table_with p o) t) ≡ option_map (table_with p o) (option_map (table_with q r) t)
two_pages_of p q o r ne None = refl
two_pages_of p q o r ne (Some t) = ap Some (two_pages p q o r ne t)

pub changed_twice : (ts : List (Option Table)) (k : ℕ) (f g : Table → Table) → set (set ts k (option_map f (get_or ts k None))) k (option_map g (get_or (set ts k (option_map f (get_or ts k None))) k None)) ≡ set ts k (option_map g (option_map f (get_or ts k None)))
changed_twice ts k f g =
    ap (λ (t : Option Table). set (set ts k (option_map f (get_or ts k None))) k (option_map g t)) (read_set ts k f)
    ∙ set-set ts k (option_map f (get_or ts k None)) (option_map g (option_map f (get_or ts k None)))

pub pages_pass : (ts : List (Option Table)) (cache p q : ℕ) (o r : Option NodeId) → p ≢ q → cache_with (cache_with ts cache p o) cache q r ≡ cache_with (cache_with ts cache q r) cache p o
pages_pass ts zero p q o r ne = refl
pages_pass ts (suc k) p q o r ne =
    changed_twice ts k (table_with p o) (table_with q r)
    ∙ ap (set ts k) (two_pages_of p q o r ne (get_or ts k None))
    ∙ sym (changed_twice ts k (table_with q r) (table_with p o))

-- In the caches

cell_of : (x : Arena) (n : NodeId) → cell x n ≡ unwrap_or (map.get x.cells n.0) blank
unfolding cell
cell_of x n = refl

pub cell_by : (x y : Arena) (n : NodeId) → find y n ≡ find x n → cell y n ≡ cell x n
cell_by x y n e = cell_of y n ∙ ap (λ (o : Option Cell). unwrap_or o blank) e ∙ sym (cell_of x n)

-- what is found beside the number that was changed
pub find-new_other : (x : Arena) (n m : NodeId) (name : NodeName) (s : OwnState) → m ≢ n → find (with_new x n name s) m ≡ find x m
unfolding with_new
find-new_other x n m name s ne = get_inserted x.cells n.0 (new_cell name s) m.0 ∙ ap (λ (t : Bool). cond t (Some (new_cell name s)) (map.get x.cells m.0)) (ne_eqb m.0 n.0 (differ m n ne))

pub find-new : (x : Arena) (n : NodeId) (name : NodeName) (s : OwnState) → find (with_new x n name s) n ≡ Some (new_cell name s)
unfolding with_new
find-new x n name s = get_inserted x.cells n.0 (new_cell name s) n.0 ∙ ap (λ (t : Bool). cond t (Some (new_cell name s)) (map.get x.cells n.0)) (eq-eqb n.0 n.0 refl)

pub find-working_other : (x : Arena) (n m : NodeId) → m ≢ n → find (with_working x n) m ≡ find x m
find-working_other x n m ne = find-new_other x n m (Working (x.made + 1)) Absent ne

pub find-without_other : (x : Arena) (n m : NodeId) → m ≢ n → find (without x n) m ≡ find x m
unfolding without
find-without_other x n m ne = get_removed x.cells n.0 m.0 ∙ ap (λ (t : Bool). cond t None (map.get x.cells m.0)) (ne_eqb m.0 n.0 (differ m n ne))

pub find-without : (x : Arena) (n : NodeId) → find (without x n) n ≡ None
unfolding without
find-without x n = get_removed x.cells n.0 n.0 ∙ ap (λ (t : Bool). cond t None (map.get x.cells n.0)) (eq-eqb n.0 n.0 refl)

-- what two changes of different columns of one cell do in either order is the same
pub change_both : (x : Arena) (n : NodeId) (f g : Cell → Cell) → ((c : Cell) → g (f c) ≡ f (g c)) → on_cell (on_cell x n f) n g ≡ on_cell (on_cell x n g) n f
change_both x n f g same = on_twice x n f g ∙ (λ i. on_cell x n (λ c. same c i)) ∙ sym (on_twice x n g f)

-- a node that goes whatever was changed of it but its name
pub without_put : (x : Arena) (n : NodeId) (c : Cell) → c.name ≡ (cell x n).name → without (put x n c) n ≡ without x n
unfolding put without
without_put x n c same =
    let name : (cell (put x n c) n).name ≡ (cell x n).name = ap (λ (k : Cell). k.name) (cell-put x n c) ∙ same in
    λ i. record x {
      cells = removed_again x.cells n.0 c i;
      caches = tables_with x.caches (name i) None;
      room = record x.room { nodes = x.room.nodes + 1 };
    }

module _ (x : Arena) (p q : NodeId) (ne : p ≢ q) where
  abbrev back : q ≢ p
  back e = ne (sym e)

  -- a changed cell, and a new working node
  put_working : (c : Cell) → with_working (put x p c) q ≡ put (with_working x q) p c
  unfolding put with_new
  put_working c = λ i. record (with_working x q) { cells = insert_swap x.cells p.0 q.0 c (new_cell (Working (x.made + 1)) Absent) (differ p q ne) i }

  pub change_working : (f : Cell → Cell) → with_working (put x p (f (cell x p))) q ≡ put (with_working x q) p (f (cell (with_working x q) p))
  change_working f =
      put_working (f (cell x p))
      ∙ ap (λ (c : Cell). put (with_working x q) p (f c)) (sym (cell_by x (with_working x q) p (find-working_other x q p ne)))

  -- a changed cell, and a node that goes
  put_without : (c : Cell) → without (put x p c) q ≡ put (without x q) p c
  unfolding put without
  put_without c = λ i. record (without x q) {
    cells = removes x.cells p.0 q.0 c (differ p q ne) i;
    caches = tables_with x.caches (cell-put_other x p q c back i).name None;
  }

  pub change_without : (f : Cell → Cell) → without (put x p (f (cell x p))) q ≡ put (without x q) p (f (cell (without x q) p))
  change_without f =
      put_without (f (cell x p))
      ∙ ap (λ (c : Cell). put (without x q) p (f c)) (sym (cell_by x (without x q) p (find-without_other x q p ne)))
