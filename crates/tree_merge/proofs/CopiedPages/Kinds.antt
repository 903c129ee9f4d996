-- Changes page by page are changes of all pages, one kind after the other.
use Rattle.std.proofs.Common.{◌≡◌, ℕ, zero, suc, ◌<◌, ◌≤◌, List, [], ◌∷◌, refl, sym, ap, ◌∙◌, arith}
use Rattle.vm_ids.specs.declared.numbers.NodeId.{NodeId}
use Rattle.local_cache.specs.Arena.{Arena, Cell, with_working}
use Rattle.local_cache.specs.ManyNodes.{each, next_node}
use Rattle.local_cache.specs.OnCells.{on_cell}
use Rattle.history_tree.proofs.OnCells.{on_swap}
use Rattle.tree_merge.proofs.CopiedPages.Changes.{change_working}
use Rattle.tree_merge.proofs.CopiedPages.Rows.{Pass}

-- what is done for each page
abbrev pub Kind : Type 0
Kind = ℕ → Arena → Arena

-- all kinds, for one page
abbrev pub page_by : List Kind → Kind
page_by [] i x = x
page_by (f ∷ fs) i x = page_by fs i (f i x)

-- all kinds, each for so many pages
abbrev pub kind_by : List Kind → ℕ → Arena → Arena
kind_by [] count x = x
kind_by (f ∷ fs) count x = kind_by fs count (each f count x)

-- f may be done before g was done for an earlier page
abbrev pub Passes : Kind → Kind → ℕ → Type 0
Passes f g count = (x : Arena) (i j : ℕ) → i < j → j < count → f j (g i x) ≡ g i (f j x)

abbrev pub PassesEach : Kind → List Kind → ℕ → Type 0
PassesEach f [] count = Unit {0}
PassesEach f (g ∷ gs) count = Passes f g count × PassesEach f gs count

-- and so it is with each kind and those behind it
abbrev pub AllPass : List Kind → ℕ → Type 0
AllPass [] count = Unit {0}
AllPass (f ∷ fs) count = PassesEach f fs count × AllPass fs count

passes_page : (f : Kind) (fs : List Kind) (count : ℕ) → PassesEach f fs count → Passes f (page_by fs) count
passes_page f [] count all x i j less below = refl
passes_page f (g ∷ gs) count all x i j less below =
    passes_page f gs count all.1 (g i x) i j less below ∙ ap (page_by gs i) (all.0 x i j less below)

slide : (f g : Kind) (count : ℕ) → Passes f g count → (x : Arena) (k j : ℕ) → k ≤ j → j < count → f j (each g k x) ≡ each g k (f j x)
slide f g count p x zero j le below = refl
slide f g count p x (suc k) j le below =
    p (each g k x) k j (omega arith) below ∙ ap (g k) (slide f g count p x k j (omega arith) below)

-- so one kind may be done for all pages before another one
parted : (f g : Kind) (count : ℕ) → Passes f g count → (x : Arena) (k : ℕ) → k ≤ count → each (λ (i : ℕ) (y : Arena). g i (f i y)) k x ≡ each g k (each f k x)
parted f g count p x zero le = refl
parted f g count p x (suc k) le =
    ap (λ (y : Arena). g k (f k y)) (parted f g count p x k (omega arith))
    ∙ ap (g k) (slide f g count p (each f k x) k k (omega arith) (omega arith))

none_done : (x : Arena) (k : ℕ) → each (page_by []) k x ≡ x
none_done x zero = refl
none_done x (suc k) = none_done x k

by_kinds : (fs : List Kind) (count : ℕ) → AllPass fs count → (x : Arena) (k : ℕ) → k ≤ count → each (page_by fs) k x ≡ kind_by fs k x
by_kinds [] count all x k le = none_done x k
by_kinds (f ∷ fs) count all x k le =
    parted f (page_by fs) count (passes_page f fs count all.0) x k le ∙ by_kinds fs count all.1 (each f k x) k le

-- so all kinds may be
pub each_kind : (fs : List Kind) (count : ℕ) → AllPass fs count → (x : Arena) → each (page_by fs) count x ≡ kind_by fs count x
each_kind fs count all x = by_kinds fs count all x count (omega arith)

-- Cells that are changed, and working nodes that come

abbrev pub on : NodeId → (ℕ → Cell → Cell) → Kind
on n change i x = on_cell x (next_node n i) (change i)

abbrev pub work : NodeId → Kind
work w i x = with_working x (next_node w i)

module _ (n m : NodeId) (count : ℕ) (pass : Pass n m count) where
  pub on_on : (change other : ℕ → Cell → Cell) → Passes (on n change) (on m other) count
  on_on change other x i j less below =
      on_swap x (next_node m i) (next_node n j) (other i) (change j) (λ e. pass j i below (omega arith) (λ same. omega arith) (sym e))

  pub on_work : (change : ℕ → Cell → Cell) → Passes (on n change) (work m) count
  on_work change x i j less below =
      sym (change_working x (next_node n j) (next_node m i) (pass j i below (omega arith) (λ same. omega arith)) (change j))

  pub work_on : (other : ℕ → Cell → Cell) → Passes (work n) (on m other) count
  work_on other x i j less below =
      change_working x (next_node m i) (next_node n j) (λ e. pass j i below (omega arith) (λ same. omega arith) (sym e)) (other i)
