-- What is done of one page of a move may be done before others are moved.
use Rattle.std.proofs.Common.{◌≡◌, ◌≢◌, ℕ, zero, suc, set, get_or, List, [], ◌∷◌, Option, Some, None, option_map, unwrap_or, refl, sym, ap, ◌∙◌, subst, inl, inr}
use Rattle.std.proofs.lemmas.Bool.{cases_eq}
use Rattle.std.proofs.lemmas.List.{set-set, set_comm}
use Rattle.std.specs.FinMap.{FinMap}
use Rattle.std.specs.FinMap as map
use Rattle.std.specs.Ordering.{nat_cmp}
use Rattle.vm_ids.specs.declared.node_name.NodeName.{NodeName}
use Rattle.vm_ids.specs.declared.node_name.NodeName.TheVariants.{Live, Working}
use Rattle.vm_ids.specs.declared.numbers.NodeId.{NodeId}
use Rattle.local_cache.specs.declared.own_state.OwnState.TheVariants.{Zero}
use Rattle.local_cache.specs.Arena.{Arena, Cell, Table, blank, cache_with, cell, changed_at, new_cell, put, table_with, tables_with, with_name, with_new}
use Rattle.local_cache.specs.ManyNodes.{each, next_node}
use Rattle.local_cache.specs.NodeCells.{named, renewed, with_child}
use Rattle.local_cache.specs.OnCells.{exchanged_many, exchanged_names, on_cell}
use Rattle.local_cache.proofs.Changes.SameNodes.{id_cases}
use Rattle.local_cache.proofs.Exchanged.{insert_swap}
use Rattle.local_cache.proofs.Nodes.Cells.{cell-put, cell-put_other}
use Rattle.local_cache.proofs.Tables.Listing.{read_other}
use Rattle.tree_merge.specs.Copying.{renewed_many}
use Rattle.tree_merge.proofs.CopiedPages.Changes.{cell_by, change_both, changed_twice, differ, find-new, find-new_other, inserted_again, on_swap, pages_pass}
use Rattle.tree_merge.proofs.CopiedPages.Kinds.{AllPass, Kind, Passes, each_kind, kind_by, on, on_on, page_by}
use Rattle.tree_merge.proofs.CopiedPages.Rows.{Pass}

-- In the tables

-- two caches
caches_pass : (ts : List (Option Table)) (a b : ℕ) (f g : Table → Table) → a ≢ b → changed_at (changed_at ts a f) b g ≡ changed_at (changed_at ts b g) a f
caches_pass ts zero zero f g ne = refl
caches_pass ts zero (suc l) f g ne = refl
caches_pass ts (suc k) zero f g ne = refl
caches_pass ts (suc k) (suc l) f g ne =
    let other : k ≢ l = λ e. ne (ap suc e) in
    let of_k : Option Table = option_map f (get_or ts k None) in
    let of_l : Option Table = option_map g (get_or ts l None) in
    ap (λ (t : Option Table). set (set ts k of_k) l (option_map g t)) (read_other ts k l of_k (λ e. other (sym e)))
    ∙ set_comm ts k l of_k of_l other
    ∙ ap (λ (t : Option Table). set (set ts l of_l) k (option_map f t)) (sym (read_other ts l k of_l other))

-- two pages
tables_pass : (ts : List (Option Table)) (x y : NodeName) (o r : Option NodeId) → x ≢ y → tables_with (tables_with ts x o) y r ≡ tables_with (tables_with ts y r) x o
tables_pass ts (Working k) y o r ne = refl
tables_pass ts (Live c p) (Working k) o r ne = refl
tables_pass ts (Live c p) (Live d q) o r ne = elim (cases_eq c.0 d.0) [
  | inl same ↦
      let pages : p.0 ≢ q.0 = λ e. ne (λ i. Live (record { 0 = same i }) (record { 0 = e i })) in
      ap (λ (k : ℕ). cache_with (cache_with ts c.0 p.0 o) k q.0 r) (sym same)
      ∙ pages_pass ts c.0 p.0 q.0 o r pages
      ∙ ap (λ (k : ℕ). cache_with (cache_with ts k q.0 r) c.0 p.0 o) same
  | inr other ↦ caches_pass ts c.0 d.0 (table_with p.0 o) (table_with q.0 r) other
]

-- one page, twice
table_again : (p : ℕ) (o r : Option NodeId) (t : Option Table) → option_map (table_with p r) (option_map (table_with p o) t) ≡ option_map (table_with p r) t
table_again p o r None = refl
table_again p o r (Some t) = ap Some (λ i. record t { pages = set-set t.pages p (record { node = o }) (record { node = r }) i })

tables_again : (ts : List (Option Table)) (x : NodeName) (o r : Option NodeId) → tables_with (tables_with ts x o) x r ≡ tables_with ts x r
tables_again ts (Working k) o r = refl
tables_again ts (Live c p) o r = go c.0
  where
    go : (k : ℕ) → cache_with (cache_with ts k p.0 o) k p.0 r ≡ cache_with ts k p.0 r
    go zero = refl
    go (suc k) = changed_twice ts k (table_with p.0 o) (table_with p.0 r) ∙ ap (set ts k) (table_again p.0 o r (get_or ts k None))

-- In the caches

-- a new node of a page that exchanges its name with that of another page: as if that had taken the
-- name, and a new one came in its place
module _ (b : Arena) (d s : NodeId) (x y : NodeName) (s_d : s ≢ d) (is : (cell b s).name ≡ y) (apart : y ≢ x) where
  abbrev n : Arena
  n = with_new b d x Zero

  cell_d : cell (with_new b d x Zero) d ≡ new_cell x Zero
  unfolding cell
  cell_d = ap (λ o. unwrap_or o blank) (find-new b d x Zero)

  cell_s : cell (with_new b d x Zero) s ≡ cell b s
  cell_s = cell_by b (with_new b d x Zero) s (find-new_other b d s x Zero s_d)

  name_d : (cell (with_new b d x Zero) d).name ≡ x
  name_d = ap (λ (c : Cell). c.name) cell_d

  name_s : (cell (with_new b d x Zero) s).name ≡ y
  name_s = ap (λ (c : Cell). c.name) cell_s ∙ is

  cells_is : (on_cell (on_cell (with_new b d x Zero) d (named y)) s (named x)).cells ≡ (with_new (with_name b s x) d y Zero).cells
  unfolding put with_new
  cells_is =
      ap (λ (c : Cell). map.insert (map.insert (map.insert b.cells d.0 (new_cell x Zero)) d.0 (named y (cell (with_new b d x Zero) d))) s.0 (named x c))
      (cell-put_other (with_new b d x Zero) d s (named y (cell (with_new b d x Zero) d)) s_d ∙ cell_s)
      ∙ ap (λ (c : Cell). map.insert (map.insert (map.insert b.cells d.0 (new_cell x Zero)) d.0 (named y c)) s.0 (named x (cell b s))) cell_d
      ∙ ap (λ (m : FinMap nat_cmp Cell). map.insert m s.0 (named x (cell b s))) (inserted_again b.cells d.0 (new_cell x Zero) (new_cell y Zero))
      ∙ insert_swap b.cells d.0 s.0 (new_cell y Zero) (named x (cell b s)) (differ d s (λ e. s_d (sym e)))

  caches_is : tables_with (tables_with (tables_with b.caches x (Some d)) x (Some s)) y (Some d) ≡ tables_with (tables_with (tables_with b.caches (cell b s).name None) x (Some s)) y (Some d)
  caches_is =
      ap (λ ts. tables_with ts y (Some d)) (tables_again b.caches x (Some d) (Some s))
      ∙ sym (tables_again (tables_with b.caches x (Some s)) y None (Some d))
      ∙ ap (λ ts. tables_with ts y (Some d)) (sym (tables_pass b.caches y x None (Some s) apart))
      ∙ ap (λ z. tables_with (tables_with (tables_with b.caches z None) x (Some s)) y (Some d)) (sym is)

  -- both names are known
  named_now : exchanged_names (with_new b d x Zero) d s
      ≡ record (on_cell (on_cell (with_new b d x Zero) d (named y)) s (named x)) { caches = tables_with (tables_with (with_new b d x Zero).caches x (Some s)) y (Some d) }
  named_now = λ i.
      record (on_cell (on_cell (with_new b d x Zero) d (named (name_s i))) s (named (name_d i))) {
        caches = tables_with (tables_with (with_new b d x Zero).caches (name_d i) (Some s)) (name_s i) (Some d);
      }

  whole : ◌≡◌ {A = Arena} (record (on_cell (on_cell (with_new b d x Zero) d (named y)) s (named x)) { caches = tables_with (tables_with (with_new b d x Zero).caches x (Some s)) y (Some d) })
      (with_new (with_name b s x) d y Zero)
  unfolding put with_new
  whole = λ i. record (with_new b d x Zero) { cells = cells_is i; caches = caches_is i }

  pub exchanged_is : exchanged_names (with_new b d x Zero) d s ≡ with_new (with_name b s x) d y Zero
  exchanged_is = named_now ∙ whole

-- what keeps names
module _ (m : NodeId) (f : Cell → Cell) (keeps : (c : Cell) → (f c).name ≡ c.name) where
  pub name_on : (b : Arena) (q : NodeId) → (cell (on_cell b m f) q).name ≡ (cell b q).name
  name_on b q = elim (id_cases q m) [
    | inl e ↦ subst (λ (k : NodeId). (cell (on_cell b m f) k).name ≡ (cell b k).name) (sym e) (ap (λ (c : Cell). c.name) (cell-put b m (f (cell b m))) ∙ keeps (cell b m))
    | inr ne ↦ ap (λ (c : Cell). c.name) (cell-put_other b m q (f (cell b m)) ne)
  ]

-- may be done before names are exchanged
module _ (m : NodeId) (f : Cell → Cell) (keeps : (c : Cell) → (f c).name ≡ c.name) (same : (x : NodeName) (c : Cell) → f (named x c) ≡ named x (f c)) where
  past : (b : Arena) (o : NodeId) (x : NodeName) → on_cell (on_cell b o (named x)) m f ≡ on_cell (on_cell b m f) o (named x)
  past b o x = elim (id_cases m o) [
    | inl e ↦ subst (λ (k : NodeId). on_cell (on_cell b o (named x)) k f ≡ on_cell (on_cell b k f) o (named x)) (sym e) (change_both b o (named x) f (same x))
    | inr ne ↦ on_swap b o m (named x) f (λ e. ne (sym e))
  ]

  caches_on : (b : Arena) → (on_cell b m f).caches ≡ b.caches
  unfolding put
  caches_on b = refl

  in_tables : (b : Arena) (ts : List (Option Table)) → on_cell (record b { caches = ts }) m f ≡ record (on_cell b m f) { caches = ts }
  unfolding put cell
  in_tables b ts = refl

  pub past_exchanged : (b : Arena) (n o : NodeId) → on_cell (exchanged_names b n o) m f ≡ exchanged_names (on_cell b m f) n o
  past_exchanged b n o =
      let x : NodeName = (cell b n).name in
      let y : NodeName = (cell b o).name in
      let ts : List (Option Table) = tables_with (tables_with b.caches x (Some o)) y (Some n) in
      in_tables (on_cell (on_cell b n (named y)) o (named x)) ts
      ∙ ap (λ (z : Arena). record z { caches = ts }) (past (on_cell b n (named y)) o x ∙ ap (λ (z : Arena). on_cell z o (named x)) (past b n y))
      ∙ (λ i.
      record (on_cell (on_cell (on_cell b m f) n (named (sym (name_on m f keeps b o) i))) o (named (sym (name_on m f keeps b n) i))) {
        caches = tables_with (tables_with (sym (caches_on b) i) (sym (name_on m f keeps b n) i) (Some o)) (sym (name_on m f keeps b o) i) (Some n);
      })

-- The kinds of a move

abbrev pub leaving : (p d : NodeId) → Kind
leaving p d = on p (λ i. with_child (next_node d i) None)

abbrev pub renewing : NodeId → Kind
renewing d = on d (λ i. renewed Zero)

abbrev pub exchanging : (d s : NodeId) → Kind
exchanging d s i x = exchanged_names x (next_node d i) (next_node s i)

abbrev pub moving : Option NodeId → (d s : NodeId) → List Kind
moving None d s = renewing d ∷ exchanging d s ∷ []
moving (Some p) d s = leaving p d ∷ renewing d ∷ exchanging d s ∷ []

module _ (d s : NodeId) (count : ℕ) where
  left_past : (p : NodeId) → Passes (leaving p d) (exchanging d s) count
  left_past p x i j less below = past_exchanged (next_node p j) (with_child (next_node d j) None) (λ c. refl) (λ y c. refl) x (next_node d i) (next_node s i)

  renewed_past : Passes (renewing d) (exchanging d s) count
  renewed_past x i j less below = past_exchanged (next_node d j) (renewed Zero) (λ c. refl) (λ y c. refl) x (next_node d i) (next_node s i)

  moving_pass : (parent : Option NodeId) → ((p : NodeId) → parent ≡ Some p → Pass p d count) → AllPass (moving parent d s) count
  moving_pass None pass = ((renewed_past, tt), (tt, tt))
  moving_pass (Some p) pass =
      ((on_on p d count (pass p refl) (λ i. with_child (next_node d i) None) (λ i. renewed Zero), (left_past p, tt)), ((renewed_past, tt), (tt, tt)))

  moved_by : (a : Arena) (parent : Option NodeId) → kind_by (moving parent d s) count a ≡ exchanged_many (renewed_many a parent d Zero count) d s count
  moved_by a None = refl
  moved_by a (Some p) = refl

  pub each_moved : (a : Arena) (parent : Option NodeId) → ((p : NodeId) → parent ≡ Some p → Pass p d count)
      → each (page_by (moving parent d s)) count a ≡ exchanged_many (renewed_many a parent d Zero count) d s count
  each_moved a parent pass = each_kind (moving parent d s) count (moving_pass parent pass) a ∙ moved_by a parent
