-- Nodes that get other names, and nodes that give way, on the arena.
use Rattle.std.proofs.Common.{◌≡◌, ◌≢◌, ℕ, zero, suc, ◌+◌, ◌-◌, ◌<◌, ◌≤◌, ◌^◌, true, Option, Some, None, refl, ap, sym, subst, ◌∙◌, inl, inr, arith}
use Rattle.std.specs.Prelude.{IfSome, MatchOption, is_some, unwrap_or}
use Rattle.std.proofs.lemmas.Bool.{cases_eq, false≢true}
use Rattle.std.specs.FinMap as ids
use Rattle.vm_ids.specs.declared.node_name.NodeName.{NodeName}
use Rattle.vm_ids.specs.declared.node_name.NodeName.TheVariants.{Live, Working}
use Rattle.vm_ids.specs.declared.numbers.CacheId.{CacheId}
use Rattle.vm_ids.specs.declared.numbers.NodeId.{NodeId}
use Rattle.vm_ids.specs.declared.numbers.PageNo.{PageNo}
use Rattle.local_cache.specs.declared.own_state.OwnState.{OwnState}
use Rattle.local_cache.specs.Arena.{Arena, Cell, NodesStay, blank}
use Rattle.local_cache.specs.Arena as arena
use Rattle.local_cache.specs.ArenaBy.{CacheRows, arena_by}
use Rattle.local_cache.specs.Many.{AreNamed}
use Rattle.local_cache.specs.ManyNodes.{next_node}
use Rattle.local_cache.specs.NodeCells.{Cells, HasCell, changed, inheriting, is_page, named, renewed, with_child}
use Rattle.local_cache.specs.NodeKeys.{page_number, page_of_name}
use Rattle.local_cache.specs.OnCells as on
use Rattle.local_cache.specs.PageNodes.{AreApart, AreNamedFrom, ArePaged, HasNode, HaveNodes, PageNodes, as_working, cell, exchanged_many, exchanged_names, find, given_way, with_new}
use Rattle.local_cache.specs.PageNodes as nodes
use Rattle.local_cache.specs.Pages.{Pages, with_pages}
use Rattle.local_cache.specs.Placed.{ArePlaced, AreRight, HasRow, IsNameOfPage}
use Rattle.local_cache.proofs.ArenaBy.Calls.{StandFor, freed, leaf_changed, one_more}
use Rattle.local_cache.proofs.ArenaBy.Nodes.{cut_by, exchanged_by, on_cell_by, page_come, replaced_by}
use Rattle.local_cache.proofs.ArenaBy.Placed.{kept_as_working, kept_names, kept_new, named_short, placed_name}
use Rattle.local_cache.proofs.ArenaBy.Rows.{page_short}
use Rattle.local_cache.proofs.ArenaBy.Seen.{Seen, node_call}
use Rattle.local_cache.proofs.Exchanged.{exchanged_is, node_kept, other_kept, paged_both}
use Rattle.local_cache.proofs.Nodes.Cells.{stays-put}
use Rattle.local_cache.proofs.NodesKept.{SameNames, names_changed, there_same}
use Rattle.local_cache.proofs.PagesKept.{key_there, page_gone}
use Rattle.local_cache.proofs.Stretched.{changed_here, changed_other}

-- Two nodes of pages under each other's names

module _ (m : PageNodes) (c : CacheRows) (right : ArePlaced m c.rows) (n o : NodeId) (apart : n.0 ≢ o.0) (held : HasNode m n) (other_held : HasNode m o)
    (c1 c2 : CacheId) (p1 p2 : PageNo) (mine : (cell m n).name ≡ Live c1 p1) (theirs : (cell m o).name ≡ Live c2 p2) where
  abbrev x : NodeName
  x = (cell m n).name

  abbrev y : NodeName
  y = (cell m o).name

  abbrev both : Cells
  both = changed (changed m.cells n.0 (named y)) o.0 (named x)

  pages_same : ids.insert (ids.insert m.pages (page_number c1.0 p1.0) o) (page_number c2.0 p2.0) n ≡ with_pages (with_pages m.pages x o 1) y n 1
  pages_same =
      ap (λ (p : Pages). ids.insert p (page_number c2.0 p2.0) n) (sym (page_come m.pages c1 p1 o))
      ∙ sym (page_come (with_pages m.pages (Live c1 p1) o 1) c2 p2 n)
      ∙ (λ i. with_pages (with_pages m.pages (sym mine i) o 1) (sym theirs i) n 1)

  paged_now : ArePaged both (with_pages (with_pages m.pages x o 1) y n 1)
  paged_now =
      subst (λ (p : Pages). ArePaged both p) pages_same
      (paged_both m.cells m.pages n.0 o.0 (page_number c1.0 p1.0) (page_number c2.0 p2.0) x y right.paged apart
      (key_there (find m n) held ∙ ap page_of_name mine) (key_there (find m o) other_held ∙ ap page_of_name theirs) (ap page_of_name mine) (ap page_of_name theirs))

  name_at : (q : NodeId) (d : Cell) → ids.get both q.0 ≡ Some d → IsNameOfPage c.rows d.name
  name_at q d is = elim (cases_eq q.0 o.0) [
    | inl at ↦
        let name : x ≡ d.name = ap (λ (z : Option Cell). (unwrap_or z blank).name) (sym (changed_here (changed m.cells n.0 (named y)) o.0 (named x) q.0 at) ∙ is) in
        subst (IsNameOfPage c.rows) name (placed_name m c.rows right n held)
    | inr other ↦
        let before = sym (changed_other (changed m.cells n.0 (named y)) o.0 (named x) q.0 other) ∙ is in
        elim (cases_eq q.0 n.0) [
          | inl at ↦
              let name : y ≡ d.name = ap (λ (z : Option Cell). (unwrap_or z blank).name) (sym (changed_here m.cells n.0 (named y) q.0 at) ∙ before) in
              subst (IsNameOfPage c.rows) name (placed_name m c.rows right o other_held)
          | inr far ↦ right.placed q d (sym (changed_other m.cells n.0 (named y) q.0 far) ∙ before)
        ]
  ]

  there_before : (q : ℕ) → HasCell both q → HasCell m.cells q
  there_before q h = elim (cases_eq q o.0) [
    | inl at ↦ ap (λ (k : ℕ). is_some (ids.get m.cells k)) at ∙ other_held
    | inr other ↦ elim (cases_eq q n.0) [
      | inl at ↦ ap (λ (k : ℕ). is_some (ids.get m.cells k)) at ∙ held
      | inr far ↦ sym (ap is_some (changed_other (changed m.cells n.0 (named y)) o.0 (named x) q other ∙ changed_other m.cells n.0 (named y) q far)) ∙ h
    ]
  ]

  pub exchanged : StandFor (exchanged_names m n o) c (on.exchanged_names (arena_by m c) n o)
  exchanged = record {
    is = exchanged_by m c n right.short o (named_short m c.rows right n held) (named_short m c.rows right o other_held);
    right = record {
      paged = paged_now;
      placed = name_at;
      short = right.short;
      first = λ q low h. right.first q low (there_before q h);
    };
  }

-- Many

module _ (m : PageNodes) (c : CacheRows) (right : ArePlaced m c.rows) (n o : NodeId) (count : ℕ) (c1 c2 : CacheId) (p1 p2 : ℕ) (apart : AreApart n o count)
    (here : HaveNodes m n count) (there : HaveNodes m o count)
    (names : (k : ℕ) → k < count → (cell m (next_node n k)).name ≡ Live c1 (record { 0 = p1 + k }))
    (others : (k : ℕ) → k < count → (cell m (next_node o k)).name ≡ Live c2 (record { 0 = p2 + k })) where
  pub many_exchanged : (k : ℕ) → k ≤ count → StandFor (exchanged_many m n o k) c (on.exchanged_many (arena_by m c) n o k)
  many_exchanged zero few = record { is = refl; right = right }
  many_exchanged (suc k) few =
      let less : k < count = omega (arith, few) in
      let now = exchanged_many m n o k in
      let before = many_exchanged k (omega (arith, few)) in
      let is = exchanged_is m n o count c1 c2 p1 p2 apart right.paged here there names others k (omega (arith, few)) in
      let mine : find now (next_node n k) ≡ find m (next_node n k) =
      ap (λ (p : PageNodes). find p (next_node n k)) is ∙ node_kept m n o count c1 c2 p1 p2 apart right.paged here there names others k less in
      let theirs : find now (next_node o k) ≡ find m (next_node o k) =
      ap (λ (p : PageNodes). find p (next_node o k)) is ∙ other_kept m n o count c1 c2 p1 p2 apart right.paged here there names others k less in
      one_more now (exchanged_names now (next_node n k) (next_node o k)) c (on.exchanged_many (arena_by m c) n o k)
      (λ (b : Arena). on.exchanged_names b (next_node n k) (next_node o k)) before
      (exchanged now c before.right (next_node n k) (next_node o k) (apart k k less less) (ap is_some mine ∙ here k less) (ap is_some theirs ∙ there k less)
      c1 c2 (record { 0 = p1 + k }) (record { 0 = p2 + k })
      (ap (λ (z : Option Cell). (unwrap_or z blank).name) mine ∙ names k less) (ap (λ (z : Option Cell). (unwrap_or z blank).name) theirs ∙ others k less))

-- nodes of pages that follow one another are named from the first one on
pub named_in : (m : PageNodes) (c : CacheRows) (a : Arena) → arena_by m c ≡ a → ArePlaced m c.rows → (n : NodeId) (count : ℕ)
    → (cache : CacheId) × (page : PageNo) × AreNamed a n cache page count → AreNamedFrom m n count
unfolding arena.cell
named_in m c a is right n count told =
    let P : Arena → Type 0 = λ b. AreNamed b n told.0 told.1 count in
    let named : AreNamed (arena_by m c) n told.0 told.1 count = subst P (sym is) told.2 in
    elim (cases_eq count 0) [
      | inl none ↦ record {
        cache = told.0;
        page = 0;
        few = omega (arith, none);
        held = λ k less. absurd (omega (arith, none, less));
        named = λ k less. absurd (omega (arith, none, less));
      }
      | inr some ↦
          let last : count - 1 < count = omega (arith, some) in
          let placed : HasRow c.rows told.0.0 (told.1.0 + (count - 1)) =
          subst (IsNameOfPage c.rows) (named (count - 1) last).1 (placed_name m c.rows right (next_node n (count - 1)) (named (count - 1) last).0) in
          let short = page_short m c told.0.0 (told.1.0 + (count - 1)) right.short placed in
          record {
            cache = told.0;
            page = told.1.0;
            few = omega (arith, some, short);
            held = λ k less. (named k less).0;
            named = λ k less. (named k less).1;
          }
    ]

pub all_exchanged : (m : PageNodes) (c : CacheRows) (a : Arena) → arena_by m c ≡ a → AreRight m c → (n o : NodeId) (count : ℕ)
    → (cache : CacheId) × (page : PageNo) × AreNamed a n cache page count → (cache : CacheId) × (page : PageNo) × AreNamed a o cache page count
    → ((i j : ℕ) → i < count → j < count → next_node n i ≢ next_node o j) → (new : PageNodes) → new ≡ exchanged_many m n o count
    → Seen new c (on.exchanged_many a n o count)
all_exchanged m c a is right n o count told other apart new changed =
    let mine = named_in m c a is right.placed n count told in
    let theirs = named_in m c a is right.placed o count other in
    node_call m c a is right new (exchanged_many m n o count) (λ (b : Arena). on.exchanged_many b n o count) changed
    (many_exchanged m c right.placed n o count mine.cache theirs.cache mine.page theirs.page (λ i j less under e. apart i j less under (λ t. record { 0 = e t }))
    mine.held theirs.held mine.named theirs.named count (omega arith))

-- A page gets another node

module _ (m : PageNodes) (c : CacheRows) (right : ArePlaced m c.rows) (n new : NodeId) (s : OwnState) (held : HasNode m n) (none : find m new ≡ None) (later : 2 ^ 61 ≤ new.0)
    (cache : CacheId) (page : PageNo) (is : (cell m n).name ≡ Live cache page) where
  pub replaced : StandFor (with_new (as_working m n) new (cell m n).name s) c (on.replaced (arena_by m c) n new s)
  replaced =
      let far : new.0 ≢ n.0 = λ e. false≢true (sym (ap is_some none) ∙ ap (λ (k : ℕ). is_some (ids.get m.cells k)) e ∙ held) in
      record {
        is = replaced_by m c n new s right.short (named_short m c.rows right n held);
        right = kept_new (as_working m n) c.rows (kept_as_working m c.rows right n held) new (cell m n).name (page_number cache.0 page.0) s
            (changed_other m.cells n.0 (named (Working (m.made + 1))) new.0 far ∙ none) (ap page_of_name is)
            (page_gone m.pages (cell m n).name (page_number cache.0 page.0) (ap page_of_name is)) (placed_name m c.rows right n held)
            (λ low. absurd (omega (arith, low, later)));
      }

-- A node gives way to its child

module _ (m : PageNodes) (c : CacheRows) (right : ArePlaced m c.rows) (n child : NodeId) (held : HasNode m n) (child_held : HasNode m child) (parent_held : IfSome (cell m n).links.parent (HasNode m)) where
  abbrev parent : Option NodeId
  parent = (cell m n).links.parent

  cut_names : (p : Option NodeId) → IfSome p (HasNode m) → SameNames m.cells (nodes.cut_from m p n (Some child)).cells
  cut_names None there = λ q. refl
  cut_names (Some p) there = names_changed m.cells p.0 (with_child n (Some child)) (λ d. refl) there

  only_cells : (p : Option NodeId) → nodes.cut_from m p n (Some child) ≡ record m { cells = (nodes.cut_from m p n (Some child)).cells }
  only_cells None = refl
  only_cells (Some p) = refl

  abbrev cut : PageNodes
  cut = nodes.cut_from m parent n (Some child)

  abbrev took : PageNodes
  took = nodes.on_cell cut child (inheriting (cell m n).own parent)

  right_cut : ArePlaced cut c.rows
  right_cut =
      subst (λ (p : PageNodes). ArePlaced p c.rows) (sym (only_cells parent))
      (kept_names m cut.cells c.rows (cut_names parent parent_held) right)

  child_there : HasNode cut child
  child_there = there_same m.cells cut.cells (cut_names parent parent_held) child.0 ∙ child_held

  right_took : ArePlaced took c.rows
  right_took = kept_names cut took.cells c.rows (names_changed cut.cells child.0 (inheriting (cell m n).own parent) (λ d. refl) child_there) right_cut

  node_there : HasNode took n
  node_there =
      there_same cut.cells took.cells (names_changed cut.cells child.0 (inheriting (cell m n).own parent) (λ d. refl) child_there) n.0
      ∙ there_same m.cells cut.cells (cut_names parent parent_held) n.0 ∙ held

  pub gave_way : StandFor (given_way m n child) c (on.given_way (arena_by m c) n child)
  unfolding arena.cell
  gave_way =
      one_more took (nodes.without took n) c (on.on_cell (on.cut_from (arena_by m c) parent n (Some child)) child (inheriting (cell m n).own parent))
      (λ (b : Arena). arena.without b n)
      (record {
        is = on_cell_by cut c child (inheriting (cell m n).own parent)
            ∙ ap (λ (b : Arena). on.on_cell b child (inheriting (cell m n).own parent)) (cut_by m c n parent (Some child));
        right = right_took;
      })
      (freed took c right_took n node_there)

-- the parent of a node, if it has one
pub parent_in : (m : PageNodes) (c : CacheRows) (n : NodeId) → IfSome (arena.cell (arena_by m c) n).links.parent (arena.HasNode (arena_by m c)) → IfSome (cell m n).links.parent (HasNode m)
unfolding arena.cell
parent_in m c n h = h

pub passes_by : (m : PageNodes) (c : CacheRows) (n child : NodeId) → nodes.passes m n child ≡ on.passes (arena_by m c) n child
unfolding arena.cell
passes_by m c n child = refl

pub page_named : (x : NodeName) → is_page x ≡ true → (cache : CacheId) × (page : PageNo) × (x ≡ Live cache page)
page_named (Live cache page) e = (cache, page, refl)
page_named (Working k) e = absurd (false≢true e)

-- A leaf that is renewed, if it is

module _ (m : PageNodes) (c : CacheRows) (a : Arena) (is : arena_by m c ≡ a) (right : AreRight m c) (n : NodeId) (s : OwnState) (held : HasNode m n)
    (parent_held : IfSome (cell m n).links.parent (HasNode m)) (new : PageNodes) where
  leaf_seen : new ≡ nodes.leaf_renewed m n s → Seen new c (on.leaf_renewed a n s)
  leaf_seen changed =
      node_call m c a is right new (nodes.leaf_renewed m n s) (λ (b : Arena). on.leaf_renewed b n s) changed
      (leaf_changed m c right.placed n s held parent_held)

  pub leaf_right : (was : Option OwnState) → MatchOption was (new ≡ m) (λ _. new ≡ nodes.leaf_renewed m n s) → AreRight new c
  leaf_right None same = (let P : PageNodes → Type 0 = λ x. AreRight x c in subst P (sym same) right)
  leaf_right (Some own) changed = (leaf_seen changed).right

  pub leaf_call : (was : Option OwnState) → MatchOption was (new ≡ m) (λ _. new ≡ nodes.leaf_renewed m n s)
      → MatchOption was (arena_by new c ≡ a) (λ _. arena_by new c ≡ on.leaf_renewed a n s)
  leaf_call None same = ap (λ (x : PageNodes). arena_by x c) same ∙ is
  leaf_call (Some own) changed = (leaf_seen changed).is

-- nodes stay
module _ (a : Arena) (n : NodeId) (s : OwnState) where
  abbrev leaf_now : Arena
  leaf_now = on.on_cell a n (renewed s)

  cut_stays : (p : Option NodeId) → NodesStay a (on.cut_from leaf_now p n None)
  cut_stays None q h = stays-put a leaf_now n _ refl q h
  cut_stays (Some p) q h = stays-put leaf_now (on.on_cell leaf_now p (with_child n None)) p _ refl q (stays-put a leaf_now n _ refl q h)

  pub leaf_stays : (b : Arena) (was : Option OwnState) → MatchOption was (b ≡ a) (λ _. b ≡ on.leaf_renewed a n s) → NodesStay a b
  leaf_stays b None same = subst (λ (x : Arena). NodesStay a x) (sym same) (λ q h. h)
  leaf_stays b (Some own) changed = subst (λ (x : Arena). NodesStay a x) (sym changed) (cut_stays (arena.cell a n).links.parent)
