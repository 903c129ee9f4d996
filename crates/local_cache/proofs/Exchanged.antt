-- Nodes of pages under each other's names.
use Rattle.std.proofs.Common.{◌≡◌, ◌≢◌, ℕ, zero, suc, ◌+◌, ◌<◌, ◌≤◌, Option, Some, IsSome, refl, sym, ap, subst, ◌∙◌, inl, inr, arith}
use Rattle.std.specs.Prelude.{is_some, option_and_then, unwrap_or}
use Rattle.std.proofs.lemmas.Bool.{cases_eq}
use Rattle.std.proofs.lemmas.Option.{none-some, same_Some}
use Rattle.std.specs.Ordering.{nat_cmp}
use Rattle.std.specs.FinMap.{FinMap}
use Rattle.std.specs.FinMap as map
use Rattle.mixed_map.proofs.Maps.{insert_other, insert_same, same}
use Rattle.vm_ids.specs.declared.node_name.NodeName.{NodeName}
use Rattle.vm_ids.specs.declared.node_name.NodeName.TheVariants.{Live, Working}
use Rattle.vm_ids.specs.declared.numbers.CacheId.{CacheId}
use Rattle.vm_ids.specs.declared.numbers.NodeId.{NodeId}
use Rattle.vm_ids.specs.declared.numbers.PageNo.{PageNo}
use Rattle.local_cache.specs.Arena.{Cell, blank}
use Rattle.local_cache.specs.ManyNodes.{each, next_node}
use Rattle.local_cache.specs.NodeCells.{Cells, HasCell, HaveCells, cell_at, changed, changed_each, named}
use Rattle.local_cache.specs.NodeKeys.{key_at, page_key, page_number, page_of_name, working_number}
use Rattle.local_cache.specs.NodeRuns.{AreNumbered}
use Rattle.local_cache.specs.PageNodes.{AreApart, AreNamedFrom, ArePaged, HasNode, PageNodes, exchanged_many, exchanged_names, name_behind, renamed_each}
use Rattle.local_cache.specs.Pages.{HaveNodes as HavePages, Pages, pages_from, with_pages}
use Rattle.local_cache.specs.declared.runs.counters.Counters.{Counters}
use Rattle.local_cache.proofs.NodesKept.{numbered_less}
use Rattle.local_cache.proofs.PagesKept.{key_there, same_node}
use Rattle.local_cache.proofs.Stretched.{changed_here, changed_other, each_behind}

-- What is done at different numbers can be done in either order

module _ {X : Type 0} where
  pub insert_swap : (m : FinMap nat_cmp X) (a b : ℕ) (x y : X) → a ≢ b → map.insert (map.insert m a x) b y ≡ map.insert (map.insert m b y) a x
  insert_swap m a b x y apart = same _ _ (λ q. elim (cases_eq q b) [
    | inl here ↦
        let far : q ≢ a = λ e. apart (sym e ∙ here) in
        insert_same (map.insert m a x) b y q here ∙ sym (insert_other (map.insert m b y) a x q far ∙ insert_same m b y q here)
    | inr other ↦ insert_other (map.insert m a x) b y q other ∙ elim (cases_eq q a) [
      | inl here ↦ insert_same m a x q here ∙ sym (insert_same (map.insert m b y) a x q here)
      | inr far ↦ insert_other m a x q far ∙ sym (insert_other (map.insert m b y) a x q far ∙ insert_other m b y q other)
    ]
  ])

  -- an entry, and entries at other numbers
  pub insert_past : (m : FinMap nat_cmp X) (a : ℕ) (x : X) (first : ℕ) (at : ℕ → X) (k : ℕ) → ((j : ℕ) → j < k → a ≢ first + j)
      → each (λ j p. map.insert p (first + j) (at j)) k (map.insert m a x) ≡ map.insert (each (λ j p. map.insert p (first + j) (at j)) k m) a x
  insert_past m a x first at zero apart = refl
  insert_past m a x first at (suc k) apart =
      ap (λ (p : FinMap nat_cmp X). map.insert p (first + k) (at k)) (insert_past m a x first at k (λ j less. apart j (omega (arith, less))))
      ∙ insert_swap (each (λ j p. map.insert p (first + j) (at j)) k m) a (first + k) x (at k) (apart k (omega arith))

pub changed_swap : (m : Cells) (a b : ℕ) (f g : Cell → Cell) → a ≢ b → changed (changed m a f) b g ≡ changed (changed m b g) a f
changed_swap m a b f g apart =
    let there : map.get (changed m a f) b ≡ map.get m b = changed_other m a f b (λ e. apart (sym e)) in
    let here : map.get (changed m b g) a ≡ map.get m a = changed_other m b g a apart in
    ap (λ (o : Option Cell). map.insert (changed m a f) b (g (unwrap_or o blank))) there
    ∙ insert_swap m a b (f (cell_at m a)) (g (cell_at m b)) apart
    ∙ ap (λ (o : Option Cell). map.insert (changed m b g) a (f (unwrap_or o blank))) (sym here)

pub changed_past : (m : Cells) (a : ℕ) (f : Cell → Cell) (first : ℕ) (g : ℕ → Cell → Cell) (k : ℕ) → ((j : ℕ) → j < k → a ≢ first + j)
    → changed_each (changed m a f) first g k ≡ changed (changed_each m first g k) a f
changed_past m a f first g zero apart = refl
changed_past m a f first g (suc k) apart =
    ap (λ (p : Cells). changed p (first + k) (g k)) (changed_past m a f first g k (λ j less. apart j (omega (arith, less))))
    ∙ changed_swap (changed_each m first g k) a (first + k) f (g k) (apart k (omega arith))

-- Two nodes

module _ (cells : Cells) (pages : Pages) (n o a b : ℕ) (x y : NodeName) (paged : ArePaged cells pages) (apart : n ≢ o)
    (mine : key_at page_key cells n ≡ Some a) (theirs : key_at page_key cells o ≡ Some b) (first : page_of_name x ≡ Some a) (second : page_of_name y ≡ Some b) where
  abbrev both : Cells
  both = changed (changed cells n (named y)) o (named x)

  pages_apart : a ≢ b
  pages_apart e = apart (same_node n o (sym ((paged a n).1 mine) ∙ ap (map.get pages) e ∙ (paged b o).1 theirs))

  key_other : (q : ℕ) → q ≢ o → key_at page_key both q ≡ key_at page_key (changed cells n (named y)) q
  key_other q other = ap (option_and_then page_key) (changed_other (changed cells n (named y)) o (named x) q other)

  key_o : (q : ℕ) → q ≡ o → key_at page_key both q ≡ Some a
  key_o q e = ap (option_and_then page_key) (changed_here (changed cells n (named y)) o (named x) q e) ∙ first

  key_n : (q : ℕ) → q ≡ n → key_at page_key both q ≡ Some b
  key_n q e = key_other q (λ f. apart (sym e ∙ f)) ∙ ap (option_and_then page_key) (changed_here cells n (named y) q e) ∙ second

  key_else : (q : ℕ) → q ≢ n → q ≢ o → key_at page_key both q ≡ key_at page_key cells q
  key_else q far other = key_other q other ∙ ap (option_and_then page_key) (changed_other cells n (named y) q far)

  abbrev exchanged_pages : Pages
  exchanged_pages = map.insert (map.insert pages a (record { 0 = o })) b (record { 0 = n })

  -- which node has this key then
  who_has : (k q : ℕ) → key_at page_key both q ≡ Some k → map.get exchanged_pages k ≡ Some (record { 0 = q })
  who_has k q h = elim (cases_eq q o) [
    | inl at ↦
        let is : k ≡ a = same_Some _ _ (sym h ∙ key_o q at) in
        insert_other (map.insert pages a (record { 0 = o })) b (record { 0 = n }) k (λ e. pages_apart (sym is ∙ e))
        ∙ insert_same pages a (record { 0 = o }) k is ∙ (λ i. Some (record { 0 = sym at i }))
    | inr other ↦ elim (cases_eq q n) [
      | inl at ↦
          let is : k ≡ b = same_Some _ _ (sym h ∙ key_n q at) in
          insert_same (map.insert pages a (record { 0 = o })) b (record { 0 = n }) k is ∙ (λ i. Some (record { 0 = sym at i }))
      | inr far ↦
          let was = sym (key_else q far other) ∙ h in
          let found = (paged k q).1 was in
          let not_a : k ≢ a = λ e. far (same_node q n (sym found ∙ ap (map.get pages) e ∙ (paged a n).1 mine)) in
          let not_b : k ≢ b = λ e. other (same_node q o (sym found ∙ ap (map.get pages) e ∙ (paged b o).1 theirs)) in
          insert_other (map.insert pages a (record { 0 = o })) b (record { 0 = n }) k not_b ∙ insert_other pages a (record { 0 = o }) k not_a ∙ found
    ]
  ]

  has_key : (k q : ℕ) → map.get exchanged_pages k ≡ Some (record { 0 = q }) → key_at page_key both q ≡ Some k
  has_key k q h = elim (cases_eq k b) [
    | inl at ↦ key_n q (same_node q n (sym h ∙ insert_same (map.insert pages a (record { 0 = o })) b (record { 0 = n }) k at)) ∙ ap Some (sym at)
    | inr not_b ↦
        let next = sym (insert_other (map.insert pages a (record { 0 = o })) b (record { 0 = n }) k not_b) ∙ h in
        elim (cases_eq k a) [
          | inl at ↦ key_o q (same_node q o (sym next ∙ insert_same pages a (record { 0 = o }) k at)) ∙ ap Some (sym at)
          | inr not_a ↦
              let was = (paged k q).0 (sym (insert_other pages a (record { 0 = o }) k not_a) ∙ next) in
              let far : q ≢ n = λ e. not_a (same_Some _ _ (sym was ∙ ap (key_at page_key cells) e ∙ mine)) in
              let other : q ≢ o = λ e. not_b (same_Some _ _ (sym was ∙ ap (key_at page_key cells) e ∙ theirs)) in
              key_else q far other ∙ was
        ]
  ]

  pub paged_both : ArePaged both exchanged_pages
  paged_both k q = (has_key k q, who_has k q)

-- Many nodes of pages that follow one another

module _ (m : PageNodes) (n o : NodeId) (count : ℕ) (c1 c2 : CacheId) (p1 p2 : ℕ) (apart : AreApart n o count) (paged : ArePaged m.cells m.pages)
    (here : HaveCells m.cells n.0 count) (there : HaveCells m.cells o.0 count)
    (names : (k : ℕ) → k < count → (cell_at m.cells (n.0 + k)).name ≡ Live c1 (record { 0 = p1 + k }))
    (others : (k : ℕ) → k < count → (cell_at m.cells (o.0 + k)).name ≡ Live c2 (record { 0 = p2 + k })) where
  abbrev first_name : NodeName
  first_name = Live c1 (record { 0 = p1 })

  abbrev other_name : NodeName
  other_name = Live c2 (record { 0 = p2 })

  abbrev pub cells_after : ℕ → Cells
  cells_after k = renamed_each (renamed_each m.cells n.0 other_name k) o.0 first_name k

  abbrev pub pages_after : ℕ → Pages
  pages_after k = with_pages (with_pages m.pages first_name o k) other_name n k

  -- a number that neither has yet is as it was
  cell_kept : (k q : ℕ) → ((j : ℕ) → j < k → q ≢ n.0 + j) → ((j : ℕ) → j < k → q ≢ o.0 + j) → map.get (cells_after k) q ≡ map.get m.cells q
  cell_kept k q far past = none_at (renamed_each m.cells n.0 other_name k) o.0 (λ j. named (name_behind first_name j)) k past ∙ none_at m.cells n.0 (λ j. named (name_behind other_name j)) k far where
    none_at : (x : Cells) (first : ℕ) (f : ℕ → Cell → Cell) (i : ℕ) → ((j : ℕ) → j < i → q ≢ first + j) → map.get (changed_each x first f i) q ≡ map.get x q
    none_at x first f zero h = refl
    none_at x first f (suc i) h = changed_other (changed_each x first f i) (first + i) (f i) q (h i (omega arith)) ∙ none_at x first f i (λ j less. h j (omega (arith, less)))

  pub node_kept : (k : ℕ) → k < count → map.get (cells_after k) (n.0 + k) ≡ map.get m.cells (n.0 + k)
  node_kept k less = cell_kept k (n.0 + k) (λ j under e. omega (arith, under, e)) (λ j under. apart k j less (omega (arith, under, less)))

  pub other_kept : (k : ℕ) → k < count → map.get (cells_after k) (o.0 + k) ≡ map.get m.cells (o.0 + k)
  other_kept k less = cell_kept k (o.0 + k) (λ j under e. apart j k (omega (arith, under, less)) less (sym e)) (λ j under e. omega (arith, under, e))

  key_of : (x : Cells) (q : ℕ) (y : NodeName) → HasCell x q → (cell_at x q).name ≡ y → key_at page_key x q ≡ page_of_name y
  key_of x q y held is = key_there (map.get x q) held ∙ ap page_of_name is

  -- no page is both's
  pages_differ : (i j : ℕ) → i < count → j < count → page_number c1.0 p1 + i ≢ page_number c2.0 p2 + j
  pages_differ i j less under e =
      let mine = key_of m.cells (n.0 + i) (Live c1 (record { 0 = p1 + i })) (here i less) (names i less) in
      let theirs = key_of m.cells (o.0 + j) (Live c2 (record { 0 = p2 + j })) (there j under) (others j under) in
      let at : page_number c1.0 (p1 + i) ≡ page_number c2.0 (p2 + j) = omega (arith, e) in
      apart i j less under (same_node (n.0 + i) (o.0 + j) (sym ((paged (page_number c1.0 (p1 + i)) (n.0 + i)).1 mine) ∙ ap (map.get m.pages) at ∙ (paged (page_number c2.0 (p2 + j)) (o.0 + j)).1 theirs))

  cells_next : (k : ℕ) → k < count → changed (changed (cells_after k) (n.0 + k) (named (name_behind other_name k))) (o.0 + k) (named (name_behind first_name k)) ≡ cells_after (suc k)
  cells_next k less =
      ap (λ (x : Cells). changed x (o.0 + k) (named (name_behind first_name k)))
      (sym (changed_past (renamed_each m.cells n.0 other_name k) (n.0 + k) (named (name_behind other_name k)) o.0 (λ j. named (name_behind first_name j)) k
      (λ j under. apart k j less (omega (arith, under, less)))))

  pages_next : (k : ℕ) → k < count
      → map.insert (map.insert (pages_after k) (page_number c1.0 p1 + k) (next_node o k)) (page_number c2.0 p2 + k) (next_node n k) ≡ pages_after (suc k)
  pages_next k less =
      ap (λ (p : Pages). map.insert p (page_number c2.0 p2 + k) (next_node n k))
      (sym (insert_past (with_pages m.pages first_name o k) (page_number c1.0 p1 + k) (next_node o k) (page_number c2.0 p2) (next_node n) k
      (λ j under. pages_differ k j less (omega (arith, under, less)))))

  pub exchanged_is : (k : ℕ) → k ≤ count → exchanged_many m n o k ≡ record m { cells = cells_after k; pages = pages_after k }
  exchanged_is zero few = refl
  exchanged_is (suc k) few =
      let less : k < count = omega (arith, few) in
      let mine : (cell_at (cells_after k) (n.0 + k)).name ≡ name_behind first_name k = ap (λ (s : Option Cell). (unwrap_or s blank).name) (node_kept k less) ∙ names k less in
      let theirs : (cell_at (cells_after k) (o.0 + k)).name ≡ name_behind other_name k = ap (λ (s : Option Cell). (unwrap_or s blank).name) (other_kept k less) ∙ others k less in
      let a : page_number c1.0 (p1 + k) + 0 ≡ page_number c1.0 p1 + k = omega arith in
      let b : page_number c2.0 (p2 + k) + 0 ≡ page_number c2.0 p2 + k = omega arith in
      let no : n.0 + k + 0 ≡ n.0 + k = omega arith in
      let oo : o.0 + k + 0 ≡ o.0 + k = omega arith in
      ap (λ (p : PageNodes). exchanged_names p (next_node n k) (next_node o k)) (exchanged_is k (omega (arith, few)))
      ∙ (λ i. record m {
        cells = changed (changed (cells_after k) (n.0 + k) (named (theirs i))) (o.0 + k) (named (mine i));
        pages = with_pages (with_pages (pages_after k) (mine i) (next_node o k) 1) (theirs i) (next_node n k) 1;
      })
      ∙ (λ i. record m {
        cells = cells_next k less i;
        pages = map.insert (map.insert (pages_after k) (a i) (record { 0 = oo i })) (b i) (record { 0 = no i });
      })
      ∙ (λ i. record m {
        cells = cells_after (suc k);
        pages = pages_next k less i;
      })

  pub paged_exchanged : (k : ℕ) → k ≤ count → ArePaged (cells_after k) (pages_after k)
  paged_exchanged zero few = paged
  paged_exchanged (suc k) few =
      let less : k < count = omega (arith, few) in
      let mine = ap (option_and_then page_key) (node_kept k less) ∙ key_of m.cells (n.0 + k) (name_behind first_name k) (here k less) (names k less) in
      let theirs = ap (option_and_then page_key) (other_kept k less) ∙ key_of m.cells (o.0 + k) (name_behind other_name k) (there k less) (others k less) in
      let a : page_number c1.0 (p1 + k) ≡ page_number c1.0 p1 + k = omega arith in
      let b : page_number c2.0 (p2 + k) ≡ page_number c2.0 p2 + k = omega arith in
      let step = paged_both (cells_after k) (pages_after k) (n.0 + k) (o.0 + k) (page_number c1.0 p1 + k) (page_number c2.0 p2 + k) (name_behind first_name k) (name_behind other_name k)
      (paged_exchanged k (omega (arith, few))) (apart k k less less) (mine ∙ ap Some a) (theirs ∙ ap Some b) (ap Some a) (ap Some b) in
      let P : Cells → Type 0 = λ x. ArePaged x (pages_after (suc k)) in
      let Q : Pages → Type 0 = λ p. ArePaged (changed (changed (cells_after k) (n.0 + k) (named (name_behind other_name k))) (o.0 + k) (named (name_behind first_name k))) p in
      subst P (cells_next k less) (subst Q (pages_next k less) step)

-- Working numbers stay where nodes get pages' names

pub numbered_renamed_pages : (m : Cells) (c : Counters) (first count : ℕ) (cache : CacheId) (page : PageNo) → AreNumbered m c → HaveCells m first count → AreNumbered (renamed_each m first (Live cache page) count) c
numbered_renamed_pages m c first zero cache page numbered held = numbered
numbered_renamed_pages m c first (suc k) cache page numbered held =
    let x = renamed_each m first (Live cache page) k in
    let there : HasCell x (first + k) = ap is_some (each_behind m first (λ j. named (name_behind (Live cache page) j)) k (first + k) (omega arith)) ∙ held k (omega arith) in
    numbered_less x (changed x (first + k) (named (name_behind (Live cache page) k))) c (numbered_renamed_pages m c first k cache page numbered (λ j less. held j (omega (arith, less))))
    (λ q h. elim (cases_eq q (first + k)) [
      | inl at ↦ ap (λ (i : ℕ). is_some (map.get x i)) at ∙ there
      | inr other ↦ sym (ap is_some (changed_other x (first + k) (named (name_behind (Live cache page) k)) q other)) ∙ h
    ])
    (λ q j h. elim (cases_eq q (first + k)) [
      | inl at ↦ absurd (none-some j (sym (ap (option_and_then working_number) (changed_here x (first + k) (named (name_behind (Live cache page) k)) q at)) ∙ h))
      | inr other ↦ sym (ap (option_and_then working_number) (changed_other x (first + k) (named (name_behind (Live cache page) k)) q other)) ∙ h
    ])

-- Nodes that are named from one on

module _ (m : PageNodes) (n : NodeId) (count : ℕ) (a : AreNamedFrom m n count) where
  abbrev pub from : NodeName
  from = Live a.cache (record { 0 = a.page })

  pub first_held : 0 < count → HasNode m n
  first_held some =
      let at : n.0 + 0 ≡ n.0 = omega arith in
      ap (λ (q : ℕ). is_some (map.get m.cells q)) (sym at) ∙ a.held 0 some

  pub first_named : 0 < count → (cell_at m.cells n.0).name ≡ from
  first_named some =
      let at : n.0 + 0 ≡ n.0 = omega arith in
      let page : a.page + 0 ≡ a.page = omega arith in
      ap (λ (q : ℕ). (cell_at m.cells q).name) (sym at) ∙ a.named 0 some ∙ (λ i. Live a.cache (record { 0 = page i }))

  -- their pages have nodes
  pub from_held : ArePaged m.cells m.pages → HavePages m.pages from count
  from_held paged k less =
      let at : page_number a.cache.0 (a.page + k) ≡ page_number a.cache.0 a.page + k = omega arith in
      let key = key_there (map.get m.cells (n.0 + k)) (a.held k less) ∙ ap page_of_name (a.named k less) ∙ ap Some at in
      ap is_some ((paged (page_number a.cache.0 a.page + k) (n.0 + k)).1 key)

-- what was there is there still
pub still_has : (m : Cells) (first : ℕ) (f : ℕ → Cell → Cell) (count q : ℕ) → HasCell m q → HasCell (changed_each m first f count) q
still_has m first f zero q there = there
still_has m first f (suc k) q there = elim (cases_eq q (first + k)) [
  | inl here ↦ ap is_some (changed_here (changed_each m first f k) (first + k) (f k) q here)
  | inr other ↦ ap is_some (changed_other (changed_each m first f k) (first + k) (f k) q other) ∙ still_has m first f k q there
]

pub still_paged : (pages : Pages) (page : ℕ) (n : NodeId) (count q : ℕ) → IsSome (map.get pages q) → IsSome (map.get (pages_from pages page n count) q)
still_paged pages page n zero q there = there
still_paged pages page n (suc k) q there = elim (cases_eq q (page + k)) [
  | inl here ↦ ap is_some (insert_same (pages_from pages page n k) (page + k) (next_node n k) q here)
  | inr other ↦ ap is_some (insert_other (pages_from pages page n k) (page + k) (next_node n k) q other) ∙ still_paged pages page n k q there
]

pub still_named : (pages : Pages) (x : NodeName) (n : NodeId) (count q : ℕ) → IsSome (map.get pages q) → IsSome (map.get (with_pages pages x n count) q)
still_named pages (Live cache page) n count q there = still_paged pages (page_number cache.0 page.0) n count q there
still_named pages (Working k) n count q there = there
