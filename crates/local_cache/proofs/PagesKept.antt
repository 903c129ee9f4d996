-- Which page has which node, where nodes go or get working names.
use Rattle.std.proofs.Common.{◌≡◌, ◌≢◌, ℕ, zero, suc, ◌+◌, ◌<◌, Option, Some, None, IsSome, refl, sym, ap, subst, ◌∙◌, inl, inr, arith}
use Rattle.std.specs.Prelude.{◌⊎◌, is_some, option_and_then, unwrap_or}
use Rattle.std.proofs.lemmas.Bool.{cases_eq, false≢true}
use Rattle.std.proofs.lemmas.Option.{none-some, same_Some}
use Rattle.std.specs.FinMap as map
use Rattle.mixed_map.specs.Mixed.{without_range}
use Rattle.mixed_map.proofs.Maps.{insert_other, insert_same, range_behind, remove_other, remove_same}
use Rattle.vm_ids.specs.declared.node_name.NodeName.{NodeName}
use Rattle.vm_ids.specs.declared.node_name.NodeName.TheVariants.{Live, Working}
use Rattle.vm_ids.specs.declared.numbers.NodeId.{NodeId}
use Rattle.local_cache.specs.Arena.{Cell, blank}
use Rattle.local_cache.specs.ManyNodes.{each, next_node}
use Rattle.local_cache.specs.NodeCells.{Cells, HasCell, HaveCells, cell_at, changed, changed_each, named}
use Rattle.local_cache.specs.NodeKeys.{key_at, page_key, page_number, page_of_name}
use Rattle.local_cache.specs.PageNodes.{ArePaged, PageNodes, as_working, as_working_many, name_behind, without, without_many, without_names}
use Rattle.local_cache.specs.Pages.{HaveNodes, Pages, pages_with, without_pages}
use Rattle.local_cache.proofs.Each.{each_more}
use Rattle.local_cache.proofs.Stretched.{changed_here, changed_other, each_behind}

-- A page is left

-- the page that a name has, or not
page_cases : (x : NodeName) (q : ℕ) → (page_of_name x ≡ Some q) ⊎ (page_of_name x ≡ Some q → ⊥)
page_cases (Live cache page) q = elim (cases_eq (page_number cache.0 page.0) q) [
  | inl same ↦ inl (ap Some same)
  | inr other ↦ inr (λ e. other (same_Some _ _ e))
]
page_cases (Working k) q = inr (λ e. none-some q e)

pub page_gone : (pages : Pages) (x : NodeName) (q : ℕ) → page_of_name x ≡ Some q → map.get (pages_with pages x None) q ≡ None
page_gone pages (Live cache page) q is =
    let at : page_number cache.0 page.0 ≡ q = same_Some _ _ is in
    remove_same pages (page_number cache.0 page.0 + 0) q (omega (arith, at))
page_gone pages (Working k) q is = absurd (none-some q is)

pub page_stays : (pages : Pages) (x : NodeName) (q : ℕ) → (page_of_name x ≡ Some q → ⊥) → map.get (pages_with pages x None) q ≡ map.get pages q
page_stays pages (Live cache page) q other =
    remove_other pages (page_number cache.0 page.0 + 0) q (λ e. other (ap Some (let at : page_number cache.0 page.0 ≡ q = omega (arith, e) in at)))
page_stays pages (Working k) q other = refl

pub key_there : (o : Option Cell) → IsSome o → option_and_then page_key o ≡ page_of_name (unwrap_or o blank).name
key_there None some = absurd (false≢true some)
key_there (Some c) some = refl

abbrev number_if : Option NodeId → ℕ
number_if None = 0
number_if (Some m) = m.0

pub same_node : (a b : ℕ) → ◌≡◌ {A = Option NodeId} (Some (record { 0 = a })) (Some (record { 0 = b })) → a ≡ b
same_node a b e = ap number_if e

-- One node that goes, or gets a name that is no page's: what else has a page key stays
paged_left : (cells new : Cells) (pages : Pages) (n : ℕ) → ArePaged cells pages → HasCell cells n
    → ((q : ℕ) → q ≢ n → map.get new q ≡ map.get cells q) → ((k : ℕ) → key_at page_key new n ≡ Some k → ⊥)
    → ArePaged new (pages_with pages (cell_at cells n).name None)
paged_left cells new pages n paged held others none k q =
    let x = (cell_at cells n).name in
    let mine = key_there (map.get cells n) held in (
      λ h. elim (page_cases x k) [
        | inl is ↦ absurd (none-some _ (sym (page_gone pages x k is) ∙ h))
        | inr other ↦
            let was = (paged k q).0 (sym (page_stays pages x k other) ∙ h) in
            let far : q ≢ n = λ e. other (sym mine ∙ ap (key_at page_key cells) (sym e) ∙ was) in
            ap (option_and_then page_key) (others q far) ∙ was
      ],
      λ h.
          let far : q ≢ n = λ e. none k (ap (key_at page_key new) (sym e) ∙ h) in
          let was : key_at page_key cells q ≡ Some k = sym (ap (option_and_then page_key) (others q far)) ∙ h in
          let found = (paged k q).1 was in
          let other : page_of_name x ≡ Some k → ⊥ = λ e. far (same_node q n (sym found ∙ (paged k n).1 (mine ∙ e))) in
          page_stays pages x k other ∙ found,
    )

pub paged_without : (cells : Cells) (pages : Pages) (n : ℕ) → ArePaged cells pages → HasCell cells n → ArePaged (map.remove cells n) (pages_with pages (cell_at cells n).name None)
paged_without cells pages n paged held =
    paged_left cells (map.remove cells n) pages n paged held (λ q other. remove_other cells n q other)
    (λ k e. none-some k (sym (ap (option_and_then page_key) (remove_same cells n n refl)) ∙ e))

pub paged_working : (cells : Cells) (pages : Pages) (n number : ℕ) → ArePaged cells pages → HasCell cells n → ArePaged (changed cells n (named (Working number))) (pages_with pages (cell_at cells n).name None)
paged_working cells pages n number paged held =
    paged_left cells (changed cells n (named (Working number))) pages n paged held (λ q other. changed_other cells n (named (Working number)) q other)
    (λ k e. none-some k (sym (ap (option_and_then page_key) (changed_here cells n (named (Working number)) n refl)) ∙ e))

-- Many nodes that go

module _ (m : PageNodes) (n : NodeId) where
  -- one after the other they are what is seen of the maps
  pub without_many_is : (count : ℕ) → without_many m n count ≡ record m {
    cells = without_range m.cells n.0 count;
    pages = without_names m.pages m.cells n.0 count;
    room = m.room + count;
  }
  without_many_is zero = (let e : m.room ≡ m.room + 0 = omega arith in λ i. record m { room = e i })
  without_many_is (suc k) =
      let e : m.room + k + 1 ≡ m.room + suc k = omega arith in
      let left = range_behind m.cells n.0 k (n.0 + k) (omega arith) in
      ap (λ (p : PageNodes). without p (next_node n k)) (without_many_is k)
      ∙ (λ i. record m {
        cells = without_range m.cells n.0 (suc k);
        pages = pages_with (without_names m.pages m.cells n.0 k) (unwrap_or (left i) blank).name None;
        room = e i;
      })

  pub paged_many : (count : ℕ) → ArePaged m.cells m.pages → HaveCells m.cells n.0 count → ArePaged (without_range m.cells n.0 count) (without_names m.pages m.cells n.0 count)
  paged_many zero paged held = paged
  paged_many (suc k) paged held =
      let left = range_behind m.cells n.0 k (n.0 + k) (omega arith) in
      let there : HasCell (without_range m.cells n.0 k) (n.0 + k) = ap is_some left ∙ held k (omega arith) in
      let P : Option Cell → Type 0 = λ o. ArePaged (without_range m.cells n.0 (suc k)) (pages_with (without_names m.pages m.cells n.0 k) (unwrap_or o blank).name None) in
      subst P left (paged_without (without_range m.cells n.0 k) (without_names m.pages m.cells n.0 k) (n.0 + k) (paged_many k paged (λ j less. held j (omega (arith, less)))) there)

-- Many nodes under the next working names

module _ (m : PageNodes) (n : NodeId) where
  abbrev working_cells : ℕ → Cells
  working_cells count = changed_each m.cells n.0 (λ k. named (Working (m.made + 1 + k))) count

  pub working_many_is : (count : ℕ) → as_working_many m n count ≡ record m {
    cells = working_cells count;
    pages = without_names m.pages m.cells n.0 count;
    made = m.made + count;
  }
  working_many_is zero = (let e : m.made ≡ m.made + 0 = omega arith in λ i. record m { made = e i })
  working_many_is (suc k) =
      let e : m.made + k + 1 ≡ m.made + suc k = omega arith in
      let name : m.made + k + 1 ≡ m.made + 1 + k = omega arith in
      let left = each_behind m.cells n.0 (λ j. named (Working (m.made + 1 + j))) k (n.0 + k) (omega arith) in
      ap (λ (p : PageNodes). as_working p (next_node n k)) (working_many_is k)
      ∙ (λ i. record m {
        cells = changed (working_cells k) (n.0 + k) (named (Working (name i)));
        pages = pages_with (without_names m.pages m.cells n.0 k) (unwrap_or (left i) blank).name None;
        made = e i;
      })

  pub paged_working_many : (count : ℕ) → ArePaged m.cells m.pages → HaveCells m.cells n.0 count → ArePaged (working_cells count) (without_names m.pages m.cells n.0 count)
  paged_working_many zero paged held = paged
  paged_working_many (suc k) paged held =
      let left = each_behind m.cells n.0 (λ j. named (Working (m.made + 1 + j))) k (n.0 + k) (omega arith) in
      let there : HasCell (working_cells k) (n.0 + k) = ap is_some left ∙ held k (omega arith) in
      let P : Option Cell → Type 0 = λ o. ArePaged (working_cells (suc k)) (pages_with (without_names m.pages m.cells n.0 k) (unwrap_or o blank).name None) in
      subst P left (paged_working (working_cells k) (without_names m.pages m.cells n.0 k) (n.0 + k) (m.made + 1 + k) (paged_working_many k paged (λ j less. held j (omega (arith, less)))) there)

-- The pages of a piece

each_below : {A : Type 0} (s t : ℕ → A → A) (count : ℕ) → ((k : ℕ) (a : A) → k < count → s k a ≡ t k a) → (a : A) → each s count a ≡ each t count a
each_below s t zero h a = refl
each_below s t (suc k) h a = h k (each s k a) (omega arith) ∙ ap (t k) (each_below s t k (λ j b less. h j b (omega (arith, less))) a)

-- the pages of a name and the next ones are left one by one
each_page : (pages : Pages) (x : NodeName) (count : ℕ) → each (λ k p. pages_with p (name_behind x k) None) count pages ≡ without_pages pages x count
each_page pages (Working k) zero = refl
each_page pages (Working k) (suc j) = each_page pages (Working k) j
each_page pages (Live cache page) zero = refl
each_page pages (Live cache page) (suc k) =
    let at : page_number cache.0 (page.0 + k) + 0 ≡ page_number cache.0 page.0 + k = omega arith in
    λ i. map.remove (each_page pages (Live cache page) k i) (at i)

-- those of a piece, behind those that were left before
pub names_on : (pages : Pages) (cells : Cells) (first done count : ℕ) (x : NodeName) → ((k : ℕ) → k < count → (cell_at cells (first + done + k)).name ≡ name_behind x k)
    → without_pages (without_names pages cells first done) x count ≡ without_names pages cells first (done + count)
names_on pages cells first done count x named_by =
    sym (each_page (without_names pages cells first done) x count)
    ∙ each_below (λ k p. pages_with p (name_behind x k) None) (λ k p. pages_with p (cell_at cells (first + (done + k))).name None) count
    (λ k p less.
    let far : first + done + k ≡ first + (done + k) = omega arith in
    ap (λ (y : NodeName). pages_with p y None) (sym (named_by k less) ∙ ap (λ (n : ℕ). (cell_at cells n).name) far))
    (without_names pages cells first done)
    ∙ sym (each_more (λ k p. pages_with p (cell_at cells (first + k)).name None) done count pages)

-- a page of a node behind those that were left is there still
pub names_there : (pages : Pages) (cells : Cells) (first done q : ℕ) → ((i : ℕ) → i < done → page_of_name (cell_at cells (first + i)).name ≡ Some q → ⊥) → map.get (without_names pages cells first done) q ≡ map.get pages q
names_there pages cells first zero q other = refl
names_there pages cells first (suc k) q other =
    page_stays (without_names pages cells first k) (cell_at cells (first + k)).name q (other k (omega arith))
    ∙ names_there pages cells first k q (λ i less. other i (omega (arith, less)))

-- the pages of a piece have nodes still
pub pages_held : (cells : Cells) (pages : Pages) (first done some : ℕ) (x : NodeName) → ArePaged cells pages → HaveCells cells first (done + some)
    → ((k : ℕ) → k < some → (cell_at cells (first + done + k)).name ≡ name_behind x k) → HaveNodes (without_names pages cells first done) x some
pages_held cells pages first done some (Working number) paged held names = tt
pages_held cells pages first done some (Live cache page) paged held names = λ k less.
    (let far : first + (done + k) ≡ first + done + k = omega arith in
    let P : ℕ → Type 0 = λ q. HasCell cells q in
    let there : HasCell cells (first + done + k) = subst P far (held (done + k) (omega (arith, less))) in
    let at : page_number cache.0 (page.0 + k) ≡ page_number cache.0 page.0 + k = omega arith in
    let key : key_at page_key cells (first + done + k) ≡ Some (page_number cache.0 page.0 + k) = key_there (map.get cells (first + done + k)) there ∙ ap page_of_name (names k less) ∙ ap Some at in
    let found = (paged (page_number cache.0 page.0 + k) (first + done + k)).1 key in
    ap is_some (names_there pages cells first done (page_number cache.0 page.0 + k) (λ i under e.
    (let other = (paged (page_number cache.0 page.0 + k) (first + i)).1 (key_there (map.get cells (first + i)) (held i (omega (arith, under))) ∙ e) in
    omega (arith, under, same_node (first + i) (first + done + k) (sym other ∙ found)))) ∙ found))

-- A node that comes for a page that has none
pub paged_come : (cells new : Cells) (pages : Pages) (n page : ℕ) → ArePaged cells pages → map.get pages page ≡ None
    → ((k : ℕ) → key_at page_key cells n ≡ Some k → ⊥) → key_at page_key new n ≡ Some page → ((q : ℕ) → q ≢ n → key_at page_key new q ≡ key_at page_key cells q)
    → ArePaged new (map.insert pages page (record { 0 = n }))
paged_come cells new pages n page paged free none is others k q = elim (cases_eq k page) [
  | inl here ↦ (
    (λ h.
        let same : n ≡ q = same_node n q (sym (insert_same pages page (record { 0 = n }) k here) ∙ h) in
        ap (key_at page_key new) (sym same) ∙ is ∙ ap Some (sym here)),
    (λ h. elim (cases_eq q n) [
      | inl same ↦ insert_same pages page (record { 0 = n }) k here ∙ (λ i. Some (record { 0 = sym same i }))
      | inr other ↦ absurd (none-some _ (sym free ∙ ap (map.get pages) (sym here) ∙ (paged k q).1 (sym (others q other) ∙ h)))
    ]),
  )
  | inr far ↦ (
    (λ h.
        let was = (paged k q).0 (sym (insert_other pages page (record { 0 = n }) k far) ∙ h) in
        let other : q ≢ n = λ e. none k (ap (key_at page_key cells) (sym e) ∙ was) in
        others q other ∙ was),
    (λ h.
        let other : q ≢ n = λ e. far (sym (same_Some _ _ (sym is ∙ ap (key_at page_key new) (sym e) ∙ h))) in
        insert_other pages page (record { 0 = n }) k far ∙ (paged k q).1 (sym (others q other) ∙ h)),
  )
]

-- the page of one node has it
pub page_held : (cells : Cells) (pages : Pages) (n : ℕ) (x : NodeName) → ArePaged cells pages → HasCell cells n → (cell_at cells n).name ≡ x → HaveNodes pages x 1
page_held cells pages n (Working number) paged held is = tt
page_held cells pages n (Live cache page) paged held is = λ k less.
    (let at : page_number cache.0 page.0 ≡ page_number cache.0 page.0 + k = omega (arith, less) in
    let found = (paged (page_number cache.0 page.0) n).1 (key_there (map.get cells n) held ∙ ap page_of_name is) in
    ap (λ (q : ℕ). is_some (map.get pages q)) (sym at) ∙ ap is_some found)
