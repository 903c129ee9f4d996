-- Nodes that come, and working names that are given: they are free before.
use Rattle.std.proofs.Common.{◌≡◌, ◌≢◌, ℕ, zero, suc, ◌+◌, ◌-◌, ◌*◌, ◌^◌, ◌<◌, ◌≤◌, true, false, Some, None, refl, sym, ap, subst, ◌∙◌, inl, inr, arith}
use Rattle.std.specs.Prelude.{◌⊎◌, is_some, option_and_then, option_map}
use Rattle.std.proofs.lemmas.Bool.{cases_Bool, cases_eq, cond-true, cond-false, false≢true}
use Rattle.std.proofs.lemmas.Option.{none-some, same_Some}
use Rattle.std.specs.FinMap as map
use Rattle.stretches.specs.Stretch.{is_in}
use Rattle.stretches.specs.declared.stretch.Stretch.{Stretch}
use Rattle.stretches.proofs.Reading.Numbers.{high, low}
use Rattle.mixed_map.specs.Mixed.{with_stretch, without_range}
use Rattle.mixed_map.proofs.Maps.{insert_other, insert_removed, insert_same, not_some, remove_other, remove_same}
use Rattle.mixed_map.proofs.Telling.{get_with}
use Rattle.vm_ids.specs.declared.node_name.NodeName.{NodeName}
use Rattle.vm_ids.specs.declared.node_name.NodeName.TheVariants.{Live, Working as WorkingNode}
use Rattle.vm_ids.specs.declared.numbers.NodeId.{NodeId}
use Rattle.local_cache.specs.declared.own_state.OwnState.{OwnState}
use Rattle.local_cache.specs.Arena.{Cell, new_cell}
use Rattle.local_cache.specs.NodeCells.{Cells, HasCell, HaveCells, cell_at, changed, changed_each, named, run_cell}
use Rattle.local_cache.specs.NodeKeys.{key_at, number_of_name, page_key, page_number, page_of_name, working_number}
use Rattle.local_cache.specs.NodeRuns.{AreNumbered, IsGiven}
use Rattle.local_cache.specs.NodeTable.{AreFreeNumbers, HasFreeNumber, HaveFreeNumbers}
use Rattle.local_cache.specs.PageNodes.{ArePaged}
use Rattle.local_cache.specs.Pages.{Pages, pages_with, with_pages}
use Rattle.local_cache.specs.Runs.{run, run_after}
use Rattle.local_cache.specs.declared.runs.counters.Counters.{Counters}
use Rattle.local_cache.specs.declared.runs.run.Run.{Run}
use Rattle.local_cache.proofs.NodesKept.{given_on, next_or_old, numbered_less, numbered_renamed}
use Rattle.local_cache.proofs.PagesKept.{page_gone, paged_come, paged_working}
use Rattle.local_cache.proofs.Stretched.{changed_other}
use Rattle.local_cache.proofs.TableRight.Numbers.{is_free, run_working}

-- a name is not both a page's and a working one
no_page : (x : NodeName) (k : ℕ) → number_of_name x ≡ Some k → page_of_name x ≡ None
no_page (Live cache page) k e = absurd (none-some k e)
no_page (WorkingNode j) k e = refl

-- no node has a number of the next working nodes
pub next_vacant : (m : Cells) (c : Counters) (r : Stretch Run) → AreNumbered m c → r.first ≡ 2 ^ 63 + c.working → (n : ℕ) → is_in r n ≡ true → map.get m n ≡ None
next_vacant m c r numbered first n inside =
    not_some (map.get m n) (λ held.
    (let from = low r n inside in
    elim (numbered.given n held) [
      | inl early ↦ absurd (omega (arith, from, first, early))
      | inr later ↦ elim later [
        | inl fresh ↦ absurd (omega (arith, from, first, fresh.1, numbered.fresh, numbered.made))
        | inr working ↦ absurd (omega (arith, from, first, working.1))
      ]
    ]))

-- nor that of the next node that a page gets
pub fresh_vacant : (m : Cells) (c : Counters) (n : ℕ) → AreNumbered m c → c.fresh < 3 * 2 ^ 61 → n ≡ 2 ^ 61 + c.fresh → map.get m n ≡ None
fresh_vacant m c n numbered few is =
    not_some (map.get m n) (λ held.
    elim (numbered.given n held) [
      | inl early ↦ absurd (omega (arith, is, early))
      | inr later ↦ elim later [
        | inl fresh ↦ absurd (omega (arith, is, fresh.1))
        | inr working ↦ absurd (omega (arith, is, few, working.0))
      ]
    ])

left_key : (m : Cells) (n q j : ℕ) → key_at working_number (map.remove m n) q ≡ Some j → key_at working_number m q ≡ Some j
left_key m n q j e = elim (cases_eq q n) [
  | inl here ↦ absurd (none-some j (sym (ap (option_and_then working_number) (remove_same m n q here)) ∙ e))
  | inr other ↦ sym (ap (option_and_then working_number) (remove_other m n q other)) ∙ e
]

pub one_free : (m : Cells) (c : Counters) (n : ℕ) → AreNumbered m c → HasFreeNumber (map.remove m n) (named (WorkingNode (c.made + 1)) (cell_at m n))
one_free m c n numbered q e = omega (arith, numbered.named q (c.made + 1) (left_key m n q (c.made + 1) e))

-- Working nodes that come as a run

module _ (m : Cells) (r : Stretch Run) (number : ℕ) (is : working_number (run_cell r.value) ≡ Some number) (vacant : (n : ℕ) → is_in r n ≡ true → map.get m n ≡ None) where
  abbrev come : Cells
  come = with_stretch run run_cell m r

  come_out : (n : ℕ) → is_in r n ≡ false → map.get come n ≡ map.get m n
  come_out n h = get_with run run_cell m r n ∙ cond-false _ _ _ h

  number_in : (n : ℕ) → is_in r n ≡ true → key_at working_number come n ≡ Some (number + (n - r.first))
  number_in n h =
      ap (option_and_then working_number) (get_with run run_cell m r n ∙ cond-true _ _ _ h)
      ∙ run_working r.value (n - r.first) ∙ ap (option_map (λ (i : ℕ). i + (n - r.first))) is

  page_in : (n : ℕ) → is_in r n ≡ true → key_at page_key come n ≡ None
  page_in n h =
      let at = get_with run run_cell m r n ∙ cond-true _ _ _ h in
      ap (option_and_then page_key) at
      ∙ no_page (run_cell (run_after r.value (n - r.first))).name (number + (n - r.first)) (sym (ap (option_and_then working_number) at) ∙ number_in n h)

  pages_same : (n : ℕ) → key_at page_key come n ≡ key_at page_key m n
  pages_same n = elim (cases_Bool (is_in r n)) [
    | inl inside ↦ page_in n inside ∙ sym (ap (option_and_then page_key) (vacant n inside))
    | inr out ↦ ap (option_and_then page_key) (come_out n out)
  ]

  pub paged_working_come : (pages : Pages) → ArePaged m pages → ArePaged come pages
  paged_working_come pages paged k n = (
    (λ h. pages_same n ∙ (paged k n).0 h),
    (λ h. (paged k n).1 (sym (pages_same n) ∙ h)),
  )

  new_or_old : (n j : ℕ) → key_at working_number come n ≡ Some j → ((is_in r n ≡ true) × (j ≡ number + (n - r.first))) ⊎ (key_at working_number m n ≡ Some j)
  new_or_old n j e = elim (cases_Bool (is_in r n)) [
    | inl inside ↦ inl (inside, sym (same_Some _ _ (sym (number_in n inside) ∙ e)))
    | inr out ↦ inr (sym (ap (option_and_then working_number) (come_out n out)) ∙ e)
  ]

  pub numbered_come : (c d : Counters) → AreNumbered m c → number ≡ c.made + 1 → r.first ≡ 2 ^ 63 + c.working → d.fresh ≡ c.fresh → d.working ≡ c.working + r.count → d.made ≡ c.made + r.count → c.made + r.count ≤ 3 * 2 ^ 61 → AreNumbered come d
  numbered_come c d numbered next first fresh working made few = record {
    given = λ n h. elim (cases_Bool (is_in r n)) [
      | inl inside ↦ inr (inr (omega (arith, low r n inside, first), omega (arith, high r n inside, first, working)))
      | inr out ↦ given_on c d n (omega (arith, fresh)) (omega (arith, working)) (numbered.given n (sym (ap is_some (come_out n out)) ∙ h))
    ];
    named = λ n j h. elim (new_or_old n j h) [
      | inl new ↦ omega (arith, next, new.1, low r n new.0, high r n new.0, made)
      | inr old ↦ omega (arith, numbered.named n j old, made)
    ];
    apart = λ n o j h i. elim (new_or_old n j h) [
      | inl new ↦ elim (new_or_old o j i) [
        | inl also ↦ omega (arith, new.1, also.1, low r n new.0, low r o also.0)
        | inr old ↦ absurd (omega (arith, next, new.1, numbered.named o j old))
      ]
      | inr old ↦ elim (new_or_old o j i) [
        | inl new ↦ absurd (omega (arith, next, new.1, numbered.named n j old))
        | inr also ↦ numbered.apart n o j old also
      ]
    ];
    fresh = omega (arith, fresh, made, numbered.fresh);
    working = omega (arith, working, made, numbered.working);
    made = omega (arith, made, few);
  }

-- A node of a page that comes

module _ (m : Cells) (c d : Counters) (n : ℕ) (x : Cell) (numbered : AreNumbered m c) (page : working_number x ≡ None) (given : IsGiven d n) where
  was_number : (q j : ℕ) → key_at working_number (map.insert m n x) q ≡ Some j → key_at working_number m q ≡ Some j
  was_number q j e = elim (cases_eq q n) [
    | inl here ↦ absurd (none-some j (sym page ∙ sym (ap (option_and_then working_number) (insert_same m n x q here)) ∙ e))
    | inr other ↦ sym (ap (option_and_then working_number) (insert_other m n x q other)) ∙ e
  ]

  pub numbered_page : c.fresh ≤ d.fresh → d.working ≡ c.working → d.made ≡ c.made → d.fresh ≤ d.made → AreNumbered (map.insert m n x) d
  numbered_page fresh working made few = record {
    given = λ q h. elim (cases_eq q n) [
      | inl here ↦ subst (λ (k : ℕ). IsGiven d k) (sym here) given
      | inr other ↦ given_on c d q fresh (omega (arith, working)) (numbered.given q (sym (ap is_some (insert_other m n x q other)) ∙ h))
    ];
    named = λ q j h. omega (arith, numbered.named q j (was_number q j h), made);
    apart = λ q o j h i. numbered.apart q o j (was_number q j h) (was_number o j i);
    fresh = few;
    working = omega (arith, working, made, numbered.working);
    made = omega (arith, made, numbered.made);
  }

-- Many nodes under the next working names

pub working_free : (m : Cells) (c : Counters) (first count : ℕ) → AreNumbered m c → HaveCells m first count → c.made + count ≤ 3 * 2 ^ 61
    → AreFreeNumbers m first count (λ k. named (WorkingNode (c.made + 1 + k)))
working_free m c first count numbered held few k less q e =
    let d : Counters = record c { made = c.made + k } in
    elim (next_or_old m c d first k numbered refl refl refl (omega (arith, few, less)) (λ i under. held i (omega (arith, under, less))) q (c.made + 1 + k)
    (left_key (changed_each m first (λ i. named (WorkingNode (c.made + 1 + i))) k) (first + k) q (c.made + 1 + k) e)) [
      | inl next ↦ omega (arith, next.1, next.3)
      | inr old ↦ omega (arith, numbered.named q (c.made + 1 + k) old)
    ]

-- Nodes that go

pub numbered_without : (m : Cells) (c : Counters) (n : ℕ) → AreNumbered m c → AreNumbered (map.remove m n) c
numbered_without m c n numbered = numbered_less m (map.remove m n) c numbered
    (λ q h. elim (cases_eq q n) [
      | inl here ↦ absurd (false≢true (sym (ap is_some (remove_same m n q here)) ∙ h))
      | inr other ↦ sym (ap is_some (remove_other m n q other)) ∙ h
    ])
    (λ q j h. left_key m n q j h)

pub numbered_range : (m : Cells) (c : Counters) (first count : ℕ) → AreNumbered m c → AreNumbered (without_range m first count) c
numbered_range m c first zero numbered = numbered
numbered_range m c first (suc k) numbered = numbered_without (without_range m first k) c (first + k) (numbered_range m c first k numbered)

-- A page gets another node

no_number : (x : NodeName) (page : ℕ) → page_of_name x ≡ Some page → number_of_name x ≡ None
no_number (Live cache page) q e = refl
no_number (WorkingNode k) q e = absurd (none-some q e)

pub numbered_working : (m : Cells) (c d : Counters) (n : ℕ) → AreNumbered m c → d.fresh ≡ c.fresh → d.working ≡ c.working → d.made ≡ c.made + 1 → c.made + 1 ≤ 3 * 2 ^ 61 → HasCell m n
    → AreNumbered (changed m n (named (WorkingNode (c.made + 1)))) d
numbered_working m c d n numbered fresh working made few held =
    let at : n + 0 ≡ n = omega arith in
    let number : c.made + 1 + 0 ≡ c.made + 1 = omega arith in
    let P : Cells → Type 0 = λ x. AreNumbered x d in
    let same : changed m (n + 0) (named (WorkingNode (c.made + 1 + 0))) ≡ changed m n (named (WorkingNode (c.made + 1))) = λ i. changed m (at i) (named (WorkingNode (number i))) in
    subst P same
    (numbered_renamed m c d n 1 numbered fresh working made few (λ k less.
    (let here : n ≡ n + k = omega (arith, less) in ap (λ (q : ℕ). is_some (map.get m q)) (sym here) ∙ held)))

-- the page of a name is left and got again
page_again : (pages : Pages) (x : NodeName) (page : ℕ) → page_of_name x ≡ Some page → (n : NodeId) → map.insert (pages_with pages x None) page n ≡ with_pages pages x n 1
page_again pages (WorkingNode k) page e n = absurd (none-some page e)
page_again pages (Live cache of) page e n =
    let is : page_number cache.0 of.0 ≡ page = same_Some _ _ e in
    let here : page_number cache.0 of.0 + 0 ≡ page = omega (arith, is) in
    let node : n.0 ≡ n.0 + 0 = omega arith in
    ap (λ (q : ℕ). map.insert (map.remove pages q) page n) here
    ∙ insert_removed pages page n
    ∙ (λ i. map.insert pages (sym here i) (record { 0 = node i }))

module _ (m : Cells) (pages : Pages) (n fresh page : ℕ) (s : OwnState) (paged : ArePaged m pages) (held : HasCell m n) (vacant : map.get m fresh ≡ None)
    (is : page_of_name (cell_at m n).name ≡ Some page) where
  abbrev x : NodeName
  x = (cell_at m n).name

  pub fresh_apart : fresh ≢ n
  fresh_apart e = false≢true (sym (ap is_some vacant) ∙ ap (λ (q : ℕ). is_some (map.get m q)) e ∙ held)

  module _ (number : ℕ) where
    abbrev working : Cells
    working = changed m n (named (WorkingNode number))

    pub still_vacant : map.get working fresh ≡ None
    still_vacant = changed_other m n (named (WorkingNode number)) fresh fresh_apart ∙ vacant

    pub paged_replaced : ArePaged (map.insert working fresh (new_cell x s)) (with_pages pages x (record { 0 = fresh }) 1)
    paged_replaced =
        let P : Pages → Type 0 = λ p. ArePaged (map.insert working fresh (new_cell x s)) p in
        subst P (page_again pages x page is (record { 0 = fresh }))
        (paged_come working (map.insert working fresh (new_cell x s)) (pages_with pages x None) fresh page (paged_working m pages n number paged held) (page_gone pages x page is)
        (λ k e. none-some k (sym (ap (option_and_then page_key) still_vacant) ∙ e))
        (ap (option_and_then page_key) (insert_same working fresh (new_cell x s) fresh refl) ∙ is)
        (λ q other. ap (option_and_then page_key) (insert_other working fresh (new_cell x s) q other)))

  pub pages_replaced : with_pages (pages_with pages x None) x (record { 0 = fresh }) 1 ≡ with_pages pages x (record { 0 = fresh }) 1
  pages_replaced = again x where
    again : (y : NodeName) → with_pages (pages_with pages y None) y (record { 0 = fresh }) 1 ≡ with_pages pages y (record { 0 = fresh }) 1
    again (WorkingNode k) = refl
    again (Live cache of) = insert_removed pages (page_number cache.0 of.0 + 0) (record { 0 = fresh + 0 })

  pub name_not_working : working_number (new_cell x s) ≡ None
  name_not_working = no_number x page is
