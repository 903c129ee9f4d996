-- Nodes of one run go, come, are said otherwise, or are gathered: the tables stay right.
use Rattle.std.proofs.Common.{◌≡◌, ℕ, ◌+◌, ◌-◌, ◌<◌, ◌≤◌, Bool, true, false, Option, Some, None, refl, sym, ap, subst, ◌∙◌, inl, inr, arith}
use Rattle.std.specs.Prelude.{option_and_then, option_map, is_some, IfSome}
use Rattle.std.proofs.lemmas.Bool.{cases_Bool, cond-true, cond-false, false≢true}
use Rattle.std.proofs.lemmas.Option.{none-some}
use Rattle.std.specs.Ordering.{nat_cmp}
use Rattle.std.specs.FinMap.{FinMap}
use Rattle.std.specs.FinMap as map
use Rattle.stretches.specs.Stretch.{is_in}
use Rattle.stretches.specs.declared.stretch.Stretch.{Stretch}
use Rattle.stretches.proofs.Reading.Numbers.{within}
use Rattle.mixed_map.specs.Mixed.{Tells, with_stretch, without_stretch}
use Rattle.mixed_map.proofs.Telling.{get_with, gone}
use Rattle.local_cache.specs.Arena.{Cell}
use Rattle.local_cache.specs.declared.runs.run.Run.{Run}
use Rattle.local_cache.specs.NodeCells.{Cells, HasCell, is_page, run_cell}
use Rattle.local_cache.specs.NodeKeys.{key_at, working_number}
use Rattle.local_cache.specs.LinkTable.{AreNumbersApart, AreThinKept, HaveFreeNumbers, IsTableRight, IsThin, Table}
use Rattle.local_cache.specs.Runs.{run, run_after}
use Rattle.local_cache.specs.Thin.{number_if, thin_number}
use Rattle.local_cache.specs.ThinNodes.{Thin, with_run, without_run}
use Rattle.local_cache.proofs.Stretched.{len_come, len_put, put_again}
use Rattle.local_cache.proofs.Thinness.{run_come, run_left, run_thin, same_kept, told_thin}
use Rattle.vm_ids.specs.declared.node_name.NodeName.{NodeName}
use Rattle.vm_ids.specs.declared.node_name.NodeName.TheVariants.{Live, Working as WorkingNode}
use Rattle.local_cache.proofs.TableRight.Numbers.{apart_come, apart_less, few_among, free_at, inside, is_free, len_range, number_of_thin, thin_working, vacant_among}
use Rattle.local_cache.proofs.TableRight.Alone.{kept_as}

-- Nodes of a run

abbrev pub Vacant : FinMap nat_cmp ℕ → Stretch Run → Type 0
Vacant slots r = (n : ℕ) → is_in r n ≡ true → map.get slots n ≡ None

told_there : (cells : Cells) (r : Stretch Run) → Tells run run_cell cells r → (j : ℕ) → j < r.count → HasCell cells (r.first + j)
told_there cells r tells j less = ap is_some (tells (r.first + j) (within r (r.first + j) (omega arith) (omega (arith, less))))

pub left_number : (cells : Cells) (r : Stretch Run) (n k : ℕ) → key_at working_number (without_stretch cells r) n ≡ Some k → (is_in r n ≡ false) × (key_at working_number cells n ≡ Some k)
left_number cells r n k e = elim (cases_Bool (is_in r n)) [
  | inl inside ↦ absurd (none-some k (sym (ap (option_and_then working_number) (gone cells r n ∙ cond-true _ _ _ inside)) ∙ e))
  | inr out ↦ (out, sym (ap (option_and_then working_number) (gone cells r n ∙ cond-false _ _ _ out)) ∙ e)
]

-- their numbers are free when they are gone
pub left_free : (cells : Cells) (r : Stretch Run) → AreNumbersApart cells → Tells run run_cell cells r → HaveFreeNumbers (without_stretch cells r) r
left_free cells r apart tells i less =
    is_free (without_stretch cells r) (working_number (run_cell (run_after r.value i))) (λ k n is e.
    let was = left_number cells r n k e in
    let there : is_in r (r.first + i) ≡ true = within r (r.first + i) (omega arith) (omega (arith, less)) in
    let far : r.first + i - r.first ≡ i = omega arith in
    let mine : key_at working_number cells (r.first + i) ≡ Some k = ap (option_and_then working_number) (tells (r.first + i) there) ∙ ap (λ (j : ℕ). working_number (run_cell (run_after r.value j))) far ∙ is in
    let here = apart n (r.first + i) k was.1 mine in
    false≢true (sym was.0 ∙ ap (is_in r) here ∙ there))

-- they go
module _ (t u : Table) (thin : Thin) (r : Stretch Run) (right : IsTableRight t thin) (tells : Tells run run_cell t.cells r)
    (vacant : Vacant t.slots r) (cells : u.cells ≡ without_stretch t.cells r) (slots : u.slots ≡ t.slots)
    (count : u.count + r.count ≡ t.count) (room : u.room ≡ t.room) where
  pub run_gone : IsTableRight u (record thin { among = without_run thin.among r })
  run_gone = record {
    kept = kept_as _ u.cells t.slots u.slots _ cells slots (run_left t.cells t.slots thin r right.kept tells vacant);
    apart = (let P : Cells → Type 0 = λ c. AreNumbersApart c in subst P (sym cells) (apart_less t.cells (without_stretch t.cells r) right.apart (λ n k e. (left_number t.cells r n k e).1)));
    once = λ a b s e f. right.once a b s (was a s e) (was b s f);
    within = λ q s e. omega (arith, right.within q s (was q s e), room);
    held = λ q s e. ap (λ (m : Cells). is_some (map.get m q)) cells ∙ there q s (was q s e);
    counted = omega (arith, count, right.counted, ap map.len cells, len_range t.cells r.first r.count (told_there t.cells r tells));
    few = omega (arith, right.few, count, room);
    room = omega (arith, right.room, room);
  } where
    was : (q s : ℕ) → map.get u.slots q ≡ Some s → map.get t.slots q ≡ Some s
    was q s e = sym (ap (λ (m : FinMap nat_cmp ℕ). map.get m q) slots) ∙ e

    there : (q s : ℕ) → map.get t.slots q ≡ Some s → HasCell (without_stretch t.cells r) q
    there q s e = elim (cases_Bool (is_in r q)) [
      | inl inside ↦ absurd (none-some s (sym (vacant q inside) ∙ e))
      | inr out ↦ ap is_some (gone t.cells r q ∙ cond-false _ _ _ out) ∙ right.held q s e
    ]

-- they come
module _ (t u : Table) (thin : Thin) (r : Stretch Run) (right : IsTableRight t thin)
    (empty : (n : ℕ) → is_in r n ≡ true → map.get t.cells n ≡ None)
    (free : HaveFreeNumbers t.cells r) (cells : u.cells ≡ with_stretch run run_cell t.cells r) (slots : u.slots ≡ t.slots)
    (count : u.count ≡ t.count + r.count) (room : u.room ≡ t.room) (few : t.count + r.count ≤ t.room) where
  empty_slot : (n : ℕ) (o : Option ℕ) → map.get t.slots n ≡ o → is_in r n ≡ true → map.get t.slots n ≡ None
  empty_slot n None e h = e
  empty_slot n (Some s) e h = absurd (false≢true (sym (ap is_some (empty n h)) ∙ right.held n s e))

  not_thin : (k n i : ℕ) → i < r.count → thin_number (run_cell (run_after r.value i)) ≡ Some k → IsThin t.cells n k → ⊥
  not_thin k n i less is h = free_at t.cells _ k n (free i less) (number_of_thin _ _ k is) (thin_working t.cells n k h)

  pub run_here : IsTableRight u (record thin { among = with_run thin.among r })
  run_here = record {
    kept = kept_as _ u.cells t.slots u.slots _ cells slots (run_come t.cells t.slots thin r right.kept empty (λ n h. empty_slot n (map.get t.slots n) refl h) not_thin);
    apart = (let P : Cells → Type 0 = λ c. AreNumbersApart c in subst P (sym cells) (apart_come t.cells r right.apart free));
    once = λ a b s e f. right.once a b s (was a s e) (was b s f);
    within = λ q s e. omega (arith, right.within q s (was q s e), room);
    held = λ q s e. ap (λ (m : Cells). is_some (map.get m q)) cells ∙ there q s (was q s e);
    counted = omega (arith, count, right.counted, ap map.len cells, len_come run run_cell t.cells r r.count (λ j less. empty (r.first + j) (within r (r.first + j) (omega arith) (omega (arith, less)))));
    few = omega (arith, few, count, room);
    room = omega (arith, right.room, room);
  } where
    was : (q s : ℕ) → map.get u.slots q ≡ Some s → map.get t.slots q ≡ Some s
    was q s e = sym (ap (λ (m : FinMap nat_cmp ℕ). map.get m q) slots) ∙ e

    there : (q s : ℕ) → map.get t.slots q ≡ Some s → HasCell (with_stretch run run_cell t.cells r) q
    there q s e = elim (cases_Bool (is_in r q)) [
      | inl inside ↦ ap is_some (get_with run run_cell t.cells r q ∙ cond-true _ _ _ inside)
      | inr out ↦ ap is_some (get_with run run_cell t.cells r q ∙ cond-false _ _ _ out) ∙ right.held q s e
    ]

-- Nodes of one run are said otherwise
module _ (t u : Table) (thin : Thin) (r : Stretch Run) (v : Run) (right : IsTableRight t thin) (tells : Tells run run_cell t.cells r)
    (vacant : Vacant t.slots r) (free : HaveFreeNumbers (without_stretch t.cells r) (record r { value = v }))
    (cells : u.cells ≡ with_stretch run run_cell t.cells (record r { value = v })) (slots : u.slots ≡ t.slots)
    (count : u.count ≡ t.count) (room : u.room ≡ t.room) where
  abbrev again : Stretch Run
  again = record r { value = v }

  abbrev gone_first : Cells
  gone_first = without_stretch t.cells r

  abbrev thin_left : Thin
  thin_left = record thin { among = without_run thin.among r }

  left_kept : AreThinKept gone_first t.slots thin_left
  left_kept = run_left t.cells t.slots thin r right.kept tells vacant

  left_empty : (n : ℕ) → is_in r n ≡ true → map.get gone_first n ≡ None
  left_empty n inside = gone t.cells r n ∙ cond-true _ _ _ inside

  left_apart : AreNumbersApart gone_first
  left_apart = apart_less t.cells gone_first right.apart (λ n k e. (left_number t.cells r n k e).1)

  put_apart : AreNumbersApart u.cells
  put_apart =
      let P : Cells → Type 0 = λ c. AreNumbersApart c in
      subst P (put_again run run_cell t.cells again ∙ sym cells) (apart_come gone_first again left_apart free)

  put_held : (q s : ℕ) → map.get u.slots q ≡ Some s → HasCell u.cells q
  put_held q s e =
      let was : map.get t.slots q ≡ Some s = sym (ap (λ (m : FinMap nat_cmp ℕ). map.get m q) slots) ∙ e in
      ap (λ (m : Cells). is_some (map.get m q)) cells ∙ elim (cases_Bool (is_in r q)) [
        | inl inside ↦ absurd (none-some s (sym (vacant q inside) ∙ was))
        | inr out ↦ ap is_some (get_with run run_cell t.cells again q ∙ cond-false _ _ _ out) ∙ right.held q s was
      ]

  put_right : (x : Thin) → AreThinKept u.cells u.slots x → x.room ≡ thin.room → IsTableRight u x
  put_right x kept same_room = record {
    kept = kept;
    apart = put_apart;
    once = λ a b s e f. right.once a b s (was a s e) (was b s f);
    within = λ q s e. omega (arith, right.within q s (was q s e), room);
    held = put_held;
    counted = omega (arith, count, right.counted, ap map.len cells, len_put run run_cell t.cells again r.count (told_there t.cells r tells));
    few = omega (arith, right.few, count, room);
    room = omega (arith, right.room, room, same_room);
  } where
    was : (q s : ℕ) → map.get u.slots q ≡ Some s → map.get t.slots q ≡ Some s
    was q s e = sym (ap (λ (m : FinMap nat_cmp ℕ). map.get m q) slots) ∙ e

  -- under the same numbers
  pub put_same : thin_number (run_cell v) ≡ thin_number (run_cell r.value) → IsTableRight u thin
  put_same same_number = put_right thin (kept_as _ u.cells t.slots u.slots thin cells slots (same_kept t.cells _ t.slots thin right.kept number)) refl where
    number : (n : ℕ) → key_at thin_number (with_stretch run run_cell t.cells again) n ≡ key_at thin_number t.cells n
    number n = elim (cases_Bool (is_in r n)) [
      | inl inside ↦
          ap (option_and_then thin_number) (get_with run run_cell t.cells again n ∙ cond-true _ _ _ inside)
          ∙ run_thin v (n - r.first) ∙ ap (option_map (λ k. k + (n - r.first))) same_number ∙ sym (told_thin t.cells r tells n inside)
      | inr out ↦ ap (option_and_then thin_number) (get_with run run_cell t.cells again n ∙ cond-false _ _ _ out)
    ]

  -- or under others
  pub put_other : IsTableRight u (record thin_left { among = with_run thin_left.among again })
  put_other = put_right _ (kept_as _ u.cells t.slots u.slots _ (cells ∙ sym (put_again run run_cell t.cells again)) slots
      (run_come gone_first t.slots thin_left again left_kept left_empty vacant
      (λ k n i less is h. free_at gone_first _ k n (free i less) (number_of_thin _ _ k is) (thin_working gone_first n k h)))) refl

-- while they are taken out, their new numbers are vacant, and there is room
module _ (t : Table) (thin : Thin) (r : Stretch Run) (v : Run) (right : IsTableRight t thin) (tells : Tells run run_cell t.cells r) (vacant : Vacant t.slots r) where
  pub put_vacant : HaveFreeNumbers (without_stretch t.cells r) (record r { value = v }) → (k : ℕ) → k < r.count
      → IfSome (thin_number (run_cell (run_after v k))) (λ n. map.get (without_run thin.among r) n ≡ None)
  put_vacant free k less = vacant_among (without_stretch t.cells r) t.slots (record thin { among = without_run thin.among r }) (record r { value = v }) (run_left t.cells t.slots thin r right.kept tells vacant) free k less

  pub put_room : map.len (without_run thin.among r) + r.count ≤ thin.room
  put_room =
      let few = few_among (without_stretch t.cells r) t.slots (record thin { among = without_run thin.among r }) (run_left t.cells t.slots thin r right.kept tells vacant) in
      omega (arith, few, len_range t.cells r.first r.count (told_there t.cells r tells), right.counted, right.few, right.room)

-- Nodes of pages that stand alone come into a run
page_no_number : (x : NodeName) (b : Bool) → is_page x ≡ true → number_if x b ≡ None
page_no_number (Live cache page) b h = refl
page_no_number (WorkingNode k) b h = absurd (false≢true h)

pub page_not_thin : (cells : Cells) (n : ℕ) (c : Cell) → map.get cells n ≡ Some c → is_page c.name ≡ true → key_at thin_number cells n ≡ None
page_not_thin cells n c is page = ap (option_and_then thin_number) is ∙ page_no_number c.name _ page

module _ (t u : Table) (thin : Thin) (r : Stretch Run) (right : IsTableRight t thin) (plain : (n : ℕ) → is_in r n ≡ true → key_at thin_number t.cells n ≡ None)
    (cells : u.cells ≡ t.cells) (slots : u.slots ≡ without_stretch t.slots r) (count : u.count ≡ t.count) (room : u.room ≡ t.room) where
  alone_still : (q s : ℕ) → map.get (without_stretch t.slots r) q ≡ Some s → (is_in r q ≡ false) × (map.get t.slots q ≡ Some s)
  alone_still q s e = elim (cases_Bool (is_in r q)) [
    | inl inside ↦ absurd (none-some s (sym (gone t.slots r q ∙ cond-true _ _ _ inside) ∙ e))
    | inr out ↦ (out, sym (gone t.slots r q ∙ cond-false _ _ _ out) ∙ e)
  ]

  thin_out : (n k : ℕ) → IsThin t.cells n k → is_in r n ≡ false
  thin_out n k h = elim (cases_Bool (is_in r n)) [ inl inside ↦ absurd (none-some k (sym (plain n inside) ∙ h)) | inr out ↦ out ]

  gathered_kept : AreThinKept t.cells (without_stretch t.slots r) thin
  gathered_kept = record {
    alone = λ slot k. (
      (λ h. (let w = (right.kept.alone slot k).0 h in (w.0, gone t.slots r w.0 ∙ cond-false _ _ _ (thin_out w.0 k w.2) ∙ w.1, w.2))),
      (λ w. (right.kept.alone slot k).1 (w.0, (alone_still w.0 slot w.1).1, w.2)),
    );
    among = λ k n. (
      (λ h. (let w = (right.kept.among k n).0 h in (gone t.slots r n ∙ cond-false _ _ _ (thin_out n k w.1) ∙ w.0, w.1))),
      (λ w. (right.kept.among k n).1 (sym (gone t.slots r n ∙ cond-false _ _ _ (thin_out n k w.1)) ∙ w.0, w.1)),
    );
  }

  pub table_gathered : IsTableRight u thin
  table_gathered = record {
    kept = kept_as t.cells u.cells (without_stretch t.slots r) u.slots thin cells slots gathered_kept;
    apart = (let P : Cells → Type 0 = λ c. AreNumbersApart c in subst P (sym cells) right.apart);
    once = λ a b s e f. right.once a b s (was a s e) (was b s f);
    within = λ q s e. omega (arith, right.within q s (was q s e), room);
    held = λ q s e. ap (λ (m : Cells). is_some (map.get m q)) cells ∙ right.held q s (was q s e);
    counted = omega (arith, count, right.counted, ap map.len cells);
    few = omega (arith, right.few, count, room);
    room = omega (arith, right.room, room);
  } where
    was : (q s : ℕ) → map.get u.slots q ≡ Some s → map.get t.slots q ≡ Some s
    was q s e = (alone_still q s (sym (ap (λ (m : FinMap nat_cmp ℕ). map.get m q) slots) ∙ e)).1
