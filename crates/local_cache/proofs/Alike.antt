-- Nodes that a run says.
use Rattle.std.proofs.Common.{◌≡◌, ℕ, zero, suc, ◌+◌, ◌-◌, ◌<◌, ◌≤◌, ◌^◌, true, Option, Some, None, IsSome, refl, sym, ap, subst, ◌∙◌, arith}
use Rattle.std.specs.Prelude.{IfSome, is_some, option_map}
use Rattle.std.specs.FinMap as map
use Rattle.stretches.specs.declared.stretch.Stretch.{Stretch}
use Rattle.stretches.proofs.Reading.Numbers.{within}
use Rattle.mixed_map.specs.Mixed.{Tells}
use Rattle.vm_ids.specs.declared.node_name.NodeName.{NodeName}
use Rattle.vm_ids.specs.declared.node_name.NodeName.TheVariants.{Live, Working as WorkingNode}
use Rattle.vm_ids.specs.declared.numbers.NodeId.{NodeId}
use Rattle.local_cache.specs.Arena.{Cell}
use Rattle.local_cache.specs.GoingOn.{run_goes_on}
use Rattle.local_cache.specs.ManyNodes.{next_if}
use Rattle.local_cache.specs.NodeCells.{Cells, is_page, run_cell}
use Rattle.local_cache.specs.NodeTable.{AreSaidAlike, AreSaidBy, HasNumber, IsSayable, IsStandingAs, Table}
use Rattle.local_cache.specs.PageNodes.{name_behind}
use Rattle.local_cache.specs.Runs.{run, run_after}
use Rattle.local_cache.specs.declared.runs.run.PlainState.TheVariants.{Absent}
use Rattle.local_cache.specs.declared.runs.run.Run.{Run}
use Rattle.local_cache.specs.declared.runs.run.RunName.TheVariants.{Working}

number_below : (o : Option NodeId) (j k : ℕ) → j < k → IfSome o (λ n. n.0 + k ≤ 2 ^ 64) → HasNumber o j
number_below None j k less h = h
number_below (Some n) j k less h = omega (arith, less, h)

-- the nodes of a run, one by one
pub told_at : (m : Cells) (n k : ℕ) (r : Stretch Run) → r.first ≡ n → Tells run run_cell m r → k < r.count → map.get m (n + k) ≡ Some (run_cell (run_after r.value k))
told_at m n k r begins tells less =
    let far : r.first + k - r.first ≡ k = omega arith in
    ap (λ (q : ℕ). map.get m (q + k)) (sym begins)
    ∙ tells (r.first + k) (within r (r.first + k) (omega arith) (omega (arith, less)))
    ∙ ap (λ (j : ℕ). Some (run_cell (run_after r.value j))) far

abbrev some_run : Run
some_run = record { name = Working 0; own = Absent; parent = None; older = None; newer = None }

pub alike_none : (m : Cells) (n : ℕ) → AreSaidAlike m n 0
alike_none m n = record {
  run = some_run;
  said = λ k h. absurd (omega (arith, h));
  parent = λ k some h. tt;
  older = λ k some h. tt;
  newer = λ k some h. tt;
}

pub alike_one : (m : Cells) (n : ℕ) (r : Run) → map.get m n ≡ Some (run_cell r) → AreSaidAlike m n 1
alike_one m n r is = record {
  run = r;
  said = λ k h.
      (let zero_on : k ≡ 0 = omega (arith, h) in
      let here : n + k ≡ n = omega (arith, h) in
      ap (map.get m) here ∙ is ∙ ap (λ (x : Run). Some (run_cell x)) (sym (run_goes_on.starts r)) ∙ ap (λ (j : ℕ). Some (run_cell (run_after r j))) (sym zero_on));
  parent = λ k some h. absurd (omega (arith, some, h));
  older = λ k some h. absurd (omega (arith, some, h));
  newer = λ k some h. absurd (omega (arith, some, h));
}

-- a node that stands alone, or none
pub alike_at : (m : Cells) (n k : ℕ) (c : Cell) → map.get m n ≡ Some c → (0 < k → (k ≡ 1) × IsSayable c) → AreSaidAlike m n k
alike_at m n zero c is one = alike_none m n
alike_at m n (suc k) c is one =
    let w = one (omega arith) in
    let P : ℕ → Type 0 = λ j. AreSaidAlike m n j in
    subst P (sym w.0) (alike_one m n w.1.0 (is ∙ ap Some (sym w.1.1)))

-- nodes of a run
pub alike_run : (m : Cells) (n k : ℕ) (r : Stretch Run) → r.first ≡ n → Tells run run_cell m r → k ≤ r.count
    → IfSome r.value.parent (λ p. p.0 + k ≤ 2 ^ 64) → IfSome r.value.older (λ p. p.0 + k ≤ 2 ^ 64) → IfSome r.value.newer (λ p. p.0 + k ≤ 2 ^ 64) → AreSaidAlike m n k
alike_run m n k r begins tells few parent older newer = record {
  run = r.value;
  said = λ j less. told_at m n j r begins tells (omega (arith, less, few));
  parent = λ j some less. number_below r.value.parent j k less parent;
  older = λ j some less. number_below r.value.older j k less older;
  newer = λ j some less. number_below r.value.newer j k less newer;
}

-- a node that stands alone as a run says
pub standing : (t : Table) (n : ℕ) (c : Cell) (o : Option Run) → map.get t.cells n ≡ Some c → IsSome (map.get t.slots n) → IfSome o (λ r. run_cell r ≡ c) → IfSome o (λ r. is_page c.name ≡ true) → IfSome o (IsStandingAs t n)
standing t n c None is alone says page = tt
standing t n c (Some r) is alone says page = record {
  said = is ∙ ap Some (sym says);
  page = ap (λ (d : Cell). is_page d.name) says ∙ page;
  alone = alone;
}

-- Members of a row

pub name_here : (x : NodeName) → name_behind x 0 ≡ x
name_here (Live cache page) = (let e : page.0 + 0 ≡ page.0 = omega arith in λ i. Live cache (record { 0 = e i }))
name_here (WorkingNode k) = (let e : k + 0 ≡ k = omega arith in ap WorkingNode e)

pub node_here : (o : Option NodeId) → next_if o 0 ≡ o
node_here None = refl
node_here (Some n) = (let e : n.0 + 0 ≡ n.0 = omega arith in λ i. Some (record { 0 = e i }))

-- one more node that stands alone
pub said_first : (t : Table) (n : ℕ) (r : Run) → IsStandingAs t n r → AreSaidBy t n r 1
said_first t n r one k less =
    let zero_on : k ≡ 0 = omega (arith, less) in
    let here : n ≡ n + k = omega (arith, less) in
    let P : Run → Type 0 = λ x. IsStandingAs t n x in
    let Q : ℕ → Type 0 = λ j. IsStandingAs t n (run_after r j) in
    let R : ℕ → Type 0 = λ q. IsStandingAs t q (run_after r k) in
    subst R here (subst Q (sym zero_on) (subst P (sym (run_goes_on.starts r)) one))
