use Rattle.std.proofs.Common.{◌≡◌, ℕ, ◌<◌, Bool, true, false, List, Some, Option, refl, sym, ap, subst, ◌∙◌, set}
use Rattle.std.specs.Prelude.{bit_and}
use Rattle.std.proofs.lemmas.Bool.{eq-eqb, ne_eqb}
use Rattle.linear_index.specs.declared.cell.Cell.{Cell}
use Rattle.linear_index.specs.Hashes.{hash_of}
use Rattle.linear_index.specs.Buckets.{is_for}
use Rattle.linear_index.specs.Chains.{cell_at, Ends, next_at}
use Rattle.linear_index.proofs.Chaining.{below, front, left}
use Rattle.linear_index.proofs.Parts.{dividing, IsDividing, less_on, part_one, part_other, to_one, to_other}
use Rattle.linear_index.proofs.chains.divide.Goals as goal

-- the next step, with the place that is looked at in the place of the next one
step : (old cells new : List Cell) (first next behind one other : Option ℕ) (p : ℕ) (test : ℕ → Bool) → behind ≡ next_at cells p → IsDividing old new first (next_at cells p) one other test false true → IsDividing old new first behind one other test false true
step old cells new first next behind one other p test e d = subst (λ (o : Option ℕ). IsDividing old new first o one other test false true) (sym e) d

fewer : (cells new : List Cell) (next behind : Option ℕ) (p : ℕ) → next ≡ Some p → behind ≡ next_at cells p → left new (next_at cells p) < left cells (Some p) → left new behind < left cells next
fewer cells new next behind p is e less = subst (λ (o : Option ℕ). left new o < left cells next) (sym e) (subst (λ (o : Option ℕ). left new (next_at cells p) < left cells o) (sym is) less)

pub loop-next-init : goal.loop-next-init
loop-next-init c = dividing c.args.cells.now c.args.first (is_for c.args.cells.now c.args.mask c.args.bucket) false true c.requires

pub bounds-cells-place : goal.bounds-cells-place
bounds-cells-place c = below c.loop-next.cells c.in-Some.place (front c.loop-next.cells c.in-Some.place (subst (Ends c.loop-next.cells) c.in-Some.is c.loop-next.invariant.rest)).some

pub loop-next-smaller-then-hash-mask : goal.loop-next-smaller-then-hash-mask
loop-next-smaller-then-hash-mask c =
    let test = is_for c.args.cells.now c.args.mask c.args.bucket in
    let x : Cell = record { key = (cell_at c.loop-next.cells c.in-Some.place).key; link = c.to-cell.result } in
    let d : IsDividing c.args.cells.now c.loop-next.cells c.args.first (Some c.in-Some.place) c.loop-next.stay c.loop-next.go test false true = subst (λ (o : Option ℕ). IsDividing c.args.cells.now c.loop-next.cells c.args.first o c.loop-next.stay c.loop-next.go test false true) c.in-Some.is c.loop-next.invariant in
    fewer c.loop-next.cells (set c.loop-next.cells c.in-Some.place x) c.loop-next.next c.next-next.result c.in-Some.place c.in-Some.is c.next-next.ensures (less_on _ _ _ _ _ _ _ _ _ x d)

pub loop-next-preserved-then-hash-mask : goal.loop-next-preserved-then-hash-mask
loop-next-preserved-then-hash-mask c =
    let test = is_for c.args.cells.now c.args.mask c.args.bucket in
    let x : Cell = record { key = (cell_at c.loop-next.cells c.in-Some.place).key; link = c.to-cell.result } in
    let d : IsDividing c.args.cells.now c.loop-next.cells c.args.first (Some c.in-Some.place) c.loop-next.stay c.loop-next.go test false true = subst (λ (o : Option ℕ). IsDividing c.args.cells.now c.loop-next.cells c.args.first o c.loop-next.stay c.loop-next.go test false true) c.in-Some.is c.loop-next.invariant in
    let bits : bit_and (hash_of (cell_at c.args.cells.now c.in-Some.place).key) c.args.mask ≡ bit_and c.hash.result c.args.mask = ap (λ (k : ℕ). bit_and (hash_of k) c.args.mask) (sym (c.loop-next.invariant.same c.in-Some.place)) ∙ ap (λ (h : ℕ). bit_and h c.args.mask) (sym c.hash.ensures) in
    step c.args.cells.now c.loop-next.cells (set c.loop-next.cells c.in-Some.place x) c.args.first c.loop-next.next c.next-next.result c.loop-next.stay (Some c.in-Some.place) c.in-Some.place test c.next-next.ensures
    (to_other c.args.cells.now c.loop-next.cells c.args.first c.in-Some.place c.loop-next.stay c.loop-next.go test false true x d (eq-eqb _ _ (bits ∙ c.if-hash-mask.true)) refl c.to-cell.ensures)

pub loop-next-smaller : goal.loop-next-smaller
loop-next-smaller c =
    let test = is_for c.args.cells.now c.args.mask c.args.bucket in
    let x : Cell = record { key = (cell_at c.loop-next.cells c.in-Some.place).key; link = c.to-cell-else-hash-mask.result } in
    let d : IsDividing c.args.cells.now c.loop-next.cells c.args.first (Some c.in-Some.place) c.loop-next.stay c.loop-next.go test false true = subst (λ (o : Option ℕ). IsDividing c.args.cells.now c.loop-next.cells c.args.first o c.loop-next.stay c.loop-next.go test false true) c.in-Some.is c.loop-next.invariant in
    fewer c.loop-next.cells (set c.loop-next.cells c.in-Some.place x) c.loop-next.next c.next-next.result c.in-Some.place c.in-Some.is c.next-next.ensures (less_on _ _ _ _ _ _ _ _ _ x d)

pub loop-next-preserved : goal.loop-next-preserved
loop-next-preserved c =
    let test = is_for c.args.cells.now c.args.mask c.args.bucket in
    let x : Cell = record { key = (cell_at c.loop-next.cells c.in-Some.place).key; link = c.to-cell-else-hash-mask.result } in
    let d : IsDividing c.args.cells.now c.loop-next.cells c.args.first (Some c.in-Some.place) c.loop-next.stay c.loop-next.go test false true = subst (λ (o : Option ℕ). IsDividing c.args.cells.now c.loop-next.cells c.args.first o c.loop-next.stay c.loop-next.go test false true) c.in-Some.is c.loop-next.invariant in
    let bits : bit_and (hash_of (cell_at c.args.cells.now c.in-Some.place).key) c.args.mask ≡ bit_and c.hash.result c.args.mask = ap (λ (k : ℕ). bit_and (hash_of k) c.args.mask) (sym (c.loop-next.invariant.same c.in-Some.place)) ∙ ap (λ (h : ℕ). bit_and h c.args.mask) (sym c.hash.ensures) in
    step c.args.cells.now c.loop-next.cells (set c.loop-next.cells c.in-Some.place x) c.args.first c.loop-next.next c.next-next.result (Some c.in-Some.place) c.loop-next.go c.in-Some.place test c.next-next.ensures
    (to_one c.args.cells.now c.loop-next.cells c.args.first c.in-Some.place c.loop-next.stay c.loop-next.go test false true x d (ne_eqb _ _ (λ e. c.if-hash-mask.false (sym bits ∙ e))) refl c.to-cell-else-hash-mask.ensures)

pub returns-clause-stay : goal.returns-clause-stay
returns-clause-stay c =
    let test = is_for c.args.cells.now c.args.mask c.args.bucket in
    part_one c.args.cells.now c.loop-next.cells c.args.first c.loop-next.stay c.loop-next.go test (subst (λ (o : Option ℕ). IsDividing c.args.cells.now c.loop-next.cells c.args.first o c.loop-next.stay c.loop-next.go test false true) c.in_default.is c.loop-next.invariant)

pub returns-clause-go : goal.returns-clause-go
returns-clause-go c =
    let test = is_for c.args.cells.now c.args.mask c.args.bucket in
    part_other c.args.cells.now c.loop-next.cells c.args.first c.loop-next.stay c.loop-next.go test (subst (λ (o : Option ℕ). IsDividing c.args.cells.now c.loop-next.cells c.args.first o c.loop-next.stay c.loop-next.go test false true) c.in_default.is c.loop-next.invariant)
