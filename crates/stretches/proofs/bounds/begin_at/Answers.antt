use Rattle.std.proofs.Common.{ℕ, ap, arith, get_or, subst, sym, ◌-◌, ◌∙◌, ◌≡◌, ◌≤◌}
use Rattle.stretches.specs.declared.stretch.Stretch.{Stretch}
use Rattle.stretches.specs.Leaves.{entries}
use Rattle.stretches.specs.Spots.{index}
use Rattle.stretches.specs.Stretches.{IsStretchWith}
use Rattle.stretches.proofs.Reading.Counts.{room_at}
use Rattle.stretches.proofs.Reading.Numbers.{any_default, high, low}
use Rattle.stretches.proofs.Reading.Sayings.{stretch_at_place}
use Rattle.stretches.proofs.Reading.Together.{reaches}
use Rattle.stretches.proofs.bounds.begin_at.Goals as goal

-- a stretch that is split has two numbers, so there are more places than stretches
pub split-requires-clause-room : goal.split-requires-clause-room
split-requires-clause-room g c =
    room_at g.V.Says _ c.requires.order c.args.number _ c.get-stretch.result c.args.stretches.now.places c.in-Some.ensures.has c.get-stretch.ensures c.if-by-gt0.true c.requires.places

pub returns-then-by-gt0-clause-begins : goal.returns-then-by-gt0-clause-begins
returns-then-by-gt0-clause-begins g c d =
    let has = c.in-Some.ensures.has in
    let rs = entries c.args.stretches.now in
    let at = index c.args.stretches.now c.in-Some.at in
    let low_end : c.get-stretch.result.first ≤ c.args.number = subst (λ (r : Stretch _). r.first ≤ c.args.number) (sym c.get-stretch.ensures) (low (get_or rs at c.get-stretch.result) c.args.number (has.has c.get-stretch.result)) in
    ap (λ (q : ℕ). (get_or (entries c.split.new.stretches) q d).first) c.split.ensures.index
    ∙ ap (λ (r : Stretch _). r.first) (c.split.ensures.behind d) ∙ omega (arith, low_end)

-- the stretch goes on as far as what it has together, split or not
pub returns-then-by-gt0-clause-long : goal.returns-then-by-gt0-clause-long
returns-then-by-gt0-clause-long g c count some together d =
    let to = reaches g.V.Says _ c.requires.order c.args.number count _ c.get-stretch.result some together c.in-Some.ensures.has c.get-stretch.ensures in
    let size : (get_or (entries c.split.new.stretches) (index c.split.new.stretches c.split.result) d).count ≡ c.get-stretch.result.count - (c.args.number - c.get-stretch.result.first) =
    ap (λ (q : ℕ). (get_or (entries c.split.new.stretches) q d).count) c.split.ensures.index
    ∙ ap (λ (r : Stretch _). r.count) (c.split.ensures.behind d) in
    omega (arith, size, to, c.if-by-gt0.true)

pub returns-else-by-gt0-clause-begins : goal.returns-else-by-gt0-clause-begins
returns-else-by-gt0-clause-begins g c d =
    let has = c.in-Some.ensures.has in
    let rs = entries c.args.stretches.now in
    let at = index c.args.stretches.now c.in-Some.at in
    let low_end = low (get_or rs at d) c.args.number (has.has d) in
    let e : c.get-stretch.result ≡ get_or rs at d = c.get-stretch.ensures ∙ any_default rs at c.get-stretch.result d has.within in
    let less : c.args.number ≤ (get_or rs at d).first = subst (λ (r : Stretch _). c.args.number ≤ r.first) e (omega (arith, c.if-by-gt0.false)) in
    omega (arith, low_end, less)

pub returns-else-by-gt0-clause-long : goal.returns-else-by-gt0-clause-long
returns-else-by-gt0-clause-long g c count some together d =
    let has = c.in-Some.ensures.has in
    let rs = entries c.args.stretches.now in
    let at = index c.args.stretches.now c.in-Some.at in
    let e : c.get-stretch.result ≡ get_or rs at d = c.get-stretch.ensures ∙ any_default rs at c.get-stretch.result d has.within in
    let low_end : c.get-stretch.result.first ≤ c.args.number = subst (λ (r : Stretch _). r.first ≤ c.args.number) (sym c.get-stretch.ensures) (low (get_or rs at c.get-stretch.result) c.args.number (has.has c.get-stretch.result)) in
    let to = reaches g.V.Says _ c.requires.order c.args.number count _ c.get-stretch.result some together has c.get-stretch.ensures in
    let fits : count ≤ c.get-stretch.result.count = omega (arith, to, low_end, c.if-by-gt0.false) in
    subst (λ (r : Stretch _). count ≤ r.count) e fits

pub overflow_cast-by : goal.overflow_cast-by
overflow_cast-by g c =
    let at = index c.args.stretches.now c.in-Some.at in
    let stretch = subst (IsStretchWith g.V.Says (entries c.args.stretches.now) c.args.number) (sym c.get-stretch.ensures) (stretch_at_place g.V.Says _ c.requires.order c.args.number at c.get-stretch.result c.in-Some.ensures.has) in
    omega (arith, stretch.fit.short, high c.get-stretch.result c.args.number stretch.has)
