use Rattle.std.proofs.Common.{◌≡◌, ◌∙◌, ap, arith, get_or, subst, sym, ◌≤◌}
use Rattle.stretches.specs.declared.stretch.Stretch.{Stretch}
use Rattle.stretches.specs.Leaves.{entries}
use Rattle.stretches.specs.Spots.{index}
use Rattle.stretches.specs.Stretches.{BeginsAt, IsStretchWith, Stretches, number_count}
use Rattle.stretches.proofs.Reading.Counts.{room_at}
use Rattle.stretches.proofs.Reading.Numbers.{any_default, high, low}
use Rattle.stretches.proofs.Reading.Sayings.{stretch_at_place}
use Rattle.stretches.proofs.stretch_list.StretchList.split_at.Goals as goal

-- a stretch that is split has two numbers, so there are more places than stretches
pub split-requires-clause-room : goal.split-requires-clause-room
split-requires-clause-room g c =
    let places : number_count (entries c.self.inside.stretches) ≤ c.self.inside.stretches.places = subst (λ (v : Stretches _). number_count v.list ≤ v.places) (sym c.self.view_is) c.requires in
    room_at g.V.Says _ c.self.invariant c.args.number _ c.get-stretch.result c.self.inside.stretches.places c.in-Some.ensures.has c.get-stretch.ensures c.if-by-gt0.true places

pub overflow_cast-by : goal.overflow_cast-by
overflow_cast-by g c =
    let stretch = subst (IsStretchWith g.V.Says (entries c.self.inside.stretches) c.args.number) (sym c.get-stretch.ensures) (stretch_at_place g.V.Says _ c.self.invariant c.args.number (index c.self.inside.stretches c.in-Some.at) c.get-stretch.result c.in-Some.ensures.has) in
    omega (arith, stretch.fit.short, high c.get-stretch.result c.args.number stretch.has)

-- the stretch that has the number begins there already
pub returns-else-by-gt0-clause-begins : goal.returns-else-by-gt0-clause-begins
returns-else-by-gt0-clause-begins g c there =
    let rs = entries c.self.inside.stretches in
    let at = index c.self.inside.stretches c.in-Some.at in
    let has = c.in-Some.ensures.has in
    subst (λ (v : Stretches _). BeginsAt v.list c.args.number) c.self.view_is (record {
      at = at;
      within = has.within;
      begins = λ d.
          let is : get_or rs at d ≡ c.get-stretch.result = any_default rs at d c.get-stretch.result has.within ∙ sym c.get-stretch.ensures in
          omega (arith, low (get_or rs at d) c.args.number (has.has d), ap (λ (r : Stretch _). r.first) is, c.if-by-gt0.false);
    })
