use Rattle.std.proofs.Common.{◌≡◌, ℕ, ◌≤◌, ◌<◌, ◌∙◌, ap, subst, sym, arith}
use Rattle.stretches.specs.declared.stretch.Stretch.{Stretch}
use Rattle.stretches.specs.Leaves.{entries}
use Rattle.stretches.specs.Places.{IsPart}
use Rattle.stretches.specs.Spots.{index}
use Rattle.stretches.specs.Stretches.{number_count}
use Rattle.stretches.proofs.Leaves.Held.{held_within}
use Rattle.stretches.proofs.Reading.Counts.{room_for_part}
use Rattle.stretches.proofs.Reading.Together.{part_from, together_said}
use Rattle.stretches.proofs.bounds.isolate.Goals as goal

pub begin_at-at-requires-clause-there : goal.begin_at-at-requires-clause-there
begin_at-at-requires-clause-there g c = together_said g.V.Says _ c.requires.order c.args.first c.args.count c.requires.some c.requires.together

-- a stretch that is split has two numbers, so there are more places than stretches
pub split-behind-requires-clause-room : goal.split-behind-requires-clause-room
split-behind-requires-clause-room g c =
    let begun = c.begin_at-at.ensures in
    let new = c.begin_at-at.new.stretches in
    let places : number_count (entries new) ≤ new.places = omega (arith, begun.count, begun.places, c.requires.places) in
    let two : 1 < c.get-stretch.result.count = omega (arith, c.if-stretch-count.true, c.requires.some) in
    room_for_part g.V.Says _ begun.order _ c.get-stretch.result new.places (held_within new c.begin_at-at.result begun.held) c.get-stretch.ensures two places

-- the first part stands where the whole stood
pub returns-in-Some-clause-part : goal.returns-in-Some-clause-part
returns-in-Some-clause-part g c =
    let begun = c.begin_at-at.ensures in
    let cut = c.split-behind.ensures in
    let old = c.begin_at-at.new.stretches in
    let new = c.split-behind.new.stretches in
    let same : index new c.in-Some.at ≡ index old c.begin_at-at.result = omega (arith, c.in-Some.ensures.1, cut.index) in
    subst (λ (q : ℕ). IsPart (entries new) c.args.first c.args.count q) (sym same) (record {
      within = omega (arith, held_within new c.in-Some.at c.in-Some.ensures.0, same);
      first = λ d. ap (λ (r : Stretch _). r.first) (cut.front d) ∙ ap (λ (r : Stretch _). r.first) c.get-stretch.ensures ∙ begun.begins c.get-stretch.result;
      count = λ d. ap (λ (r : Stretch _). r.count) (cut.front d);
    })

-- a stretch that begins at the number and is no longer than asked has just these numbers
pub returns-else-stretch-count-clause-part : goal.returns-else-stretch-count-clause-part
returns-else-stretch-count-clause-part g c =
    let begun = c.begin_at-at.ensures in
    let new = c.begin_at-at.new.stretches in
    part_from _ _ c.args.count _ c.get-stretch.result (held_within new c.begin_at-at.result begun.held) begun.begins (begun.long c.args.count c.requires.some c.requires.together) (subst (λ (r : Stretch _). r.count ≤ c.args.count) c.get-stretch.ensures c.if-stretch-count.false)
