use Rattle.std.proofs.Common.{◌≡◌, ◌≢◌, ℕ, Some, None, sym, ap, ◌∙◌, arith}
use Rattle.std.proofs.lemmas.Bool.{cond-true}
use Rattle.std.specs.Ordering.{nat_cmp}
use Rattle.std.specs.FinMap.{FinMap}
use Rattle.std.specs.FinMap as map
use Rattle.stretches.specs.Stretches.{said}
use Rattle.stretches.proofs.Reading.Numbers.{within}
use Rattle.stretches.proofs.Reading.Sayings.{place_said}
use Rattle.stretches.proofs.Reading.Together.{together_one}
use Rattle.mixed_map.specs.Mixed.{Mixed, without_range}
use Rattle.mixed_map.proofs.Maps.{insert_other, insert_removed, range_one}
use Rattle.mixed_map.proofs.Telling.{gone}
use Rattle.mixed_map.proofs.mixed_map.MixedMap.set.Goals as goal

pub returns-in-Some-clause-cells : goal.returns-in-Some-clause-cells
returns-in-Some-clause-cells g c = ap (λ (n : ℕ). map.insert c.args.self.now.cells n c.args.entry) c.in-Some.ensures.place.0

pub remove_stretch-requires-clause-together : goal.remove_stretch-requires-clause-together
remove_stretch-requires-clause-together g c =
    let place = place_said g.V.Says c.args.self.now.list c.args.number (c.in-None.ensures.none.1 c.requires) in
    together_one c.args.self.now.list c.args.number place.0 place.1

pub insert-requires-clause-vacant : goal.insert-requires-clause-vacant
insert-requires-clause-vacant g c =
    let r = c.remove_stretch.result in
    ap (λ (m : FinMap nat_cmp _). map.get m c.args.number) c.remove_stretch.ensures.cells ∙ gone c.args.self.now.cells r c.args.number
    ∙ cond-true _ _ _ (within r c.args.number (omega (arith, c.remove_stretch.ensures.from.begins)) (omega (arith, c.remove_stretch.ensures.from.begins, c.remove_stretch.ensures.whole)))

pub returns-in-None-clause-cells : goal.returns-in-None-clause-cells
returns-in-None-clause-cells g c =
    let cells = c.args.self.now.cells in
    let less = c.remove_stretch.ensures.cells ∙ (λ i. without_range cells (c.remove_stretch.ensures.from.begins i) (c.remove_stretch.ensures.whole i)) ∙ range_one cells c.args.number in
    ap (λ (v : Mixed _ _). v.cells) c.insert.ensures.inserted ∙ ap (λ (m : FinMap nat_cmp _). map.insert m c.args.number c.args.entry) less ∙ insert_removed cells c.args.number c.args.entry

pub returns-in-None-clause-alone : goal.returns-in-None-clause-alone
returns-in-None-clause-alone g c =
    ap (λ (v : Mixed _ _). said g.V.Says v.list c.args.number) c.insert.ensures.inserted ∙ c.remove_stretch.ensures.less c.args.number
    ∙ cond-true _ _ _ (within c.remove_stretch.result c.args.number (omega (arith, c.remove_stretch.ensures.from.begins)) (omega (arith, c.remove_stretch.ensures.from.begins, c.remove_stretch.ensures.whole)))

pub returns-in-None-clause-slots : goal.returns-in-None-clause-slots
returns-in-None-clause-slots g c p at =
    let other : p.number ≢ c.args.number = λ e. (let never : Some p.slot ≡ None = sym at ∙ ap (map.get c.args.self.now.slots) e ∙ c.in-None.ensures.none.0 in absurd (cc)) in
    ap (λ (v : Mixed _ _). map.get v.slots p.number) c.insert.ensures.inserted
    ∙ insert_other c.remove_stretch.new.self.slots c.args.number c.insert.result.slot p.number other
    ∙ ap (λ (m : FinMap nat_cmp ℕ). map.get m p.number) c.remove_stretch.ensures.slots ∙ at
