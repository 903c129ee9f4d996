use Rattle.std.proofs.Common.{◌≡◌, ℕ, ◌+◌, ◌<◌, suc, ◌∙◌, add-one, ap, subst, sym, arith, length, List, get_or, set}
use Rattle.stretches.specs.declared.stretch.Stretch.{Stretch}
use Rattle.stretches.specs.Leaves.{entries}
use Rattle.stretches.specs.Spots.{index}
use Rattle.stretches.specs.Stretch.{IsFit}
use Rattle.stretches.specs.Stretches.{AreInOrder, number_count, said}
use Rattle.stretches.proofs.Leaves.Held.{held_within}
use Rattle.stretches.proofs.Reading.Order.{fit_at}
use Rattle.stretches.proofs.Changes.MovedBound.{count_moved, moved, order_moved, said_moved}
use Rattle.stretches.proofs.Changes.Parts.{lasts_fewer}
use Rattle.stretches.proofs.bounds.move_bound.Given.{Over}
use Rattle.stretches.proofs.bounds.move_bound.Goals as goal

pub behind-requires-clause-lasts : goal.behind-requires-clause-lasts
behind-requires-clause-lasts g c =
    let old = c.args.stretches.now in
    let within : index old c.args.pair.first + 1 < length (entries old) = omega (arith, held_within old c.args.pair.second c.requires.pair.second, c.requires.pair.next) in
    let fit = subst (IsFit g.V.Says) c.requires.old (fit_at g.V.Says 0 _ c.requires.order (index old c.args.pair.first + 1) c.args.old within) in
    lasts_fewer g.V.Says g.met.V.Says.laws c.args.old.value c.args.new.count c.args.old.count (omega (arith, c.requires.fewer)) fit.lasts

pub behind-requires-clause-ends : goal.behind-requires-clause-ends
behind-requires-clause-ends g c =
    let old = c.args.stretches.now in
    let within : index old c.args.pair.first + 1 < length (entries old) = omega (arith, held_within old c.args.pair.second c.requires.pair.second, c.requires.pair.next) in
    let fit = subst (IsFit g.V.Says) c.requires.old (fit_at g.V.Says 0 _ c.requires.order (index old c.args.pair.first + 1) c.args.old within) in
    omega (arith, fit.ends, c.requires.fewer)

pub set-requires-2 : goal.set-requires-2
set-requires-2 g c = c.set.ensures.spots.held c.args.pair.second c.requires.pair.second

-- the two writes move the bound
moved_is : (g : Over) (c : goal.After-set-2 g) → entries c.set-2.new.self ≡ moved g.V.Says (entries c.args.stretches.now) (index c.args.stretches.now c.args.pair.first) c.args.before c.args.old c.args.new
moved_is g c =
    let old = c.args.stretches.now in
    let at = index old c.args.pair.first in
    c.set-2.ensures.entries
    ∙ (λ i. set
    ((c.set.ensures.entries ∙ ap (λ (r : Stretch _). set (entries old) at r) c.front.ensures) i)
    ((c.set.ensures.spots.indexes c.args.pair.second ∙ c.requires.pair.next ∙ add-one at) i)
    (c.behind.ensures i))

second_within : (g : Over) (c : goal.After-set-2 g) → suc (index c.args.stretches.now c.args.pair.first) < length (entries c.args.stretches.now)
second_within g c =
    let old = c.args.stretches.now in
    omega (arith, held_within old c.args.pair.second c.requires.pair.second, c.requires.pair.next)

second_is : (g : Over) (c : goal.After-set-2 g) → get_or (entries c.args.stretches.now) (suc (index c.args.stretches.now c.args.pair.first)) c.args.old ≡ c.args.old
second_is g c = subst (λ (k : ℕ). get_or (entries c.args.stretches.now) k c.args.old ≡ c.args.old) (add-one (index c.args.stretches.now c.args.pair.first)) c.requires.old

pub returns-clause-order : goal.returns-clause-order
returns-clause-order g c =
    let rs = entries c.args.stretches.now in
    let at = index c.args.stretches.now c.args.pair.first in
    subst (λ (ts : List (Stretch _)). AreInOrder g.V.Says 0 ts) (sym (moved_is g c))
    (order_moved g.V.Says g.met.V.Says.laws rs at c.args.before c.args.old c.args.new c.requires.order (second_within g c) c.requires.before (second_is g c) c.requires.first c.requires.fewer c.requires.fit c.requires.continues c.requires.few)

pub returns-clause-also : goal.returns-clause-also
returns-clause-also g c n =
    let rs = entries c.args.stretches.now in
    let at = index c.args.stretches.now c.args.pair.first in
    ap (λ (ts : List (Stretch _)). said g.V.Says ts n) (moved_is g c)
    ∙ said_moved g.V.Says g.met.V.Says.laws rs at c.args.before c.args.old c.args.new c.requires.order (second_within g c) c.requires.before (second_is g c) c.requires.first c.requires.fewer c.requires.fit c.requires.continues c.requires.few n

pub returns-clause-count : goal.returns-clause-count
returns-clause-count g c =
    let rs = entries c.args.stretches.now in
    let at = index c.args.stretches.now c.args.pair.first in
    ap number_count (moved_is g c)
    ∙ count_moved g.V.Says g.met.V.Says.laws rs at c.args.before c.args.old c.args.new c.requires.order (second_within g c) c.requires.before (second_is g c) c.requires.first c.requires.fewer c.requires.fit c.requires.continues c.requires.few

pub returns-clause-places : goal.returns-clause-places
returns-clause-places g c = c.set-2.ensures.places ∙ c.set.ensures.places
