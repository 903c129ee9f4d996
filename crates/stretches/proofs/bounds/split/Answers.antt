use Rattle.std.proofs.Common.{◌≡◌, ℕ, ◌+◌, ◌≤◌, ◌∙◌, add-one, ap, subst, sym, arith, length, List, get_or, set, length-set}
use Rattle.std.specs.List.{insert}
use Rattle.stretches.specs.declared.stretch.Stretch.{Stretch}
use Rattle.stretches.specs.Leaves.{entries}
use Rattle.stretches.specs.Spots.{index}
use Rattle.stretches.specs.Stretch.{IsFit}
use Rattle.stretches.specs.Stretches.{AreInOrder, BeginsAt, number_count, said}
use Rattle.stretches.proofs.Leaves.Held.{held_within}
use Rattle.stretches.proofs.Reading.Order.{fit_at}
use Rattle.stretches.proofs.Changes.Parts.{lasts_fewer}
use Rattle.stretches.proofs.Changes.Splitting.{begins_parted, behind_parted, count_parted, front_parted, order_parted, parted, said_parted}
use Rattle.stretches.proofs.bounds.split.Given.{Over}
use Rattle.stretches.proofs.bounds.split.Goals as goal

pub behind-requires-clause-lasts : goal.behind-requires-clause-lasts
behind-requires-clause-lasts g c =
    let old = c.args.stretches.now in
    let fit = subst (IsFit g.V.Says) c.requires.stretch (fit_at g.V.Says 0 _ c.requires.order (index old c.args.at) c.args.stretch (held_within old c.args.at c.requires.held)) in
    lasts_fewer g.V.Says g.met.V.Says.laws c.args.stretch.value c.args.by c.args.stretch.count (omega (arith, c.requires.part)) fit.lasts

pub behind-requires-clause-ends : goal.behind-requires-clause-ends
behind-requires-clause-ends g c =
    let old = c.args.stretches.now in
    let fit = subst (IsFit g.V.Says) c.requires.stretch (fit_at g.V.Says 0 _ c.requires.order (index old c.args.at) c.args.stretch (held_within old c.args.at c.requires.held)) in
    omega (arith, fit.ends, c.requires.part)

pub insert_behind-requires-clause-held : goal.insert_behind-requires-clause-held
insert_behind-requires-clause-held g c = c.set.ensures.spots.held c.args.at c.requires.held

pub insert_behind-requires-clause-room : goal.insert_behind-requires-clause-room
insert_behind-requires-clause-room g c =
    let old = c.args.stretches.now in
    let long : length (entries c.set.new.self) ≡ length (entries old) = ap length c.set.ensures.entries ∙ length-set (entries old) (index old c.args.at) c.front.result in
    omega (arith, long, c.set.ensures.places, c.requires.room)

-- the two writes leave the stretch in two
parted_is : (g : Over) (c : goal.After-insert_behind g) → entries c.insert_behind.new.self ≡ parted g.V.Says (entries c.args.stretches.now) (index c.args.stretches.now c.args.at) c.args.stretch c.args.by
parted_is g c =
    let old = c.args.stretches.now in
    let at = index old c.args.at in
    c.insert_behind.ensures.entries
    ∙ (λ i. insert
    ((c.set.ensures.entries ∙ ap (λ (r : Stretch _). set (entries old) at r) c.front.ensures) i)
    ((ap (λ (q : ℕ). q + 1) (c.set.ensures.spots.indexes c.args.at) ∙ add-one at) i)
    (c.behind.ensures i))

pub returns-clause-order : goal.returns-clause-order
returns-clause-order g c =
    let old = c.args.stretches.now in
    subst (λ (rs : List (Stretch _)). AreInOrder g.V.Says 0 rs) (sym (parted_is g c)) (order_parted g.V.Says g.met.V.Says.laws 0 _ (index old c.args.at) c.args.by c.args.stretch c.requires.order (held_within old c.args.at c.requires.held) c.requires.stretch c.requires.some c.requires.part)

pub returns-clause-same : goal.returns-clause-same
returns-clause-same g c n =
    let old = c.args.stretches.now in
    let le : c.args.by ≤ c.args.stretch.count = omega (arith, c.requires.part) in
    ap (λ (rs : List (Stretch _)). said g.V.Says rs n) (parted_is g c) ∙ said_parted g.V.Says g.met.V.Says.laws _ (index old c.args.at) c.args.by c.args.stretch (held_within old c.args.at c.requires.held) c.requires.stretch le n

pub returns-clause-begins : goal.returns-clause-begins
returns-clause-begins g c =
    let old = c.args.stretches.now in
    subst (λ (rs : List (Stretch _)). BeginsAt rs (c.args.stretch.first + c.args.by)) (sym (parted_is g c)) (begins_parted g.V.Says _ (index old c.args.at) c.args.by c.args.stretch (held_within old c.args.at c.requires.held))

pub returns-clause-index : goal.returns-clause-index
returns-clause-index g c = c.insert_behind.ensures.index ∙ ap (λ (q : ℕ). q + 1) (c.set.ensures.spots.indexes c.args.at)

pub returns-clause-front : goal.returns-clause-front
returns-clause-front g c d =
    let old = c.args.stretches.now in
    ap (λ (rs : List (Stretch _)). get_or rs (index old c.args.at) d) (parted_is g c) ∙ front_parted g.V.Says _ (index old c.args.at) c.args.by c.args.stretch (held_within old c.args.at c.requires.held) d

pub returns-clause-behind : goal.returns-clause-behind
returns-clause-behind g c d =
    let old = c.args.stretches.now in
    (λ i. get_or (parted_is g c i) (add-one (index old c.args.at) i) d) ∙ behind_parted g.V.Says _ (index old c.args.at) c.args.by c.args.stretch (held_within old c.args.at c.requires.held) d

pub returns-clause-count : goal.returns-clause-count
returns-clause-count g c =
    let old = c.args.stretches.now in
    let le : c.args.by ≤ c.args.stretch.count = omega (arith, c.requires.part) in
    ap number_count (parted_is g c) ∙ count_parted g.V.Says _ (index old c.args.at) c.args.by c.args.stretch (held_within old c.args.at c.requires.held) c.requires.stretch le

pub returns-clause-places : goal.returns-clause-places
returns-clause-places g c = c.insert_behind.ensures.places ∙ c.set.ensures.places
