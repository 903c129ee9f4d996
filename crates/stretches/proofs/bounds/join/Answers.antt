use Rattle.std.proofs.Common.{◌≡◌, ℕ, ◌+◌, ◌<◌, suc, ◌∙◌, add-one, ap, subst, sym, arith, length, List, get_or, set}
use Rattle.std.specs.List.{remove}
use Rattle.stretches.specs.declared.stretch.Stretch.{Stretch}
use Rattle.stretches.specs.Leaves.{entries}
use Rattle.stretches.specs.Spots.{index}
use Rattle.stretches.specs.Stretches.{AreInOrder, number_count, said}
use Rattle.stretches.proofs.Leaves.Held.{held_within}
use Rattle.stretches.proofs.Changes.Joining.{count_merged, length_merged, merged, order_merged, said_merged}
use Rattle.stretches.proofs.bounds.join.Given.{Over}
use Rattle.stretches.proofs.bounds.join.Goals as goal

-- the two writes leave the two stretches as one
merged_is : (g : Over) (c : goal.After-remove g) → entries c.remove.new.self ≡ merged (entries c.args.stretches.now) (index c.args.stretches.now c.args.pair.first) c.args.stretch c.args.next
merged_is g c =
    let old = c.args.stretches.now in
    let at = index old c.args.pair.first in
    c.remove.ensures.entries
    ∙ (λ i. remove
    ((c.set.ensures.entries ∙ ap (λ (r : Stretch _). set (entries old) at r) c.front.ensures) i)
    ((c.set.ensures.spots.indexes c.args.pair.second ∙ c.requires.pair.next ∙ add-one at) i))

second_within : (g : Over) (c : goal.After-remove g) → suc (index c.args.stretches.now c.args.pair.first) < length (entries c.args.stretches.now)
second_within g c =
    let old = c.args.stretches.now in
    omega (arith, held_within old c.args.pair.second c.requires.pair.second, c.requires.pair.next)

second_is : (g : Over) (c : goal.After-remove g) → get_or (entries c.args.stretches.now) (suc (index c.args.stretches.now c.args.pair.first)) c.args.next ≡ c.args.next
second_is g c = subst (λ (k : ℕ). get_or (entries c.args.stretches.now) k c.args.next ≡ c.args.next) (add-one (index c.args.stretches.now c.args.pair.first)) c.requires.next

pub remove-requires : goal.remove-requires
remove-requires g c = c.set.ensures.spots.held c.args.pair.second c.requires.pair.second

pub returns-clause-order : goal.returns-clause-order
returns-clause-order g c =
    let at = index c.args.stretches.now c.args.pair.first in
    subst (λ (rs : List (Stretch _)). AreInOrder g.V.Says 0 rs) (sym (merged_is g c)) (order_merged g.V.Says g.met.V.Says.laws 0 _ at c.args.stretch c.args.next c.requires.order (second_within g c) c.requires.stretch (second_is g c) c.requires.continues c.requires.few)

pub returns-clause-same : goal.returns-clause-same
returns-clause-same g c n =
    let at = index c.args.stretches.now c.args.pair.first in
    ap (λ (rs : List (Stretch _)). said g.V.Says rs n) (merged_is g c) ∙ said_merged g.V.Says g.met.V.Says.laws _ at c.args.stretch c.args.next (second_within g c) c.requires.stretch (second_is g c) c.requires.continues n

pub returns-clause-len : goal.returns-clause-len
returns-clause-len g c = ap (λ (rs : List (Stretch _)). length rs + 1) (merged_is g c) ∙ length_merged _ (index c.args.stretches.now c.args.pair.first) c.args.stretch c.args.next (second_within g c)

pub returns-clause-count : goal.returns-clause-count
returns-clause-count g c =
    let at = index c.args.stretches.now c.args.pair.first in
    ap number_count (merged_is g c) ∙ count_merged _ at c.args.stretch c.args.next (second_within g c) c.requires.stretch (second_is g c)

pub returns-clause-places : goal.returns-clause-places
returns-clause-places g c = c.remove.ensures.places ∙ c.set.ensures.places
