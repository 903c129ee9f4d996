use Rattle.std.proofs.Common.{List, sym, subst, ◌∙◌}
use Rattle.std.specs.List.Sorted.{IsNonDecreasingBy}
use Rattle.stretches.specs.Parted.{IsParted}
use Rattle.stretches.proofs.Leaves.Finding.{leaf_rises, parted_flat, parted_none}
use Rattle.stretches.proofs.directory.Directory.spot_behind.Goals as goal

pub returns-then-leaf_count-eq0-clause-parted : goal.returns-then-leaf_count-eq0-clause-parted
returns-then-leaf_count-eq0-clause-parted g c = parted_none g.T.Keyed.key c.args.number c.args.self.now.lists (sym c.leaf_count.ensures.count ∙ c.if-leaf_count-eq0.true)

pub place_behind-requires : goal.place_behind-requires
place_behind-requires g c =
    let ls = c.args.self.now.lists in
    subst (IsNonDecreasingBy g.T.Keyed.key) (sym c.leaf.ensures) (leaf_rises g.T.Keyed.key c.args.number ls c.requires c.leaf_count.ensures.spread c.leaf_for-leaf.result c.leaf_for-leaf.ensures.within)

pub returns-clause-parted : goal.returns-clause-parted
returns-clause-parted g c =
    let ls = c.args.self.now.lists in
    parted_flat g.T.Keyed.key c.args.number ls c.requires c.leaf_count.ensures.spread c.leaf_for-leaf.result c.place_behind.result c.leaf_for-leaf.ensures
    (subst (λ (l : List _). IsParted g.T.Keyed.key l c.args.number c.place_behind.result) c.leaf.ensures c.place_behind.ensures)

pub returns-clause-spot : goal.returns-clause-spot
returns-clause-spot g c =
    let place = subst (λ (l : List _). IsParted g.T.Keyed.key l c.args.number c.place_behind.result) c.leaf.ensures c.place_behind.ensures in
    record { leaf = λ some. c.leaf_for-leaf.ensures.within; at = place.within }
