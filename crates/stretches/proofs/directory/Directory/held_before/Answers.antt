use Rattle.std.proofs.Common.{◌≡◌, ◌-◌, ◌<◌, List, [], length, get_or, ap, subst, ◌∙◌, arith}
use Rattle.stretches.specs.Leaves.{AreSpread, Leaves}
use Rattle.stretches.specs.Spots.{index_at}
use Rattle.stretches.proofs.Leaves.Held.{index_back, index_last, spot_leaf}
use Rattle.stretches.proofs.Leaves.Spread.{some_at}
use Rattle.stretches.proofs.directory.Directory.held_before.Goals as goal

pub returns-then-spot-gt0 : goal.returns-then-spot-gt0
returns-then-spot-gt0 g c =
    let v = c.args.self.now in
    let spot = c.args.spot in
    let some : 0 < spot.at = omega (arith, c.if-spot-gt0.true) in
    (record { leaf = spot_leaf v spot c.requires some; at = omega (arith, c.requires.at, some) }, index_last v.lists spot.leaf spot.at some)

pub overflow_sub-result-2 : goal.overflow_sub-result-2
overflow_sub-result-2 g c =
    let spot = c.args.spot in
    let lists = ap (λ (q : Leaves _). q.lists) c.self.view_is in
    let less : spot.leaf < length c.args.self.now.lists = c.requires.leaf (omega (arith, ap length lists, c.len.ensures, c.if-len-eq0.false)) in
    let some = some_at 64 c.self.inside.pool.lists (spot.leaf - 1) (omega (arith, ap length lists, less, c.if-spot-eq0.false)) c.self.invariant.spread in
    omega (arith, ap length c.leaf.ensures.entries, some)

pub returns : goal.returns
returns g c =
    let v = c.args.self.now in
    let spot = c.args.spot in
    let lists = ap (λ (q : Leaves _). q.lists) c.self.view_is in
    let spread : AreSpread v.lists = subst AreSpread lists c.self.invariant.spread in
    let less : spot.leaf < length v.lists = c.requires.leaf (omega (arith, ap length lists, c.len.ensures, c.if-len-eq0.false)) in
    let leaf : c.leaf.result.now ≡ get_or v.lists (spot.leaf - 1) [] = c.leaf.ensures.entries ∙ ap (λ (q : List (List _)). get_or q (spot.leaf - 1) []) lists in
    let some = some_at 64 v.lists (spot.leaf - 1) (omega (arith, less, c.if-spot-eq0.false)) spread in
    let first : 0 ≡ spot.at = omega (arith, c.if-spot-gt0.false) in
    rw leaf (record { leaf = omega (arith, less); at = omega (arith, some) }, index_back v.lists spot.leaf (omega (arith, c.if-spot-eq0.false)) less spread ∙ ap (index_at v.lists spot.leaf) first)
