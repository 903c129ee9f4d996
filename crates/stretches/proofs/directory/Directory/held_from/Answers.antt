use Rattle.std.proofs.Common.{◌≡◌, ℕ, ◌+◌, ◌<◌, List, [], length, get_or, sym, ap, subst, add-one, ◌∙◌, arith}
use Rattle.stretches.specs.Leaves.{AreSpread, Leaves}
use Rattle.stretches.specs.Spots.{index_at}
use Rattle.stretches.proofs.Leaves.Indexes.{index_end, index_turn}
use Rattle.stretches.proofs.Leaves.Spread.{some_at}
use Rattle.stretches.proofs.directory.Directory.held_from.Goals as goal

pub returns-then-leaf-len : goal.returns-then-leaf-len
returns-then-leaf-len g c =
    let v = c.args.self.now in
    let spot = c.args.spot in
    let lists = ap (λ (q : Leaves _). q.lists) c.self.view_is in
    let spread : AreSpread v.lists = subst AreSpread lists c.self.invariant.spread in
    let leaf : c.leaf.result.now ≡ get_or v.lists spot.leaf [] = c.leaf.ensures.entries ∙ ap (λ (q : List (List _)). get_or q spot.leaf []) lists in
    let less : spot.leaf + 1 < length v.lists = omega (arith, ap length lists, c.if-leaf-len.true, c.len-2.ensures) in
    let end : spot.at ≡ length (get_or v.lists spot.leaf []) = omega (arith, ap length leaf, c.if-spot-leaf.false, c.requires.at) in (
      record { leaf = less; at = some_at 64 v.lists (spot.leaf + 1) less spread },
      ap (λ (q : ℕ). index_at v.lists q 0) (add-one spot.leaf) ∙ sym (ap (index_at v.lists spot.leaf) end ∙ index_turn v.lists spot.leaf (omega (arith, less))),
    )

pub returns-else-leaf-len : goal.returns-else-leaf-len
returns-else-leaf-len g c =
    let v = c.args.self.now in
    let spot = c.args.spot in
    let lists = ap (λ (q : Leaves _). q.lists) c.self.view_is in
    let leaf : c.leaf.result.now ≡ get_or v.lists spot.leaf [] = c.leaf.ensures.entries ∙ ap (λ (q : List (List _)). get_or q spot.leaf []) lists in
    let less : spot.leaf < length v.lists = c.requires.leaf (omega (arith, ap length lists, c.len.ensures, c.if-len-eq0.false)) in
    let end : spot.at ≡ length (get_or v.lists spot.leaf []) = omega (arith, ap length leaf, c.if-spot-leaf.false, c.requires.at) in
    ap (index_at v.lists spot.leaf) end ∙ index_end v.lists spot.leaf (omega (arith, less, ap length lists, c.if-leaf-len.false, c.len-2.ensures))
