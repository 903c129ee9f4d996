use Rattle.std.proofs.Common.{◌≡◌, List, [], length, get_or, ap, ◌∙◌, arith}
use Rattle.stretches.specs.Leaves.{Leaves}
use Rattle.stretches.proofs.Leaves.Indexes.{index_plus}
use Rattle.stretches.proofs.directory.Directory.next_in_leaf.Goals as goal

pub returns-then-spot-len : goal.returns-then-spot-len
returns-then-spot-len g c =
    let v = c.args.self.now in
    let spot = c.args.spot in
    let lists = ap (λ (q : Leaves _). q.lists) c.self.view_is in
    let leaf : c.leaf-len.result.now ≡ get_or v.lists spot.leaf [] = c.leaf-len.ensures.entries ∙ ap (λ (q : List (List _)). get_or q spot.leaf []) lists in
    (record { leaf = c.requires.leaf; at = omega (arith, ap length leaf, c.if-spot-len.true) }, index_plus v.lists spot.leaf spot.at)
