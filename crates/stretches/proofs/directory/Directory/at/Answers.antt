use Rattle.std.proofs.Common.{List, [], get_or, sym, ap, ◌∙◌}
use Rattle.stretches.specs.Leaves.{Leaves}
use Rattle.stretches.proofs.Leaves.Entries.{get_flat}
use Rattle.stretches.proofs.directory.Directory.at.Goals as goal

pub returns : goal.returns
returns g c =
    let v = c.args.self.now in
    let spot = c.args.spot in
    let entry = c.index-leaf-spot.result in
    let lists = ap (λ (q : Leaves _). q.lists) c.self.view_is in
    c.index-leaf-spot.is
    ∙ ap (λ (q : List _). get_or q spot.at entry) (c.leaf.ensures.entries ∙ ap (λ (q : List (List _)). get_or q spot.leaf []) lists)
    ∙ sym (get_flat v.lists spot.leaf spot.at entry c.requires.leaf c.requires.at)
