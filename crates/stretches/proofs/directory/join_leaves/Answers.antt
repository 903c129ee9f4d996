use Rattle.std.proofs.Common.{◌≡◌, ℕ, suc, List, [], ◌++◌, get_or, set, ap, add-one, ◌∙◌, arith}
use Rattle.std.specs.List.{remove}
use Rattle.stretches.proofs.Leaves.Mending.{joined_is}
use Rattle.stretches.proofs.directory.join_leaves.Goals as goal

pub returns-clause-joined : goal.returns-clause-joined
returns-clause-joined g c =
    let ls = c.args.pool.now.lists in
    let leaf = c.args.leaf in
    let next : c.args.behind ≡ suc leaf = c.requires.next ∙ add-one leaf in
    c.close.ensures.lists
    ∙ ap (λ (q : List (List _)). remove q c.args.behind) c.move_rest.ensures.lists
    ∙ ap (λ (q : ℕ). remove (set (set ls leaf (get_or ls leaf [] ++ get_or ls q [])) q []) q) next
    ∙ joined_is ls leaf (omega (arith, next, c.requires.leaf))
