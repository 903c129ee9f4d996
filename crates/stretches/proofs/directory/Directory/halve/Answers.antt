use Rattle.std.proofs.Common.{◌≡◌, ℕ, ◌+◌, ◌<◌, ◌≤◌, List, [], ◌++◌, length, get_or, set, take, drop, sym, ap, subst, add-one, ◌∙◌}
use Rattle.std.specs.List.{insert}
use Rattle.stretches.specs.Leaves.{Leaves, entries, halved}
use Rattle.stretches.proofs.Leaves.Halving.{halved_is}
use Rattle.stretches.proofs.Leaves.Keeping.{kept_halved, leaf_left}
use Rattle.stretches.proofs.directory.Directory.halve.Goals as goal

-- the leaves after both calls
halves : {X : Type 0} (ls ms after : List (List X)) (j : ℕ) → j < length ls → ms ≡ insert ls (j + 1) []
    → after ≡ set (set ms (j + 1) (get_or ms (j + 1) [] ++ drop 64 (get_or ms j []))) j (take 64 (get_or ms j [])) → after ≡ halved ls j
halves ls ms after j less opened moved =
    moved
    ∙ ap (λ (q : ℕ). set (set ms q (get_or ms q [] ++ drop 64 (get_or ms j []))) j (take 64 (get_or ms j []))) (add-one j)
    ∙ halved_is ls ms j less (opened ∙ ap (λ (q : ℕ). insert ls q []) (add-one j))

pub open-requires-clause-room : goal.open-requires-clause-room
open-requires-clause-room g c =
    let i = c.self.inside in
    let before = sym c.self.view_is in
    leaf_left i.pool.lists i.pool.limit i.count i.places c.self.invariant c.args.leaf
    (subst (λ (q : Leaves _). c.args.leaf < length q.lists) before c.requires.leaf)
    (subst (λ (q : Leaves _). 128 ≤ length (get_or q.lists c.args.leaf [])) before c.requires.full)
    (subst (λ (q : Leaves _). length (entries q) < q.places) before c.requires.room)

pub invariant_of-self : goal.invariant_of-self
invariant_of-self g c =
    let i = c.self.inside in
    let before = sym c.self.view_is in
    let less = subst (λ (q : Leaves _). c.args.leaf < length q.lists) before c.requires.leaf in
    rw (halves i.pool.lists c.open.new.self.lists c.move_rest.new.self.lists c.args.leaf less c.open.ensures.lists c.move_rest.ensures.lists, c.move_rest.ensures.limit, c.open.ensures.limit)
    (kept_halved i.pool.lists i.pool.limit i.count i.places c.self.invariant c.args.leaf less
    (subst (λ (q : Leaves _). 128 ≤ length (get_or q.lists c.args.leaf [])) before c.requires.full))

pub returns-clause-lists : goal.returns-clause-lists
returns-clause-lists g c =
    let i = c.self.inside in
    let less = subst (λ (q : Leaves _). c.args.leaf < length q.lists) (sym c.self.view_is) c.requires.leaf in
    halves i.pool.lists c.open.new.self.lists c.move_rest.new.self.lists c.args.leaf less c.open.ensures.lists c.move_rest.ensures.lists
    ∙ ap (λ (q : Leaves _). halved q.lists c.args.leaf) c.self.view_is
