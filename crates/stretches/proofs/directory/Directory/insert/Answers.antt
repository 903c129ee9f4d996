use Rattle.std.proofs.Common.{◌≡◌, ℕ, ◌<◌, ◌≤◌, List, [], length, get_or, sym, ap, subst, ◌∙◌, arith}
use Rattle.std.specs.List.{insert}
use Rattle.std.proofs.lemmas.List.{get_or_past}
use Rattle.stretches.specs.Leaves.{Leaves, entries, flat}
use Rattle.stretches.specs.Spots.{index, index_at}
use Rattle.stretches.proofs.Leaves.Entries.{insert_flat}
use Rattle.stretches.proofs.Leaves.Held.{index_empty}
use Rattle.stretches.proofs.Leaves.Indexes.{index_before_leaf}
use Rattle.stretches.proofs.Leaves.Keeping.{kept_insert}
use Rattle.stretches.proofs.directory.Directory.insert.Goals as goal

pub returns-then-len-eq0-clause-held : goal.returns-then-len-eq0-clause-held
returns-then-len-eq0-clause-held g c = record {
  leaf = omega (arith, ap length c.begin.ensures.lists);
  at = omega (arith, ap (λ (q : List (List _)). length (get_or q 0 [])) c.begin.ensures.lists);
}

pub returns-then-len-eq0-clause-index : goal.returns-then-len-eq0-clause-index
returns-then-len-eq0-clause-index g c =
    let v = c.args.self.now in
    let spot = c.args.spot in
    let none : length v.lists ≡ 0 = omega (arith, c.len.ensures, c.if-len-eq0.true, ap (λ (q : Leaves _). length q.lists) c.self.view_is) in
    ap (λ (q : List (List _)). index_at q 0 0) c.begin.ensures.lists
    ∙ omega (arith, index_empty v.lists spot.leaf spot.at none, c.requires.spot.at, ap length (get_or_past v.lists spot.leaf [] (omega (arith, none))))

pub invariant_of-self : goal.invariant_of-self
invariant_of-self g c =
    let i = c.self-2.inside in
    let before = sym c.self-2.view_is in
    let spot = c.make_room-spot.result in
    rw (c.insert.ensures.lists, c.insert.ensures.limit)
    (kept_insert i.pool.lists i.pool.limit i.count i.places c.self-2.invariant spot.leaf spot.at c.args.entry
    (subst (λ (q : Leaves _). spot.leaf < length q.lists) before c.make_room-spot.ensures.leaf)
    (subst (λ (q : Leaves _). spot.at ≤ length (get_or q.lists spot.leaf [])) before c.make_room-spot.ensures.at))

pub returns-clause-entries : goal.returns-clause-entries
returns-clause-entries g c =
    let i = c.self-2.inside in
    let before = sym c.self-2.view_is in
    let room = c.make_room-spot.new.self in
    let spot = c.make_room-spot.result in
    let entry = c.args.entry in
    ap flat c.insert.ensures.lists
    ∙ insert_flat i.pool.lists spot.leaf spot.at entry
    (subst (λ (q : Leaves _). spot.leaf < length q.lists) before c.make_room-spot.ensures.leaf)
    (subst (λ (q : Leaves _). spot.at ≤ length (get_or q.lists spot.leaf [])) before c.make_room-spot.ensures.at)
    ∙ ap (λ (q : Leaves _). insert (entries q) (index q spot) entry) c.self-2.view_is
    ∙ ap (λ (q : List _). insert q (index room spot) entry) c.make_room-spot.ensures.entries
    ∙ ap (λ (q : ℕ). insert (entries c.args.self.now) q entry) c.make_room-spot.ensures.index

pub returns-clause-index : goal.returns-clause-index
returns-clause-index g c =
    let i = c.self-2.inside in
    let spot = c.make_room-spot.result in
    ap (λ (q : List (List _)). index_at q spot.leaf spot.at) c.insert.ensures.lists
    ∙ index_before_leaf i.pool.lists spot.leaf spot.at (insert (get_or i.pool.lists spot.leaf []) spot.at c.args.entry)
    ∙ ap (λ (q : Leaves _). index q spot) c.self-2.view_is
    ∙ c.make_room-spot.ensures.index
