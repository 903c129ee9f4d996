use Rattle.std.proofs.Common.{List, [], length, get_or, set, sym, ap, subst, ◌∙◌, arith}
use Rattle.std.specs.List.{remove}
use Rattle.std.proofs.lemmas.List.Edits.{length-remove}
use Rattle.stretches.specs.Leaves.{IsShortBehind, Leaves, flat}
use Rattle.stretches.specs.Spots.{IsHeld, index_at}
use Rattle.stretches.proofs.Leaves.Entries.{get_flat, remove_flat}
use Rattle.stretches.proofs.Leaves.Held.{held_within}
use Rattle.stretches.proofs.Leaves.Keeping.{kept_removed}
use Rattle.stretches.proofs.Leaves.Spread.{short_of_one}
use Rattle.stretches.proofs.directory.Directory.remove.Goals as goal

pub overflow_sub-self : goal.overflow_sub-self
overflow_sub-self g c =
    let lists = ap (λ (q : Leaves _). q.lists) c.self.view_is in
    let within = held_within c.args.self.now c.args.spot c.requires in
    omega (arith, within, c.self.invariant.counted, ap (λ (q : List (List _)). length (flat q)) lists)

pub invariant_of-self : goal.invariant_of-self
invariant_of-self g c =
    let i = c.self.inside in
    let spot = c.args.spot in
    let ls = i.pool.lists in
    let held : IsHeld (record { lists = ls; places = i.places }) spot = subst (λ (q : Leaves _). IsHeld q spot) (sym c.self.view_is) c.requires in
    let leaf = get_or ls spot.leaf [] in
    let gone = length-remove leaf spot.at held.at in
    let short : IsShortBehind 64 c.remove-entry.new.self.lists spot.leaf =
    subst (λ (q : List (List _)). IsShortBehind 64 q spot.leaf) (sym c.remove-entry.ensures.lists) (short_of_one 64 ls spot.leaf (remove leaf spot.at) (omega (arith, gone)) c.self.invariant.spread) in
    rw (c.mend.ensures.limit, c.remove-entry.ensures.limit)
    (kept_removed ls i.pool.limit i.count i.places c.self.invariant (index_at ls spot.leaf spot.at) c.mend.new.pool.lists (held_within (record { lists = ls; places = i.places }) spot held)
    (c.mend.ensures.entries ∙ ap flat c.remove-entry.ensures.lists ∙ remove_flat ls spot.leaf spot.at held.leaf held.at) (c.mend.ensures.spread short))

pub returns-clause-entry : goal.returns-clause-entry
returns-clause-entry g c =
    let v = c.args.self.now in
    let spot = c.args.spot in
    let entry = c.remove-entry.result in
    let lists = ap (λ (q : Leaves _). q.lists) c.self.view_is in
    c.remove-entry.ensures.entry
    ∙ ap (λ (q : List (List _)). get_or (get_or q spot.leaf []) spot.at entry) lists
    ∙ sym (get_flat v.lists spot.leaf spot.at entry c.requires.leaf c.requires.at)

pub returns-clause-entries : goal.returns-clause-entries
returns-clause-entries g c =
    let v = c.args.self.now in
    let spot = c.args.spot in
    let lists = ap (λ (q : Leaves _). q.lists) c.self.view_is in
    c.mend.ensures.entries ∙ ap flat c.remove-entry.ensures.lists
    ∙ ap (λ (q : List (List _)). flat (set q spot.leaf (remove (get_or q spot.leaf []) spot.at))) lists
    ∙ remove_flat v.lists spot.leaf spot.at c.requires.leaf c.requires.at
