-- What the calls do to the caches, link by link.
use Rattle.std.specs.Prelude.{ℕ, ◌+◌, ◌-◌, Bool, true, false, Option, Some, None}
use Rattle.std.specs.Option.{option_or}
use Rattle.vm_ids.specs.declared.numbers.NodeId.{NodeId}
use Rattle.local_cache.specs.Arena.{Arena, cell, HasNode, with_links}

abbrev pub IsHeldIf : Arena → Option NodeId → Type 0
IsHeldIf a None = Unit {0}
IsHeldIf a (Some n) = HasNode a n

abbrev pub with_behind : Arena → Option NodeId → Option NodeId → Arena
with_behind a None to = a
with_behind a (Some n) to = with_links a n (record (cell a n).links { behind = to })

-- the ends of the stubs of n, and how many they are
abbrev pub with_ends : Arena → NodeId → Option NodeId → Option NodeId → ℕ → Arena
with_ends a n first last stubs =
    with_links a n (record (cell a n).links { first = first; last = last; stubs = stubs })

-- how n hangs, and its neighbours in its parent's list
abbrev pub with_place : Arena → NodeId → Option NodeId → Bool → Option NodeId → Option NodeId
    → Arena
with_place a n parent by_stub before behind =
    with_links a n
    (record (cell a n).links {
      parent = parent;
      by_stub = by_stub;
      before = before;
      behind = behind;
    })

-- d, without a parent, at the end of the stubs of s, behind `last`
abbrev pub added : Arena → NodeId → NodeId → Option NodeId → Arena
added a d s last =
    with_ends (with_behind (with_place a d (Some s) true last None) last (Some d)) s
    (option_or (cell a s).links.first (Some d)) (Some d) ((cell a s).links.stubs + 1)

abbrev pub with_before : Arena → Option NodeId → Option NodeId → Arena
with_before a None to = a
with_before a (Some n) to = with_links a n (record (cell a n).links { before = to })

-- the end of a list, where a stub with this neighbour towards that end, and `other` on its other
-- side, was taken out
abbrev pub end_after : Option NodeId → Option NodeId → Option NodeId → Option NodeId
end_after None other end = other
end_after (Some n) other end = end

-- the stubs of p without one that stands between two neighbours
abbrev pub taken_out : Arena → NodeId → Option NodeId → Option NodeId → Arena
taken_out a p before behind =
    with_ends
    (with_before (with_behind a before behind) behind before)
    p
    (end_after before behind (cell a p).links.first)
    (end_after behind before (cell a p).links.last)
    ((cell a p).links.stubs - 1)

-- n on no parent, and without neighbours
abbrev pub loose : Arena → NodeId → Arena
loose a n = with_place a n None false None None

-- n taken out of the stubs of p, where it stands between two neighbours
abbrev pub cut_out : Arena → NodeId → NodeId → Option NodeId → Option NodeId → Arena
cut_out a n p before behind = loose (taken_out a p before behind) n

-- the list of `from`, whose stubs have `to` as their parent, behind that of `to`
abbrev pub joined : Arena → NodeId → NodeId → Arena
joined a from to =
    let given = (cell a from).links in
    let own = (cell a to).links in
    with_ends
    (with_ends
    (with_before (with_behind a own.last given.first) given.first own.last)
    to
    (option_or own.first given.first)
    (option_or given.last own.last)
    (own.stubs + given.stubs))
    from
    None
    None
    0

-- the end of a list that ended by a node with no neighbour towards that end, which y replaces, or
-- that stays
abbrev pub end_with : Option NodeId → NodeId → Option NodeId → Option NodeId
end_with None y end = Some y
end_with (Some n) y end = end

-- y, without a parent, in the place of the stub w of p, which is left without a parent
abbrev pub replaced : Arena → NodeId → NodeId → NodeId → Arena
replaced a w y p =
    let own = (cell a w).links in
    let of = (cell a p).links in
    with_place
    (with_place
    (with_ends
    (with_before (with_behind a own.before (Some y)) own.behind (Some y))
    p
    (end_with own.before y of.first)
    (end_with own.behind y of.last)
    of.stubs)
    y
    (Some p)
    true
    own.before
    own.behind)
    w
    None
    false
    None
    None
