use Rattle.std.proofs.Common.{◌≡◌, ℕ, ◌-◌, ◌<◌, true, false, length, Some, sym, ap, arith}
use Rattle.frame_pool.specs.Pool.{is_pinned}
use Rattle.global_map.specs.Pairs.{node_of}
use Rattle.local_cache.specs.Arena.{is_locked, locks_of}
use Rattle.local_cache.specs.Own.{own_of}
use Rattle.local_cache.proofs.Whole.LivePages.{page_there}
use Rattle.pvm_core.proofs.Holding.Bound.{frame_within}
use Rattle.pvm_core.proofs.Locking.Totals.{locked_above}
use Rattle.pvm_core.proofs.Locking.Holds.{locked_frame}
use Rattle.pvm_core.proofs.Locking.LockedPages.{one_less, paged_held, paged_kept, pinned_again, frame_some, frame_at}
use Rattle.pvm_core.proofs.page_locks.unpin_page.Goals.{After-drop_lock, After-unwrap-frame}
use Rattle.pvm_core.proofs.page_locks.unpin_page.Goals as goal

pub node_of-node-requires : goal.node_of-node-requires
node_of-node-requires c =
    let i = c.requires.whole in
    let p = c.requires.page in
    page_there c.args.caches.now i.sound c.args.cache c.args.page (i.pages c.args.cache c.args.page.0 p.0 p.1 p.2)

pub unwrap-frame-requires : goal.unwrap-frame-requires
unwrap-frame-requires c =
    let n = c.node_of-node.result in
    let here = c.requires.held.resident c.args.cache.0 c.args.page.0 n c.node_of-node.ensures (locked_above (locks_of c.args.caches.now c.args.cache.0 c.args.page.0) c.requires.locked) in
    frame_some c.get.result _ c.map.result.now c.args.store.now.map n (own_of c.args.caches.now n) c.map.ensures (c.requires.right.2.tied.placed.bound n) here c.get.ensures.found

-- the page has one lock fewer
left : (c : After-drop_lock) → locks_of c.drop_lock.new.self c.args.cache.0 c.args.page.0 ≡ locks_of c.args.caches.now c.args.cache.0 c.args.page.0 - 1
left c = omega (arith, c.drop_lock.ensures.locks)

-- the frame of its node
framed : (c : After-unwrap-frame) → (c.unwrap-frame.result.0 < length c.args.store.now.map) × (node_of c.args.store.now.map c.unwrap-frame.result.0 ≡ Some c.node_of-node.result)
framed c = frame_at c.get.result _ c.map.result.now c.args.store.now.map c.node_of-node.result c.unwrap-frame.result c.map.ensures c.get.ensures.found c.unwrap-frame.ensures

-- a page that has a lock still has a frame that is pinned
still_pinned : (c : After-drop_lock) → (f : ℕ) × (node_of c.args.store.now.map f ≡ Some c.node_of-node.result) × (is_pinned c.args.store.now.frames f ≡ true)
still_pinned c =
    let a = c.args.caches.now in
    locked_frame a c.args.store.now c.requires.whole.sound c.requires.right.2.tied.placed.bound c.requires.held c.args.cache.0 c.args.page.0 c.node_of-node.result c.node_of-node.ensures (locked_above (locks_of a c.args.cache.0 c.args.page.0) c.requires.locked)

pub returns-then-locks-eq0-clause-pages : goal.returns-then-locks-eq0-clause-pages
returns-then-locks-eq0-clause-pages c =
    let at = framed (goal.at.returns-then-locks-eq0-clause-pages c).After-unwrap-frame in
    let none : locks_of c.args.caches.now c.args.cache.0 c.args.page.0 - 1 ≡ 0 = omega (arith, c.drop_lock.ensures.locks, c.locks.ensures.count, c.if-locks-eq0.true) in
    paged_kept c.args.caches.now c.drop_lock.new.self c.args.store.now c.unpin.new.self c.requires.right c.requires.whole c.requires.held c.args.cache c.args.page _ c.unwrap-frame.result.0 c.node_of-node.result c.node_of-node.ensures at.1 at.0
    c.drop_lock.ensures.changed (left (goal.at.returns-then-locks-eq0-clause-pages c).After-drop_lock) false c.unpin.ensures (sym (ap is_locked none))

pub returns-then-locks-eq0-clause-held : goal.returns-then-locks-eq0-clause-held
returns-then-locks-eq0-clause-held c =
    let at = framed (goal.at.returns-then-locks-eq0-clause-held c).After-unwrap-frame in
    let none : locks_of c.args.caches.now c.args.cache.0 c.args.page.0 - 1 ≡ 0 = omega (arith, c.drop_lock.ensures.locks, c.locks.ensures.count, c.if-locks-eq0.true) in
    paged_held c.args.caches.now c.drop_lock.new.self c.args.store.now c.unpin.new.self c.requires.right c.requires.whole c.requires.held c.args.cache c.args.page _ c.unwrap-frame.result.0 c.node_of-node.result c.node_of-node.ensures at.1 at.0
    c.drop_lock.ensures.changed (left (goal.at.returns-then-locks-eq0-clause-held c).After-drop_lock) false c.unpin.ensures (sym (ap is_locked none))

pub returns-then-locks-eq0-clause-locks : goal.returns-then-locks-eq0-clause-locks
returns-then-locks-eq0-clause-locks c = one_less c.args.caches.now c.drop_lock.new.self c.args.cache c.args.page.0 _ c.drop_lock.ensures.changed c.drop_lock.ensures.locks

pub returns-else-locks-eq0-clause-pages : goal.returns-else-locks-eq0-clause-pages
returns-else-locks-eq0-clause-pages c =
    let s = c.args.store.now in
    let f = still_pinned (goal.at.returns-else-locks-eq0-clause-pages c).After-drop_lock in
    let some : 0 < locks_of c.args.caches.now c.args.cache.0 c.args.page.0 - 1 = omega (arith, c.drop_lock.ensures.locks, c.locks.ensures.count, c.if-locks-eq0.false) in
    paged_kept c.args.caches.now c.drop_lock.new.self s s c.requires.right c.requires.whole c.requires.held c.args.cache c.args.page _ f.0 c.node_of-node.result c.node_of-node.ensures f.1 (frame_within s.map f.0 c.node_of-node.result f.1)
    c.drop_lock.ensures.changed (left (goal.at.returns-else-locks-eq0-clause-pages c).After-drop_lock) true (pinned_again s f.0 f.2) (sym (locked_above (locks_of c.args.caches.now c.args.cache.0 c.args.page.0 - 1) some))

pub returns-else-locks-eq0-clause-held : goal.returns-else-locks-eq0-clause-held
returns-else-locks-eq0-clause-held c =
    let s = c.args.store.now in
    let f = still_pinned (goal.at.returns-else-locks-eq0-clause-held c).After-drop_lock in
    let some : 0 < locks_of c.args.caches.now c.args.cache.0 c.args.page.0 - 1 = omega (arith, c.drop_lock.ensures.locks, c.locks.ensures.count, c.if-locks-eq0.false) in
    paged_held c.args.caches.now c.drop_lock.new.self s s c.requires.right c.requires.whole c.requires.held c.args.cache c.args.page _ f.0 c.node_of-node.result c.node_of-node.ensures f.1 (frame_within s.map f.0 c.node_of-node.result f.1)
    c.drop_lock.ensures.changed (left (goal.at.returns-else-locks-eq0-clause-held c).After-drop_lock) true (pinned_again s f.0 f.2) (sym (locked_above (locks_of c.args.caches.now c.args.cache.0 c.args.page.0 - 1) some))

pub returns-else-locks-eq0-clause-locks : goal.returns-else-locks-eq0-clause-locks
returns-else-locks-eq0-clause-locks c = one_less c.args.caches.now c.drop_lock.new.self c.args.cache c.args.page.0 _ c.drop_lock.ensures.changed c.drop_lock.ensures.locks
