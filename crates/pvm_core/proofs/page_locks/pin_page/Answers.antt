use Rattle.std.proofs.Common.{◌+◌, true, sym}
use Rattle.local_cache.specs.Arena.{locks_of}
use Rattle.local_cache.specs.Own.{own_of}
use Rattle.local_cache.proofs.Whole.LivePages.{page_there}
use Rattle.pvm_core.proofs.Locking.Totals.{locked_now}
use Rattle.pvm_core.proofs.Locking.LockedPages.{one_more, paged_held, paged_kept, frame_some, frame_at}
use Rattle.pvm_core.proofs.page_locks.pin_page.Goals as goal

pub node_of-node-requires : goal.node_of-node-requires
node_of-node-requires c =
    let i = c.requires.whole in
    let p = c.requires.page in
    page_there c.args.caches.now i.sound c.args.cache c.args.page (i.pages c.args.cache c.args.page.0 p.0 p.1 p.2)

pub unwrap-frame-requires : goal.unwrap-frame-requires
unwrap-frame-requires c =
    frame_some c.get.result _ c.map.result.now c.args.store.now.map c.node_of-node.result (own_of c.args.caches.now c.node_of-node.result) c.map.ensures (c.requires.right.2.tied.placed.bound c.node_of-node.result) (c.requires.resident c.node_of-node.result c.node_of-node.ensures) c.get.ensures.found

pub returns : goal.returns
returns c =
    let a = c.args.caches.now in
    let s = c.args.store.now in
    let n = c.node_of-node.result in
    let at = frame_at c.get.result _ c.map.result.now s.map n c.unwrap-frame.result c.map.ensures c.get.ensures.found c.unwrap-frame.ensures in
    record {
      pages = (paged_kept a c.add_lock.new.self s c.pin.new.self c.requires.right c.requires.whole c.requires.held c.args.cache c.args.page (locks_of a c.args.cache.0 c.args.page.0 + 1) c.unwrap-frame.result.0 n c.node_of-node.ensures at.1 at.0
          c.add_lock.ensures.changed c.add_lock.ensures.locks true c.pin.ensures (sym (locked_now (locks_of a c.args.cache.0 c.args.page.0))));
      held = (paged_held a c.add_lock.new.self s c.pin.new.self c.requires.right c.requires.whole c.requires.held c.args.cache c.args.page (locks_of a c.args.cache.0 c.args.page.0 + 1) c.unwrap-frame.result.0 n c.node_of-node.ensures at.1 at.0
          c.add_lock.ensures.changed c.add_lock.ensures.locks true c.pin.ensures (sym (locked_now (locks_of a c.args.cache.0 c.args.page.0))));
      locks = (one_more c.args.caches.now c.add_lock.new.self c.args.cache c.args.page.0 _ c.add_lock.ensures.changed c.add_lock.ensures.locks
          );
    }
