use Rattle.std.proofs.Common.{◌≡◌, ℕ, Option, Some, None, is_some, ap, subst, sym, ◌∙◌}
use Rattle.std.specs.Prelude.{OnErr}
use Rattle.vm_ids.specs.Counting.{RoseBy}
use Rattle.vm_ids.specs.declared.numbers.NodeId.{NodeId}
use Rattle.global_map.specs.Pairs.{node_of}
use Rattle.local_cache.specs.declared.home.Home.{Home}
use Rattle.local_cache.specs.Home.{home_of}
use Rattle.local_cache.specs.Own.{own_of}
use Rattle.residency.specs.Between.{world_at}
use Rattle.residency.specs.Evicting.{HasLeft, IsEvicted}
use Rattle.residency.specs.World.{World, is_clean}
use Rattle.residency.proofs.Worlds.Arms.{on_ok_then}
use Rattle.residency.proofs.Moves.Evicted.{evicts_dirty, evicts_others, evicts_still}
use Rattle.residency.proofs.Worlds.Homes.{IsHome, home_of_held, unchanged}
use Rattle.residency.proofs.Pushes.Told.{evicts_told}
use Rattle.residency.proofs.Translations.Lost.{evicts_tables}
use Rattle.residency.proofs.store.Store.evict.Given.{Over}
use Rattle.residency.proofs.store.Store.evict.Goals.{After-send_home, After-send_to_slot, After-unwrap-node}
use Rattle.residency.proofs.store.Store.evict.Goals as goal

-- the frame is that of its node
at_home : (g : Over) (c : After-unwrap-node g) → IsHome (world_at g.M.Mapper c.args.mapper.now c.args.caches.now c.args.self.now) c.args.frame.0 c.unwrap-node.result
at_home g c = home_of_held _ c.args.frame.0 c.unwrap-node.result c.requires.right c.requires.held (sym c.node_at.ensures ∙ c.unwrap-node.ensures)

pub home-requires : goal.home-requires
home-requires g c = (at_home g (goal.at.home-requires g c).After-unwrap-node).there

-- the page of the frame's node is where it belongs
left_as : (w v : World) (f : ℕ) (n : NodeId) (o : Option Home) → o ≡ home_of w.caches n → node_of w.map f ≡ Some n → HasLeft o (is_clean (own_of w.caches n)) f n w v → IsEvicted f w v
left_as w v f n o is was left = record { node = n; was = was; has_left = subst (λ o. HasLeft o (is_clean (own_of w.caches n)) f n w v) is left }

pub returns-in-Some-clause-evicted : goal.returns-in-Some-clause-evicted
returns-in-Some-clause-evicted g c = on_ok_then _ _ c.send_home.result (left_as _ _ c.args.frame.0 c.unwrap-node.result (Some c.in-Some.home) (sym c.in-Some.is ∙ c.home.ensures) (sym c.node_at.ensures ∙ c.unwrap-node.ensures)) c.send_home.ensures.left

-- after a failure everything is as it was
send_home_failed : (g : Over) (c : After-send_home g)
    → OnErr c.send_home.result (world_at g.M.Mapper c.send_home.new.mapper c.send_home.new.caches c.send_home.new.self ≡ world_at g.M.Mapper c.args.mapper.now c.args.caches.now c.args.self.now)
send_home_failed g c =
    let e = c.send_home.ensures in
    unchanged c.send_home.result _ _ _ _ _ _ c.args.self.now c.send_home.new.self e.failed e.failed_caches e.failed_held e.page_bytes

pub returns-in-Some-clause-still : goal.returns-in-Some-clause-still
returns-in-Some-clause-still g c = evicts_still _ _ c.args.frame.0 c.requires.right c.requires.held c.requires.unpinned c.send_home.result (returns-in-Some-clause-evicted g c) (send_home_failed g c)

pub returns-in-Some-clause-others : goal.returns-in-Some-clause-others
returns-in-Some-clause-others g c = evicts_others _ _ c.args.frame.0 c.requires.right c.requires.held c.requires.unpinned c.send_home.result (returns-in-Some-clause-evicted g c) (send_home_failed g c)

pub returns-in-Some-clause-dirty : goal.returns-in-Some-clause-dirty
returns-in-Some-clause-dirty g c = evicts_dirty _ _ c.args.frame.0 c.requires.right c.requires.held c.requires.unpinned c.send_home.result (returns-in-Some-clause-evicted g c)

pub returns-in-Some-clause-told : goal.returns-in-Some-clause-told
returns-in-Some-clause-told g c =
    evicts_told _ _ (g.M.Mapper.counts c.args.mapper.now) (g.M.Mapper.counts c.send_home.new.mapper) c.args.frame.0 c.requires.right c.requires.held c.send_home.result (returns-in-Some-clause-evicted g c) (send_home_failed g c)
    c.send_home.ensures.counts.pushes_later c.send_home.ensures.counts.pushed

pub returns-in-Some-clause-tables : goal.returns-in-Some-clause-tables
returns-in-Some-clause-tables g c =
    let at = at_home g (goal.at.returns-in-Some-clause-tables g c).After-unwrap-node in
    evicts_tables c.send_home.result c.args.frame.0 c.args.self.now c.send_home.new.self at.frame (ap is_some at.node) c.send_home.ensures.emptied c.send_home.ensures.failed

pub returns-in-None-clause-evicted : goal.returns-in-None-clause-evicted
returns-in-None-clause-evicted g c = on_ok_then _ _ c.send_to_slot.result (left_as _ _ c.args.frame.0 c.unwrap-node.result None (sym c.in-None.is ∙ c.home.ensures) (sym c.node_at.ensures ∙ c.unwrap-node.ensures)) c.send_to_slot.ensures.left

-- after a failure everything is as it was
send_to_slot_failed : (g : Over) (c : After-send_to_slot g)
    → OnErr c.send_to_slot.result (world_at g.M.Mapper c.send_to_slot.new.mapper c.send_to_slot.new.caches c.send_to_slot.new.self ≡ world_at g.M.Mapper c.args.mapper.now c.args.caches.now c.args.self.now)
send_to_slot_failed g c =
    let e = c.send_to_slot.ensures in
    unchanged c.send_to_slot.result _ _ _ _ _ _ c.args.self.now c.send_to_slot.new.self e.failed e.failed_caches e.failed_held e.page_bytes

pub returns-in-None-clause-still : goal.returns-in-None-clause-still
returns-in-None-clause-still g c = evicts_still _ _ c.args.frame.0 c.requires.right c.requires.held c.requires.unpinned c.send_to_slot.result (returns-in-None-clause-evicted g c) (send_to_slot_failed g c)

pub returns-in-None-clause-others : goal.returns-in-None-clause-others
returns-in-None-clause-others g c = evicts_others _ _ c.args.frame.0 c.requires.right c.requires.held c.requires.unpinned c.send_to_slot.result (returns-in-None-clause-evicted g c) (send_to_slot_failed g c)

pub returns-in-None-clause-dirty : goal.returns-in-None-clause-dirty
returns-in-None-clause-dirty g c = evicts_dirty _ _ c.args.frame.0 c.requires.right c.requires.held c.requires.unpinned c.send_to_slot.result (returns-in-None-clause-evicted g c)

pub returns-in-None-clause-told : goal.returns-in-None-clause-told
returns-in-None-clause-told g c =
    evicts_told _ _ (g.M.Mapper.counts c.args.mapper.now) (g.M.Mapper.counts c.send_to_slot.new.mapper) c.args.frame.0 c.requires.right c.requires.held c.send_to_slot.result (returns-in-None-clause-evicted g c) (send_to_slot_failed g c)
    c.send_to_slot.ensures.counts.pushes_later (subst (λ k. RoseBy k (g.M.Mapper.counts c.args.mapper.now).pushes (g.M.Mapper.counts c.send_to_slot.new.mapper).pushes) (sym c.send_to_slot.ensures.dirty) c.send_to_slot.ensures.counts.pushed)

pub returns-in-None-clause-tables : goal.returns-in-None-clause-tables
returns-in-None-clause-tables g c =
    let at = at_home g (goal.at.returns-in-None-clause-tables g c).After-unwrap-node in
    evicts_tables c.send_to_slot.result c.args.frame.0 c.args.self.now c.send_to_slot.new.self at.frame (ap is_some at.node) c.send_to_slot.ensures.emptied c.send_to_slot.ensures.failed
