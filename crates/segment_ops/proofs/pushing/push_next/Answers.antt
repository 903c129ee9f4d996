use Rattle.std.proofs.Common.{ap, is_some, arith}
use Rattle.vm_ids.specs.declared.numbers.NodeId.{NodeId}
use Rattle.fault_path.specs.Faults.{IsOwner}
use Rattle.residency.specs.Between.{world_at}
use Rattle.residency.specs.World.{World}
use Rattle.residency.proofs.Translations.Kept.{drops_more, same_drops}
use Rattle.segment_ops.specs.Translating.{IsReadBy}
use Rattle.segment_ops.proofs.AlikePages.{alike_synced}
use Rattle.segment_ops.proofs.Granting.{range_home}
use Rattle.segment_ops.proofs.pushing.push_next.Goals.{After-sync_page}
use Rattle.segment_ops.proofs.pushing.push_next.Given.{Over}
use Rattle.segment_ops.proofs.pushing.push_next.Goals as goal

pub clean_nodes-clean-requires : goal.clean_nodes-clean-requires
clean_nodes-clean-requires g c = (c.requires.right.sound.kept.listed.nodes c.args.range.cache.0 c.args.range.first.0 c.node_of-node.result c.node_of-node.ensures).0

pub returns-then-clean-gt0-clause-synced : goal.returns-then-clean-gt0-clause-synced
returns-then-clean-gt0-clause-synced g c =
    let M = g.M.Mapper in
    let w : World = world_at M c.args.mapper.now c.args.caches.now c.args.store.now in
    let r = c.requires.right in
    let e = c.clean_nodes-clean.ensures in
    alike_synced w r.store r.sound r.shaped c.args.range c.node_of-node.result c.node_of-node.ensures c.clean_nodes-clean.result e.alike (e.clean c.if-clean-gt0.true)

pub returns-then-clean-gt0-clause-drops : goal.returns-then-clean-gt0-clause-drops
returns-then-clean-gt0-clause-drops g c = same_drops (IsReadBy c.args.caches.now c.args.range) c.args.caches.now c.args.store.now c.requires.right.store.tied.placed

pub sync_page-requires-clause-home : goal.sync_page-requires-clause-home
sync_page-requires-clause-home g c =
    let named = c.requires.named in
    ap is_some (range_home c.args.caches.now c.requires.right.sound c.args.range.cache c.args.range.first.0 c.node_of-node.result named.0 c.node_of-node.ensures named.1)

-- the owner of the first page is one of a page of the range
read : (g : Over) (c : After-sync_page g) (o : NodeId) → IsOwner c.args.caches.now c.node_of-node.result o → IsReadBy c.args.caches.now c.args.range o
read g c o owner = (c.node_of-node.result, (c.args.range.first.0, (omega arith, omega (arith, c.requires.some)), c.node_of-node.ensures), owner)

pub returns-in_err-sync_page-clause-drops : goal.returns-in_err-sync_page-clause-drops
returns-in_err-sync_page-clause-drops g c =
    drops_more (IsOwner c.args.caches.now c.node_of-node.result) (IsReadBy c.args.caches.now c.args.range) c.args.caches.now c.sync_page.new.caches c.args.store.now c.sync_page.new.store
    (read g (goal.at.returns-in_err-sync_page-clause-drops g c).After-sync_page) c.sync_page.ensures.drops

pub returns-clause-drops : goal.returns-clause-drops
returns-clause-drops g c =
    drops_more (IsOwner c.args.caches.now c.node_of-node.result) (IsReadBy c.args.caches.now c.args.range) c.args.caches.now c.sync_page.new.caches c.args.store.now c.sync_page.new.store
    (read g (goal.at.returns-clause-drops g c).After-sync_page) c.sync_page.ensures.drops
