use Rattle.std.proofs.Common.{rules}
use Rattle.residency.specs.Between.{world_at}
use Rattle.residency.specs.World.{World}
use Rattle.fault_path.specs.Translating.{Nobody}
use Rattle.residency.proofs.Translations.Kept.{same_drops, still_drops}
use Rattle.segment_ops.proofs.GivenUp.{evicted_out}
use Rattle.segment_ops.proofs.pushing.let_go.Goals as goal

pub returns-in-Some-clause-out : goal.returns-in-Some-clause-out
returns-in-Some-clause-out g c =
    let M = g.M.Mapper in
    let old : World = world_at M c.args.mapper.now c.args.caches.now c.args.store.now in
    let v : World = world_at M c.evict.new.mapper c.evict.new.caches c.evict.new.self in
    evicted_out old v c.in-Some.frame.0 c.args.node c.evict.result _ c.unwrap.ensures c.evict.ensures.evicted (search rules)

pub returns-in-Some-clause-drops : goal.returns-in-Some-clause-drops
returns-in-Some-clause-drops g c =
    let M = g.M.Mapper in
    let e = c.evict.ensures in
    still_drops (M.held c.args.mapper.now) (M.held c.evict.new.mapper) (M.page_bytes c.args.mapper.now) (M.page_bytes c.evict.new.mapper) c.args.caches.now c.evict.new.caches c.args.store.now c.evict.new.self
    c.requires.right.tied e.still.stays e.tables e.others

pub returns-in_default-clause-drops : goal.returns-in_default-clause-drops
returns-in_default-clause-drops g c = same_drops Nobody c.args.caches.now c.args.store.now c.requires.right.tied.placed
