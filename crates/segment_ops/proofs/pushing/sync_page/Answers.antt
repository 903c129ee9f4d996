use Rattle.std.proofs.Common.{rules}
use Rattle.residency.specs.Between.{world_at}
use Rattle.residency.specs.World.{World}
use Rattle.fault_path.specs.Faults.{IsOwner}
use Rattle.residency.proofs.Translations.Kept.{same_drops}
use Rattle.segment_ops.proofs.SyncedPages.{clean_synced}
use Rattle.segment_ops.proofs.Values.{home_held}
use Rattle.segment_ops.proofs.pushing.sync_page.Goals as goal

pub is_clean-requires : goal.is_clean-requires
is_clean-requires g c =
    let old : World = world_at g.M.Mapper c.args.mapper.now c.args.caches.now c.args.store.now in
    home_held old c.requires.right.sound c.requires.right.shaped c.args.node c.requires.home

pub returns-then-is_clean-clause-synced : goal.returns-then-is_clean-clause-synced
returns-then-is_clean-clause-synced g c =
    let old : World = world_at g.M.Mapper c.args.mapper.now c.args.caches.now c.args.store.now in
    clean_synced old c.requires.right.store c.requires.right.sound c.requires.right.shaped c.args.node (home_held old c.requires.right.sound c.requires.right.shaped c.args.node c.requires.home) (search rules)

pub home-requires : goal.home-requires
home-requires g c =
    let old : World = world_at g.M.Mapper c.args.mapper.now c.args.caches.now c.args.store.now in
    home_held old c.requires.right.sound c.requires.right.shaped c.args.node c.requires.home

pub returns-then-is_clean-clause-drops : goal.returns-then-is_clean-clause-drops
returns-then-is_clean-clause-drops g c = same_drops (IsOwner c.args.caches.now c.args.node) c.args.caches.now c.args.store.now c.requires.right.store.tied.placed
