use Rattle.std.proofs.Common.{rules, ◌≡◌, ◌+◌, ◌-◌, ◌≤◌, true, false}
use Rattle.std.specs.Prelude.{IfOk, IfSome, IsOk}
use Rattle.vm_ids.specs.declared.numbers.NodeId.{NodeId}
use Rattle.local_cache.specs.Own.{own_of}
use Rattle.residency.specs.Between.{world_at}
use Rattle.residency.specs.Causes.{Traffic, dirtied, dirty_count, failed_victims, pulls_for, pushes_to_bring}
use Rattle.residency.specs.Translating.{Drops}
use Rattle.residency.specs.World.{HoldsPage, World}
use Rattle.fault_path.specs.Coming.{IsBroughtIn, OnlyCome}
use Rattle.fault_path.specs.Faults.{IsFound, IsOwner, is_at_hand, is_zero}
use Rattle.fault_path.proofs.OnePage.FoundPage.{each_owner}
use Rattle.fault_path.proofs.reading.read_fault.Given.{Over}
use Rattle.fault_path.proofs.reading.read_fault.Goals.{After-owner_of-owner}
use Rattle.fault_path.proofs.reading.read_fault.Goals as goal

-- the owner that is found
owns : (g : Over) (c : After-owner_of-owner g) → IsOwner c.args.caches.now c.args.node c.owner_of-owner.result
owns g c = record { held = c.owner_of-owner.ensures.held; name = c.owner_of-owner.ensures.owner }

pub read_owner-requires-clause-unpinned : goal.read_owner-requires-clause-unpinned
read_owner-requires-clause-unpinned g c = c.requires.unpinned c.owner_of-owner.result (owns g (goal.at.read_owner-requires-clause-unpinned g c).After-owner_of-owner)

-- What is said of the owner that is found is said of each.
pub returns : goal.returns
returns g c =
    let a = c.args.caches.now in
    let it : NodeId = c.owner_of-owner.result in
    let is = owns g (goal.at.returns g c).After-owner_of-owner in
    let sound = c.requires.right.sound in
    let old : World = world_at g.M.Mapper c.args.mapper.now a c.args.store.now in
    let n = c.read_owner.new in
    let w : World = world_at g.M.Mapper n.mapper n.caches n.store in
    let r = c.read_owner.result in
    let e = c.read_owner.ensures in
    record {
      answered = e.answered;
      still = e.still;
      drops = each_owner (λ (o : NodeId). Drops (λ m. m ≡ o) a c.args.store.now n.caches n.store) a sound c.args.node it is e.drops;
      forest = e.forest;
      frames = each_owner (λ (o : NodeId). OnlyCome (IsBroughtIn a o) old w) a sound c.args.node it is e.frames;
      failed = e.failed;
      frame = each_owner (λ (o : NodeId). IfOk r (IsFound w o (own_of a o))) a sound c.args.node it is e.frame;
      within = e.within;
      value = e.value c.args.node c.requires.node is;
      given = each_owner (λ (o : NodeId). IfOk r (λ found. IfSome found (λ f. HoldsPage (own_of a o) (g.M.Mapper.given n.mapper) n.store.frames f.0))) a sound c.args.node it is e.given;
      idle = each_owner (λ (o : NodeId). is_at_hand (own_of a o) ≡ true → IsOk r × (n.store ≡ c.args.store.now) × (n.caches ≡ a) × (n.mapper ≡ c.args.mapper.now)) a sound c.args.node it is e.idle;
      traffic = each_owner (λ (o : NodeId). is_zero (own_of a o) ≡ false → Traffic (pulls_for r (own_of a o)) (dirty_count a + dirtied r (own_of a o) - dirty_count n.caches + failed_victims r) (g.M.Mapper.counts c.args.mapper.now) (g.M.Mapper.counts n.mapper)) a sound c.args.node it is e.traffic;
      few = each_owner (λ (o : NodeId). is_zero (own_of a o) ≡ false → dirty_count a + dirtied r (own_of a o) - dirty_count n.caches + failed_victims r ≤ pushes_to_bring (own_of a o) c.args.store.now.frames.held) a sound c.args.node it is e.few;
      cause = e.cause;
    }
