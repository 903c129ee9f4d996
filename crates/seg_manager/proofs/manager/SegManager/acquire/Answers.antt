use Rattle.std.proofs.Common.{refl}
use Rattle.seg_manager.specs.Inner.{first_of}
use Rattle.seg_manager.proofs.Opens.AgainCall.{acquired_by}
use Rattle.seg_manager.proofs.Lookup.Finding.{place_below}
use Rattle.seg_manager.proofs.manager.SegManager.acquire.Goals as goal

pub open_again-requires : goal.open_again-requires
open_again-requires g c = place_below (first_of c.args.seg.0) c.args.self.now.caches.items c.args.self.now.caches.items c.in-Some.place refl c.in-Some.ensures

pub returns-in-Some : goal.returns-in-Some
returns-in-Some g c =
    acquired_by g.M.Mapper g.G.Gmi c.args.mapper.now c.args.self.now c.args.seg c.in-Some.place c.requires.can c.in-Some.ensures c.open_again.result c.open_again.new.self c.open_again.ensures
