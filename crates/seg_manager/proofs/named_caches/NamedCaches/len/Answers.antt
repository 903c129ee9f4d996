use Rattle.std.proofs.Common.{arith}
use Rattle.seg_manager.proofs.named_caches.NamedCaches.len.Goals as goal

pub returns-clause-few : goal.returns-clause-few
returns-clause-few c = omega (arith, c.len.ensures, c.self.inside.list.ok, c.self.inside.list.small)
