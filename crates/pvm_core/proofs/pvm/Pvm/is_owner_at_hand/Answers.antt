use Rattle.std.proofs.Common.{◌≡◌, sym, subst}
use Rattle.local_cache.specs.Arena.{HasNode}
use Rattle.local_cache.specs.Own.{own_of}
use Rattle.fault_path.specs.Faults.{is_at_hand}
use Rattle.pvm_core.specs.Manager.{Manager}
use Rattle.pvm_core.proofs.pvm.Pvm.is_owner_at_hand.Goals as goal

pub has_own_at_hand-requires : goal.has_own_at_hand-requires
has_own_at_hand-requires c = subst (λ (p : Manager). HasNode p.caches c.args.owner) (sym c.self.view_is) c.requires

pub returns : goal.returns
returns c = subst (λ (p : Manager). c.has_own_at_hand.result ≡ is_at_hand (own_of p.caches c.args.owner)) c.self.view_is c.has_own_at_hand.ensures
