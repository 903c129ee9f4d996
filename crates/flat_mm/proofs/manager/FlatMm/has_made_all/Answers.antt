use Rattle.std.proofs.Common.{ap, length, sym, ◌∙◌}
use Rattle.std.specs.Prelude.{nat_le}
use Rattle.vm_model.specs.declared.limits.TheConstants.{MOST_MADE}
use Rattle.flat_mm.specs.Manager.{Manager}
use Rattle.flat_mm.proofs.Making.{made_many}
use Rattle.flat_mm.proofs.manager.FlatMm.has_made_all.Goals as goal

pub returns : goal.returns
returns c = ap (nat_le MOST_MADE) (c.made.ensures ∙ ap (λ (p : Manager). length p.store.caches) c.self.view_is ∙ sym (made_many c.args.self.now.store.caches))
