use Rattle.std.proofs.Common.{ap, sym, ◌+◌, ◌∙◌}
use Rattle.std.specs.Prelude.{nat_lt}
use Rattle.vm_model.specs.declared.limits.TheConstants.{LIVE_PAGES}
use Rattle.flat_mm.specs.Manager.{Manager}
use Rattle.flat_mm.specs.Store.{live_in}
use Rattle.flat_mm.proofs.Making.{plain_live}
use Rattle.flat_mm.proofs.manager.FlatMm.passes_live_pages.Goals as goal

pub returns : goal.returns
returns c = ap (λ n. nat_lt LIVE_PAGES (n + c.args.pages)) (c.live.ensures.live ∙ ap (λ (p : Manager). live_in p.store.caches) c.self.view_is ∙ sym (plain_live c.args.self.now.store.caches))
