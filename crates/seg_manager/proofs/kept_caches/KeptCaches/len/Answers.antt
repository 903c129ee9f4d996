use Rattle.std.proofs.Common.{sym, ap, ◌∙◌}
use Rattle.std.specs.Prelude.{length}
use Rattle.seg_manager.proofs.kept_caches.KeptCaches.len.Goals as goal

pub returns : goal.returns
returns c = c.len.ensures ∙ sym c.self.invariant.count ∙ ap (λ k. length k.items) c.self.view_is
