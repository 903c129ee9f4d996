use Rattle.std.proofs.Common.{ap, ◌∙◌}
use Rattle.std.specs.FinMap as map
use Rattle.mixed_map.proofs.Maps.{remove_same}
use Rattle.local_cache.specs.ThinNodes.{Thin, changed_to}
use Rattle.local_cache.proofs.Thinness.{changed_again}
use Rattle.local_cache.proofs.runs.thin_nodes.ThinNodes.exchange.Goals as goal

pub enter-requires-clause-free : goal.enter-requires-clause-free
enter-requires-clause-free c = ap (λ (t : Thin). map.get t.alone c.args.slot) c.leave.ensures ∙ remove_same c.args.self.now.alone c.args.slot c.args.slot (λ i. c.args.slot)

pub returns : goal.returns
returns c =
    c.enter.ensures ∙ ap (λ (t : Thin). record t { alone = changed_to t.alone c.args.slot c.args.now }) c.leave.ensures
    ∙ (λ i. record c.args.self.now { alone = changed_again c.args.self.now.alone c.args.slot c.args.now i })
