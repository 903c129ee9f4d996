use Rattle.gmi_calls.proofs.Pushing.{pushed_start}
use Rattle.gmi_calls.proofs.segments.push_cache.Goals as goal

pub returns-in-None-clause-pushed : goal.returns-in-None-clause-pushed
returns-in-None-clause-pushed g c = pushed_start c.args.machine.now _ _ tt
