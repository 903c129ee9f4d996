use Rattle.local_cache.proofs.Packing.{sayable}
use Rattle.local_cache.proofs.runs.single.Single.is_alike.Goals as goal

pub returns-in-Some-clause-says : goal.returns-in-Some-clause-says
returns-in-Some-clause-says c = λ h. sayable c.self.inside c.args.self.now c.in-Some.field-0 c.self.view_is c.self.invariant.few c.in-Some.ensures.says (c.is_tree.ensures.0 h)
