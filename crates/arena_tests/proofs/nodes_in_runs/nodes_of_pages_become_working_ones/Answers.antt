use Rattle.std.proofs.Common.{ap, lit<}
use Rattle.std.specs.Prelude.{is_some}
use Rattle.arena_tests.proofs.nodes_in_runs.nodes_of_pages_become_working_ones.Goals as goal

pub node_of-first-requires : goal.node_of-first-requires
node_of-first-requires g c = ap is_some (c.make_temp-cache.ensures.pages 0 (lit< tt)).at

pub to_working_many-requires-clause-held : goal.to_working_many-requires-clause-held
to_working_many-requires-clause-held g c k less = (c.stretch-count.ensures.alike k less).held
