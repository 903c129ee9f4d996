use Rattle.std.proofs.Common.{is_some, ap, lit<}
use Rattle.arena_tests.proofs.merges.alike_pages_are_retired_at_once.Goals as goal

pub retire_step-step-requires-clause-sound : goal.retire_step-step-requires-clause-sound
retire_step-step-requires-clause-sound g c = c.make_temp-cache.ensures.sound (c.reserve.ensures.sound c.new-caches.ensures.sound)

pub retire_step-step-requires-clause-node : goal.retire_step-step-requires-clause-node
retire_step-step-requires-clause-node g c = ap is_some (c.make_temp-cache.ensures.pages 1 (lit< tt)).at
