use Rattle.std.proofs.Common.{rules, sym}
use Rattle.segment_ops.proofs.Unsaved.{bare_saved, owned_unsaved}
use Rattle.segment_ops.proofs.saving.reader.Goals as goal

pub returns-then-is_absent-clause-unsaved : goal.returns-then-is_absent-clause-unsaved
returns-then-is_absent-clause-unsaved c = sym (bare_saved c.args.caches.now c.requires.sound c.args.node c.requires.node (search rules))

pub returns-else-is_absent-clause-unsaved : goal.returns-else-is_absent-clause-unsaved
returns-else-is_absent-clause-unsaved c = owned_unsaved c.args.caches.now c.requires.sound c.args.node c.requires.node (search rules) c.heir.result c.heir.ensures.heir
