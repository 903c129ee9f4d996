use Rattle.std.proofs.Common.{refl}
use Rattle.page_commands.proofs.FreedFrames.Freed.{same_freed}
use Rattle.page_commands.proofs.following.follow.Goals as goal

pub returns-in-Nothing-clause-tables : goal.returns-in-Nothing-clause-tables
returns-in-Nothing-clause-tables c = same_freed c.args.store.now c.args.store.now refl refl
