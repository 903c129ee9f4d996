use Rattle.std.proofs.Common.{refl}
use Rattle.actor_script.proofs.Generated.{first_actor, second_actor}
use Rattle.actor_script.proofs.generator.lines.actor_of.Goals as goal

pub returns-then-mapping-lt2-clause-text : goal.returns-then-mapping-lt2-clause-text
returns-then-mapping-lt2-clause-text c = rw (first_actor c.args.mapping c.if-mapping-lt2.true) refl

pub returns-else-mapping-lt2-clause-text : goal.returns-else-mapping-lt2-clause-text
returns-else-mapping-lt2-clause-text c = rw (second_actor c.args.mapping c.requires c.if-mapping-lt2.false) refl
