use Rattle.std.proofs.Common.{rules}
use Rattle.residency.proofs.store.Store.narrow_picked.Goals as goal

pub returns-clause-narrowed : goal.returns-clause-narrowed
returns-clause-narrowed g c = record {
  frames = c.narrow_picked.ensures.frames;
  tables = c.narrow_picked.ensures.tables;
  answered = λ frame w. (let q = c.narrow_picked.ensures.answered frame w in search rules);
}
