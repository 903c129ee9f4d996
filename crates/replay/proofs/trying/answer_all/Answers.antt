use Rattle.replay.specs.declared.status.Status.TheVariants as statuses
use Rattle.replay.proofs.Tallying.{summed, told_counts}
use Rattle.replay.proofs.trying.answer_all.Goals as goal

pub returns-in-Ok-write_summary-clause-ends : goal.returns-in-Ok-write_summary-clause-ends
returns-in-Ok-write_summary-clause-ends g c =
    let M = g.M.Mapper in
    let call = c.answer_made.ensures.able in
    let counts = c.stat-counts.result in (
      counts,
      told_counts _ _ counts call.unlimited (c.stat-counts.ensures.answers (M.held c.answer_made.new.mapper) call.valid),
      summed statuses.Done _ _ _ counts _ _ c.new-tally.ensures (rw c.new-lines.ensures at c.in-Ok.ensures.answered) c.in-Ok-write_summary.ensures.wrote,
    )

pub returns-in-Err-write_summary-clause-ends : goal.returns-in-Err-write_summary-clause-ends
returns-in-Err-write_summary-clause-ends g c =
    let M = g.M.Mapper in
    let call = c.answer_made.ensures.able in
    let counts = c.stat-counts.result in (
      counts,
      told_counts _ _ counts call.unlimited (c.stat-counts.ensures.answers (M.held c.answer_made.new.mapper) call.valid),
      summed statuses.SinkFault _ _ _ counts _ _ c.new-tally.ensures (rw c.new-lines.ensures at c.in-Ok.ensures.answered) c.in-Err-write_summary.ensures.wrote,
    )
