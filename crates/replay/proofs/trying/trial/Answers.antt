use Rattle.std.proofs.Common.{refl}
use Rattle.replay.proofs.Promise.{can_call}
use Rattle.replay.proofs.Trials.{trial_ends}
use Rattle.replay.proofs.trying.trial.Goals as goal

pub answer_all-requires-clause-able : goal.answer_all-requires-clause-able
answer_all-requires-clause-able g c =
    let told = g.M.Mapper.held c.args.given.mapper.now in
    can_call _ _ told _ c.args.frames 4096 (c.in-Ok.ensures.valid told) refl c.requires.begins.page (c.in-Ok.ensures.machine told)

pub returns-clause-ends : goal.returns-clause-ends
returns-clause-ends g c = λ some.
    let told = g.M.Mapper.held c.args.given.mapper.now in
    let ends = c.answer_all.ensures.ends in
    trial_ends c.answer_all.result c.args.script c.args.frames _ _ _ _ _ _ ends.0 (c.in-Ok.ensures.machine told) (c.in-Ok.ensures.forest told) ends.1 ends.2
