use Rattle.flat_mm.proofs.TwoManagers.FramedAnswers.{frames_tell_answers}
use Rattle.flat_mm.proofs.TwoManagers.Runs.{agree_until_full}
use Rattle.flat_mm.proofs.laws.two_managers.Goals as goal

pub returns-clause-agree_until_full : goal.returns-clause-agree_until_full
returns-clause-agree_until_full c = agree_until_full

pub returns-clause-frames_tell_answers : goal.returns-clause-frames_tell_answers
returns-clause-frames_tell_answers c = frames_tell_answers
