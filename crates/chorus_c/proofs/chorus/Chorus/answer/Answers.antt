use Rattle.std.proofs.Common.{◌+◌, ℕ, ap}
use Rattle.chorus_c.proofs.Answering.{answered}
use Rattle.chorus_c.proofs.chorus.Chorus.answer.Goals as goal

pub returns : goal.returns
returns c =
    answered _ _ c.self.inside.manager c.self.inside.mapper c.self.inside.bound c.args.command.now c.answer-answer.result c.self.view_is c.answer-answer.ensures.call.answers c.answer-answer.ensures.call.asks_first
    (ap (λ (n : ℕ). c.self.inside.bound + n) c.raised_by.ensures)
