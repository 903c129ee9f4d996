use Rattle.std.proofs.Common.{arith, sym}
use Rattle.actor_script.specs.Generator.{opening}
use Rattle.actor_script.proofs.Generated.{given_more, drawn_more, opening_within}
use Rattle.actor_script.proofs.generator.Gen.next_line.Goals as goal

pub invariant_of-self : goal.invariant_of-self
invariant_of-self c = omega (arith, opening_within c.self.inside.given c.in-Some.text.now (sym c.in-Some.ensures.line))

pub returns-in-Some : goal.returns-in-Some
returns-in-Some c = λ count.
    rw (← c.self.view_is, c.line_of.ensures)
    (given_more opening c.self.inside.given c.self.inside.draws.state count c.in-Some.text.now (sym c.in-Some.ensures.line))

pub returns-in-None : goal.returns-in-None
returns-in-None c = λ count.
    rw (← c.self.view_is)
    (drawn_more opening c.self.inside.given c.self.inside.draws.state count c.drawn_line.new.draws.state c.drawn_line.result (sym c.in-None.ensures.line) c.drawn_line.ensures)
