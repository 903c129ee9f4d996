use Rattle.std.proofs.Common.{◌≡◌, ◌∙◌, true, sym, arith}
use Rattle.std.specs.Prelude.{option_map}
use Rattle.std.proofs.lemmas.Result.{err_from_is_err_and}
use Rattle.line_service.specs.Parking.{has_to_wait}
use Rattle.line_service.proofs.Asked.{delivery_waiting}
use Rattle.line_service.proofs.Going.{goes_none}
use Rattle.line_service.proofs.TryingOthers.{ill, well}
use Rattle.line_service.proofs.asking.wait_for.Goals as goal

pub loop-actor-init : goal.loop-actor-init
loop-actor-init g c = record {
  able = c.requires.able;
  away = c.requires.away;
  made = omega arith;
  fits = λ more h. h;
  fewer = omega arith;
  goes = λ known issued comes. goes_none g.V.Service.semantics g.R.Replies.puts known _ _;
}

pub loop-actor-preserved : goal.loop-actor-preserved
loop-actor-preserved g c =
    let said = c.in_ok-deliver_at.ensures in
    let V = g.V.Service in
    let waits = c.loop-actor.waits in
    let start = c.args.waits.now in
    let actor = option_map (λ a. a.0) c.args.actor in
    let so : has_to_wait actor waits ≡ true = sym c.has_to_wait.ensures ∙ c.loop-actor-test.true in
    let few = c.loop-actor.invariant.fewer in
    let turn = c.next_place-place.ensures.turned in
    let place = c.next_place-place.result in
    record {
      able = said.able;
      away = said.away;
      made = omega (arith, said.made, c.loop-actor.invariant.made);
      fits = λ more h. said.fits more (c.loop-actor.invariant.fits more h);
      fewer = omega (arith, said.fewer, few);
      goes = λ known issued comes.
          delivery_waiting V g.R.Replies.puts g.R.Replies.fails known _ _ _ _ waits issued well c.deliver_at.new.waits start turn.0 actor place g.M.Mapper c.loop-actor.service c.loop-actor.mapper
          few c.loop-actor.invariant.able comes so turn.1 turn.2 said.delivered (c.loop-actor.invariant.goes known issued comes);
    }

pub returns-in_err-deliver_at-clause-goes : goal.returns-in_err-deliver_at-clause-goes
returns-in_err-deliver_at-clause-goes g c = λ known issued comes.
    let said = c.in_err-deliver_at.ensures in
    let V = g.V.Service in
    let waits = c.loop-actor.waits in
    let start = c.args.waits.now in
    let actor = option_map (λ a. a.0) c.args.actor in
    let so : has_to_wait actor waits ≡ true = sym c.has_to_wait.ensures ∙ c.loop-actor-test.true in
    let few = c.loop-actor.invariant.fewer in
    let turn = c.next_place-place.ensures.turned in
    let place = c.next_place-place.result in
    let r = err_from_is_err_and c.from_residual.result c.from_residual.ensures.1 in
    rw r.1 (delivery_waiting V g.R.Replies.puts g.R.Replies.fails known _ _ _ _ waits issued ill c.deliver_at.new.waits start turn.0 actor place g.M.Mapper c.loop-actor.service c.loop-actor.mapper
    few c.loop-actor.invariant.able comes so turn.1 turn.2 said.delivered (c.loop-actor.invariant.goes known issued comes))
