use Rattle.std.proofs.Common.{◌≡◌, ◌+◌, false, length, rules}
use Rattle.std.proofs.lemmas.Result.{err_from_is_err_and}
use Rattle.line_service.proofs.Parking.{away_without, fewer, serves_without}
use Rattle.line_service.proofs.Places.{each_at}
use Rattle.line_service.proofs.TryingOthers.{delivered_failed, delivered_put, delivered_then}
use Rattle.line_service.specs.Parking.{IsAway, IsLetIn}
use Rattle.line_service.proofs.delivering.deliver_at.Goals as goal

pub put-requires : goal.put-requires
put-requires g c =
    let fits = c.requires.fits in
    record { fits = (length c.take-parked.new.self + fits.0, fewer (g.R.Replies.fits c.args.replies.now) c.args.waits.now c.take-parked.new.self c.args.place fits.0 c.requires.place c.take-parked.ensures.left fits.1) }

pub returns-in_err-put-clause-able : goal.returns-in_err-put-clause-able
returns-in_err-put-clause-able g c =
    let said = c.deliver-delivered.ensures in
    serves_without g.V.Service g.M.Mapper c.args.service.now c.deliver-delivered.new.self c.args.mapper.now c.deliver-delivered.new.mapper c.args.waits.now c.take-parked.new.self c.args.place c.take-parked.ensures.left said.able said.still_admits said.still_live c.requires.able

pub returns-in_err-put-clause-delivered : goal.returns-in_err-put-clause-delivered
returns-in_err-put-clause-delivered g c =
    let V = g.V.Service in
    let waits = c.args.waits.now in
    let place = c.args.place in
    let p = c.take-parked.result in
    let taken = c.take-parked.ensures.taken in
    let said = c.deliver-delivered.ensures in
    let away = each_at (IsAway V c.args.service.now) waits place p taken c.requires.away in
    let let_in = each_at (IsLetIn V c.args.service.now (g.M.Mapper.held c.args.mapper.now)) waits place p taken c.requires.able.let_in in
    let r = err_from_is_err_and c.from_residual.result c.from_residual.ensures.1 in
    rw r.1 (delivered_failed V g.R.Replies.puts g.R.Replies.fails _ _ waits c.take-parked.new.self place p taken c.take-parked.ensures.left c.deliver-delivered.result _ said.delivered away (said.unrefused let_in.admitted) c.in_err-put.ensures.failed)

pub returns-then-not-delivered-clause-able : goal.returns-then-not-delivered-clause-able
returns-then-not-delivered-clause-able g c =
    let said = c.deliver-delivered.ensures in
    serves_without g.V.Service g.M.Mapper c.args.service.now c.deliver-delivered.new.self c.args.mapper.now c.deliver-delivered.new.mapper c.args.waits.now c.take-parked.new.self c.args.place c.take-parked.ensures.left said.able said.still_admits said.still_live c.requires.able

pub returns-then-not-delivered-clause-away : goal.returns-then-not-delivered-clause-away
returns-then-not-delivered-clause-away g c =
    let missed : c.deliver-delivered.result.came ≡ false = search rules in
    away_without g.V.Service c.args.service.now c.deliver-delivered.new.self c.args.waits.now c.take-parked.new.self c.args.place c.take-parked.ensures.left (c.deliver-delivered.ensures.no_more_ready missed) c.requires.away

pub returns-then-not-delivered-clause-delivered : goal.returns-then-not-delivered-clause-delivered
returns-then-not-delivered-clause-delivered g c =
    let V = g.V.Service in
    let waits = c.args.waits.now in
    let place = c.args.place in
    let p = c.take-parked.result in
    let taken = c.take-parked.ensures.taken in
    let said = c.deliver-delivered.ensures in
    let away = each_at (IsAway V c.args.service.now) waits place p taken c.requires.away in
    let let_in = each_at (IsLetIn V c.args.service.now (g.M.Mapper.held c.args.mapper.now)) waits place p taken c.requires.able.let_in in
    delivered_put V g.R.Replies.puts g.R.Replies.fails _ _ waits c.take-parked.new.self place p taken c.take-parked.ensures.left c.deliver-delivered.result _ said.delivered away (said.unrefused let_in.admitted) c.in_ok-put.ensures.put

pub try_others-requires-clause-able : goal.try_others-requires-clause-able
try_others-requires-clause-able g c =
    let said = c.deliver-delivered.ensures in
    serves_without g.V.Service g.M.Mapper c.args.service.now c.deliver-delivered.new.self c.args.mapper.now c.deliver-delivered.new.mapper c.args.waits.now c.take-parked.new.self c.args.place c.take-parked.ensures.left said.able said.still_admits said.still_live c.requires.able

pub try_others-requires-clause-fits : goal.try_others-requires-clause-fits
try_others-requires-clause-fits g c =
    let fits = c.requires.fits in
    (fits.0, c.in_ok-put.ensures.fits (length c.take-parked.new.self + fits.0) (fewer (g.R.Replies.fits c.args.replies.now) c.args.waits.now c.take-parked.new.self c.args.place fits.0 c.requires.place c.take-parked.ensures.left fits.1))

pub returns-clause-fits : goal.returns-clause-fits
returns-clause-fits g c = λ more h.
    c.try_others.ensures.fits more (c.in_ok-put.ensures.fits (length c.take-parked.new.self + more) (fewer (g.R.Replies.fits c.args.replies.now) c.args.waits.now c.take-parked.new.self c.args.place more c.requires.place c.take-parked.ensures.left h))

pub returns-clause-delivered : goal.returns-clause-delivered
returns-clause-delivered g c =
    let V = g.V.Service in
    let waits = c.args.waits.now in
    let place = c.args.place in
    let p = c.take-parked.result in
    let taken = c.take-parked.ensures.taken in
    let said = c.deliver-delivered.ensures in
    let away = each_at (IsAway V c.args.service.now) waits place p taken c.requires.away in
    let let_in = each_at (IsLetIn V c.args.service.now (g.M.Mapper.held c.args.mapper.now)) waits place p taken c.requires.able.let_in in
    delivered_then V g.R.Replies.puts g.R.Replies.fails _ _ waits c.take-parked.new.self place p taken c.take-parked.ensures.left c.deliver-delivered.result _ said.delivered away (said.unrefused let_in.admitted) c.try_others.result _ c.try_others.new.waits c.in_ok-put.ensures.put c.try_others.ensures.tried
