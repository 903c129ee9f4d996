use Rattle.std.proofs.Common.{◌<◌, arith, Some, ◌≢◌}
use Rattle.std.specs.Prelude.{count_by}
use Rattle.vm_ids.proofs.Places.{other_number}
use Rattle.page_tables.specs.Membership.{is_on}
use Rattle.page_tables.proofs.RowPlaces.{all_back, fewer_on}
use Rattle.page_tables.proofs.tables.drop_in_row.Goals as goal

pub loop-place-smaller : goal.loop-place-smaller
loop-place-smaller c =
    let other : c.actor_row-row.result ≢ 1024 = λ e. absurd (omega (arith, e, c.actor_row-row.ensures.below)) in
    let less : count_by (is_on 1024) c.add.new.self.on < count_by (is_on 1024) c.loop-place.rows.on =
    rw (c.add.ensures, c.take_off.ensures) (fewer_on c.loop-place.rows.on c.in-Some.place 1024 (Some c.actor_row-row.result) c.in-Some.ensures (other_number c.actor_row-row.result 1024 other)) in
    less

pub returns-clause-rows : goal.returns-clause-rows
returns-clause-rows c = all_back c.set_aside.new.places c.loop-place.rows c.args.actor.0 c.loop-place.invariant c.in_default.ensures
