use Rattle.std.proofs.Common.{ap, arith, refl, subst, sym}
use Rattle.vm_ids.specs.Forest.NameMap.{len}
use Rattle.local_cache.specs.Arena.{Arena}
use Rattle.local_cache.specs.Reading.{AreNamesApart, forest_of}
use Rattle.local_cache.proofs.ArenaBy.Counts.{forest_len_by}
use Rattle.local_cache.proofs.ArenaBy.Seen.{room_call, room_right}
use Rattle.local_cache.proofs.Changes.SameCells.{roomier_sound}
use Rattle.local_cache.proofs.caches.Caches.reserve.Goals as goal

pub returns-in_err-reserve-clause-sound : goal.returns-in_err-reserve-clause-sound
returns-in_err-reserve-clause-sound c sound =
    roomier_sound c.args.self.now _ sound
    (room_call c.self.inside.nodes c.self.inside.list c.args.self.now c.self.view_is c.self.invariant c.reserve.new.self c.self.inside.list c.reserve.ensures.kept refl)

pub invariant_of-self-in_err-reserve-2 : goal.invariant_of-self-in_err-reserve-2
invariant_of-self-in_err-reserve-2 c = room_right c.self.inside.nodes c.self.inside.list c.args.self.now c.self.view_is c.self.invariant c.reserve.new.self c.reserve-2.new.self c.reserve.ensures.kept c.reserve-2.ensures.kept

pub returns-in_err-reserve-2-clause-sound : goal.returns-in_err-reserve-2-clause-sound
returns-in_err-reserve-2-clause-sound c sound =
    roomier_sound c.args.self.now _ sound
    (room_call c.self.inside.nodes c.self.inside.list c.args.self.now c.self.view_is c.self.invariant c.reserve.new.self c.reserve-2.new.self c.reserve.ensures.kept c.reserve-2.ensures.kept)

pub invariant_of-self-2 : goal.invariant_of-self-2
invariant_of-self-2 c = room_right c.self.inside.nodes c.self.inside.list c.args.self.now c.self.view_is c.self.invariant c.reserve.new.self c.reserve-2.new.self c.reserve.ensures.kept c.reserve-2.ensures.kept

pub returns-clause-few : goal.returns-clause-few
returns-clause-few c named =
    omega (
      arith,
      c.in_ok-reserve.ensures.few,
      forest_len_by c.self.inside.nodes c.self.inside.list (subst AreNamesApart (sym c.self.view_is) named),
      ap (λ (a : Arena). len (forest_of a).nodes) c.self.view_is,
    )

pub returns-clause-sound : goal.returns-clause-sound
returns-clause-sound c sound =
    roomier_sound c.args.self.now _ sound
    (room_call c.self.inside.nodes c.self.inside.list c.args.self.now c.self.view_is c.self.invariant c.reserve.new.self c.reserve-2.new.self c.reserve.ensures.kept c.reserve-2.ensures.kept)
