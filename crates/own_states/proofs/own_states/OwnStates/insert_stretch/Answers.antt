use Rattle.std.proofs.Common.{◌≡◌, ◌≤◌, ◌+◌, sym, ap, subst, ◌∙◌, arith}
use Rattle.stretches.specs.declared.stretch.Stretch.{Stretch}
use Rattle.stretches.specs.Stretches.{number_count}
use Rattle.stretches.proofs.Reading.Numbers.{high, low}
use Rattle.own_states.specs.declared.own.Plain.{Plain}
use Rattle.own_states.specs.Ranges.{with_plain}
use Rattle.own_states.specs.States.{States}
use Rattle.own_states.proofs.Joined.{apart_also, joined_also, seen, vacant_now}
use Rattle.own_states.proofs.own_states.OwnStates.insert_stretch.Goals as goal

pub insert-requires-clause-vacant : goal.insert-requires-clause-vacant
insert-requires-clause-vacant c n h =
    let r : Stretch Plain = record { first = c.args.first; count = c.args.count; value = c.args.plain } in
    (vacant_now c.self.inside.blocks c.self.inside.plain c.args.self.now c.self.view_is c.args.first c.args.count c.requires.vacant n (low r n h) (high r n h)).0

pub invariant_of-self : goal.invariant_of-self
invariant_of-self c =
    let b = c.self.inside.blocks in
    let s = c.self.inside.plain in
    let r : Stretch Plain = record { first = c.args.first; count = c.args.count; value = c.args.plain } in
    let new = c.join_at-2.new.self in
    let room : b.count + number_count s.list + c.args.count ≤ b.room = subst (λ (v : States). v.count + c.args.count ≤ v.room) (sym c.self.view_is) c.requires.room in
    record {
      apart = apart_also b.states s.list r new.list c.self.invariant.apart
          (λ q. c.join_at-2.ensures.same q ∙ c.join_at.ensures.same q ∙ c.insert.ensures.also q)
          (λ n h. (vacant_now b s c.args.self.now c.self.view_is c.args.first c.args.count c.requires.vacant n (low r n h) (high r n h)).1);
      places = omega (arith, c.self.invariant.places, c.insert.ensures.places, c.join_at.ensures.places, c.join_at-2.ensures.places);
      few = omega (arith, room, c.insert.ensures.count, c.join_at.ensures.count, c.join_at-2.ensures.count);
    }

pub returns : goal.returns
returns c =
    let b = c.self.inside.blocks in
    let s = c.self.inside.plain in
    let r : Stretch Plain = record { first = c.args.first; count = c.args.count; value = c.args.plain } in
    let new = c.join_at-2.new.self in
    let count : b.count + number_count s.list ≡ c.args.self.now.count = ap (λ (v : States). v.count) c.self.view_is in
    seen _ _ _ _ _ _
    (joined_also b.states s.list r new.list (λ q. c.join_at-2.ensures.same q ∙ c.join_at.ensures.same q ∙ c.insert.ensures.also q)
    ∙ ap (λ (v : States). with_plain v.states c.args.first c.args.count c.args.plain) c.self.view_is)
    (omega (arith, count, c.insert.ensures.count, c.join_at.ensures.count, c.join_at-2.ensures.count))
    (ap (λ (v : States). v.room) c.self.view_is)
