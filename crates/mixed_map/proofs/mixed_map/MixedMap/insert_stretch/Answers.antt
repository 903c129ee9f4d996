use Rattle.std.proofs.Common.{◌≢◌, ◌+◌, ◌≤◌, sym, ap, subst, ◌∙◌, arith}
use Rattle.std.proofs.lemmas.Bool.{false≢true}
use Rattle.std.specs.FinMap as map
use Rattle.stretches.specs.Stretches.{number_count}
use Rattle.stretches.proofs.Reading.Numbers.{within}
use Rattle.mixed_map.specs.Mixed.{Mixed, with_stretch}
use Rattle.mixed_map.proofs.Maps.{insert_other}
use Rattle.mixed_map.proofs.Telling.{get_seen, mixed_also, none_both, told_also}
use Rattle.mixed_map.proofs.mixed_map.MixedMap.insert_stretch.Goals as goal

pub insert-requires-clause-vacant : goal.insert-requires-clause-vacant
insert-requires-clause-vacant g c n h =
    (none_both g.V.Says g.S.Alone.told _ _ (sym (get_seen g.V.Says g.S.Alone.told c.self.inside.lone c.self.inside.stretches c.args.self.now c.self.view_is n) ∙ c.requires.vacant n h)).0

pub invariant_of-self : goal.invariant_of-self
invariant_of-self g c =
    let room : map.len c.self.inside.lone.slots + number_count c.self.inside.stretches.list + c.args.stretch.count ≤ c.self.inside.lone.room = subst (λ (v : Mixed _ _). v.count + c.args.stretch.count ≤ v.room) (sym c.self.view_is) c.requires.room in
    mixed_also g.V.Says g.S.Alone.told c.self.inside.lone c.self.inside.stretches c.join_at-then-stretch-gt1.new.self c.args.stretch c.self.invariant
    (λ n. c.join_at-then-stretch-gt1.ensures.same n ∙ c.join_at.ensures.same n ∙ c.insert.ensures.also n)
    (λ n h. (none_both g.V.Says g.S.Alone.told _ _ (sym (get_seen g.V.Says g.S.Alone.told c.self.inside.lone c.self.inside.stretches c.args.self.now c.self.view_is n) ∙ c.requires.vacant n h)).1)
    (c.join_at-then-stretch-gt1.ensures.places ∙ c.join_at.ensures.places ∙ c.insert.ensures.places)
    (omega (arith, room, c.insert.ensures.count, c.join_at.ensures.count, c.join_at-then-stretch-gt1.ensures.count))

pub returns-then-stretch-gt1-clause-cells : goal.returns-then-stretch-gt1-clause-cells
returns-then-stretch-gt1-clause-cells g c =
    told_also g.V.Says g.S.Alone.told c.self.inside.lone.entries c.self.inside.stretches.list c.args.stretch c.join_at-then-stretch-gt1.new.self.list (λ n. c.join_at-then-stretch-gt1.ensures.same n ∙ c.join_at.ensures.same n ∙ c.insert.ensures.also n)
    ∙ ap (λ (v : Mixed _ _). with_stretch g.V.Says g.S.Alone.told v.cells c.args.stretch) c.self.view_is

pub returns-then-stretch-eq1-clause-slots : goal.returns-then-stretch-eq1-clause-slots
returns-then-stretch-eq1-clause-slots g c n h =
    let r = c.args.stretch in
    let other : n ≢ r.first = λ e. false≢true (sym h ∙ within r n (omega arith) (omega (arith, c.if-stretch-eq1.true))) in
    ap (λ (v : Mixed _ _). map.get v.slots n) c.insert-then-stretch-eq1.ensures.inserted ∙ insert_other c.args.self.now.slots r.first c.insert-then-stretch-eq1.result.slot n other

pub returns-then-stretch-gt1-clause-told : goal.returns-then-stretch-gt1-clause-told
returns-then-stretch-gt1-clause-told g c = λ more. ap (λ (v : Mixed _ _). v.slots) c.self.view_is

pub returns-then-stretch-eq1-clause-told : goal.returns-then-stretch-eq1-clause-told
returns-then-stretch-eq1-clause-told g c = λ more. absurd (omega (arith, more, c.if-stretch-eq1.true))
