use Rattle.std.proofs.Common.{◌≡◌, ◌+◌, ◌<◌, ◌≤◌, ℕ, Some, sym, ap, subst, ◌∙◌, arith}
use Rattle.std.specs.FinMap as map
use Rattle.stretches.specs.Stretches.{number_count}
use Rattle.own_states.specs.declared.own.Own.TheVariants.{Plain as PlainOwn}
use Rattle.own_states.specs.Blocks.{Blocks}
use Rattle.own_states.specs.Ranges.{with_plain}
use Rattle.own_states.specs.States.{AreApart, States, the_states}
use Rattle.own_states.proofs.Ranges.{get_with, is_with}
use Rattle.own_states.proofs.Joined.{apart_for, joined_for, seen, vacant_now}
use Rattle.own_states.proofs.own_states.OwnStates.insert_some.Goals as goal

pub insert-requires-clause-vacant : goal.insert-requires-clause-vacant
insert-requires-clause-vacant c k less = (vacant_now c.self.inside.blocks c.self.inside.plain c.args.self.now c.self.view_is c.args.first c.args.most c.requires.vacant (c.args.first + k) (omega arith) (omega (arith, less))).1

pub invariant_of-self : goal.invariant_of-self
invariant_of-self c =
    let b = c.self.inside.blocks in
    let s = c.self.inside.plain in
    let n = c.args.first in
    let k = c.min-count.result in
    let state = PlainOwn c.args.plain in
    let room : b.count + number_count s.list + c.args.most ≤ b.room = subst (λ (v : States). v.count + c.args.most ≤ v.room) (sym c.self.view_is) c.requires.room in
    let unsaid = λ (q : ℕ) (from : n ≤ q) (to : q < n + k). (vacant_now b s c.args.self.now c.self.view_is n c.args.most c.requires.vacant q from (omega (arith, to))).0 in
    subst (λ (x : Blocks). AreApart x s) (sym c.insert.ensures) (record {
      apart = apart_for b.states _ s.list n k (Some state) (get_with b.states n k state) unsaid c.self.invariant.apart;
      places = c.self.invariant.places;
      few = omega (arith, room);
    })

pub returns-then-has_block-clause-inserted : goal.returns-then-has_block-clause-inserted
returns-then-has_block-clause-inserted c =
    let b = c.self.inside.blocks in
    let s = c.self.inside.plain in
    let n = c.args.first in
    let k = c.min-count.result in
    let state = PlainOwn c.args.plain in
    let count = ap (λ (v : States). v.count) c.self.view_is in
    let unsaid = λ (q : ℕ) (from : n ≤ q) (to : q < n + k). (vacant_now b s c.args.self.now c.self.view_is n c.args.most c.requires.vacant q from (omega (arith, to))).0 in
    ap (λ (x : Blocks). the_states x s) c.insert.ensures
    ∙ seen _ _ _ _ _ _
    (is_with _ _ n k state (joined_for b.states _ s.list n k (Some state) (get_with b.states n k state) unsaid)
    ∙ ap (λ (v : States). with_plain v.states n k c.args.plain) c.self.view_is)
    (omega (arith, count)) (ap (λ (v : States). v.room) c.self.view_is)
