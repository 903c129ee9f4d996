use Rattle.std.proofs.Common.{◌≡◌, ℕ, Some, None, refl, sym, ap, subst, ◌∙◌, arith}
use Rattle.std.specs.Prelude.{IsSome, is_some}
use Rattle.std.specs.FinMap as map
use Rattle.own_states.specs.declared.own.Own.{Own}
use Rattle.own_states.specs.Blocks.{Blocks}
use Rattle.own_states.specs.States.{AreApart, States, the_states}
use Rattle.own_states.proofs.Ranges.{get_with, is_with, one_with}
use Rattle.own_states.proofs.Joined.{apart_for, joined_for, seen, unsaid_now, unsaid_one}
use Rattle.own_states.proofs.own_states.OwnStates.exchange_told.Goals as goal

pub invariant_of-self : goal.invariant_of-self
invariant_of-self c =
    let b = c.gather.new.blocks in
    let s = c.gather.new.plain in
    let n = c.args.number in
    subst (λ (x : Blocks). AreApart x s) (sym c.in-Some.ensures.set) (record {
      apart = apart_for b.states _ s.list n 1 (Some c.args.state) (get_with b.states n 1 c.args.state) (unsaid_one s.list n c.gather.ensures.none) c.gather.ensures.apart.apart;
      places = c.gather.ensures.apart.places;
      few = c.gather.ensures.apart.few;
    })

pub returns-clause-was : goal.returns-clause-was
returns-clause-was c =
    unsaid_now c.gather.new.blocks c.gather.new.plain c.args.self.now (c.gather.ensures.states ∙ c.self.view_is) c.args.number c.gather.ensures.none
    ∙ sym c.exchange.ensures.was ∙ c.in-Some.is

pub returns-clause-set : goal.returns-clause-set
returns-clause-set c =
    let b = c.gather.new.blocks in
    let s = c.gather.new.plain in
    let n = c.args.number in
    let view = c.gather.ensures.states ∙ c.self.view_is in
    ap (λ (x : Blocks). the_states x s) c.in-Some.ensures.set
    ∙ seen _ _ _ _ _ _
    (is_with _ _ n 1 c.args.state (joined_for b.states _ s.list n 1 (Some c.args.state) (get_with b.states n 1 c.args.state) (unsaid_one s.list n c.gather.ensures.none))
    ∙ one_with _ n c.args.state ∙ ap (λ (v : States). map.insert v.states n c.args.state) view)
    (ap (λ (v : States). v.count) view) (ap (λ (v : States). v.room) view)

pub unreachable-requires : goal.unreachable-requires
unreachable-requires c =
    let here = unsaid_now c.gather.new.blocks c.gather.new.plain c.args.self.now (c.gather.ensures.states ∙ c.self.view_is) c.args.number c.gather.ensures.none in
    let never = ap is_some (sym (here ∙ sym c.exchange.ensures.was ∙ c.in-None.is)) ∙ c.requires.held in
    absurd (cc never)
