use Rattle.std.proofs.Common.{◌≡◌, ℕ, Some, None, refl, sym, ap, subst, ◌∙◌, arith}
use Rattle.std.specs.Prelude.{IsSome}
use Rattle.std.specs.FinMap as map
use Rattle.own_states.specs.Blocks.{Blocks}
use Rattle.own_states.specs.States.{AreApart, States, the_states}
use Rattle.own_states.proofs.Ranges.{get_with, is_with, one_with}
use Rattle.own_states.proofs.Joined.{apart_for, in_block, joined_for, not_said, seen, unsaid_one}
use Rattle.own_states.proofs.own_states.OwnStates.exchange.Goals as goal

pub invariant_of-self : goal.invariant_of-self
invariant_of-self c =
    let b = c.self.inside.blocks in
    let s = c.self.inside.plain in
    let n = c.args.number in
    let none = not_said b s c.args.self.now c.self.view_is c.self.invariant n c.in-Some.before (sym c.exchange.ensures.was ∙ c.in-Some.is) in
    subst (λ (x : Blocks). AreApart x s) (sym c.in-Some.ensures.set) (record {
      apart = apart_for b.states _ s.list n 1 (Some c.args.state) (get_with b.states n 1 c.args.state) (unsaid_one s.list n none) c.self.invariant.apart;
      places = c.self.invariant.places;
      few = c.self.invariant.few;
    })

pub returns-in-Some-clause-was : goal.returns-in-Some-clause-was
returns-in-Some-clause-was c = in_block c.self.inside.blocks c.self.inside.plain c.args.self.now c.self.view_is c.self.invariant c.args.number c.in-Some.before (sym c.exchange.ensures.was ∙ c.in-Some.is)

pub returns-in-Some-clause-set : goal.returns-in-Some-clause-set
returns-in-Some-clause-set c =
    let b = c.self.inside.blocks in
    let s = c.self.inside.plain in
    let n = c.args.number in
    let none = not_said b s c.args.self.now c.self.view_is c.self.invariant n c.in-Some.before (sym c.exchange.ensures.was ∙ c.in-Some.is) in
    ap (λ (x : Blocks). the_states x s) c.in-Some.ensures.set
    ∙ seen _ _ _ _ _ _
    (is_with _ _ n 1 c.args.state (joined_for b.states _ s.list n 1 (Some c.args.state) (get_with b.states n 1 c.args.state) (unsaid_one s.list n none))
    ∙ one_with _ n c.args.state ∙ ap (λ (v : States). map.insert v.states n c.args.state) c.self.view_is)
    (ap (λ (v : States). v.count) c.self.view_is) (ap (λ (v : States). v.room) c.self.view_is)

pub invariant_of-self-in-None : goal.invariant_of-self-in-None
invariant_of-self-in-None c = subst (λ (x : Blocks). AreApart x c.self.inside.plain) (sym c.in-None.ensures.none) c.self.invariant

pub exchange_told-requires-clause-held : goal.exchange_told-requires-clause-held
exchange_told-requires-clause-held c =
    let same = ap (λ (x : Blocks). the_states x c.self.inside.plain) c.in-None.ensures.none ∙ c.self.view_is in
    subst (λ (v : States). IsSome (map.get v.states c.args.number)) (sym same) c.requires.held

pub returns-in-None-clause-was : goal.returns-in-None-clause-was
returns-in-None-clause-was c =
    let same = ap (λ (x : Blocks). the_states x c.self.inside.plain) c.in-None.ensures.none ∙ c.self.view_is in
    ap (λ (v : States). map.get v.states c.args.number) (sym same) ∙ c.exchange_told.ensures.was

pub returns-in-None-clause-set : goal.returns-in-None-clause-set
returns-in-None-clause-set c =
    let same = ap (λ (x : Blocks). the_states x c.self.inside.plain) c.in-None.ensures.none ∙ c.self.view_is in
    c.exchange_told.ensures.set ∙ ap (λ (v : States). record v { states = map.insert v.states c.args.number c.args.state }) same
