use Rattle.std.proofs.Common.{◌≡◌, ℕ, ◌+◌, ◌<◌, Some, None, refl, sym, ap, subst, ◌∙◌, arith}
use Rattle.std.specs.Prelude.{IsSome}
use Rattle.std.specs.FinMap as map
use Rattle.own_states.specs.declared.block.Block.{Block}
use Rattle.own_states.specs.Blocks.{AreBlocks, Blocks, the_blocks}
use Rattle.own_states.proofs.Blocks.{seen_at}
use Rattle.own_states.proofs.Kept.{renewed, with_one}
use Rattle.own_states.proofs.block_map.BlockMap.exchange.Goals as goal

pub invariant_of-self : goal.invariant_of-self
invariant_of-self c =
    let l = c.self.inside.blocks in
    let b = c.at_mut-block.result.now in
    let k = c.in-Some.place.number in
    let key = c.in-Some.ensures.place.0 ∙ c.key_of.ensures in
    let was = c.state.ensures.state ∙ sym (seen_at l c.args.self.now c.self.view_is c.args.number k c.place_of-at.result key c.place_of-at.ensures.place (Some c.at.result.now) (sym c.at.ensures)) in
    let held = λ (i : ℕ) (h : i < 1). (let here : c.args.number ≡ c.args.number + i = omega (arith, h) in subst (λ (q : ℕ). IsSome (map.get c.args.self.now.states q)) here (subst IsSome (sym c.in-Some-state.is ∙ was) refl)) in
    subst (λ (x : Block). AreBlocks (with_one l k x l.slots)) (sym c.write.ensures)
    (renewed l c.args.self.now c.self.view_is c.self.invariant c.args.number k c.place_of-at.result 1 key c.place_of-at.ensures.place (omega (arith, c.place_of-at.ensures.within)) b c.at_mut-block.ensures.entry c.of.result c.args.state c.of.ensures held).are

pub returns-in-Some-state-clause-was : goal.returns-in-Some-state-clause-was
returns-in-Some-state-clause-was c =
    sym c.in-Some-state.is ∙ c.state.ensures.state ∙ sym (seen_at c.self.inside.blocks c.args.self.now c.self.view_is c.args.number c.in-Some.place.number c.place_of-at.result (c.in-Some.ensures.place.0 ∙ c.key_of.ensures) c.place_of-at.ensures.place (Some c.at.result.now) (sym c.at.ensures))

pub returns-in-Some-state-clause-set : goal.returns-in-Some-state-clause-set
returns-in-Some-state-clause-set c =
    let l = c.self.inside.blocks in
    let b = c.at_mut-block.result.now in
    let k = c.in-Some.place.number in
    let key = c.in-Some.ensures.place.0 ∙ c.key_of.ensures in
    let was = c.state.ensures.state ∙ sym (seen_at l c.args.self.now c.self.view_is c.args.number k c.place_of-at.result key c.place_of-at.ensures.place (Some c.at.result.now) (sym c.at.ensures)) in
    let held = λ (i : ℕ) (h : i < 1). (let here : c.args.number ≡ c.args.number + i = omega (arith, h) in subst (λ (q : ℕ). IsSome (map.get c.args.self.now.states q)) here (subst IsSome (sym c.in-Some-state.is ∙ was) refl)) in
    ap (λ (x : Block). the_blocks (with_one l k x l.slots)) c.write.ensures
    ∙ (renewed l c.args.self.now c.self.view_is c.self.invariant c.args.number k c.place_of-at.result 1 key c.place_of-at.ensures.place (omega (arith, c.place_of-at.ensures.within)) b c.at_mut-block.ensures.entry c.of.result c.args.state c.of.ensures held).comes

pub returns-in-None-state-clause-was : goal.returns-in-None-state-clause-was
returns-in-None-state-clause-was c =
    sym c.in-None-state.is ∙ c.state.ensures.state ∙ sym (seen_at c.self.inside.blocks c.args.self.now c.self.view_is c.args.number c.in-Some.place.number c.place_of-at.result (c.in-Some.ensures.place.0 ∙ c.key_of.ensures) c.place_of-at.ensures.place (Some c.at.result.now) (sym c.at.ensures))

pub returns-in-None-clause-was : goal.returns-in-None-clause-was
returns-in-None-clause-was c = sym (seen_at c.self.inside.blocks c.args.self.now c.self.view_is c.args.number c.key_of.result c.place_of-at.result c.key_of.ensures c.place_of-at.ensures.place None (sym c.in-None.ensures.none.1))
