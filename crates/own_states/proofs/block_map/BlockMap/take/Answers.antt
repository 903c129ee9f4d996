use Rattle.std.proofs.Common.{◌≡◌, ◌≢◌, ◌+◌, ◌-◌, ◌<◌, ℕ, None, Some, Option, refl, sym, ap, subst, ◌∙◌, arith}
use Rattle.std.specs.Prelude.{is_some, IsSome}
use Rattle.std.specs.FinMap as map
use Rattle.mixed_map.specs.Lone.{Lone}
use Rattle.own_states.specs.declared.block.Block.{Block}
use Rattle.own_states.specs.Blocks.{AreBlocks, size, the_blocks}
use Rattle.own_states.proofs.Blocks.{seen_at}
use Rattle.own_states.proofs.Kept.{cut, emptied, few_here, with_one}
use Rattle.own_states.proofs.Totals.{count_of}
use Rattle.own_states.proofs.block_map.BlockMap.take.Goals as goal

pub unreachable-requires : goal.unreachable-requires
unreachable-requires c =
    let here : c.args.first + 0 ≡ c.args.first = omega arith in
    let gone = seen_at c.self.inside.blocks c.args.self.now c.self.view_is c.args.first c.key_of.result c.place_of-at.result c.key_of.ensures c.place_of-at.ensures.place None (sym c.in-None.ensures.none.1) in
    let never = ap is_some (sym (ap (map.get c.args.self.now.states) here ∙ gone)) ∙ c.requires.held 0 c.requires.some in
    absurd (cc never)

pub invariant_of-self : goal.invariant_of-self
invariant_of-self c =
    let l = c.self.inside.blocks in
    let less = ap (λ (x : Lone Block). map.len x.slots + 1) (sym c.take.ensures.taken) ∙ c.take.ensures.count in
    subst AreBlocks (sym c.take.ensures.taken)
    (emptied l c.args.self.now c.self.view_is c.self.invariant c.args.first c.in-Some.place.number c.place_of-at.result c.args.count (c.in-Some.ensures.place.0 ∙ c.key_of.ensures) c.place_of-at.ensures.place
    (omega (arith, c.requires.together, c.place_of-at.ensures.place)) c.at.result.now c.at.ensures c.requires.held c.if-at-count.true _ less).are

pub invariant_of-self-else-at-count : goal.invariant_of-self-else-at-count
invariant_of-self-else-at-count c =
    let l = c.self.inside.blocks in
    let k = c.in-Some.place.number in
    let b = c.at_mut-block.result.now in
    let alike : c.at.result.now.count ≡ b.count = ap (count_of size) (sym c.at.ensures ∙ c.at_mut-block.ensures.entry) in
    let more : b.count ≢ c.args.count = λ e. c.if-at-count.false (alike ∙ e) in
    subst (λ (x : Block). AreBlocks (with_one l k (record x { count = x.count - c.args.count }) l.slots)) (sym c.write.ensures)
    (cut l c.args.self.now c.self.view_is c.self.invariant c.args.first k c.place_of-at.result c.args.count (c.in-Some.ensures.place.0 ∙ c.key_of.ensures) c.place_of-at.ensures.place
    (omega (arith, c.requires.together, c.place_of-at.ensures.place)) b c.at_mut-block.ensures.entry c.requires.held more).are

pub returns-then-at-count : goal.returns-then-at-count
returns-then-at-count c =
    let l = c.self.inside.blocks in
    let less = ap (λ (x : Lone Block). map.len x.slots + 1) (sym c.take.ensures.taken) ∙ c.take.ensures.count in
    let lacks = emptied l c.args.self.now c.self.view_is c.self.invariant c.args.first c.in-Some.place.number c.place_of-at.result c.args.count (c.in-Some.ensures.place.0 ∙ c.key_of.ensures) c.place_of-at.ensures.place
    (omega (arith, c.requires.together, c.place_of-at.ensures.place)) c.at.result.now c.at.ensures c.requires.held c.if-at-count.true _ less in
    record {
      states = ap (λ (x : Lone Block). (the_blocks x).states) c.take.ensures.taken ∙ lacks.states;
      count = ap (λ (x : Lone Block). (the_blocks x).count + c.args.count) c.take.ensures.taken ∙ lacks.count;
      room = ap (λ (x : Lone Block). x.room) c.take.ensures.taken ∙ lacks.room;
    }

pub returns-else-at-count : goal.returns-else-at-count
returns-else-at-count c =
    let l = c.self.inside.blocks in
    let k = c.in-Some.place.number in
    let b = c.at_mut-block.result.now in
    let alike : c.at.result.now.count ≡ b.count = ap (count_of size) (sym c.at.ensures ∙ c.at_mut-block.ensures.entry) in
    let more : b.count ≢ c.args.count = λ e. c.if-at-count.false (alike ∙ e) in
    let lacks = cut l c.args.self.now c.self.view_is c.self.invariant c.args.first k c.place_of-at.result c.args.count (c.in-Some.ensures.place.0 ∙ c.key_of.ensures) c.place_of-at.ensures.place
    (omega (arith, c.requires.together, c.place_of-at.ensures.place)) b c.at_mut-block.ensures.entry c.requires.held more in
    let now = λ (x : Block). the_blocks (with_one l k (record x { count = x.count - c.args.count }) l.slots) in
    record {
      states = ap (λ (x : Block). (now x).states) c.write.ensures ∙ lacks.states;
      count = ap (λ (x : Block). (now x).count + c.args.count) c.write.ensures ∙ lacks.count;
      room = lacks.room;
    }

pub overflow_sub-block : goal.overflow_sub-block
overflow_sub-block c =
    let l = c.self.inside.blocks in
    let few = few_here l c.args.self.now c.self.view_is c.self.invariant c.args.first c.in-Some.place.number c.place_of-at.result c.args.count (c.in-Some.ensures.place.0 ∙ c.key_of.ensures) c.place_of-at.ensures.place
    (omega (arith, c.requires.together, c.place_of-at.ensures.place)) c.at_mut-block.result.now c.at_mut-block.ensures.entry c.requires.held in
    omega (arith, few, ap (λ (x : Block). x.count) c.write.ensures)
