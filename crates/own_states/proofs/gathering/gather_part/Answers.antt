use Rattle.std.proofs.Common.{◌≡◌, ◌+◌, ◌<◌, ◌≤◌, ℕ, refl, sym, ap, subst, ◌∙◌, arith}
use Rattle.std.proofs.lemmas.Bool.{cond-true}
use Rattle.stretches.proofs.Reading.Numbers.{within}
use Rattle.own_states.specs.Keys.{place_of}
use Rattle.own_states.specs.Blocks.{Blocks}
use Rattle.own_states.specs.States.{AreApart, the_states}
use Rattle.own_states.proofs.Joined.{apart_taken, joined_taken, none_less, seen}
use Rattle.own_states.proofs.gathering.gather_part.Goals as goal

pub insert-requires-clause-together : goal.insert-requires-clause-together
insert-requires-clause-together c = subst (λ (n : ℕ). place_of n + c.remove_part-part.result.count ≤ 32) (sym c.remove_part-part.ensures.from.begins) (subst (λ (k : ℕ). place_of c.args.first + k ≤ 32) (sym c.remove_part-part.ensures.whole) c.requires.within)

pub insert-requires-clause-vacant : goal.insert-requires-clause-vacant
insert-requires-clause-vacant c k less =
    let r = c.remove_part-part.result in
    c.requires.apart.apart (r.first + k) _ (c.remove_part-part.ensures.from.said (r.first + k) (within r (r.first + k) (omega arith) (omega (arith, less))))

pub returns-clause-apart : goal.returns-clause-apart
returns-clause-apart c =
    let rs = c.args.plain.now.list in
    let r = c.remove_part-part.result in
    let others = c.remove_part-part.new.self in
    subst (λ (x : Blocks). AreApart x others) (sym c.insert.ensures) (record {
      apart = apart_taken c.args.blocks.now.states _ rs r others.list c.remove_part-part.ensures.less c.remove_part-part.ensures.from.said refl c.requires.apart.apart;
      places = omega (arith, c.requires.apart.places, c.remove_part-part.ensures.places);
      few = omega (arith, c.requires.apart.few, c.remove_part-part.ensures.count, c.remove_part-part.ensures.whole);
    })

pub returns-clause-states : goal.returns-clause-states
returns-clause-states c =
    let r = c.remove_part-part.result in
    let others = c.remove_part-part.new.self in
    ap (λ (x : Blocks). the_states x others) c.insert.ensures
    ∙ seen _ _ _ _ _ _
    (joined_taken c.args.blocks.now.states _ c.args.plain.now.list r others.list c.remove_part-part.ensures.less c.remove_part-part.ensures.from.said refl)
    (omega (arith, c.remove_part-part.ensures.count, c.remove_part-part.ensures.whole)) refl

pub returns-clause-none : goal.returns-clause-none
returns-clause-none c n from to =
    let r = c.remove_part-part.result in
    c.remove_part-part.ensures.less n ∙ cond-true _ _ _ (within r n (omega (arith, from, c.remove_part-part.ensures.from.begins)) (omega (arith, to, c.remove_part-part.ensures.from.begins, c.remove_part-part.ensures.whole)))

pub returns-clause-no_more : goal.returns-clause-no_more
returns-clause-no_more c n none = none_less c.args.plain.now.list c.remove_part-part.result _ c.remove_part-part.ensures.less n none
