use Rattle.std.proofs.Common.{◌≡◌, ◌+◌, ◌<◌, ◌≤◌, ℕ, ap, subst, ◌∙◌, arith}
use Rattle.std.specs.FinMap as map
use Rattle.stretches.specs.declared.stretch.Stretch.{Stretch}
use Rattle.stretches.specs.Stretches.{AreTogether}
use Rattle.mixed_map.proofs.Telling.{together_fewer}
use Rattle.own_states.specs.declared.own.Plain.{Plain}
use Rattle.own_states.specs.Ranges.{with_plain}
use Rattle.own_states.specs.States.{States}
use Rattle.own_states.proofs.Joined.{apart_put, joined_also, seen}
use Rattle.own_states.proofs.own_states.OwnStates.fill_stretch.Goals as goal

pub put-requires-clause-together : goal.put-requires-clause-together
put-requires-clause-together c =
    let whole = subst (λ (n : ℕ). AreTogether c.self.inside.plain.list n c.in-Some.stretch.count) c.in-Some.ensures.from.begins c.in-Some.ensures.together in
    together_fewer c.self.inside.plain.list c.args.first c.in-Some.stretch.count c.args.count (omega (arith, c.if-count-stretch.true)) whole

pub invariant_of-self : goal.invariant_of-self
invariant_of-self c =
    let b = c.self.inside.blocks in
    let s = c.self.inside.plain in
    let r : Stretch Plain = record { first = c.args.first; count = c.args.count; value = c.args.plain } in
    record {
      apart = apart_put b s c.self.invariant.apart c.args.first c.in-Some.stretch c.in-Some.ensures.from r c.put.new.self.list (omega arith) (omega arith) c.put.ensures.also;
      places = omega (arith, c.self.invariant.places, c.put.ensures.places);
      few = omega (arith, c.self.invariant.few, c.put.ensures.count);
    }

pub returns-in-Some-clause-filled : goal.returns-in-Some-clause-filled
returns-in-Some-clause-filled c _ =
    let b = c.self.inside.blocks in
    let s = c.self.inside.plain in
    let r : Stretch Plain = record { first = c.args.first; count = c.args.count; value = c.args.plain } in
    seen _ _ _ _ _ _
    (joined_also b.states s.list r c.put.new.self.list c.put.ensures.also ∙ ap (λ (v : States). with_plain v.states c.args.first c.args.count c.args.plain) c.self.view_is)
    (ap (λ (k : ℕ). b.count + k) c.put.ensures.count ∙ ap (λ (v : States). v.count) c.self.view_is)
    (ap (λ (v : States). v.room) c.self.view_is)
