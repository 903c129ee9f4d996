use Rattle.std.proofs.Common.{◌≡◌, ◌+◌, ◌<◌, ◌≤◌, ℕ, sym, ap, subst, ◌∙◌, arith}
use Rattle.std.specs.Ordering.{nat_cmp}
use Rattle.std.specs.FinMap.{FinMap}
use Rattle.std.specs.FinMap as map
use Rattle.own_states.specs.declared.own.Own.{Own}
use Rattle.stretches.specs.declared.stretch.Stretch.{Stretch}
use Rattle.stretches.specs.Stretches.{AreTogether}
use Rattle.mixed_map.proofs.Telling.{together_fewer}
use Rattle.own_states.specs.declared.own.Plain.{Plain}
use Rattle.own_states.specs.Ranges.{with_plain}
use Rattle.own_states.specs.States.{States}
use Rattle.own_states.proofs.Heirs.{inherited_all, inherited_held, inherited_none, inherited_one}
use Rattle.own_states.proofs.Joined.{apart_put, joined_also, seen, told_at}
use Rattle.own_states.proofs.own_states.OwnStates.inherit_plain.Goals as goal

pub returns-then-is_absent-clause-inherited : goal.returns-then-is_absent-clause-inherited
returns-then-is_absent-clause-inherited c =
    let now = c.args.self.now in
    ap (λ (m : FinMap nat_cmp Own). record now { states = m }) (sym (inherited_none now.states c.args.to c.args.from c.args.most c.args.plain (sym c.is_absent.ensures ∙ c.if-is_absent.true) c.requires.alike))

pub put-requires-clause-together : goal.put-requires-clause-together
put-requires-clause-together c =
    let whole = subst (λ (n : ℕ). AreTogether c.self.inside.plain.list n c.in-Some.stretch.count) c.in-Some.ensures.from.begins c.in-Some.ensures.together in
    together_fewer c.self.inside.plain.list c.args.to c.in-Some.stretch.count c.min-count.result (omega arith) whole

pub invariant_of-self : goal.invariant_of-self
invariant_of-self c =
    let b = c.self.inside.blocks in
    let s = c.self.inside.plain in
    let r : Stretch Plain = record { first = c.args.to; count = c.min-count.result; value = c.args.plain } in
    record {
      apart = apart_put b s c.self.invariant.apart c.args.to c.in-Some.stretch c.in-Some.ensures.from r c.put.new.self.list (omega arith) (omega arith) c.put.ensures.also;
      places = omega (arith, c.self.invariant.places, c.put.ensures.places);
      few = omega (arith, c.self.invariant.few, c.put.ensures.count);
    }

pub returns-then-is_absent-2-clause-inherited : goal.returns-then-is_absent-2-clause-inherited
returns-then-is_absent-2-clause-inherited c =
    let b = c.self.inside.blocks in
    let s = c.self.inside.plain in
    let k = c.min-count.result in
    let now = c.args.self.now in
    let r : Stretch Plain = record { first = c.args.to; count = k; value = c.args.plain } in
    seen _ _ _ _ _ _
    (joined_also b.states s.list r c.put.new.self.list c.put.ensures.also ∙ ap (λ (v : States). with_plain v.states c.args.to k c.args.plain) c.self.view_is
    ∙ sym (inherited_all now.states c.args.to c.args.from k c.args.plain c.in-Some.stretch.value (sym c.is_absent.ensures ∙ c.if-is_absent.false) (sym c.is_absent-in-Some.ensures ∙ c.if-is_absent-2.true)
    (λ j less. c.requires.alike j (omega (arith, less)))
    (λ j less. told_at b s now c.self.view_is c.args.to c.in-Some.stretch c.in-Some.ensures.from (c.args.to + j) (omega arith) (omega (arith, less)))))
    (ap (λ (x : ℕ). b.count + x) c.put.ensures.count ∙ ap (λ (v : States). v.count) c.self.view_is)
    (ap (λ (v : States). v.room) c.self.view_is)

pub returns-else-is_absent-2-clause-inherited : goal.returns-else-is_absent-2-clause-inherited
returns-else-is_absent-2-clause-inherited c =
    let now = c.args.self.now in
    ap (λ (m : FinMap nat_cmp Own). record now { states = m }) (sym (inherited_held now.states c.args.to c.args.from c.min-count.result c.in-Some.stretch.value (sym c.is_absent-in-Some.ensures ∙ c.if-is_absent-2.false)
    (λ j less. told_at c.self.inside.blocks c.self.inside.plain now c.self.view_is c.args.to c.in-Some.stretch c.in-Some.ensures.from (c.args.to + j) (omega arith) (omega (arith, less)))))

pub returns-in-None-clause-inherited : goal.returns-in-None-clause-inherited
returns-in-None-clause-inherited c = c.inherit_one.ensures ∙ ap (λ (m : FinMap nat_cmp Own). record c.args.self.now { states = m }) (sym (inherited_one c.args.self.now.states c.args.to c.args.from))
