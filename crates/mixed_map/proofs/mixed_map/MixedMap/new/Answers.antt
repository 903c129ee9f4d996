use Rattle.std.proofs.Common.{ℕ, ap, ◌∙◌, arith, nat_cmp}
use Rattle.std.specs.FinMap.{get-empty, len-empty}
use Rattle.std.specs.FinMap as map
use Rattle.stretches.specs.Stretches.{number_count}
use Rattle.mixed_map.specs.Lone.{Lone}
use Rattle.mixed_map.proofs.Telling.{seen, told_none}
use Rattle.mixed_map.proofs.mixed_map.MixedMap.new.Goals as goal

pub returns : goal.returns
returns g c =
    let lone = ap (λ (l : Lone _). l.entries) c.new-2.ensures in
    let slots = ap (λ (l : Lone _). l.slots) c.new-2.ensures in
    let count = ap map.len slots ∙ len-empty nat_cmp ℕ in
    let none = ap number_count c.new.ensures in
    seen g.V.Says g.S.Alone.told _ _ _ _ _ _ _ _ _ _ (told_none g.V.Says g.S.Alone.told _ _ c.new.ensures ∙ lone) slots c.new.ensures (omega (arith, count, none)) (ap (λ (l : Lone _). l.room) c.new-2.ensures)

pub invariant_of-result : goal.invariant_of-result
invariant_of-result g c =
    let lone = c.new-2.ensures in
    let count = ap (λ (l : Lone _). map.len l.slots) lone ∙ len-empty nat_cmp ℕ in
    let none = ap number_count c.new.ensures in
    record {
      apart = λ n v is. ap (λ (l : Lone _). map.get l.entries n) lone ∙ get-empty nat_cmp n;
      placed = λ n is. ap (λ (l : Lone _). map.get l.slots n) lone ∙ get-empty nat_cmp n;
      places = omega (arith, ap (λ (l : Lone _). l.room) lone);
      few = omega (arith, count, none);
    }
