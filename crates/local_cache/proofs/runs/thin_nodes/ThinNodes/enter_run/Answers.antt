use Rattle.std.proofs.Common.{◌≡◌, ◌+◌, ◌<◌, ◌≤◌, ℕ, None, sym, ap, subst, ◌∙◌, arith}
use Rattle.std.specs.FinMap as map
use Rattle.stretches.specs.Cells.{cells}
use Rattle.stretches.specs.Rising.{rising}
use Rattle.stretches.specs.Stretches.{number_count}
use Rattle.stretches.specs.declared.rising.Rising.{Rising}
use Rattle.stretches.specs.declared.stretch.Stretch.{Stretch}
use Rattle.stretches.proofs.Cells.{get_cells}
use Rattle.stretches.proofs.Reading.Numbers.{high, low}
use Rattle.local_cache.specs.ThinNodes.{Thin}
use Rattle.local_cache.proofs.Stretched.{len_come}
use Rattle.local_cache.proofs.ThinFirst.{vacant_numbers}
use Rattle.local_cache.proofs.runs.thin_nodes.ThinNodes.enter_run.Goals as goal

pub insert-requires-clause-vacant : goal.insert-requires-clause-vacant
insert-requires-clause-vacant c n h =
    let r : Stretch Rising = record { first = c.in-Some.number; count = c.args.nodes.count; value = record { 0 = c.args.nodes.first } } in
    sym (get_cells rising c.self.inside.runs.list n)
    ∙ ap (λ (t : Thin). map.get t.among n) c.self.view_is
    ∙ vacant_numbers c.args.nodes.value c.args.nodes.count c.in-Some.number c.args.self.now.among c.in-Some.ensures c.requires.vacant n (low r n h) (high r n h)

pub invariant_of-self : goal.invariant_of-self
invariant_of-self c =
    let rs = c.self.inside.runs.list in
    let new = c.join_at-in-Some.new.self in
    let number = c.in-Some.number in
    let count = c.args.nodes.count in
    let r : Stretch Rising = record { first = number; count = count; value = record { 0 = c.args.nodes.first } } in
    let vacant : (j : ℕ) → j < count → map.get (cells rising rs) (number + j) ≡ None = λ j less.
    ap (λ (t : Thin). map.get t.among (number + j)) c.self.view_is
    ∙ vacant_numbers c.args.nodes.value count number c.args.self.now.among c.in-Some.ensures c.requires.vacant (number + j) (omega arith) (omega (arith, less)) in
    let more : map.len (cells rising new.list) ≡ map.len (cells rising rs) + count =
    ap map.len (c.join_at-in-Some.ensures.cells ∙ c.join_at.ensures.cells ∙ c.insert.ensures.cells) ∙ len_come rising (λ v. v) (cells rising rs) r count vacant in
    let numbers : number_count new.list ≡ number_count rs + count = c.join_at-in-Some.ensures.count ∙ c.join_at.ensures.count ∙ c.insert.ensures.count in
    let places : new.places ≡ c.self.inside.runs.places = c.join_at-in-Some.ensures.places ∙ c.join_at.ensures.places ∙ c.insert.ensures.places in
    let room : map.len (cells rising rs) + count ≤ c.self.inside.alone.room = subst (λ (t : Thin). map.len t.among + count ≤ t.room) (sym c.self.view_is) c.requires.room in
    record {
      counted = omega (arith, numbers, more, c.self.invariant.counted);
      places = omega (arith, places, c.self.invariant.places);
      few = omega (arith, more, room);
    }
