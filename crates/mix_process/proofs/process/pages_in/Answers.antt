use Rattle.std.proofs.Common.{◌≡◌, ℕ, zero, suc, ◌+◌, ◌<◌, ◌≤◌, Bool, true, false, cond, List, [], ◌∷◌, length, get_or, take, drop, refl, sym, ap, ◌∙◌, arith}
use Rattle.std.proofs.lemmas.List.{take-append-drop}
use Rattle.mix_process.specs.Seen.{pages_in, same_area}
use Rattle.mix_process.specs.declared.area.Area.{Area}
use Rattle.mix_process.specs.declared.process.Part.{Part}
use Rattle.mix_process.proofs.Reading.Looking.{pages-append}
use Rattle.mix_process.proofs.process.pages_in.Goals as goal
use Rattle.mix_process.proofs.process.pages_in.Goals.{then-is_same, else-is_same}

none_yet : (area : Area) (parts : List Part) → pages_in area (take 0 parts) ≡ 0
none_yet area [] = refl
none_yet area (p ∷ ps) = refl

one_more : (area : Area) (parts : List Part) (i : ℕ) (d : Part) → i < length parts → pages_in area (take (i + 1) parts) ≡ pages_in area (take i parts) + cond (same_area (get_or parts i d).area area) (get_or parts i d).pages 0
one_more area [] i d h = absurd (omega arith)
one_more area (p ∷ ps) zero d h = omega (arith, none_yet area ps)
one_more area (p ∷ ps) (suc i) d h =
    ap (λ (k : ℕ). pages_in area (take k (p ∷ ps))) (let e : suc i + 1 ≡ suc (i + 1) = omega arith in e)
    ∙ (let rest = one_more area ps i d (omega arith) in omega (arith, rest))

no_more_than_all : (area : Area) (parts : List Part) (i : ℕ) → pages_in area (take i parts) ≤ pages_in area parts
no_more_than_all area parts i = omega (arith, ap (pages_in area) (take-append-drop i parts), pages-append area (take i parts) (drop i parts))

by_area : (area : Area) (parts : List Part) (i : ℕ) (d : Part) (b : Bool) → i < length parts → same_area (get_or parts i d).area area ≡ b → pages_in area (take (i + 1) parts) ≡ pages_in area (take i parts) + cond b (get_or parts i d).pages 0
by_area area parts i d b h e = one_more area parts i d h ∙ ap (λ (c : Bool). pages_in area (take i parts) + cond c (get_or parts i d).pages 0) e

pub overflow_add-pages : goal.overflow_add-pages
overflow_add-pages c =
    omega (
      arith,
      c.loop-part.invariant,
      c.requires.few,
      no_more_than_all c.args.area c.args.parts.now (c.loop-part.part-index + 1),
      by_area c.args.area c.args.parts.now c.loop-part.part-index _ true c.loop-part-test.true (sym c.is_same.ensures ∙ c.if-is_same.true),
    )

pub loop-part-preserved : goal.loop-part-preserved
loop-part-preserved c = elim c.if-is_same.branch [
  | then-is_same w ↦ omega (arith, c.loop-part.invariant, w.pages-is, by_area c.args.area c.args.parts.now c.loop-part.part-index _ true c.loop-part-test.true (sym c.is_same.ensures ∙ w.if-is_same.true))
  | else-is_same w ↦ omega (arith, c.loop-part.invariant, w.pages-is, by_area c.args.area c.args.parts.now c.loop-part.part-index _ false c.loop-part-test.true (sym c.is_same.ensures ∙ w.if-is_same.false))
]
