use Rattle.std.proofs.Common.{◌+◌, subst, arith, Option, List, ℕ, sym, None, Some, set}
use Rattle.std.proofs.lemmas.List.{get_or_past}
use Rattle.probe_table.proofs.Standing.{its_below}
use Rattle.probe_table.proofs.Closing.{IsClosing, closing_starts, closing_stays, closing_moves, closing_ends}
use Rattle.probe_table.proofs.probe.close_gap.Goals as goal
use Rattle.probe_table.proofs.probe.close_gap.Goals.{then-home_of-gap, else-home_of-gap}

pub loop-at-init : goal.loop-at-init
loop-at-init c = closing_starts _ _ _ c.requires.gap c.requires.empty c.requires.probing

pub returns-in-None : goal.returns-in-None
returns-in-None c = closing_ends _ _ _ c.loop-at.at _ c.loop-at.invariant c.in-None.is

pub bounds-hashes-number : goal.bounds-hashes-number
bounds-hashes-number c = its_below _ _ _ _ _ c.loop-at.invariant.probing c.in-Some.is

pub loop-at-preserved : goal.loop-at-preserved
loop-at-preserved c = elim c.if-home_of-gap.branch [
  | then-home_of-gap w ↦
      (let P : List (Option ℕ) → Type 0 = λ xs. IsClosing c.args.hashes.now xs c.if-home_of-gap.gap (c.loop-at.at + 1) in
      let Q : ℕ → Type 0 = λ gap. IsClosing c.args.hashes.now (set (set c.loop-at.buckets c.loop-at.gap (Some c.in-Some.number)) c.loop-at.at None) gap (c.loop-at.at + 1) in
      subst P (sym w.buckets-is) (subst Q (sym w.gap-is) (closing_moves _ _ _ _ _ c.unwrap-hash.result c.loop-at.invariant c.in-Some.is c.unwrap-hash.ensures (omega arith))))
  | else-home_of-gap w ↦
      (let P : List (Option ℕ) → Type 0 = λ xs. IsClosing c.args.hashes.now xs c.if-home_of-gap.gap (c.loop-at.at + 1) in
      let Q : ℕ → Type 0 = λ gap. IsClosing c.args.hashes.now c.loop-at.buckets gap (c.loop-at.at + 1) in
      subst P (sym w.buckets-is) (subst Q (sym w.gap-is) (closing_stays _ _ _ _ _ c.unwrap-hash.result c.loop-at.invariant c.in-Some.is c.unwrap-hash.ensures (omega arith))))
]

pub returns : goal.returns
returns c = closing_ends _ _ _ c.loop-at.at _ c.loop-at.invariant (get_or_past c.loop-at.buckets c.loop-at.at None (omega arith))
