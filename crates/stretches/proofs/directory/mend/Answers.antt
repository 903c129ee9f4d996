use Rattle.std.proofs.Common.{◌≡◌, ℕ, suc, ◌+◌, ◌-◌, ◌<◌, [], length, get_or, sym, ap, subst, add-one, ◌∙◌, arith}
use Rattle.stretches.specs.Leaves.{AreSpread, IsShortBehind, flat}
use Rattle.stretches.proofs.Leaves.Mending.{flat_dropped, flat_joined, spread_as_is, spread_dropped, spread_with_last, spread_with_next}
use Rattle.stretches.proofs.directory.mend.Goals as goal
use Rattle.stretches.proofs.directory.mend.Goals.{else-behind-len-via-then-behind-len+else-count-leaf-le-HALF, else-behind-len-via-else-behind-len}

pub returns-then-count-eq0-clause-entries : goal.returns-then-count-eq0-clause-entries
returns-then-count-eq0-clause-entries g c =
    ap flat c.close.ensures.lists ∙ flat_dropped c.args.pool.now.lists c.args.leaf c.requires (omega (arith, ap length c.leaf-count.ensures.entries, c.if-count-eq0.true))

pub returns-then-count-eq0-clause-spread : goal.returns-then-count-eq0-clause-spread
returns-then-count-eq0-clause-spread g c = λ short.
    subst AreSpread (sym c.close.ensures.lists) (spread_dropped 64 c.args.pool.now.lists c.args.leaf c.requires (omega (arith, ap length c.leaf-count.ensures.entries, c.if-count-eq0.true)) short)

pub returns-then-count-leaf-le-HALF-clause-entries : goal.returns-then-count-leaf-le-HALF-clause-entries
returns-then-count-leaf-le-HALF-clause-entries g c =
    ap flat c.join_leaves.ensures.joined ∙ flat_joined c.args.pool.now.lists c.args.leaf (omega (arith, c.len.ensures, c.if-behind-len.true))

pub returns-then-count-leaf-le-HALF-clause-spread : goal.returns-then-count-leaf-le-HALF-clause-spread
returns-then-count-leaf-le-HALF-clause-spread g c = λ short.
    subst AreSpread (sym c.join_leaves.ensures.joined) (spread_with_next 64 c.args.pool.now.lists c.args.leaf (omega arith) (omega (arith, c.len.ensures, c.if-behind-len.true)) short)

pub returns-then-leaf-count-le-HALF-clause-entries : goal.returns-then-leaf-count-le-HALF-clause-entries
returns-then-leaf-count-le-HALF-clause-entries g c =
    ap flat c.join_leaves-then-leaf-count-le-HALF.ensures.joined ∙ flat_joined c.args.pool.now.lists (c.args.leaf - 1) (omega (arith, c.requires, c.if-leaf-gt0.true))

pub returns-then-leaf-count-le-HALF-clause-spread : goal.returns-then-leaf-count-le-HALF-clause-spread
returns-then-leaf-count-le-HALF-clause-spread g c = λ short.
    let ls = c.args.pool.now.lists in
    let e : c.args.leaf ≡ suc (c.args.leaf - 1) = omega (arith, c.if-leaf-gt0.true) in
    subst AreSpread (sym c.join_leaves-then-leaf-count-le-HALF.ensures.joined)
    (spread_with_last 64 ls (c.args.leaf - 1) (omega (arith, c.requires, e)) (subst (IsShortBehind 64 ls) e short))

pub returns-else-leaf-count-le-HALF-clause-spread : goal.returns-else-leaf-count-le-HALF-clause-spread
returns-else-leaf-count-le-HALF-clause-spread g c = λ short.
    let ls = c.args.pool.now.lists in
    let leaf = c.args.leaf in
    let count = ap length c.leaf-count.ensures.entries in
    let before = ap length c.leaf-then-leaf-gt0.ensures.entries in
    let next : suc leaf < length ls → 64 < length (get_or ls leaf []) + length (get_or ls (suc leaf) []) = λ less.
    elim c.else-behind-len.branch [
      | else-behind-len-via-then-behind-len+else-count-leaf-le-HALF w ↦ omega (arith, count, ap length w.leaf.ensures.entries, ap (λ (q : ℕ). length (get_or ls q [])) (add-one leaf), w.if-count-leaf-le-HALF.false)
      | else-behind-len-via-else-behind-len w ↦ absurd (omega (arith, c.len.ensures, w.if-behind-len.false, less))
    ] in
    let last : (i : ℕ) → suc i ≡ leaf → 64 < length (get_or ls i []) + length (get_or ls leaf []) = λ i e.
    let is : leaf - 1 ≡ i = omega (arith, e) in
    omega (arith, count, before, ap (λ (q : ℕ). length (get_or ls q [])) is, c.if-leaf-count-le-HALF.false) in
    spread_as_is 64 ls leaf (omega (arith, count, c.if-count-eq0.false)) next last (λ e. absurd (omega (arith, e, c.if-leaf-gt0.true))) short
