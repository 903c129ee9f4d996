use Rattle.std.proofs.Common.{◌≡◌, ◌<◌, ◌-◌, ℕ, Bool, true, false, List, length, get_or, map, subst, arith}
use Rattle.std.specs.Prelude.{is_some}
use Rattle.page_tables.specs.FrameSets.{has}
use Rattle.page_tables.proofs.FrameSets.{none_in, some_in}
use Rattle.page_tables.proofs.LinkReads.{read_as}
use Rattle.page_tables.proofs.frames.FrameSet.any.Goals as goal

pub returns-then-count-eq0 : goal.returns-then-count-eq0
returns-then-count-eq0 c =
    let empty : length c.self.inside.frames.items ≡ 0 = omega (arith, c.len-count.ensures, c.if-count-eq0.true, c.self.inside.frames.ok.0) in
    subst (λ (s : List Bool). (f : ℕ) → has s f ≡ false) c.self.view_is (none_in c.self.inside.frames.items c.self.inside.places.items c.self.invariant.0 empty)

pub returns : goal.returns
returns c =
    let frames : List ℕ = c.self.inside.frames.items in
    let at : ℕ = c.len-count.result - 1 in
    let below : at < length frames = omega (arith, c.len-count.ensures, c.if-count-eq0.false, c.self.inside.frames.ok.0) in
    let read : get_or frames at 0 ≡ c.index.result.now = read_as frames at c.index.result.now 0 below c.index.ensures in
    subst (λ (s : List Bool). has s c.index.result.now ≡ true) c.self.view_is
    (subst (λ (f : ℕ). has (map is_some c.self.inside.places.items) f ≡ true) read (some_in frames c.self.inside.places.items c.self.invariant.0 at below))
