use Rattle.std.proofs.Common.{Option, sym, subst}
use Rattle.std.specs.Prelude.{MatchOption}
use Rattle.local_cache.specs.ThinNodes.{HasNone, IsFirst, Thin, seen}
use Rattle.local_cache.specs.declared.runs.thin_nodes.FirstThin.{FirstThin}
use Rattle.local_cache.proofs.ThinFirst.{first_right}
use Rattle.local_cache.proofs.runs.thin_nodes.ThinNodes.first.Goals as goal

pub returns : goal.returns
returns c =
    let t : Thin = seen c.self.inside.alone c.self.inside.runs in
    let P : Option FirstThin → Type 0 = λ o. MatchOption o (HasNone t) (IsFirst t) in
    let Q : Thin → Type 0 = λ u. MatchOption c.lesser_of.result (HasNone u) (IsFirst u) in
    subst Q c.self.view_is (subst P (sym c.lesser_of.ensures) (first_right t c.first_of-run.result c.least-alone.result c.first_of-run.ensures c.least-alone.ensures))
