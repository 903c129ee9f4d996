use Rattle.std.proofs.Common.{◌≡◌, subst, arith}
use Rattle.local_cache.specs.Arena.{Arena}
use Rattle.tree_merge.specs.Copyable.{AreCopyable}
use Rattle.tree_merge.proofs.stepping.copied_at_once.Goals as goal

pub returns-clause-copyable : goal.returns-clause-copyable
returns-clause-copyable c = λ many.
    let same : c.copyable.result ≡ c.max.result = omega (arith, many) in
    subst (λ (x : Arena). AreCopyable x c.args.node c.args.source c.max.result) c.gather_leaves.ensures
    (subst (AreCopyable c.gather_leaves.new.caches c.args.node c.args.source) same (c.copyable.ensures.copyable (omega (arith, many))))
