use Rattle.std.proofs.Common.{sym, ap, ◌∙◌, subst}
use Rattle.std.specs.Prelude.{IfSome}
use Rattle.local_cache.specs.Many.{HaveNone}
use Rattle.tree_merge.specs.Copying.{linked_many}
use Rattle.tree_merge.proofs.copying.link_many.Goals as goal

pub returns-in-None : goal.returns-in-None
returns-in-None c =
    let a = c.args.caches.now in
    let d = c.args.node in
    record {
      changed = (
        d,
        subst (λ o. IfSome o (λ _. HaveNone a d c.args.count)) (sym c.in-None.is) tt,
        c.link_one.ensures.changed ∙ ap (λ o. linked_many a o d c.args.source d c.args.count) (sym c.in-None.is),
      );
    }
