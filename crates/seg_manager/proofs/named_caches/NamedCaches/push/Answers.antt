use Rattle.std.proofs.Common.{◌==◌, Some, cond, ap, sym, subst, ◌∙◌, ◌++◌, ◌∷◌, []}
use Rattle.seg_manager.specs.Names.{AreIndexed, AreNamed}
use Rattle.seg_manager.proofs.Lookup.Named.{cache_more}
use Rattle.seg_manager.proofs.named_caches.NamedCaches.push.Goals as goal

pub invariant_of-self : goal.invariant_of-self
invariant_of-self c =
    let named = subst (λ n. AreNamed (n.items ++ c.args.named ∷ [])) (sym c.self.view_is) c.requires.named in
    subst (λ cs. AreIndexed cs c.insert.new.self.entries) (sym c.push_reserved.ensures.items) (record {
      named = named;
      found = λ seg.
          c.in-Ok.ensures.updates.0 seg
          ∙ ap (cond (c.args.named.seg.0 == seg) (Some c.args.named.cache)) (c.self.invariant.found seg)
          ∙ sym (cache_more c.self.inside.list.items c.args.named seg named);
    })
