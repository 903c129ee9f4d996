use Rattle.std.proofs.Common.{◌≡◌, ◌+◌, ◌≤◌, List, Option, Some, ap, sym, ◌∙◌, arith}
use Rattle.std.proofs.lemmas.Bool.Decides.{nat_tests}
use Rattle.vm_model.specs.Machine.{numbered}
use Rattle.vm_model.specs.declared.tables.Cache.{Cache}
use Rattle.vm_model.proofs.Machines.Taking.{pages_live, within}
use Rattle.vm_model.proofs.copies.check_span.Goals as goal

pub returns-clause-spanned : goal.returns-clause-spanned
returns-clause-spanned c =
    let s = c.args.span.now in
    record {
      source = c.in-Some.source.now;
      destination = c.in-Some-cache_at.destination.now;
      from = sym (c.in-Some.ensures ∙ ap (λ (cs : List (Option Cache)). numbered cs s.from.0) c.deref.ensures.value);
      to = sym (c.in-Some-cache_at.ensures ∙ ap (λ (cs : List (Option Cache)). numbered cs s.to.0) c.deref-2.ensures.value);
      inside = sym c.if-passes_end.ensures;
      within = sym c.if-passes_end-2.ensures;
    }

pub prove-unreachable-requires : goal.prove-unreachable-requires
prove-unreachable-requires c =
    let t = c.args.tables.now in
    let s = c.args.span.now in
    let found : Cache = c.in-Some-cache_at.destination.now in
    let there : numbered t.caches.items s.to.0 ≡ Some found = sym (c.in-Some-cache_at.ensures ∙ ap (λ (cs : List (Option Cache)). numbered cs s.to.0) c.deref-2.ensures.value) in
    let below : s.to_page.0 + s.pages ≤ t.live = omega (arith, within s.to_page.0 s.pages found (sym c.if-passes_end-2.ensures), pages_live t s.to.0 found there c.requires) in
    grind (arith, nat_tests)
