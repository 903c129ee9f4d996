use Rattle.std.proofs.lemmas.Bool.Decides.{nat_tests}
use Rattle.std.proofs.Common.{◌≡◌, ◌+◌, ◌≤◌, List, Option, Some, ap, sym, ◌∙◌, arith}
use Rattle.std.specs.Prelude.{option_map}
use Rattle.vm_model.specs.Machine.{numbered}
use Rattle.vm_model.specs.declared.tables.Cache.{Cache}
use Rattle.vm_model.proofs.Machines.Awaiting.{segment_there}
use Rattle.vm_model.proofs.Machines.Taking.{counted, pages_live, within}
use Rattle.vm_model.proofs.extents.check_extent.Goals as goal

pub returns-clause-segment : goal.returns-clause-segment
returns-clause-segment c =
    let t = c.args.tables.now in
    let e = c.args.extent.now in
    let found : Cache = c.in-Some.cache.now in
    let there : numbered t.caches.items e.cache.0 ≡ Some found = sym (c.in-Some.ensures ∙ ap (λ (cs : List (Option Cache)). numbered cs e.cache.0) c.deref.ensures.value) in
    segment_there t e.cache.0 found there ∙ ap (option_map (λ s. s.0)) c.in-Some-segment.is

pub returns-clause-within : goal.returns-clause-within
returns-clause-within c =
    let t = c.args.tables.now in
    let e = c.args.extent.now in
    let found : Cache = c.in-Some.cache.now in
    let there : numbered t.caches.items e.cache.0 ≡ Some found = sym (c.in-Some.ensures ∙ ap (λ (cs : List (Option Cache)). numbered cs e.cache.0) c.deref.ensures.value) in
    omega (arith, within e.first.0 e.pages found (sym c.if-passes_end.ensures), counted t e.cache.0 found there)

pub prove-unreachable-requires : goal.prove-unreachable-requires
prove-unreachable-requires c =
    let t = c.args.tables.now in
    let e = c.args.extent.now in
    let found : Cache = c.in-Some.cache.now in
    let there : numbered t.caches.items e.cache.0 ≡ Some found = sym (c.in-Some.ensures ∙ ap (λ (cs : List (Option Cache)). numbered cs e.cache.0) c.deref.ensures.value) in
    let below : e.first.0 + e.pages ≤ t.live = omega (arith, within e.first.0 e.pages found (sym c.if-passes_end.ensures), pages_live t e.cache.0 found there c.requires) in
    grind (arith, nat_tests)
