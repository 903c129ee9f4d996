use Rattle.std.proofs.Common.{◌≡◌, ◌≤◌, List, Option, Some, None, length, ap, sym, ◌∙◌, arith}
use Rattle.std.specs.Prelude.{option_map}
use Rattle.std.proofs.lemmas.Bool.Decides.{nat_tests}
use Rattle.vm_model.specs.Machine.{numbered, pages_in}
use Rattle.vm_model.specs.Seen.{cache_seen}
use Rattle.vm_model.specs.declared.tables.Cache.{Cache}
use Rattle.vm_model.proofs.Parts.Lists.{numbered-map}
use Rattle.vm_model.proofs.Machines.Taking.{counted, pages_live}
use Rattle.vm_model.proofs.place.page_count.Goals as goal

pub prove-unreachable-requires : goal.prove-unreachable-requires
prove-unreachable-requires c =
    let t = c.args.tables.now in
    let found : Cache = c.in-Some.cache.now in
    let there : numbered t.caches.items c.args.cache.0 ≡ Some found = sym (c.in-Some.ensures ∙ ap (λ (cs : List (Option Cache)). numbered cs c.args.cache.0) c.deref.ensures.value) in
    let few : length found.pages.items ≤ t.live = pages_live t c.args.cache.0 found there c.requires in
    grind (arith, nat_tests)

pub returns-in-Some : goal.returns-in-Some
returns-in-Some c =
    let t = c.args.tables.now in
    let found : Cache = c.in-Some.cache.now in
    let there : numbered t.caches.items c.args.cache.0 ≡ Some found = sym (c.in-Some.ensures ∙ ap (λ (cs : List (Option Cache)). numbered cs c.args.cache.0) c.deref.ensures.value) in
    omega (arith, c.len-pages.ensures, found.pages.ok.0, counted t c.args.cache.0 found there)

pub returns-in-None : goal.returns-in-None
returns-in-None c =
    let t = c.args.tables.now in
    let none : numbered t.caches.items c.args.cache.0 ≡ None = sym (c.in-None.ensures ∙ ap (λ (cs : List (Option Cache)). numbered cs c.args.cache.0) c.deref.ensures.value) in
    sym (ap pages_in (numbered-map cache_seen t.caches.items c.args.cache.0 ∙ ap (option_map cache_seen) none))
