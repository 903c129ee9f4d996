use Rattle.std.proofs.Common.{◌≡◌, List, map, length, Option, ap, ◌∙◌}
use Rattle.std.specs.Prelude.{option_and_then, slice_get}
use Rattle.vm_model.specs.Machine.{numbered}
use Rattle.vm_model.specs.declared.tables.Cache.{Cache}
use Rattle.vm_model.proofs.Machines.Sound.{page_there}
use Rattle.vm_model.proofs.accesses.page_of.Goals as goal

pub returns-clause-length : goal.returns-clause-length
returns-clause-length c =
    let t = c.args.tables.now in
    let there = page_there t.page_bytes t.caches.items c.args.found.region c.args.found.page c.requires.sound.whole c.requires.placed c.requires.within in
    let e = c.in-Some.ensures ∙ ap (λ (cs : List (Option Cache)). option_and_then (λ (x : Cache). slice_get (map (λ p. p.items) x.pages.items) c.args.found.page) (numbered cs c.args.found.region.cache.0)) c.deref.ensures.value ∙ there.1 in
    let same : c.in-Some.page.now ≡ there.0 = cc in
    ap length same ∙ there.2
