use Rattle.std.proofs.Common.{◌≡◌, ◌+◌, ◌-◌, List, Option, Some, [], map, take, drop, ap, sym, ◌∙◌}
use Rattle.std.specs.Option.{option_map_or}
use Rattle.vm_model.specs.Machine.{numbered}
use Rattle.vm_model.specs.Seen.{HasPages, pages_seen}
use Rattle.vm_model.specs.declared.tables.Cache.{Cache}
use Rattle.vm_model.proofs.Parts.Lists.{weaker_ok}
use Rattle.vm_model.proofs.Machines.Sound.{numbered-all, part_seen, whole_part}
use Rattle.vm_model.proofs.copies.source_pages.Goals as goal

pub returns-clause-pages : goal.returns-clause-pages
returns-clause-pages c =
    let t = c.args.tables.now in
    let s = c.args.span.now in
    let source : Cache = c.in-Some.source.now in
    let there : numbered t.caches.items s.from.0 ≡ Some source = sym (c.in-Some.ensures ∙ ap (λ (cs : List (Option Cache)). numbered cs s.from.0) c.deref.ensures.value) in
    weaker_ok c.copies.result _ _ (λ v e.
    e
    ∙ ap (λ ps. map (λ p. p.items) (take (s.from_page.0 + s.pages - s.from_page.0) (drop s.from_page.0 ps))) c.deref-in-Some.ensures.value
    ∙ part_seen source s.from_page.0 s.pages
    ∙ ap (λ (o : Option Cache). take s.pages (drop s.from_page.0 (option_map_or pages_seen o []))) (sym there))
    c.copies.ensures

pub returns-clause-whole : goal.returns-clause-whole
returns-clause-whole c =
    let t = c.args.tables.now in
    let s = c.args.span.now in
    let source : Cache = c.in-Some.source.now in
    let there : numbered t.caches.items s.from.0 ≡ Some source = sym (c.in-Some.ensures ∙ ap (λ (cs : List (Option Cache)). numbered cs s.from.0) c.deref.ensures.value) in
    weaker_ok c.copies.result _ _ (λ v e.
    whole_part t.page_bytes source v.items s.from_page.0 s.pages (numbered-all (HasPages t.page_bytes) t.caches.items s.from.0 source there c.requires.sound.whole)
    (e
    ∙ ap (λ ps. map (λ p. p.items) (take (s.from_page.0 + s.pages - s.from_page.0) (drop s.from_page.0 ps))) c.deref-in-Some.ensures.value
    ∙ part_seen source s.from_page.0 s.pages))
    c.copies.ensures
