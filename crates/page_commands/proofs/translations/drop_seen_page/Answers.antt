use Rattle.std.proofs.Common.{List, None, Option, Some, map, ap, ◌∙◌, refl, subst}
use Rattle.vm_ids.specs.declared.numbers.NodeId.{NodeId}
use Rattle.page_tables.specs.Entries.{is_in_frame}
use Rattle.page_tables.specs.Translations.{unless}
use Rattle.residency.specs.Seeing.{seen_in}
use Rattle.local_cache.specs.Reading.{name_of}
use Rattle.page_commands.proofs.StaleTranslations.Ranges.{drop_frame, drop_nothing, with_tables}
use Rattle.page_commands.proofs.StaleTranslations.Seen.{IsFound, seen_is}
use Rattle.page_commands.proofs.translations.drop_seen_page.Goals as goal

pub returns-in-Some : goal.returns-in-Some
returns-in-Some c =
    let s = c.args.store.now in
    let a = c.args.caches.now in
    let n = c.args.node in
    let o = c.owner_of-owner in
    let x = name_of a n in
    let f = c.in-Some.frame in
    let seen = seen_is s a c.requires.tied c.requires.sound c.requires.consistent n c.requires.node x refl o.result o.ensures.held o.ensures.owner (Some f) (subst (λ (m : List (Option NodeId)). IsFound m o.result (Some f)) c.map.ensures c.in-Some.ensures.found) in
    ap (with_tables s) (c.drop_frame.ensures ∙ ap (map (unless (is_in_frame f.0))) c.tables_mut.ensures.tables ∙ drop_frame (seen_in a s.map) s.tables x f.0 seen)

pub returns-in_default : goal.returns-in_default
returns-in_default c =
    let s = c.args.store.now in
    let a = c.args.caches.now in
    let n = c.args.node in
    let o = c.owner_of-owner in
    let x = name_of a n in
    let seen = seen_is s a c.requires.tied c.requires.sound c.requires.consistent n c.requires.node x refl o.result o.ensures.held o.ensures.owner None (subst (λ (m : List (Option NodeId)). IsFound m o.result None) c.map.ensures c.in_default.ensures.found) in
    ap (with_tables s) (drop_nothing (seen_in a s.map) s.tables x seen)
