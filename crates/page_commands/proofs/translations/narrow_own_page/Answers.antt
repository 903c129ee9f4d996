use Rattle.std.proofs.Common.{List, None, Option, Some, map, ap, ◌∙◌, refl, subst}
use Rattle.vm_ids.specs.declared.numbers.NodeId.{NodeId}
use Rattle.page_tables.specs.Translations.{narrowed}
use Rattle.page_commands.specs.Translating.{own_in}
use Rattle.local_cache.specs.Reading.{name_of}
use Rattle.page_commands.proofs.StaleTranslations.Ranges.{narrow_frame, narrow_nothing, with_tables}
use Rattle.page_commands.proofs.StaleTranslations.Seen.{IsFound, own_is}
use Rattle.page_commands.proofs.translations.narrow_own_page.Goals as goal

pub returns-in-Some : goal.returns-in-Some
returns-in-Some c =
    let s = c.args.store.now in
    let a = c.args.caches.now in
    let n = c.args.node in
    let x = name_of a n in
    let f = c.in-Some.frame in
    let own = own_is s a c.requires.tied c.requires.sound n c.requires.node x refl (Some f) (subst (λ (m : List (Option NodeId)). IsFound m n (Some f)) c.map.ensures c.in-Some.ensures.found) in
    ap (with_tables s) (c.narrow_frame.ensures ∙ ap (map (narrowed f.0)) c.tables_mut.ensures.tables ∙ narrow_frame (own_in a s.map) s.tables x f.0 own)

pub returns-in_default : goal.returns-in_default
returns-in_default c =
    let s = c.args.store.now in
    let a = c.args.caches.now in
    let n = c.args.node in
    let x = name_of a n in
    let own = own_is s a c.requires.tied c.requires.sound n c.requires.node x refl None (subst (λ (m : List (Option NodeId)). IsFound m n None) c.map.ensures c.in_default.ensures.found) in
    ap (with_tables s) (narrow_nothing (own_in a s.map) s.tables x own)
