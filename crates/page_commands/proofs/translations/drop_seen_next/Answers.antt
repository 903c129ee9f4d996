use Rattle.std.proofs.Common.{[], ◌∷◌, sym, ap, ◌∙◌}
use Rattle.vm_ids.specs.declared.node_name.NodeName.{NodeName}
use Rattle.local_cache.specs.Own.{is_absent}
use Rattle.residency.specs.Seeing.{seen_in}
use Rattle.residency.specs.Translating.{without}
use Rattle.page_commands.specs.Translating.{is_seen}
use Rattle.page_commands.proofs.StaleTranslations.Alike.{none_seen}
use Rattle.page_commands.proofs.StaleTranslations.Ranges.{drop_frameless, with_tables}
use Rattle.page_commands.proofs.translations.drop_seen_next.Goals as goal

pub returns-then-not-is_absent-clause-dropped : goal.returns-then-not-is_absent-clause-dropped
returns-then-not-is_absent-clause-dropped c =
    let s = c.args.store.now in
    let a = c.args.caches.now in
    let r = c.requires in
    let alike = c.frameless-alike.ensures in
    let owned = ap is_absent (sym c.own_state.ensures) ∙ sym c.is_absent.ensures.absent ∙ c.if-not-is_absent.true in
    let none = none_seen a s.map r.sound c.args.cache c.args.page c.node_of-node.result c.node_of-node.ensures
    c.frameless-alike.result alike.alike (alike.frameless c.if-alike-gt0.true) r.consistent owned in
    ap (with_tables s) (drop_frameless (seen_in a s.map) s.tables c.args.cache c.args.page.0 c.frameless-alike.result none)

pub returns-clause-dropped : goal.returns-clause-dropped
returns-clause-dropped c =
    let s = c.args.store.now in
    let named = c.requires.sound.kept.listed.nodes c.args.cache.0 c.args.page.0 c.node_of-node.result c.node_of-node.ensures in
    c.drop_seen_page.ensures ∙ ap (λ (x : NodeName). with_tables s (without (is_seen c.args.caches.now s.map (x ∷ [])) s.tables)) named.1
