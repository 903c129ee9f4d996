use Rattle.std.proofs.Common.{[], ◌∷◌, ap, ◌∙◌}
use Rattle.vm_ids.specs.declared.node_name.NodeName.{NodeName}
use Rattle.page_commands.specs.Translating.{is_owned, own_in, with_narrowed}
use Rattle.page_commands.proofs.StaleTranslations.Alike.{none_owned}
use Rattle.page_commands.proofs.StaleTranslations.Ranges.{narrow_frameless, with_tables}
use Rattle.page_commands.proofs.translations.narrow_own_next.Goals as goal

pub returns-then-alike-gt0-clause-narrowed : goal.returns-then-alike-gt0-clause-narrowed
returns-then-alike-gt0-clause-narrowed c =
    let s = c.args.store.now in
    let a = c.args.caches.now in
    let alike = c.frameless-alike.ensures in
    let none = none_owned a s.map c.requires.sound c.args.cache c.args.page c.node_of-node.result c.node_of-node.ensures
    c.frameless-alike.result alike.alike (alike.frameless c.if-alike-gt0.true) in
    ap (with_tables s) (narrow_frameless (own_in a s.map) s.tables c.args.cache c.args.page.0 c.frameless-alike.result none)

pub returns-clause-narrowed : goal.returns-clause-narrowed
returns-clause-narrowed c =
    let s = c.args.store.now in
    let named = c.requires.sound.kept.listed.nodes c.args.cache.0 c.args.page.0 c.node_of-node.result c.node_of-node.ensures in
    c.narrow_own_page.ensures ∙ ap (λ (x : NodeName). with_tables s (with_narrowed (is_owned c.args.caches.now s.map (x ∷ [])) s.tables)) named.1
