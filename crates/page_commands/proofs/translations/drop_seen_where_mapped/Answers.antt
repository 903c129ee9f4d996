use Rattle.std.proofs.Common.{Bool, sym, ap, ◌∙◌}
use Rattle.vm_ids.specs.Forest.Commands.{extent_names}
use Rattle.residency.specs.Translating.{without}
use Rattle.residency.proofs.Translations.Dropped.{without_none}
use Rattle.page_commands.specs.Translating.{is_seen, where_mapped}
use Rattle.page_commands.proofs.StaleTranslations.Ranges.{with_tables}
use Rattle.page_commands.proofs.translations.drop_seen_where_mapped.Goals as goal

pub returns-then-mapped : goal.returns-then-mapped
returns-then-mapped c =
    let s = c.args.store.now in
    let names = extent_names c.args.extent in
    c.drop_seen.ensures ∙ ap (λ (mapped : Bool). with_tables s (without (is_seen c.args.caches.now s.map (where_mapped mapped names)) s.tables)) (sym c.if-mapped.true)

pub returns-else-mapped : goal.returns-else-mapped
returns-else-mapped c =
    let s = c.args.store.now in
    let names = extent_names c.args.extent in
    ap (with_tables s) (sym (without_none s.tables)) ∙ ap (λ (mapped : Bool). with_tables s (without (is_seen c.args.caches.now s.map (where_mapped mapped names)) s.tables)) (sym c.if-mapped.false)
