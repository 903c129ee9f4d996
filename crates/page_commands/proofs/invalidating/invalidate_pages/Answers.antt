use Rattle.vm_ids.specs.Forest.Commands.{extent_names}
use Rattle.vm_ids.specs.Forest.NameLists.{◌∈◌}
use Rattle.page_commands.proofs.StaleTranslations.Behind.{goes_behind, kept_behind, pages_behind, ready_behind}
use Rattle.page_commands.proofs.StaleTranslations.Left.{leaves, ready_first}
use Rattle.page_commands.proofs.StaleTranslations.Ranges.{tables_mapped}
use Rattle.page_commands.proofs.invalidating.invalidate_pages.Goals as goal

pub invalidate_and_settle-requires-clause-ready : goal.invalidate_and_settle-requires-clause-ready
invalidate_and_settle-requires-clause-ready c =
    let s = c.args.store.now in
    let t = c.drop_seen.new.store in
    ready_behind s t (tables_mapped s t _ c.drop_seen.ensures) c.args.caches.now c.args.extent.pages c.args.extent.cache (extent_names c.args.extent) c.requires.ready

pub returns : goal.returns
returns c =
    let s = c.args.store.now in
    let t = c.drop_seen.new.store in
    let a = c.args.caches.now in
    let names = extent_names c.args.extent in
    record {
      rule = goes_behind s t (tables_mapped s t _ c.drop_seen.ensures) c.args.caches.now c.invalidate_and_settle.new.store c.invalidate_and_settle.new.caches _ c.invalidate_and_settle.ensures.rule;
      kept = kept_behind s t (tables_mapped s t _ c.drop_seen.ensures) c.args.caches.now c.invalidate_and_settle.new.store c.invalidate_and_settle.new.caches (extent_names c.args.extent) c.invalidate_and_settle.ensures.kept;
      pages = pages_behind s t (tables_mapped s t _ c.drop_seen.ensures) c.args.caches.now c.invalidate_and_settle.new.store c.invalidate_and_settle.new.caches c.args.extent.pages c.invalidate_and_settle.ensures.pages;
      translations = leaves (λ x. x ∈ names) (λ x. x ∈ names) (λ x. ⊥) a s t c.invalidate_and_settle.new.caches c.invalidate_and_settle.new.store (ready_first a names s t c.drop_seen.ensures) c.invalidate_and_settle.ensures.translations;
    }
