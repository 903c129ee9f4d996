use Rattle.std.proofs.Common.{List, sym, subst}
use Rattle.vm_ids.specs.declared.node_name.NodeName.{NodeName}
use Rattle.vm_ids.specs.Forest.Commands.{firsts, page_names, seconds, span_pairs}
use Rattle.vm_ids.specs.Forest.NameLists.{◌∈◌}
use Rattle.local_cache.specs.Reading.{forest_of}
use Rattle.page_commands.specs.Translating.{where_mapped}
use Rattle.page_commands.proofs.StaleTranslations.Behind.{goes_behind, kept_behind, pages_behind, ready_behind}
use Rattle.page_commands.proofs.StaleTranslations.Left.{AreReady, leaves, ready_first, ready_shared}
use Rattle.page_commands.proofs.StaleTranslations.Ranges.{tables_twice}
use Rattle.page_commands.proofs.CommandSteps.Ranges.{destination_names, destination_nodes, source_names, source_nodes}
use Rattle.page_commands.proofs.copying.copy_pages.Goals as goal

pub drop_seen_where_mapped-requires-clause-nodes : goal.drop_seen_where_mapped-requires-clause-nodes
drop_seen_where_mapped-requires-clause-nodes c = destination_nodes (forest_of c.args.caches.now) c.args.span c.requires.transfer.can

pub narrow_own-requires-clause-nodes : goal.narrow_own-requires-clause-nodes
narrow_own-requires-clause-nodes c = source_nodes (forest_of c.args.caches.now) c.args.span c.requires.transfer.can

pub copy_and_settle-requires-clause-ready : goal.copy_and_settle-requires-clause-ready
copy_and_settle-requires-clause-ready c =
    let s = c.args.store.now in
    let t = c.narrow_own.new.store in
    ready_behind s t (tables_twice s c.drop_seen_where_mapped.new.store t _ _ c.drop_seen_where_mapped.ensures c.narrow_own.ensures) c.args.caches.now _ c.args.span.to (firsts (span_pairs c.args.span)) c.requires.ready

pub returns : goal.returns
returns c =
    let s = c.args.store.now in
    let t = c.narrow_own.new.store in
    let a = c.args.caches.now in
    let r = c.args.store.now in
    let u = c.narrow_own.new.store in
    let mapped = c.args.mapped in
    record {
      rule = goes_behind s t (tables_twice s c.drop_seen_where_mapped.new.store t _ _ c.drop_seen_where_mapped.ensures c.narrow_own.ensures) c.args.caches.now c.copy_and_settle.new.store c.copy_and_settle.new.caches _ c.copy_and_settle.ensures.rule;
      kept = kept_behind s t (tables_twice s c.drop_seen_where_mapped.new.store t _ _ c.drop_seen_where_mapped.ensures c.narrow_own.ensures) c.args.caches.now c.copy_and_settle.new.store c.copy_and_settle.new.caches (firsts (span_pairs c.args.span)) c.copy_and_settle.ensures.kept;
      pages = pages_behind s t (tables_twice s c.drop_seen_where_mapped.new.store t _ _ c.drop_seen_where_mapped.ensures c.narrow_own.ensures) c.args.caches.now c.copy_and_settle.new.store c.copy_and_settle.new.caches _ c.copy_and_settle.ensures.pages;
      translations = (let s = c.args.span in
          let t = c.drop_seen_where_mapped.new.store in
          let to = where_mapped mapped (page_names s.to s.to_page.0 s.pages) in
          let from = page_names s.from s.from_page.0 s.pages in
          let one = ready_first a to r t c.drop_seen_where_mapped.ensures in
          let two = ready_shared a from (λ x. x ∈ to) r t u one c.requires.ready.retire.whole.sound c.requires.ready.retire.whole.consistent c.narrow_own.ensures in
          let by_firsts = subst (λ (xs : List NodeName). AreReady (λ x. x ∈ where_mapped mapped xs) (λ x. x ∈ from) a r u) (sym (destination_names s)) two in
          let ready = subst (λ (xs : List NodeName). AreReady (λ x. x ∈ where_mapped mapped (firsts (span_pairs s))) (λ x. x ∈ xs) a r u) (sym (source_names s)) by_firsts in
          leaves (λ x. x ∈ firsts (span_pairs s)) (λ x. x ∈ where_mapped mapped (firsts (span_pairs s))) (λ x. x ∈ seconds (span_pairs s)) a r u c.copy_and_settle.new.caches c.copy_and_settle.new.store ready c.copy_and_settle.ensures.translations);
    }
