use Rattle.std.proofs.Common.{◌⊎◌, List, sym, subst}
use Rattle.vm_ids.specs.declared.node_name.NodeName.{NodeName}
use Rattle.vm_ids.specs.Forest.Commands.{firsts, page_names, seconds, span_pairs}
use Rattle.vm_ids.specs.Forest.NameLists.{◌∈◌}
use Rattle.local_cache.specs.Reading.{forest_of}
use Rattle.page_commands.specs.Translating.{where_mapped}
use Rattle.page_commands.proofs.StaleTranslations.Behind.{goes_behind, kept_behind, pages_behind, ready_behind}
use Rattle.page_commands.proofs.StaleTranslations.Left.{AreReady, leaves, ready_first, ready_more}
use Rattle.page_commands.proofs.StaleTranslations.Ranges.{tables_twice}
use Rattle.page_commands.proofs.CommandSteps.Ranges.{destination_names, destination_nodes, source_names, source_nodes}
use Rattle.page_commands.proofs.moving.move_pages.Goals as goal

pub drop_seen_where_mapped-requires-clause-nodes : goal.drop_seen_where_mapped-requires-clause-nodes
drop_seen_where_mapped-requires-clause-nodes c = destination_nodes (forest_of c.args.caches.now) c.args.span c.requires.transfer.can

pub drop_seen_where_mapped-requires-2-clause-nodes : goal.drop_seen_where_mapped-requires-2-clause-nodes
drop_seen_where_mapped-requires-2-clause-nodes c = source_nodes (forest_of c.args.caches.now) c.args.span c.requires.transfer.can

pub move_and_settle-requires-clause-ready : goal.move_and_settle-requires-clause-ready
move_and_settle-requires-clause-ready c =
    let s = c.args.store.now in
    let t = c.drop_seen_where_mapped-2.new.store in
    ready_behind s t (tables_twice s c.drop_seen_where_mapped.new.store t _ _ c.drop_seen_where_mapped.ensures c.drop_seen_where_mapped-2.ensures) c.args.caches.now c.args.span.pages c.args.span.to (firsts (span_pairs c.args.span)) c.requires.ready

pub returns : goal.returns
returns c =
    let s = c.args.store.now in
    let t = c.drop_seen_where_mapped-2.new.store in
    let a = c.args.caches.now in
    let r = c.args.store.now in
    let u = c.drop_seen_where_mapped-2.new.store in
    let to_mapped = c.args.to_mapped in
    let from_mapped = c.args.from_mapped in
    record {
      rule = goes_behind s t (tables_twice s c.drop_seen_where_mapped.new.store t _ _ c.drop_seen_where_mapped.ensures c.drop_seen_where_mapped-2.ensures) c.args.caches.now c.move_and_settle.new.store c.move_and_settle.new.caches _ c.move_and_settle.ensures.rule;
      kept = kept_behind s t (tables_twice s c.drop_seen_where_mapped.new.store t _ _ c.drop_seen_where_mapped.ensures c.drop_seen_where_mapped-2.ensures) c.args.caches.now c.move_and_settle.new.store c.move_and_settle.new.caches (firsts (span_pairs c.args.span)) c.move_and_settle.ensures.kept;
      pages = pages_behind s t (tables_twice s c.drop_seen_where_mapped.new.store t _ _ c.drop_seen_where_mapped.ensures c.drop_seen_where_mapped-2.ensures) c.args.caches.now c.move_and_settle.new.store c.move_and_settle.new.caches c.args.span.pages c.move_and_settle.ensures.pages;
      translations = (let s = c.args.span in
          let t = c.drop_seen_where_mapped.new.store in
          let to = where_mapped to_mapped (page_names s.to s.to_page.0 s.pages) in
          let from = where_mapped from_mapped (page_names s.from s.from_page.0 s.pages) in
          let one = ready_first a to r t c.drop_seen_where_mapped.ensures in
          let two = ready_more a from (λ x. x ∈ to) r t u one c.drop_seen_where_mapped-2.ensures in
          let by_firsts = subst (λ (xs : List NodeName). AreReady (λ x. (x ∈ where_mapped to_mapped xs) ⊎ (x ∈ from)) (λ x. ⊥) a r u) (sym (destination_names s)) two in
          let ready = subst (λ (xs : List NodeName). AreReady (λ x. (x ∈ where_mapped to_mapped (firsts (span_pairs s))) ⊎ (x ∈ where_mapped from_mapped xs)) (λ x. ⊥) a r u) (sym (source_names s)) by_firsts in
          leaves (λ x. (x ∈ firsts (span_pairs s)) ⊎ (x ∈ seconds (span_pairs s)))
          (λ x. (x ∈ where_mapped to_mapped (firsts (span_pairs s))) ⊎ (x ∈ where_mapped from_mapped (seconds (span_pairs s)))) (λ x. ⊥) a r u c.move_and_settle.new.caches c.move_and_settle.new.store ready c.move_and_settle.ensures.translations);
    }
