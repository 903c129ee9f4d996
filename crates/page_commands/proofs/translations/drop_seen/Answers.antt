use Rattle.std.proofs.Common.{◌+◌, ◌-◌, ◌≤◌, List, Option, ap, ◌∙◌, arith}
use Rattle.vm_ids.specs.declared.numbers.NodeId.{NodeId}
use Rattle.vm_ids.specs.Forest.Commands.{page_names}
use Rattle.local_cache.proofs.Whole.LivePages.{page_there}
use Rattle.page_tables.specs.declared.entry.Entry.{Entry}
use Rattle.residency.specs.declared.store.Store.{Store}
use Rattle.residency.specs.Seeing.{seen_in}
use Rattle.residency.specs.Translating.{without}
use Rattle.page_commands.specs.Translating.{is_seen}
use Rattle.page_commands.proofs.StaleTranslations.Ranges.{drop_end, drop_step, same_map, tables_mapped, tables_then, with_tables}
use Rattle.page_commands.proofs.translations.drop_seen.Goals as goal

pub drop_seen_next-done-requires-clause-node : goal.drop_seen_next-done-requires-clause-node
drop_seen_next-done-requires-clause-node c =
    let k = c.loop-done.done in
    page_there c.args.caches.now c.requires.whole.sound c.args.extent.cache (record { 0 = c.args.extent.first.0 + k }) (c.requires.nodes k c.loop-done-test.true)

pub loop-done-preserved : goal.loop-done-preserved
loop-done-preserved c =
    let i = c.loop-done.invariant in
    let k = c.loop-done.done in
    let m = c.drop_seen_next-done.result in
    let a = c.args.caches.now in
    let s = c.args.store.now in
    let t = c.loop-done.store in
    let u = c.drop_seen_next-done.new.store in
    let e = c.drop_seen_next-done.ensures.dropped in
    let most : k + m ≤ c.args.extent.pages = omega (arith, c.drop_seen_next-done.ensures.most, i.most) in
    let first = page_names c.args.extent.cache (c.args.extent.first.0 + k) m in
    let next = page_names c.args.extent.cache (c.args.extent.first.0 + (k + m)) (c.args.extent.pages - (k + m)) in
    let here = ap (λ (r : Store). r.tables) e ∙ ap (λ (l : List (Option NodeId)). without (is_seen a l first) t.tables) (same_map s t i.only) in
    record {
      most = most;
      only = tables_then s t u i.only (tables_mapped t u _ e);
      tables = ap (λ (l : List (Option Entry)). without (is_seen a s.map next) l) here
          ∙ drop_step (seen_in a s.map) t.tables c.args.extent.cache c.args.extent.first.0 c.args.extent.pages k m most ∙ i.tables;
    }

pub returns : goal.returns
returns c =
    let i = c.loop-done.invariant in
    let s = c.args.store.now in
    let over = drop_end (seen_in c.args.caches.now s.map) c.loop-done.store.tables c.args.extent.cache c.args.extent.first.0 c.args.extent.pages c.loop-done.done (omega (arith, c.loop-done-test.false)) in
    i.only.is ∙ ap (with_tables s) (over ∙ i.tables)
