use Rattle.std.proofs.Common.{◌≡◌, ℕ, ◌+◌, ◌-◌, ◌≤◌, List, Option, ap, ◌∙◌, subst, arith}
use Rattle.vm_ids.specs.declared.numbers.NodeId.{NodeId}
use Rattle.vm_ids.specs.Forest.Commands.{page_name, page_names}
use Rattle.vm_ids.specs.Forest.Nodes.{IsNode}
use Rattle.local_cache.specs.Reading.{forest_of}
use Rattle.local_cache.proofs.Whole.LivePages.{page_there}
use Rattle.page_tables.specs.declared.entry.Entry.{Entry}
use Rattle.residency.specs.declared.store.Store.{Store}
use Rattle.page_commands.specs.Translating.{is_owned, own_in, with_narrowed}
use Rattle.page_commands.proofs.StaleTranslations.Ranges.{narrow_end, narrow_step, same_map, tables_mapped, tables_then, with_tables}
use Rattle.page_commands.proofs.translations.narrow_own.Goals as goal

pub narrow_own_next-done-requires-clause-node : goal.narrow_own_next-done-requires-clause-node
narrow_own_next-done-requires-clause-node c =
    let k = c.loop-done.done in
    page_there c.args.caches.now c.requires.whole.sound c.args.extent.cache (record { 0 = c.args.extent.first.0 + k }) (c.requires.nodes k c.loop-done-test.true)

pub narrow_written-requires-clause-nodes : goal.narrow_written-requires-clause-nodes
narrow_written-requires-clause-nodes c = λ i low. (
    let k = c.loop-done.done in
    let first = c.args.extent.first.0 in
    let at : first + (k + i) ≡ first + k + i = omega arith in
    subst (λ (p : ℕ). IsNode (forest_of c.args.caches.now) (page_name c.args.extent.cache p)) at (c.requires.nodes (k + i) (omega (arith, low))))

pub loop-done-preserved : goal.loop-done-preserved
loop-done-preserved c =
    let i = c.loop-done.invariant in
    let k = c.loop-done.done in
    let m = c.narrow_own_next-done.result in
    let a = c.args.caches.now in
    let s = c.args.store.now in
    let t = c.loop-done.store in
    let u = c.narrow_own_next-done.new.store in
    let e = c.narrow_own_next-done.ensures.narrowed in
    let most : k + m ≤ c.args.extent.pages = omega (arith, c.narrow_own_next-done.ensures.most, i.most) in
    let first = page_names c.args.extent.cache (c.args.extent.first.0 + k) m in
    let next = page_names c.args.extent.cache (c.args.extent.first.0 + (k + m)) (c.args.extent.pages - (k + m)) in
    let here = ap (λ (r : Store). r.tables) e ∙ ap (λ (l : List (Option NodeId)). with_narrowed (is_owned a l first) t.tables) (same_map s t i.only) in
    record {
      most = most;
      only = tables_then s t u i.only (tables_mapped t u _ e);
      tables = ap (λ (l : List (Option Entry)). with_narrowed (is_owned a s.map next) l) here
          ∙ narrow_step (own_in a s.map) t.tables c.args.extent.cache c.args.extent.first.0 c.args.extent.pages k m most ∙ i.tables;
    }

pub returns-then-looks-eq0 : goal.returns-then-looks-eq0
returns-then-looks-eq0 c =
    let i = c.loop-done.invariant in
    let s = c.args.store.now in
    let t = c.loop-done.store in
    let a = c.args.caches.now in
    let left = page_names c.args.extent.cache (c.args.extent.first.0 + c.loop-done.done) (c.args.extent.pages - c.loop-done.done) in
    let here = ap (λ (l : List (Option NodeId)). with_tables t (with_narrowed (is_owned a l left) t.tables)) (same_map s t i.only) in
    c.narrow_written.ensures ∙ here ∙ ap (λ (r : Store). with_tables r (with_narrowed (is_owned a s.map left) t.tables)) i.only.is ∙ ap (with_tables s) i.tables

pub returns : goal.returns
returns c =
    let i = c.loop-done.invariant in
    let s = c.args.store.now in
    let over = narrow_end (own_in c.args.caches.now s.map) c.loop-done.store.tables c.args.extent.cache c.args.extent.first.0 c.args.extent.pages c.loop-done.done (omega (arith, c.loop-done-test.false)) in
    i.only.is ∙ ap (with_tables s) (over ∙ i.tables)
