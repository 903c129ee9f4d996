use Rattle.std.proofs.Common.{◌≡◌, ℕ, ◌+◌, ◌-◌, ◌*◌, ◌^◌, ◌≤◌, refl, sym, ap, subst, ◌∙◌, arith}
use Rattle.std.specs.Prelude.{is_some}
use Rattle.std.specs.FinMap as map
use Rattle.vm_ids.specs.declared.node_name.NodeName.TheVariants.{Working}
use Rattle.local_cache.specs.Arena.{Cell}
use Rattle.local_cache.specs.NodeCells.{Cells, HaveCells, changed_each, named}
use Rattle.local_cache.specs.NodeRuns.{AreNumbered}
use Rattle.local_cache.specs.PageNodes.{ArePaged, PageNodes, as_working_many}
use Rattle.local_cache.specs.Pages.{Pages}
use Rattle.local_cache.specs.declared.runs.counters.Counters.{Counters}
use Rattle.local_cache.proofs.NodesCome.{working_free}
use Rattle.local_cache.proofs.NodesKept.{len_each, numbered_renamed}
use Rattle.local_cache.proofs.PagesKept.{paged_working_many, working_many_is}
use Rattle.local_cache.proofs.runs.node_runs.NodeRuns.to_working_many.Goals as goal

pub change_each-requires-clause-thin : goal.change_each-requires-clause-thin
change_each-requires-clause-thin c =
    working_free c.self.inside.table.cells c.self.inside.counters c.args.node.0 c.args.count c.self.invariant.numbered
    (λ k less. ap (λ (m : PageNodes). is_some (map.get m.cells (c.args.node.0 + k))) c.self.view_is ∙ c.requires.held k less)
    (omega (arith, c.requires.made, ap (λ (m : PageNodes). m.made) c.self.view_is))

held : (c : goal.After-self-2-1) → HaveCells c.self.inside.table.cells c.args.node.0 c.args.count
held c k less = ap (λ (m : PageNodes). is_some (map.get m.cells (c.args.node.0 + k))) c.self.view_is ∙ c.requires.held k less

abbrev names : goal.After-self-2-1 → ℕ → Cell → Cell
names c k = named (Working (c.self.inside.counters.made + 1 + k))

abbrev counted : goal.After-self-2-1 → Counters
counted c = record c.self.inside.counters {
  live = c.self.inside.counters.live - c.leave_pages.result;
  made = c.self.inside.counters.made + c.args.count;
}

abbrev before : goal.After-self-2-1 → PageNodes
before c = record {
  cells = c.self.inside.table.cells;
  pages = c.self.inside.pages.nodes.cells;
  made = c.self.inside.counters.made;
  room = c.self.inside.capacity - map.len c.self.inside.table.cells;
}

same_len : (c : goal.After-self-2-1) → map.len c.change_each.new.self.cells ≡ map.len c.self.inside.table.cells
same_len c = ap map.len c.change_each.ensures.cells ∙ len_each c.self.inside.table.cells c.args.node.0 (names c) c.args.count (held c)

pub invariant_of-self : goal.invariant_of-self
invariant_of-self c =
    let t = c.self.inside.table in
    let right = c.self.invariant in
    let few : c.self.inside.counters.made + c.args.count ≤ 3 * 2 ^ 61 = omega (arith, c.requires.made, ap (λ (m : PageNodes). m.made) c.self.view_is) in
    let P : Cells → Type 0 = λ x. ArePaged x c.leave_pages.new.pages.nodes.cells in
    let Q : Pages → Type 0 = λ q. ArePaged (changed_each t.cells c.args.node.0 (names c) c.args.count) q in
    let R : Cells → Type 0 = λ x. AreNumbered x (counted c) in
    record {
      paged = subst P (sym c.change_each.ensures.cells) (subst Q (sym c.leave_pages.ensures.pages) (paged_working_many (before c) c.args.node c.args.count right.paged (held c)));
      numbered = subst R (sym c.change_each.ensures.cells) (numbered_renamed t.cells c.self.inside.counters (counted c) c.args.node.0 c.args.count right.numbered refl refl refl few (held c));
      counted = record {
        nodes = right.counted.nodes ∙ sym (same_len c);
        live = omega (arith, right.counted.live, c.leave_pages.ensures.fewer);
        table = c.change_each.ensures.count ∙ right.counted.table ∙ sym (same_len c);
        pages = omega (arith, right.counted.pages, c.leave_pages.ensures.fewer, c.leave_pages.ensures.count);
      };
      places = record {
        few = right.places.few;
        nodes = omega (arith, same_len c, right.places.nodes);
        table = omega (arith, right.places.table, c.change_each.ensures.room);
        pages = omega (arith, right.places.pages, c.leave_pages.ensures.room);
      };
    }

pub returns : goal.returns
returns c =
    let len = same_len c in
    (λ i. record {
      cells = c.change_each.ensures.cells i;
      pages = c.leave_pages.ensures.pages i;
      made = c.self.inside.counters.made + c.args.count;
      room = c.self.inside.capacity - len i;
    })
    ∙ sym (working_many_is (before c) c.args.node c.args.count)
    ∙ ap (λ (m : PageNodes). as_working_many m c.args.node c.args.count) c.self.view_is
