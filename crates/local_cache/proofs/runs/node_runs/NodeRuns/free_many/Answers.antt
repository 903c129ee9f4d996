use Rattle.std.proofs.Common.{◌≡◌, ◌+◌, ◌-◌, refl, sym, ap, subst, ◌∙◌, arith}
use Rattle.std.specs.Prelude.{is_some}
use Rattle.std.specs.FinMap as map
use Rattle.mixed_map.specs.Mixed.{without_range}
use Rattle.local_cache.specs.NodeCells.{Cells, HaveCells}
use Rattle.local_cache.specs.NodeRuns.{AreNumbered}
use Rattle.local_cache.specs.PageNodes.{ArePaged, PageNodes, without_many}
use Rattle.local_cache.specs.Pages.{Pages}
use Rattle.local_cache.specs.declared.runs.counters.Counters.{Counters}
use Rattle.local_cache.proofs.NodesCome.{numbered_range}
use Rattle.local_cache.proofs.NodesKept.{numbered_as}
use Rattle.local_cache.proofs.PagesKept.{paged_many, without_many_is}
use Rattle.local_cache.proofs.TableRight.Numbers.{len_range}
use Rattle.local_cache.proofs.runs.node_runs.NodeRuns.free_many.Goals as goal

held : (c : goal.After-self-2-1) → HaveCells c.self.inside.table.cells c.args.node.0 c.args.count
held c k less = ap (λ (m : PageNodes). is_some (map.get m.cells (c.args.node.0 + k))) c.self.view_is ∙ c.requires k less

abbrev counted : goal.After-self-2-1 → Counters
counted c = record c.self.inside.counters {
  nodes = c.self.inside.counters.nodes - c.args.count;
  live = c.self.inside.counters.live - c.leave_pages.result;
}

abbrev before : goal.After-self-2-1 → PageNodes
before c = record {
  cells = c.self.inside.table.cells;
  pages = c.self.inside.pages.nodes.cells;
  made = c.self.inside.counters.made;
  room = c.self.inside.capacity - map.len c.self.inside.table.cells;
}

fewer : (c : goal.After-self-2-1) → map.len c.remove_each.new.self.cells + c.args.count ≡ map.len c.self.inside.table.cells
fewer c = ap (λ (x : Cells). map.len x + c.args.count) c.remove_each.ensures.cells ∙ len_range c.self.inside.table.cells c.args.node.0 c.args.count (held c)

pub invariant_of-self : goal.invariant_of-self
invariant_of-self c =
    let t = c.self.inside.table in
    let right = c.self.invariant in
    let P : Cells → Type 0 = λ x. ArePaged x c.leave_pages.new.pages.nodes.cells in
    let Q : Pages → Type 0 = λ q. ArePaged (without_range t.cells c.args.node.0 c.args.count) q in
    let R : Cells → Type 0 = λ x. AreNumbered x (counted c) in
    record {
      paged = subst P (sym c.remove_each.ensures.cells) (subst Q (sym c.leave_pages.ensures.pages) (paged_many (before c) c.args.node c.args.count right.paged (held c)));
      numbered = subst R (sym c.remove_each.ensures.cells)
          (numbered_as _ c.self.inside.counters (counted c) refl refl refl (numbered_range t.cells c.self.inside.counters c.args.node.0 c.args.count right.numbered));
      counted = record {
        nodes = omega (arith, right.counted.nodes, fewer c);
        live = omega (arith, right.counted.live, c.leave_pages.ensures.fewer);
        table = omega (arith, c.remove_each.ensures.count, right.counted.table, fewer c);
        pages = omega (arith, right.counted.pages, c.leave_pages.ensures.fewer, c.leave_pages.ensures.count);
      };
      places = record {
        few = right.places.few;
        nodes = omega (arith, fewer c, right.places.nodes);
        table = omega (arith, right.places.table, c.remove_each.ensures.room);
        pages = omega (arith, right.places.pages, c.leave_pages.ensures.room);
      };
    }

pub returns : goal.returns
returns c =
    let room : c.self.inside.capacity - map.len c.remove_each.new.self.cells ≡ c.self.inside.capacity - map.len c.self.inside.table.cells + c.args.count =
    omega (arith, fewer c, c.self.invariant.places.nodes) in
    (λ i. record {
      cells = c.remove_each.ensures.cells i;
      pages = c.leave_pages.ensures.pages i;
      made = c.self.inside.counters.made;
      room = room i;
    })
    ∙ sym (without_many_is (before c) c.args.node c.args.count)
    ∙ ap (λ (m : PageNodes). without_many m c.args.node c.args.count) c.self.view_is
