use Rattle.std.proofs.Common.{◌≡◌, ℕ, ◌+◌, ◌-◌, ◌*◌, ◌^◌, ◌<◌, ◌≤◌, true, None, Some, refl, sym, ap, subst, ◌∙◌, inl, inr, arith}
use Rattle.std.specs.Prelude.{is_some}
use Rattle.std.proofs.lemmas.Bool.{false≢true}
use Rattle.std.specs.FinMap as map
use Rattle.vm_ids.specs.declared.node_name.NodeName.{NodeName}
use Rattle.vm_ids.specs.declared.node_name.NodeName.TheVariants.{Live, Working}
use Rattle.local_cache.specs.Arena.{new_cell}
use Rattle.local_cache.specs.NodeCells.{Cells, HasCell, cell_at, changed, is_page, named}
use Rattle.local_cache.specs.NodeKeys.{page_number, page_of_name}
use Rattle.local_cache.specs.NodeRuns.{AreNumbered}
use Rattle.local_cache.specs.PageNodes.{ArePaged, PageNodes, as_working, cell, with_new}
use Rattle.local_cache.specs.Pages.{Pages, with_pages}
use Rattle.local_cache.specs.declared.runs.counters.Counters.{Counters}
use Rattle.local_cache.proofs.NodesCome.{fresh_vacant, name_not_working, numbered_page, numbered_working, one_free, paged_replaced, pages_replaced, still_vacant}
use Rattle.local_cache.proofs.NodesKept.{len_changed}
use Rattle.local_cache.proofs.PageRanges.{len_with}
use Rattle.local_cache.proofs.PagesKept.{page_held}
use Rattle.local_cache.proofs.Singles.{len_insert_new}
use Rattle.local_cache.proofs.runs.node_runs.NodeRuns.replace.Goals as goal

pub change-requires-clause-thin : goal.change-requires-clause-thin
change-requires-clause-thin c = one_free c.self.inside.table.cells c.self.inside.counters c.args.node.0 c.self.invariant.numbered

-- a page's name is that of a page
page_by : (x : NodeName) → is_page x ≡ true → (page : ℕ) × (page_of_name x ≡ Some page)
page_by (Live cache page) e = (page_number cache.0 page.0, refl)
page_by (Working k) e = absurd (false≢true e)

abbrev number : goal.After-self-3-1 → ℕ
number c = c.self.inside.counters.made + 1

abbrev name : goal.After-self-3-1 → NodeName
name c = (cell_at c.self.inside.table.cells c.args.node.0).name

held : (c : goal.After-self-3-1) → HasCell c.self.inside.table.cells c.args.node.0
held c = ap (λ (m : PageNodes). is_some (map.get m.cells c.args.node.0)) c.self.view_is ∙ c.requires.held

page : (c : goal.After-self-3-1) → (page : ℕ) × (page_of_name (name c) ≡ Some page)
page c = page_by (name c) (ap (λ (m : PageNodes). is_page (cell m c.args.node).name) c.self.view_is ∙ c.requires.page)

vacant : (c : goal.After-self-3-1) → map.get c.self.inside.table.cells c.next_fresh.result ≡ None
vacant c =
    let right = c.self.invariant.numbered in
    let made = ap (λ (m : PageNodes). m.made) c.self.view_is in
    fresh_vacant c.self.inside.table.cells c.self.inside.counters c.next_fresh.result right (omega (arith, right.fresh, c.requires.made, made)) c.next_fresh.ensures

pub insert_new-requires-clause-vacant : goal.insert_new-requires-clause-vacant
insert_new-requires-clause-vacant c =
    let t = c.self.inside.table in
    let right = c.self.invariant.numbered in
    let made = ap (λ (m : PageNodes). m.made) c.self.view_is in
    let there = ap (λ (m : PageNodes). is_some (map.get m.cells c.args.node.0)) c.self.view_is ∙ c.requires.held in
    let none = fresh_vacant t.cells c.self.inside.counters c.next_fresh.result right (omega (arith, right.fresh, c.requires.made, made)) c.next_fresh.ensures in
    let page = page_by (cell_at t.cells c.args.node.0).name (ap (λ (m : PageNodes). is_page (cell m c.args.node).name) c.self.view_is ∙ c.requires.page) in
    ap (λ (x : Cells). map.get x c.next_fresh.result) c.change.ensures.cells
    ∙ still_vacant t.cells c.self.inside.pages.nodes.cells c.args.node.0 c.next_fresh.result page.0 c.args.own c.self.invariant.paged there none page.1 (c.self.inside.counters.made + 1)

pub set_named-requires-clause-held : goal.set_named-requires-clause-held
set_named-requires-clause-held c =
    page_held c.self.inside.table.cells c.self.inside.pages.nodes.cells c.args.node.0 c.name-name.result c.self.invariant.paged
    (ap (λ (m : PageNodes). is_some (map.get m.cells c.args.node.0)) c.self.view_is ∙ c.requires.held) (sym c.name-name.ensures)

cells_are : (c : goal.After-self-3-1) → c.insert_new.new.self.cells ≡ map.insert (changed c.self.inside.table.cells c.args.node.0 (named (Working (number c)))) c.next_fresh.result (new_cell (name c) c.args.own)
cells_are c =
    c.insert_new.ensures.cells
    ∙ ap (λ (m : Cells). map.insert m c.next_fresh.result (new_cell c.name-name.result c.args.own)) c.change.ensures.cells
    ∙ ap (λ (x : NodeName). map.insert (changed c.self.inside.table.cells c.args.node.0 (named (Working (number c)))) c.next_fresh.result (new_cell x c.args.own)) c.name-name.ensures

pages_are : (c : goal.After-self-3-1) → c.set_named.new.self.nodes.cells ≡ with_pages c.self.inside.pages.nodes.cells (name c) (record { 0 = c.next_fresh.result }) 1
pages_are c =
    c.set_named.ensures.pages
    ∙ ap (λ (x : NodeName). with_pages c.self.inside.pages.nodes.cells x (record { 0 = c.next_fresh.result }) 1) c.name-name.ensures

more : (c : goal.After-self-3-1) → map.len c.insert_new.new.self.cells ≡ map.len c.self.inside.table.cells + 1
more c =
    let t = c.self.inside.table in
    let f = named (Working (number c)) in
    ap map.len (cells_are c)
    ∙ len_insert_new (changed t.cells c.args.node.0 f) c.next_fresh.result (new_cell (name c) c.args.own)
    (still_vacant t.cells c.self.inside.pages.nodes.cells c.args.node.0 c.next_fresh.result (page c).0 c.args.own c.self.invariant.paged (held c) (vacant c) (page c).1 (number c))
    ∙ ap (λ (k : ℕ). k + 1) (len_changed t.cells c.args.node.0 f (held c))

abbrev working_counted : goal.After-self-3-1 → Counters
working_counted c = record c.self.inside.counters { made = c.self.inside.counters.made + 1 }

abbrev counted : goal.After-self-3-1 → Counters
counted c = record c.self.inside.counters {
  nodes = c.self.inside.counters.nodes + 1;
  made = c.self.inside.counters.made + 1;
  fresh = c.self.inside.counters.fresh + 1;
}

same_pages : (c : goal.After-self-3-1) → map.len c.set_named.new.self.nodes.cells ≡ map.len c.self.inside.pages.nodes.cells
same_pages c =
    ap map.len c.set_named.ensures.pages
    ∙ len_with c.self.inside.pages.nodes.cells c.name-name.result (record { 0 = c.next_fresh.result }) 1
    (page_held c.self.inside.table.cells c.self.inside.pages.nodes.cells c.args.node.0 c.name-name.result c.self.invariant.paged (held c) (sym c.name-name.ensures))

pub invariant_of-self : goal.invariant_of-self
invariant_of-self c =
    let t = c.self.inside.table in
    let k = c.self.inside.counters in
    let right = c.self.invariant in
    let made = ap (λ (m : PageNodes). m.made) c.self.view_is in
    let room : 1 ≤ c.self.inside.capacity - map.len t.cells = omega (arith, c.requires.room, ap (λ (m : PageNodes). m.room) c.self.view_is) in
    let f = named (Working (number c)) in
    let few : k.made + 1 ≤ 3 * 2 ^ 61 = omega (arith, c.requires.made, made) in
    let fresh_few : k.fresh < 3 * 2 ^ 61 = omega (arith, right.numbered.fresh, c.requires.made, made) in
    let numbered = numbered_page (changed t.cells c.args.node.0 f) (working_counted c) (counted c) c.next_fresh.result (new_cell (name c) c.args.own)
    (numbered_working t.cells k (working_counted c) c.args.node.0 right.numbered refl refl refl few (held c))
    (name_not_working t.cells c.self.inside.pages.nodes.cells c.args.node.0 c.next_fresh.result (page c).0 c.args.own right.paged (held c) (vacant c) (page c).1)
    (inr (inl (omega (arith, c.next_fresh.ensures), omega (arith, c.next_fresh.ensures)))) (omega arith) refl refl (omega (arith, right.numbered.fresh)) in
    let paged = paged_replaced t.cells c.self.inside.pages.nodes.cells c.args.node.0 c.next_fresh.result (page c).0 c.args.own right.paged (held c) (vacant c) (page c).1 (number c) in
    let P : Cells → Type 0 = λ x. ArePaged x c.set_named.new.self.nodes.cells in
    let Q : Pages → Type 0 = λ q. ArePaged (map.insert (changed t.cells c.args.node.0 f) c.next_fresh.result (new_cell (name c) c.args.own)) q in
    let R : Cells → Type 0 = λ x. AreNumbered x (counted c) in
    record {
      paged = subst P (sym (cells_are c)) (subst Q (sym (pages_are c)) paged);
      numbered = subst R (sym (cells_are c)) numbered;
      counted = record {
        nodes = omega (arith, more c, right.counted.nodes);
        live = right.counted.live ∙ sym (same_pages c);
        table = omega (arith, more c, right.counted.table, c.change.ensures.count, c.insert_new.ensures.count);
        pages = c.set_named.ensures.count ∙ right.counted.pages ∙ sym (same_pages c);
      };
      places = record {
        few = right.places.few;
        nodes = omega (arith, more c, room, right.places.nodes);
        table = omega (arith, right.places.table, c.change.ensures.room, c.insert_new.ensures.room);
        pages = omega (arith, right.places.pages, c.set_named.ensures.room);
      };
    }

pub returns-clause-replaced : goal.returns-clause-replaced
returns-clause-replaced c =
    let t = c.self.inside.table in
    let p = c.self.inside.pages.nodes.cells in
    let k = c.self.inside.counters in
    let pages = pages_are c ∙ sym (pages_replaced t.cells p c.args.node.0 c.next_fresh.result (page c).0 c.args.own c.self.invariant.paged (held c) (vacant c) (page c).1) in
    let room : c.self.inside.capacity - map.len c.insert_new.new.self.cells ≡ c.self.inside.capacity - map.len t.cells - 1 = omega (arith, more c) in
    (λ i. record {
      cells = cells_are c i;
      pages = pages i;
      made = k.made + 1;
      room = room i;
    })
    ∙ ap (λ (m : PageNodes). with_new (as_working m c.args.node) (record { 0 = c.next_fresh.result }) (cell m c.args.node).name c.args.own) c.self.view_is
