use Rattle.std.proofs.Common.{◌≡◌, ℕ, ◌+◌, ◌-◌, ◌<◌, sym, ap, subst, ◌∙◌, arith}
use Rattle.std.specs.Prelude.{is_some}
use Rattle.std.specs.FinMap as map
use Rattle.vm_ids.specs.declared.node_name.NodeName.{NodeName}
use Rattle.vm_ids.specs.declared.node_name.NodeName.TheVariants.{Live}
use Rattle.vm_ids.specs.declared.numbers.PageNo.{PageNo}
use Rattle.local_cache.specs.Arena.{Cell}
use Rattle.local_cache.specs.NodeCells.{Cells, cell_at, changed_each, is_page, named}
use Rattle.local_cache.specs.NodeKeys.{page_number}
use Rattle.local_cache.specs.NodeRuns.{AreNumbered, nodes_of}
use Rattle.local_cache.specs.PageNodes.{AreNamedFrom, ArePaged, PageNodes, exchanged_many, name_behind, renamed_each}
use Rattle.local_cache.specs.Pages.{HaveNodes, Pages, with_pages}
use Rattle.local_cache.proofs.Exchanged.{exchanged_is, first_held, first_named, from, from_held, numbered_renamed_pages, paged_exchanged, still_has, still_named}
use Rattle.local_cache.proofs.NodesKept.{len_each}
use Rattle.local_cache.proofs.PageRanges.{len_with}
use Rattle.local_cache.proofs.runs.node_runs.NodeRuns.exchange_names.Goals as goal

pub name-name-requires : goal.name-name-requires
name-name-requires c =
    ap (λ (m : PageNodes). is_some (map.get m.cells c.args.node.0)) c.self.view_is
    ∙ first_held c.args.self.now c.args.node c.args.count c.requires.nodes (omega (arith, c.if-count-eq0.false))

pub name-other_name-requires : goal.name-other_name-requires
name-other_name-requires c =
    ap (λ (m : PageNodes). is_some (map.get m.cells c.args.other.0)) c.self.view_is
    ∙ first_held c.args.self.now c.args.other c.args.count c.requires.others (omega (arith, c.if-count-eq0.false))

pub rename-requires-clause-page : goal.rename-requires-clause-page
rename-requires-clause-page c =
    ap is_page (c.name-other_name.ensures ∙ ap (λ (m : PageNodes). (cell_at m.cells c.args.other.0).name) c.self.view_is
    ∙ first_named c.args.self.now c.args.other c.args.count c.requires.others (omega (arith, c.if-count-eq0.false)))

pub rename-requires-2-clause-held : goal.rename-requires-2-clause-held
rename-requires-2-clause-held c k less =
    ap (λ (x : Cells). is_some (map.get x (c.args.other.0 + k))) c.rename.ensures.cells
    ∙ still_has c.self.inside.table.cells c.args.node.0 (λ j. named (name_behind c.name-other_name.result j)) c.args.count (c.args.other.0 + k)
    (ap (λ (m : PageNodes). is_some (map.get m.cells (c.args.other.0 + k))) c.self.view_is ∙ c.requires.others.held k less)

pub rename-requires-2-clause-page : goal.rename-requires-2-clause-page
rename-requires-2-clause-page c =
    ap is_page (c.name-name.ensures ∙ ap (λ (m : PageNodes). (cell_at m.cells c.args.node.0).name) c.self.view_is
    ∙ first_named c.args.self.now c.args.node c.args.count c.requires.nodes (omega (arith, c.if-count-eq0.false)))

pub set_named-requires-clause-held : goal.set_named-requires-clause-held
set_named-requires-clause-held c =
    let m = nodes_of c.self.inside.table c.self.inside.pages c.self.inside.counters c.self.inside.capacity in
    let A : PageNodes → Type 0 = λ x. AreNamedFrom x c.args.node c.args.count in
    let nodes = subst A (sym c.self.view_is) c.requires.nodes in
    let some : 0 < c.args.count = omega (arith, c.if-count-eq0.false) in
    let P : NodeName → Type 0 = λ x. HaveNodes c.self.inside.pages.nodes.cells x c.args.count in
    subst P (sym (c.name-name.ensures ∙ first_named m c.args.node c.args.count nodes some)) (from_held m c.args.node c.args.count nodes c.self.invariant.paged)

pub set_named-requires-2-clause-held : goal.set_named-requires-2-clause-held
set_named-requires-2-clause-held c =
    let m = nodes_of c.self.inside.table c.self.inside.pages c.self.inside.counters c.self.inside.capacity in
    let B : PageNodes → Type 0 = λ x. AreNamedFrom x c.args.other c.args.count in
    let others = subst B (sym c.self.view_is) c.requires.others in
    let some : 0 < c.args.count = omega (arith, c.if-count-eq0.false) in
    let P : NodeName → Type 0 = λ x. HaveNodes c.set_named.new.self.nodes.cells x c.args.count in
    subst P (sym (c.name-other_name.ensures ∙ first_named m c.args.other c.args.count others some))
    (λ k less.
    ap (λ (p : Pages). is_some (map.get p (page_number others.cache.0 others.page + k))) c.set_named.ensures.pages
    ∙ still_named c.self.inside.pages.nodes.cells c.name-name.result c.args.other c.args.count _ (from_held m c.args.other c.args.count others c.self.invariant.paged k less))

-- what both say of the nodes and the pages before

abbrev old : goal.After-set_named-2 → PageNodes
old c = nodes_of c.self.inside.table c.self.inside.pages c.self.inside.counters c.self.inside.capacity

nodes : (c : goal.After-set_named-2) → AreNamedFrom (old c) c.args.node c.args.count
nodes c = let A : PageNodes → Type 0 = λ x. AreNamedFrom x c.args.node c.args.count in subst A (sym c.self.view_is) c.requires.nodes

others : (c : goal.After-set_named-2) → AreNamedFrom (old c) c.args.other c.args.count
others c = let B : PageNodes → Type 0 = λ x. AreNamedFrom x c.args.other c.args.count in subst B (sym c.self.view_is) c.requires.others

name_is : (c : goal.After-set_named-2) → c.name-name.result ≡ from (old c) c.args.node c.args.count (nodes c)
name_is c = c.name-name.ensures ∙ first_named (old c) c.args.node c.args.count (nodes c) (omega (arith, c.if-count-eq0.false))

other_is : (c : goal.After-set_named-2) → c.name-other_name.result ≡ from (old c) c.args.other c.args.count (others c)
other_is c = c.name-other_name.ensures ∙ first_named (old c) c.args.other c.args.count (others c) (omega (arith, c.if-count-eq0.false))

abbrev new_cells : goal.After-set_named-2 → Cells
new_cells c = renamed_each (renamed_each c.self.inside.table.cells c.args.node.0 (from (old c) c.args.other c.args.count (others c)) c.args.count) c.args.other.0
    (from (old c) c.args.node c.args.count (nodes c)) c.args.count

abbrev new_pages : goal.After-set_named-2 → Pages
new_pages c = with_pages (with_pages c.self.inside.pages.nodes.cells (from (old c) c.args.node c.args.count (nodes c)) c.args.other c.args.count)
    (from (old c) c.args.other c.args.count (others c)) c.args.node c.args.count

cells_are : (c : goal.After-set_named-2) → c.rename-2.new.self.cells ≡ new_cells c
cells_are c =
    c.rename-2.ensures.cells ∙ ap (λ (x : Cells). renamed_each x c.args.other.0 c.name-name.result c.args.count) c.rename.ensures.cells
    ∙ (λ i. renamed_each (renamed_each c.self.inside.table.cells c.args.node.0 (other_is c i) c.args.count) c.args.other.0 (name_is c i) c.args.count)

pages_are : (c : goal.After-set_named-2) → c.set_named-2.new.self.nodes.cells ≡ new_pages c
pages_are c =
    c.set_named-2.ensures.pages ∙ ap (λ (p : Pages). with_pages p c.name-other_name.result c.args.node c.args.count) c.set_named.ensures.pages
    ∙ (λ i. with_pages (with_pages c.self.inside.pages.nodes.cells (name_is c i) c.args.other c.args.count) (other_is c i) c.args.node c.args.count)

len : (c : goal.After-set_named-2) → map.len c.rename-2.new.self.cells ≡ map.len c.self.inside.table.cells
len c =
    let t = c.self.inside.table.cells in
    let f : ℕ → Cell → Cell = λ j. named (name_behind (from (old c) c.args.other c.args.count (others c)) j) in
    let g : ℕ → Cell → Cell = λ j. named (name_behind (from (old c) c.args.node c.args.count (nodes c)) j) in
    ap map.len (cells_are c)
    ∙ len_each (changed_each t c.args.node.0 f c.args.count) c.args.other.0 g c.args.count (λ k less. still_has t c.args.node.0 f c.args.count (c.args.other.0 + k) ((others c).held k less))
    ∙ len_each t c.args.node.0 f c.args.count (nodes c).held

page_len : (c : goal.After-set_named-2) → map.len c.set_named-2.new.self.nodes.cells ≡ map.len c.self.inside.pages.nodes.cells
page_len c =
    let p = c.self.inside.pages.nodes.cells in
    let x = from (old c) c.args.node c.args.count (nodes c) in
    let y = from (old c) c.args.other c.args.count (others c) in
    ap map.len (pages_are c)
    ∙ len_with (with_pages p x c.args.other c.args.count) y c.args.node c.args.count
    (λ k less. still_named p x c.args.other c.args.count _ (from_held (old c) c.args.other c.args.count (others c) c.self.invariant.paged k less))
    ∙ len_with p x c.args.other c.args.count (from_held (old c) c.args.node c.args.count (nodes c) c.self.invariant.paged)

pub invariant_of-self : goal.invariant_of-self
invariant_of-self c =
    let right = c.self.invariant in
    let a = nodes c in
    let b = others c in
    let k = c.args.count in
    let t = c.self.inside.table.cells in
    let p0 : PageNo = record { 0 = a.page } in
    let q0 : PageNo = record { 0 = b.page } in
    let paged = paged_exchanged (old c) c.args.node c.args.other k a.cache b.cache a.page b.page c.requires.apart right.paged a.held b.held a.named b.named k (omega arith) in
    let first = numbered_renamed_pages t c.self.inside.counters c.args.node.0 k b.cache q0 right.numbered a.held in
    let numbered = numbered_renamed_pages (renamed_each t c.args.node.0 (Live b.cache q0) k) c.self.inside.counters c.args.other.0 k a.cache p0 first
    (λ j less. still_has t c.args.node.0 (λ i. named (name_behind (Live b.cache q0) i)) k (c.args.other.0 + j) (b.held j less)) in
    let P : Cells → Type 0 = λ x. ArePaged x c.set_named-2.new.self.nodes.cells in
    let Q : Pages → Type 0 = λ q. ArePaged (new_cells c) q in
    let R : Cells → Type 0 = λ x. AreNumbered x c.self.inside.counters in
    record {
      paged = subst P (sym (cells_are c)) (subst Q (sym (pages_are c)) paged);
      numbered = subst R (sym (cells_are c)) numbered;
      counted = record {
        nodes = right.counted.nodes ∙ sym (len c);
        live = right.counted.live ∙ sym (page_len c);
        table = c.rename-2.ensures.count ∙ c.rename.ensures.count ∙ right.counted.table ∙ sym (len c);
        pages = c.set_named-2.ensures.count ∙ c.set_named.ensures.count ∙ right.counted.pages ∙ sym (page_len c);
      };
      places = record {
        few = right.places.few;
        nodes = omega (arith, len c, right.places.nodes);
        table = omega (arith, right.places.table, c.rename-2.ensures.room, c.rename.ensures.room);
        pages = omega (arith, right.places.pages, c.set_named-2.ensures.room, c.set_named.ensures.room);
      };
    }

pub returns : goal.returns
returns c =
    let a = nodes c in
    let b = others c in
    let size = len c in
    (λ i. record {
      cells = cells_are c i;
      pages = pages_are c i;
      made = c.self.inside.counters.made;
      room = c.self.inside.capacity - size i;
    })
    ∙ sym (exchanged_is (old c) c.args.node c.args.other c.args.count a.cache b.cache a.page b.page c.requires.apart c.self.invariant.paged a.held b.held a.named b.named c.args.count (omega arith))
    ∙ ap (λ (m : PageNodes). exchanged_many m c.args.node c.args.other c.args.count) c.self.view_is
