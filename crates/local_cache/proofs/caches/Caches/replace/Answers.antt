use Rattle.std.proofs.Common.{◌≡◌, refl, ap, sym, subst, ◌∙◌, arith}
use Rattle.vm_ids.specs.declared.node_name.NodeName.TheVariants.{Live}
use Rattle.vm_ids.specs.declared.numbers.CacheId.{CacheId}
use Rattle.vm_ids.specs.declared.numbers.PageNo.{PageNo}
use Rattle.local_cache.specs.Arena.{Arena, Cell, HasNode, as_working, cell}
use Rattle.local_cache.specs.NodeCells.{is_page}
use Rattle.local_cache.specs.OnCells as on
use Rattle.local_cache.specs.PageNodes as nodes
use Rattle.local_cache.proofs.ArenaBy.Exchanging.{page_named, replaced}
use Rattle.local_cache.proofs.ArenaBy.Seen.{cell_seen, held_seen, node_call, none_seen}
use Rattle.local_cache.proofs.Nodes.Cells.{held-new, stays-as_working, stays-new}
use Rattle.local_cache.proofs.caches.Caches.replace.Goals as goal

named : (c : goal.After-replace) → (cache : CacheId) × (page : PageNo) × ((nodes.cell c.self.inside.nodes c.args.node).name ≡ Live cache page)
named c = page_named (nodes.cell c.self.inside.nodes c.args.node).name (ap (λ (d : Cell). is_page d.name) (cell_seen c.self.inside.nodes c.self.inside.list c.args.self.now c.self.view_is c.args.node) ∙ c.requires.page)

pub replace-requires-clause-held : goal.replace-requires-clause-held
replace-requires-clause-held c = held_seen c.self.inside.nodes c.self.inside.list c.args.self.now c.self.view_is c.args.node c.requires.held

pub replace-requires-clause-page : goal.replace-requires-clause-page
replace-requires-clause-page c = ap (λ (d : Cell). is_page d.name) (cell_seen c.self.inside.nodes c.self.inside.list c.args.self.now c.self.view_is c.args.node) ∙ c.requires.page

pub replace-requires-clause-room : goal.replace-requires-clause-room
replace-requires-clause-room c = omega (arith, c.requires.room, ap (λ (a : Arena). a.room.nodes) c.self.view_is)

pub replace-requires-clause-made : goal.replace-requires-clause-made
replace-requires-clause-made c = omega (arith, c.requires.made, ap (λ (a : Arena). a.made) c.self.view_is)

pub invariant_of-self : goal.invariant_of-self
invariant_of-self c = (node_call c.self.inside.nodes c.self.inside.list c.args.self.now c.self.view_is c.self.invariant c.replace.new.self (nodes.with_new (nodes.as_working c.self.inside.nodes c.args.node) c.replace.result (nodes.cell c.self.inside.nodes c.args.node).name c.args.state) (λ (b : Arena). on.replaced b c.args.node c.replace.result c.args.state) c.replace.ensures.replaced (replaced c.self.inside.nodes c.self.inside.list c.self.invariant.placed c.args.node c.replace.result c.args.state (held_seen c.self.inside.nodes c.self.inside.list c.args.self.now c.self.view_is c.args.node c.requires.held) c.replace.ensures.new c.replace.ensures.later (named c).0 (named c).1 (named c).2)).right

pub returns-clause-new : goal.returns-clause-new
returns-clause-new c = none_seen c.self.inside.nodes c.self.inside.list c.args.self.now c.self.view_is c.replace.result c.replace.ensures.new

pub returns-clause-changed : goal.returns-clause-changed
returns-clause-changed c = (node_call c.self.inside.nodes c.self.inside.list c.args.self.now c.self.view_is c.self.invariant c.replace.new.self (nodes.with_new (nodes.as_working c.self.inside.nodes c.args.node) c.replace.result (nodes.cell c.self.inside.nodes c.args.node).name c.args.state) (λ (b : Arena). on.replaced b c.args.node c.replace.result c.args.state) c.replace.ensures.replaced (replaced c.self.inside.nodes c.self.inside.list c.self.invariant.placed c.args.node c.replace.result c.args.state (held_seen c.self.inside.nodes c.self.inside.list c.args.self.now c.self.view_is c.args.node c.requires.held) c.replace.ensures.new c.replace.ensures.later (named c).0 (named c).1 (named c).2)).is

pub returns-clause-held : goal.returns-clause-held
returns-clause-held c =
    subst (λ (b : Arena). HasNode b c.replace.result) (sym (returns-clause-changed c)) (held-new (as_working c.args.self.now c.args.node) _ c.replace.result (cell c.args.self.now c.args.node).name c.args.state refl)

pub returns-clause-stays : goal.returns-clause-stays
returns-clause-stays c q held =
    subst (λ (b : Arena). HasNode b q) (sym (returns-clause-changed c)) (stays-new (as_working c.args.self.now c.args.node) _ c.replace.result (cell c.args.self.now c.args.node).name c.args.state refl q (stays-as_working c.args.self.now _ c.args.node refl q held))
