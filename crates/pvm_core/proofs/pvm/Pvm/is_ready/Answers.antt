use Rattle.std.proofs.Common.{◌≡◌, ◌∙◌, sym, ap, subst, false}
use Rattle.vm_model.specs.Machine.{numbered}
use Rattle.vm_model.specs.Place.{place_of_actor}
use Rattle.local_cache.specs.Whole.{size_of}
use Rattle.pvm_core.specs.Access.{is_page_at_hand, is_ready, is_ready_at}
use Rattle.pvm_core.specs.Manager.{Manager}
use Rattle.pvm_core.proofs.Answering.Kept.{seen}
use Rattle.contexts.proofs.Placing.{IsFoundAt, refused_at, spot}
use Rattle.pvm_core.proofs.pvm.Pvm.is_ready.Goals.{In-Ok}
use Rattle.pvm_core.proofs.pvm.Pvm.is_ready.Goals as goal

-- one byte has a place
found : (c : In-Ok) → IsFoundAt (size_of c.self.inside.caches) c.self.inside.contexts.page_bytes (numbered c.self.inside.contexts.actors c.args.actor.0) c.args.address 1 c.in-Ok.place
found c = spot (size_of c.self.inside.caches) c.self.inside.contexts c.args.actor.0 c.args.address 1 c.in-Ok.place c.self.invariant.sound.actors (sym c.in-Ok.is ∙ c.locate.ensures)

pub node_of-node-requires-clause-page : goal.node_of-node-requires-clause-page
node_of-node-requires-clause-page c =
    let r = found (goal.at.node_of-node-requires-clause-page c).In-Ok in
    (r.count, r.there, r.less)

pub returns-in-Ok : goal.returns-in-Ok
returns-in-Ok c =
    let i = c.self.inside in
    let p : Manager = seen i.caches i.store i.contexts in
    let r = found (goal.at.returns-in-Ok c).In-Ok in
    subst (λ (p : Manager). c.has_page_at_hand.result ≡ is_ready p c.args.actor.0 c.args.address) c.self.view_is
    (c.has_page_at_hand.ensures ∙ ap (is_page_at_hand i.caches) c.node_of-node.ensures.name ∙ ap (is_ready_at p) r.is)

pub returns-in-Err : goal.returns-in-Err
returns-in-Err c =
    let i = c.self.inside in
    let p : Manager = seen i.caches i.store i.contexts in
    subst (λ (p : Manager). false ≡ is_ready p c.args.actor.0 c.args.address) c.self.view_is
    (ap (is_ready_at p) (refused_at (place_of_actor i.contexts.page_bytes (numbered i.contexts.actors c.args.actor.0) c.args.address 1) _ (sym c.in-Err.is ∙ c.locate.ensures)))
