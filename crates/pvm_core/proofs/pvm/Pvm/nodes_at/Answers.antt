use Rattle.std.proofs.Common.{◌≡◌, ℕ, refl, sym, subst}
use Rattle.std.specs.Prelude.{Ok}
use Rattle.pvm_core.proofs.Accesses.Ready.{ready_hand}
use Rattle.pvm_core.proofs.Answering.Kept.{seen}
use Rattle.vm_model.specs.Machine.{numbered}
use Rattle.vm_model.specs.Place.{place_of_actor}
use Rattle.regions.specs.AddressSpace.{place_told}
use Rattle.local_cache.specs.Own.{own_of}
use Rattle.local_cache.specs.Whole.{size_of}
use Rattle.fault_path.specs.Faults.{IsOwner, is_at_hand}
use Rattle.fault_path.proofs.OnePage.FoundPage.{owner_page}
use Rattle.contexts.proofs.Placing.{IsFoundAt, found_at, spot}
use Rattle.pvm_core.specs.Access.{AreNodesOf, is_ready}
use Rattle.pvm_core.specs.Manager.{Manager}
use Rattle.pvm_core.proofs.pvm.Pvm.nodes_at.Goals.{After-owner_of-owner, After-self}
use Rattle.pvm_core.proofs.pvm.Pvm.nodes_at.Goals as goal

-- an access at the place is in a region
found : (c : After-self) (actor address count : ℕ) → Ok c.args.place ≡ place_told (place_of_actor c.args.self.now.page_bytes (numbered c.args.self.now.actors actor) address count)
    → IsFoundAt (size_of c.self.inside.caches) c.self.inside.contexts.page_bytes (numbered c.self.inside.contexts.actors actor) address count c.args.place
found c actor address count told =
    spot (size_of c.self.inside.caches) c.self.inside.contexts actor address count c.args.place c.self.invariant.sound.actors
    (subst (λ (p : Manager). Ok c.args.place ≡ place_told (place_of_actor p.page_bytes (numbered p.actors actor) address count)) (sym c.self.view_is) told)

pub node_of-node-requires-clause-page : goal.node_of-node-requires-clause-page
node_of-node-requires-clause-page c =
    let asked = c.requires.place in
    let r = found (goal.at.node_of-node-requires-clause-page c).After-self asked.0 asked.1 asked.2 asked.3 in
    (r.count, r.there, r.less)

-- who owns the page
owner : (c : After-owner_of-owner) → IsOwner c.self.inside.caches c.node_of-node.result c.owner_of-owner.result
owner c = record { held = c.owner_of-owner.ensures.held; name = c.owner_of-owner.ensures.owner }

pub returns-clause-nodes : goal.returns-clause-nodes
returns-clause-nodes c =
    let a = c.self.inside.caches in
    let o = owner (goal.at.returns-clause-nodes c).After-owner_of-owner in
    subst (λ (p : Manager). AreNodesOf p.caches c.args.place.cache c.args.place.page c.node_of-node.result c.owner_of-owner.result) c.self.view_is (record {
      held = c.node_of-node.ensures.held;
      name = c.node_of-node.ensures.name;
      owner = o;
      own = owner_page a c.owner_of-owner.result o.held c.owner_of-owner.ensures.own;
    })

pub returns-clause-ready : goal.returns-clause-ready
returns-clause-ready c = λ actor address count told.
    let places = goal.at.returns-clause-ready c in
    let i = c.self.inside in
    let r = found places.After-self actor address count told in
    subst (λ (p : Manager). is_at_hand (own_of p.caches c.owner_of-owner.result) ≡ is_ready p actor address) c.self.view_is
    (sym (ready_hand i.caches i.store i.contexts i.live c.self.invariant.sound (seen i.caches i.store i.contexts) refl actor address count (found_at r.region c.args.place) (sym r.is) c.node_of-node.result c.owner_of-owner.result c.node_of-node.ensures.held (owner places.After-owner_of-owner) c.node_of-node.ensures.name))
