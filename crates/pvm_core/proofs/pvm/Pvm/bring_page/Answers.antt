use Rattle.std.proofs.Common.{ℕ, rules, ◌≡◌, length, refl, sym, subst, ◌∙◌, arith}
use Rattle.std.specs.Prelude.{Ok, Err}
use Rattle.pvm_core.proofs.Readiness.Steps.{stands_answered}
use Rattle.residency.specs.Between.{world_at}
use Rattle.vm_ids.specs.declared.command.Command.TheVariants as commands
use Rattle.vm_ids.specs.declared.numbers.PageNo.{PageNo}
use Rattle.vm_ids.specs.declared.reply.Trouble.TheVariants as troubles
use Rattle.vm_ids.specs.declared.reply.FaultAt.{FaultAt}
use Rattle.vm_ids.specs.Forest.Commands.{page_name}
use Rattle.local_cache.specs.Own.{own_of}
use Rattle.residency.specs.declared.miss.Miss.{Miss}
use Rattle.residency.specs.World.{World}
use Rattle.gmi_calls.specs.Calling.{MapperCall, RaisesMade}
use Rattle.vm_ids.specs.declared.command.Command.{Command}
use Rattle.vm_model.specs.Machine.{Machine}
use Rattle.pvm_core.specs.Access.{AreNodesOf, IsFoundIn, IsLookedFor}
use Rattle.pvm_core.specs.Translated.{AreTranslationsRight}
use Rattle.pvm_core.proofs.Accesses.Found.{found_in, pulled_one, missed_at}
use Rattle.vm_model.specs.PageForest.{PageForest}
use Rattle.vm_model.specs.Machine.{numbered as has_number}
use Rattle.vm_model.specs.Place.{Place, place, place_of_actor}
use Rattle.vm_model.specs.Run.{CallIs}
use Rattle.local_cache.specs.Whole.{size_of}
use Rattle.pvm_core.specs.Manager.{IsValid, Manager, meaning, forest_of, machine_by, machine_of, state_at, numbered}
use Rattle.pvm_core.specs.Pieces.{fault_at}
use Rattle.pvm_core.proofs.Answering.Answered.{failed_at, no_segments}
use Rattle.pvm_core.proofs.Answering.Reaching.{reach_denied}
use Rattle.pvm_core.proofs.Answering.Kept.{seen, valid_seen, call_seen}
use Rattle.pvm_core.proofs.Answering.Standing.{Stands}
use Rattle.contexts.proofs.Placing.{IsFoundAt, found_at, spot}
use Rattle.pvm_core.proofs.Accesses.Seen.{same_grants}
use Rattle.pvm_core.proofs.Translating.Dropped.{dropped_right}
use Rattle.pvm_core.proofs.Answering.Recorded.{asks_missed}
use Rattle.regions.specs.AddressSpace.{place_told}
use Rattle.pvm_core.proofs.pvm.Pvm.bring_page.Given.{Over}
use Rattle.pvm_core.proofs.pvm.Pvm.bring_page.Goals.{After-read_fault, After-self}
use Rattle.residency.specs.declared.miss.Miss.TheVariants.{Pull, Victim}
use Rattle.fault_path.proofs.OnePage.FoundPage.{owner_page}
use Rattle.pvm_core.proofs.Accesses.AtHand.{failed_hand, owner_some}
use Rattle.pvm_core.proofs.Accesses.Ready.{found_hand, seen_no_more, ready_hand}
use Rattle.vm_model.specs.Answering.{Answer}
use Rattle.pvm_core.proofs.Accesses.Stored.{kept_copies, not_saved, store_fault, undenied, undenied_blank}
use Rattle.page_commands.specs.Homes.{IsWritable}
use Rattle.fault_path.proofs.Calls.Kept.{still_owner}
use Rattle.pvm_core.proofs.pvm.Pvm.bring_page.Goals as goal

-- the access is in a region
found : (g : Over) (c : After-self g) → IsFoundAt (size_of c.self.inside.caches) c.self.inside.contexts.page_bytes (has_number c.self.inside.contexts.actors c.args.actor.0) c.args.address c.requires.place.0 c.args.place
found g c =
    let n = c.requires.place.0 in
    spot (size_of c.self.inside.caches) c.self.inside.contexts c.args.actor.0 c.args.address n c.args.place c.self.invariant.sound.actors
    (subst (λ (p : Manager). Ok c.args.place ≡ place_told (place_of_actor p.page_bytes (has_number p.actors c.args.actor.0) c.args.address n)) (sym c.self.view_is) c.requires.place.1)

valid_before : (g : Over) (c : After-self g) → IsValid (seen c.self.inside.caches c.self.inside.store c.self.inside.contexts) (g.M.Mapper.held c.args.mapper.now)
valid_before g c = valid_seen c.self.view_is c.requires.valid

-- a fault leaves the counters
raised : (miss : Miss) (page : PageNo) (m : Machine) (command : Command) (next : Machine) (before now : ℕ) → now ≡ before → RaisesMade m command (Err (troubles.Mapper (fault_at miss page))) next before now
raised Pull page m command next before now same = omega (arith, same)
raised Victim page m command next before now same = omega (arith, same)

-- the page is looked for: what the manager stands for stays
looked : (g : Over) (c : After-read_fault g) → Stands (seen c.self.inside.caches c.self.inside.store c.self.inside.contexts) c.read_fault.new.caches c.read_fault.new.store c.self.inside.contexts c.self.inside.live (g.M.Mapper.held c.args.mapper.now) (g.M.Mapper.held c.read_fault.new.mapper) (g.M.Mapper.counts c.args.mapper.now) (g.M.Mapper.counts c.read_fault.new.mapper)
looked g c =
    let i = c.self.inside in
    let n = c.read_fault.new in
    let e = c.read_fault.ensures in
    stands_answered i.caches n.caches i.store n.store _ _ _ _ i.contexts i.live c.self.invariant.sound _ _ e.answered e.forest (valid_before g (goal.at.After-read_fault g c).After-self)

-- the nodes of the page
told_nodes : (g : Over) (c : After-self g) → AreNodesOf c.self.inside.caches c.args.place.cache c.args.place.page c.args.nodes.node c.args.nodes.owner
told_nodes g c = subst (λ (p : Manager). AreNodesOf p.caches c.args.place.cache c.args.place.page c.args.nodes.node c.args.nodes.owner) (sym c.self.view_is) c.requires.nodes

still_right : (g : Over) (c : After-read_fault g) → AreTranslationsRight c.read_fault.new.caches c.read_fault.new.store c.self.inside.contexts
still_right g c =
    let i = c.self.inside in
    let n = c.read_fault.new in
    let e = c.read_fault.ensures in
    let o = told_nodes g (goal.at.After-read_fault g c).After-self in
    dropped_right (λ m. m ≡ c.args.nodes.owner) i.caches n.caches i.store n.store i.contexts (e.drops c.args.nodes.owner o.owner) (same_grants i.caches n.caches e.answered.kept.nodes.caches) c.self.invariant.translated

pub invariant_of-self : goal.invariant_of-self
invariant_of-self g c =
    let at = (goal.at.invariant_of-self g c).After-read_fault in
    record { sound = (looked g at).sound; translated = still_right g at }

pub invariant_of-self-2 : goal.invariant_of-self-2
invariant_of-self-2 g c =
    let at = (goal.at.invariant_of-self-2 g c).After-read_fault in
    record { sound = (looked g at).sound; translated = still_right g at }

looked_for : (g : Over) (c : After-read_fault g) → IsLookedFor g.M.Mapper c.args.mapper.now c.args.self.now c.read_fault.new.mapper (seen c.read_fault.new.caches c.read_fault.new.store c.self.inside.contexts)
looked_for g c =
    let i = c.self.inside in
    let n = c.read_fault.new in
    let e = c.read_fault.ensures in
    let k = looked g c in
    let p : Manager = seen i.caches i.store i.contexts in
    let q : Manager = seen n.caches n.store i.contexts in
    let copies : n.caches.copies ≡ i.caches.copies = kept_copies (g.M.Mapper.held c.args.mapper.now) (g.M.Mapper.held n.mapper) (g.M.Mapper.page_bytes c.args.mapper.now) (g.M.Mapper.page_bytes n.mapper) i.caches n.caches i.store n.store e.forest in
    let made : numbered q ≡ numbered p = omega (arith, copies, e.answered.kept.made) in
    subst (λ (p : Manager). IsLookedFor g.M.Mapper c.args.mapper.now p n.mapper q) c.self.view_is (record {
      same = refl;
      valid = k.valid;
      machine = k.machine;
      forest = k.forest;
      reach = k.reach;
      tables = e.answered.kept.nodes.caches;
      copies = copies;
      numbered = made;
      page = search rules;
    })

pub returns-clause-brought : goal.returns-clause-brought
returns-clause-brought g c = looked_for g (goal.at.returns-clause-brought g c).After-read_fault

pub returns-in-Err-clause-brought : goal.returns-in-Err-clause-brought
returns-in-Err-clause-brought g c = looked_for g (goal.at.returns-in-Err-clause-brought g c).After-read_fault

-- its nodes are the same
still_nodes : (g : Over) (c : After-read_fault g) → AreNodesOf c.read_fault.new.caches c.args.place.cache c.args.place.page c.args.nodes.node c.args.nodes.owner
still_nodes g c =
    let i = c.self.inside in
    let n = c.read_fault.new in
    let e = c.read_fault.ensures in
    let old = c.self.invariant.sound.nodes in
    let l = looked g c in
    let node = c.args.nodes.node in
    let o = told_nodes g (goal.at.After-read_fault g c).After-self in
    let w : World = world_at g.M.Mapper c.args.mapper.now i.caches i.store in
    let v : World = world_at g.M.Mapper n.mapper n.caches n.store in
    let held = e.answered.kept.nodes.held node ∙ o.held in
    let owner = still_owner w v e.still old.sound node c.args.nodes.owner o.owner in
    record {
      held = held;
      name = e.answered.kept.nodes.name node ∙ o.name;
      owner = owner;
      own = owner_page n.caches c.args.nodes.owner owner.held (owner_some n.caches l.sound.nodes.sound l.sound.nodes.consistent.shaped node c.args.nodes.owner held owner);
    }

pub returns-clause-nodes : goal.returns-clause-nodes
returns-clause-nodes g c = still_nodes g (goal.at.returns-clause-nodes g c).After-read_fault

pub returns-in-Err-clause-nodes : goal.returns-in-Err-clause-nodes
returns-in-Err-clause-nodes g c = still_nodes g (goal.at.returns-in-Err-clause-nodes g c).After-read_fault

pub returns-clause-ready : goal.returns-clause-ready
returns-clause-ready g c =
    let places = goal.at.returns-clause-ready g c in
    let i = c.self.inside in
    let n = c.read_fault.new in
    let e = c.read_fault.ensures in
    let l = looked g places.After-read_fault in
    let r = found g places.After-self in
    let o = still_nodes g places.After-read_fault in
    let was = told_nodes g places.After-self in
    let there : IsFoundIn (seen n.caches n.store i.contexts) c.args.nodes.owner c.in_default.field-0 = found_in (g.M.Mapper.held n.mapper) (g.M.Mapper.page_bytes n.mapper) i.caches n.caches n.store i.contexts e.answered.kept.right c.args.nodes.owner c.in_default.field-0 (c.in_default.ensures.frame c.args.nodes.owner was.owner) (λ hand. (e.idle c.args.nodes.owner was.owner hand).2) in
    ready_hand n.caches n.store i.contexts i.live l.sound (seen n.caches n.store i.contexts) refl c.args.actor.0 c.args.address c.requires.place.0 (found_at r.region c.args.place) (sym r.is) c.args.nodes.node c.args.nodes.owner o.held o.owner o.name
    ∙ found_hand (seen n.caches n.store i.contexts) c.args.nodes.owner c.in_default.field-0 there

pub returns-clause-pulled : goal.returns-clause-pulled
returns-clause-pulled g c = λ away.
    let i = c.self.inside in
    let nodes = c.self.invariant.sound.nodes in
    let o = told_nodes g (goal.at.returns-clause-pulled g c).After-self in
    let r = found g (goal.at.returns-clause-pulled g c).After-self in
    let hand = ready_hand i.caches i.store i.contexts i.live c.self.invariant.sound c.args.self.now c.self.view_is c.args.actor.0 c.args.address c.requires.place.0 (found_at r.region c.args.place) (sym r.is) c.args.nodes.node c.args.nodes.owner o.held o.owner o.name in
    pulled_one (own_of i.caches c.args.nodes.owner) c.read_fault.result c.in_default.field-0 (g.M.Mapper.counts c.args.mapper.now) (g.M.Mapper.counts c.read_fault.new.mapper) c.in_default.is (owner_some i.caches nodes.sound nodes.consistent.shaped c.args.nodes.node c.args.nodes.owner o.held o.owner) (sym hand ∙ away)
    (λ zero. (_, c.read_fault.ensures.traffic c.args.nodes.owner o.owner zero))

pub returns-in-Err-clause-missed : goal.returns-in-Err-clause-missed
returns-in-Err-clause-missed g c =
    let e = c.read_fault.ensures in
    let o = told_nodes g (goal.at.returns-in-Err-clause-missed g c).After-self in
    missed_at (own_of c.self.inside.caches c.args.nodes.owner) c.read_fault.result (g.M.Mapper.counts c.args.mapper.now) (g.M.Mapper.counts c.read_fault.new.mapper) c.in-Err.miss c.args.place.page c.fault_of.result c.fault_of.ensures c.in-Err.is (λ zero. (_, e.traffic c.args.nodes.owner o.owner zero)) (λ hand. (e.idle c.args.nodes.owner o.owner hand).0)

pub returns-in-Err-clause-no_more : goal.returns-in-Err-clause-no_more
returns-in-Err-clause-no_more g c =
    let i = c.self.inside in
    let n = c.read_fault.new in
    let nodes = c.self.invariant.sound.nodes in
    seen_no_more i.caches n.caches i.store n.store i.contexts c.self.view_is
    (failed_hand (world_at g.M.Mapper c.args.mapper.now i.caches i.store) (world_at g.M.Mapper n.mapper n.caches n.store) c.read_fault.ensures.still nodes.sound nodes.consistent.shaped c.in-Err.ensures.failed)

pub returns-in-Err-clause-call : goal.returns-in-Err-clause-call
returns-in-Err-clause-call g c = λ piece may granted told.
    let places = goal.at.returns-in-Err-clause-call g c in
    let i = c.self.inside in
    let h = g.M.Mapper.held c.args.mapper.now in
    let before = g.M.Mapper.counts c.args.mapper.now in
    let n = c.read_fault.new in
    let k = g.M.Mapper.held n.mapper in
    let after = g.M.Mapper.counts n.mapper in
    let p : Manager = seen i.caches i.store i.contexts in
    let q : Manager = seen n.caches n.store i.contexts in
    let nodes = c.self.invariant.sound.nodes in
    let valid = valid_before g places.After-self in
    let l = looked g places.After-read_fault in
    let brought = looked_for g places.After-read_fault in
    let r = spot (size_of i.caches) i.contexts c.args.actor.0 c.args.address (length piece) c.args.place c.self.invariant.sound.actors
    (subst (λ (p : Manager). Ok c.args.place ≡ place_told (place_of_actor p.page_bytes (has_number p.actors c.args.actor.0) c.args.address (length piece))) (sym c.self.view_is) told) in
    let at : Place = found_at r.region c.args.place in
    let command = commands.Store c.args.actor c.args.address piece in
    let is : (f : PageForest) → Ok at ≡ place (machine_by p f) c.args.actor.0 c.args.address (length piece) = λ f. r.is in
    let page : PageNo = c.args.place.page in
    let miss : Miss = c.in-Err.miss in
    let answer : Answer = Err (troubles.Mapper (fault_at miss page)) in
    let written : IsWritable i.caches (page_name c.args.place.cache c.args.place.page.0) = subst (λ (p : Manager). IsWritable p.caches (page_name c.args.place.cache c.args.place.page.0)) (sym c.self.view_is) granted in
    let answers : CallIs before after (state_at p h) command answer (state_at q k) = failed_at before after p q h k command answer no_segments l.reach nodes l.sound.nodes l.valid l.forest (not_saved miss page (forest_of p h) (machine_of p h) command (machine_of q k) refl) tt tt
    (λ f. store_fault (length l.reach.pushes) (machine_by p f) (machine_by q f) (forest_of p h) c.args.actor c.args.address piece no_segments before after miss page at (l.by f) (is f) may (undenied_blank p f c.args.place.cache.0 page.0) refl c.in-Err.ensures.cause)
    (λ f s shown. store_fault (length l.reach.pushes) (machine_by p f) (machine_by q f) (forest_of p h) c.args.actor c.args.address piece s before after miss page at (l.by f) (is f) may
    (undenied p h nodes valid.right c.args.place.cache page.0 r.count r.there r.less written f k s (reach_denied (machine_of p h) h k before after l.reach) shown) refl c.in-Err.ensures.cause) in
    subst (λ (f : FaultAt). MapperCall g.M.Mapper meaning c.args.mapper.now c.args.self.now command (Err (troubles.Mapper f)) n.mapper q) (sym c.fault_of.ensures) (record {
      valid = l.valid;
      answers = call_seen h c.self.view_is answers;
      asks_first = asks_missed command miss page before after;
      made = raised miss page (machine_of c.args.self.now h) command (machine_of q k) (numbered c.args.self.now) (numbered q) brought.numbered;
      room = refl;
      page = brought.page;
    })
