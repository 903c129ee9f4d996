use Rattle.std.proofs.Common.{rules, true, false, ◌≡◌, Option, Some, length, refl, sym, ap, subst, ◌∙◌, arith}
use Rattle.std.specs.Prelude.{◌+◌, ◌-◌, Result, Ok, Err, IfSome, IsOk}
use Rattle.pvm_core.proofs.Readiness.Steps.{stands_answered}
use Rattle.residency.specs.Between.{world_at}
use Rattle.pvm_core.proofs.Accesses.Ready.{seen_no_more, seen_admits, ready_hand}
use Rattle.vm_ids.specs.declared.command.Command.TheVariants as commands
use Rattle.vm_ids.specs.declared.numbers.PageNo.{PageNo}
use Rattle.vm_ids.specs.declared.reply.Reply.TheVariants as replies
use Rattle.vm_ids.specs.declared.reply.Trouble.TheVariants as troubles
use Rattle.vm_ids.specs.declared.reply.FaultAt.{FaultAt}
use Rattle.vm_ids.specs.declared.numbers.FrameId.{FrameId}
use Rattle.vm_ids.specs.declared.numbers.NodeId.{NodeId}
use Rattle.vm_ids.specs.Forest.Commands.{page_name}
use Rattle.vm_ids.specs.Forest.Reading.{owner_of, value_of}
use Rattle.local_cache.specs.Own.{own_of}
use Rattle.residency.specs.declared.miss.Miss.{Miss}
use Rattle.residency.specs.declared.store.Store.{Store}
use Rattle.residency.specs.Causes.{Traffic, dirtied, dirty_count, failed_victims, pulls_for}
use Rattle.residency.specs.World.{HoldsPage, IsStoreRight, World, world}
use Rattle.fault_path.specs.Faults.{IsFound, IsOwner, found_page, is_at_hand}
use Rattle.pvm_core.specs.Access.{AreNodesOf, IsAtHand, IsLoaded}
use Rattle.pvm_core.specs.Keeping.{SameButSeen}
use Rattle.pvm_core.specs.Translated.{AreTranslationsRight, OnlySeen}
use Rattle.pvm_core.proofs.Accesses.Found.{found_in, given_in, pulled_for, pulled_one, missed_at}
use Rattle.vm_model.specs.PageForest.{PageForest}
use Rattle.vm_model.specs.Machine.{numbered}
use Rattle.vm_model.specs.Place.{Place, place, place_of_actor}
use Rattle.vm_model.specs.Run.{CallIs}
use Rattle.local_cache.specs.Whole.{size_of}
use Rattle.pvm_core.specs.Manager.{IsValid, Manager, forest_of, machine_by, machine_of, nodes_of, state_at}
use Rattle.pvm_core.specs.Pieces.{fault_at}
use Rattle.pvm_core.proofs.Answering.Answered.{call_is, called}
use Rattle.pvm_core.proofs.Answering.Reaching.{reach_told}
use Rattle.pvm_core.proofs.Answering.Kept.{seen, sizeless, valid_seen, call_seen}
use Rattle.pvm_core.proofs.Answering.Standing.{Stands}
use Rattle.contexts.proofs.Placing.{IsFoundAt, found_at, spot}
use Rattle.pvm_core.proofs.Accesses.Loading.{found_place, found_within, load_fault, loaded}
use Rattle.pvm_core.proofs.Accesses.AccessedPages.{ends_within}
use Rattle.pvm_core.proofs.Accesses.Seen.{found_led, found_right, found_seen, led_found, same_grants, seen_by, seen_forest, seen_machine, seen_sound, seen_valid, seen_world}
use Rattle.pvm_core.proofs.Translating.Dropped.{dropped_right}
use Rattle.pvm_core.proofs.Answering.Recorded.{asks_missed}
use Rattle.gmi_calls.specs.Calling.{AsksFirst}
use Rattle.regions.specs.AddressSpace.{place_told}
use Rattle.pvm_core.proofs.pvm.Pvm.load_at.Given.{Over}
use Rattle.pvm_core.proofs.pvm.Pvm.load_at.Goals.{After-read_owner, After-remember_found, After-self}
use Rattle.pvm_core.specs.Access.{is_ready}
use Rattle.fault_path.proofs.OnePage.FoundPage.{owner_same}
use Rattle.pvm_core.proofs.Accesses.AtHand.{failed_hand, owner_some}
use Rattle.pvm_core.proofs.pvm.Pvm.load_at.Goals as goal

-- the access is in a region
found : (g : Over) (c : After-self g) → IsFoundAt (size_of c.self.inside.caches) c.self.inside.contexts.page_bytes (numbered c.self.inside.contexts.actors c.args.actor.0) c.args.address c.args.bytes c.args.place
found g c =
    let told : Ok c.args.place ≡ place_told (place_of_actor c.self.inside.contexts.page_bytes (numbered c.self.inside.contexts.actors c.args.actor.0) c.args.address c.args.bytes)
    = subst (λ (p : Manager). Ok c.args.place ≡ place_told (place_of_actor p.page_bytes (numbered p.actors c.args.actor.0) c.args.address c.args.bytes)) (sym c.self.view_is) c.requires.place in
    spot (size_of c.self.inside.caches) c.self.inside.contexts c.args.actor.0 c.args.address c.args.bytes c.args.place c.self.invariant.sound.actors told

valid_before : (g : Over) (c : After-self g) → IsValid (seen c.self.inside.caches c.self.inside.store c.self.inside.contexts) (g.M.Mapper.held c.args.mapper.now)
valid_before g c = valid_seen c.self.view_is c.requires.valid

-- the page is looked for: what the manager stands for stays
looked : (g : Over) (c : After-read_owner g) → Stands (seen c.self.inside.caches c.self.inside.store c.self.inside.contexts) c.read_owner.new.caches c.read_owner.new.store c.self.inside.contexts c.self.inside.live (g.M.Mapper.held c.args.mapper.now) (g.M.Mapper.held c.read_owner.new.mapper) (g.M.Mapper.counts c.args.mapper.now) (g.M.Mapper.counts c.read_owner.new.mapper)
looked g c =
    let i = c.self.inside in
    let n = c.read_owner.new in
    let e = c.read_owner.ensures in
    stands_answered i.caches n.caches i.store n.store _ _ _ _ i.contexts i.live c.self.invariant.sound _ _ e.answered e.forest (valid_before g (goal.at.After-read_owner g c).After-self)

-- the nodes of the page
told_nodes : (g : Over) (c : After-self g) → AreNodesOf c.self.inside.caches c.args.place.cache c.args.place.page c.args.nodes.node c.args.nodes.owner
told_nodes g c = subst (λ (p : Manager). AreNodesOf p.caches c.args.place.cache c.args.place.page c.args.nodes.node c.args.nodes.owner) (sym c.self.view_is) c.requires.nodes

still_right : (g : Over) (c : After-read_owner g) → AreTranslationsRight c.read_owner.new.caches c.read_owner.new.store c.self.inside.contexts
still_right g c =
    let i = c.self.inside in
    let n = c.read_owner.new in
    let e = c.read_owner.ensures in
    dropped_right (λ m. m ≡ c.args.nodes.owner) i.caches n.caches i.store n.store i.contexts e.drops (same_grants i.caches n.caches e.answered.kept.nodes.caches) c.self.invariant.translated

pub remember_found-requires-clause-frame : goal.remember_found-requires-clause-frame
remember_found-requires-clause-frame g c =
    let n = c.read_owner.new in
    let fitted = c.read_owner.ensures.answered.kept.right.tied.fitted in
    found_place c.in-Ok.found _ (length n.store.map) (length n.store.frames.held) (length n.store.tables) fitted.map_frames fitted.places_frames c.in-Ok.ensures.frame.bound

pub remember_found-requires-clause-mark : goal.remember_found-requires-clause-mark
remember_found-requires-clause-mark g c =
    let n = c.read_owner.new in
    let fitted = c.read_owner.ensures.answered.kept.right.tied.fitted in
    found_within c.in-Ok.found _ (length n.store.map) (length n.store.marks) (fitted.map_frames ∙ sym fitted.marks_frames) c.in-Ok.ensures.frame.bound

-- a translation of the page is remembered
only : (g : Over) (c : After-remember_found g) → OnlySeen c.read_owner.new.store c.remember_found.new.store
only g c = led_found c.self.inside.contexts.page_bytes c.args.actor c.args.address c.in-Ok.found c.read_owner.new.store c.remember_found.new.store c.remember_found.ensures

pub part_of-requires-clause-frame : goal.part_of-requires-clause-frame
part_of-requires-clause-frame g c =
    let at = goal.at.part_of-requires-clause-frame g c in
    let n = c.read_owner.new in
    found_within c.in-Ok.found _ (length n.store.map) (length c.remember_found.new.store.frames.held) (c.read_owner.ensures.answered.kept.right.tied.fitted.map_frames ∙ sym (ap (λ (s : Store). length s.frames.held) (only g at.After-remember_found).same)) c.in-Ok.ensures.frame.bound

pub part_of-requires-clause-within : goal.part_of-requires-clause-within
part_of-requires-clause-within g c =
    let at = goal.at.part_of-requires-clause-within g c in
    let r = found g at.After-self in
    omega (arith, r.fits, c.self.invariant.sound.page, c.read_owner.ensures.answered.kept.page, ap (λ (s : Store). s.frames.page) (only g at.After-remember_found).same)

pub invariant_of-self : goal.invariant_of-self
invariant_of-self g c =
    let at = goal.at.invariant_of-self g c in
    let i = c.self.inside in
    let n = c.read_owner.new in
    let e = c.read_owner.ensures in
    let k = looked g at.After-read_owner in
    let o = told_nodes g at.After-self in
    let r = found g at.After-self in
    record {
      sound = seen_sound n.store c.remember_found.new.store (only g at.After-remember_found) n.caches i.contexts i.live k.sound;
      translated = found_right c.args.actor c.args.address c.in-Ok.found n.caches n.store c.remember_found.new.store i.contexts c.remember_found.ensures (still_right g at.After-read_owner)
          (found_seen (g.M.Mapper.held c.args.mapper.now) (g.M.Mapper.held c.read_owner.new.mapper) (g.M.Mapper.page_bytes c.args.mapper.now) (g.M.Mapper.page_bytes n.mapper) i.caches n.caches i.store n.store e.still c.self.invariant.sound.nodes.sound c.self.invariant.sound.nodes.consistent.shaped c.args.nodes.node c.args.nodes.owner o.held o.owner
          i.contexts c.args.actor c.args.address c.args.bytes (found_at r.region c.args.place) k.sound.actors (sym r.is) o.name c.in-Ok.found c.in-Ok.ensures.frame);
    }

pub invariant_of-self-in-Err : goal.invariant_of-self-in-Err
invariant_of-self-in-Err g c =
    let at = (goal.at.invariant_of-self-in-Err g c).After-read_owner in
    record { sound = (looked g at).sound; translated = still_right g at }

pub returns-in-Ok-clause-call : goal.returns-in-Ok-clause-call
returns-in-Ok-clause-call g c = record {
  valid = (
      let at = goal.at.returns-in-Ok-clause-call g c in
      seen_valid c.read_owner.new.store c.remember_found.new.store (only g at.After-remember_found) c.read_owner.new.caches c.self.inside.contexts (g.M.Mapper.held c.read_owner.new.mapper) (looked g at.After-read_owner).valid
      );
  answers = (
      let places = goal.at.returns-in-Ok-clause-call g c in
      let i = c.self.inside in
      let n = c.read_owner.new in
      let e = c.read_owner.ensures in
      let h = g.M.Mapper.held c.args.mapper.now in
      let k = g.M.Mapper.held c.read_owner.new.mapper in
      let size = g.M.Mapper.page_bytes c.args.mapper.now in
      let then_size = g.M.Mapper.page_bytes n.mapper in
      let before = g.M.Mapper.counts c.args.mapper.now in
      let after = g.M.Mapper.counts c.read_owner.new.mapper in
      let p : Manager = seen i.caches i.store i.contexts in
      let u = c.remember_found.new.store in
      let q : Manager = seen n.caches u i.contexts in
      let l = looked g places.After-read_owner in
      let led = only g places.After-remember_found in
      let pl = c.args.place in
      let r = found g places.After-self in
      let at : Place = found_at r.region pl in
      let is : (f : PageForest) → Ok at ≡ place (machine_by p f) c.args.actor.0 c.args.address c.args.bytes = λ f. r.is in
      let both = reach_told (machine_of p h) h k before after l.reach in
      let piece = c.part_of.result in
      let o = told_nodes g places.After-self in
      let value = (λ j. value_of (sym (e.forest ∙ sizeless h size i.caches i.store) j) (sym o.name j)) ∙ c.in-Ok.ensures.value c.args.nodes.node o.held o.owner
      ∙ ap (λ (w : World). Some (found_page w c.in-Ok.found)) (sym (seen_world n.store u led k then_size n.caches)) in
      call_seen h c.self.view_is (call_is before after p q h k (commands.Load c.args.actor c.args.address c.args.bytes) (Ok (replies.Bytes piece)) l.reach (seen_valid n.store u led n.caches i.contexts k l.valid) tt tt (seen_forest n.store u led n.caches i.contexts k ∙ l.forest)
      (loaded p q h k then_size n.caches u c.args.actor c.args.address c.args.bytes at pl.cache pl.page.0 r.count c.in-Ok.found piece _ c.self.invariant.sound.nodes is refl refl r.there r.less r.fits
      c.part_of.ensures.piece c.part_of.ensures.length value both (λ f. seen_by n.store u led n.caches i.contexts k f ∙ l.by f) (seen_machine n.store u led n.caches i.contexts k ∙ l.machine)))
      );
  asks_first = tt;
  made = search rules;
  room = refl;
  page = search rules;
}

pub returns-in-Err-clause-call : goal.returns-in-Err-clause-call
returns-in-Err-clause-call g c = record {
  valid = (looked g (goal.at.returns-in-Err-clause-call g c).After-read_owner).valid;
  answers = (
      let places = goal.at.returns-in-Err-clause-call g c in
      let i = c.self.inside in
      let n = c.read_owner.new in
      let h = g.M.Mapper.held c.args.mapper.now in
      let k = g.M.Mapper.held c.read_owner.new.mapper in
      let before = g.M.Mapper.counts c.args.mapper.now in
      let after = g.M.Mapper.counts c.read_owner.new.mapper in
      let p : Manager = seen i.caches i.store i.contexts in
      let q : Manager = seen n.caches n.store i.contexts in
      let l = looked g places.After-read_owner in
      let r = found g places.After-self in
      let page : PageNo = c.args.place.page in
      let at : Place = found_at r.region c.args.place in
      let command = commands.Load c.args.actor c.args.address c.args.bytes in
      let is : (f : PageForest) → Ok at ≡ place (machine_by p f) c.args.actor.0 c.args.address c.args.bytes = λ f. r.is in
      call_seen h c.self.view_is (subst (λ (f : FaultAt). CallIs before after (state_at p h) command (Err (troubles.Mapper f)) (state_at q k)) (sym c.fault_of.ensures)
      (called before after p q h k command (Err (troubles.Mapper (fault_at c.in-Err.miss page))) l.reach c.self.invariant.sound.nodes l.sound.nodes l.valid l.forest (λ done m f s none. none) tt tt (λ f. refl) (λ page. refl)
      (λ f s. load_fault (length l.reach.pushes) (machine_by p f) (machine_by q f) (forest_of p h) c.args.actor c.args.address c.args.bytes s before after c.in-Err.miss page at (l.by f) (is f) refl c.in-Err.ensures.cause)))
      );
  asks_first = subst (λ (f : FaultAt). AsksFirst (commands.Load c.args.actor c.args.address c.args.bytes) (Err (troubles.Mapper f)) (g.M.Mapper.counts c.args.mapper.now) (g.M.Mapper.counts c.read_owner.new.mapper)) (sym c.fault_of.ensures) (asks_missed (commands.Load c.args.actor c.args.address c.args.bytes) c.in-Err.miss c.args.place.page (g.M.Mapper.counts c.args.mapper.now) (g.M.Mapper.counts c.read_owner.new.mapper));
  made = search rules;
  room = refl;
  page = search rules;
}

-- where the page is at hand, nothing but that it was seen changes
read_at_hand : (g : Over) (c : After-read_owner g) → IsAtHand c.args.self.now c.args.actor.0 c.args.address c.args.bytes
    → IsOk c.read_owner.result × (c.read_owner.new.store ≡ c.self.inside.store) × (c.read_owner.new.caches ≡ c.self.inside.caches) × (c.read_owner.new.mapper ≡ c.args.mapper.now)
read_at_hand g c hand =
    let i = c.self.inside in
    let p : Manager = seen i.caches i.store i.contexts in
    let r = found g (goal.at.After-read_owner g c).After-self in
    let at : Place = found_at r.region c.args.place in
    let at_hand : IsAtHand p c.args.actor.0 c.args.address c.args.bytes = subst (λ (p : Manager). IsAtHand p c.args.actor.0 c.args.address c.args.bytes) (sym c.self.view_is) hand in
    let same_place : Ok at ≡ Ok at_hand.at = r.is ∙ at_hand.place in
    let same : at ≡ at_hand.at = cc same_place in
    let o = told_nodes g (goal.at.After-read_owner g c).After-self in
    let owner : IsOwner i.caches c.args.nodes.node at_hand.owner = record {
      held = at_hand.has.held;
      name = at_hand.has.owner ∙ (λ j. owner_of (nodes_of p) (page_name (record { 0 = (sym same j).region.cache }) (sym same j).page)) ∙ ap (owner_of (nodes_of p)) (sym o.name);
    } in
    c.read_owner.ensures.idle (ap (λ (m : NodeId). is_at_hand (own_of i.caches m)) (owner_same i.caches c.self.invariant.sound.nodes.sound c.args.nodes.node c.args.nodes.owner at_hand.owner o.owner owner) ∙ at_hand.at_hand)

pub returns-in-Ok-clause-idle : goal.returns-in-Ok-clause-idle
returns-in-Ok-clause-idle g c = λ hand.
    let at = goal.at.returns-in-Ok-clause-idle g c in
    let i = c.self.inside in
    let u = c.remember_found.new.store in
    let idle = read_at_hand g at.After-read_owner hand in
    let q : Manager = seen c.read_owner.new.caches u i.contexts in (
      refl,
      subst (λ (p : Manager). SameButSeen p q) c.self.view_is (record { same = (λ j. seen (idle.2 j) u i.contexts); only = subst (λ (s : Store). OnlySeen s u) idle.1 (only g at.After-remember_found) }),
      idle.3,
    )

pub returns-in-Err-clause-idle : goal.returns-in-Err-clause-idle
returns-in-Err-clause-idle g c = λ hand. absurd (let no : false ≡ true = subst IsOk c.in-Err.is (read_at_hand g (goal.at.returns-in-Err-clause-idle g c).After-read_owner hand).0 in cc no)

pub returns-in-Ok-clause-loaded : goal.returns-in-Ok-clause-loaded
returns-in-Ok-clause-loaded g c =
    let places = goal.at.returns-in-Ok-clause-loaded g c in
    let i = c.self.inside in
    let n = c.read_owner.new in
    let e = c.read_owner.ensures in
    let k = g.M.Mapper.held c.read_owner.new.mapper in
    let then_size = g.M.Mapper.page_bytes n.mapper in
    let o = told_nodes g places.After-self in
    let u = c.remember_found.new.store in
    let led = only g places.After-remember_found in
    let r = found g places.After-self in
    let at : Place = found_at r.region c.args.place in
    let before = g.M.Mapper.counts c.args.mapper.now in
    let after = g.M.Mapper.counts c.read_owner.new.mapper in
    let given = g.M.Mapper.given n.mapper in
    let p : Manager = seen i.caches i.store i.contexts in
    let q : Manager = seen n.caches u i.contexts in
    let there = seen_world n.store u led k then_size n.caches in
    let right = subst IsStoreRight (sym there) e.answered.kept.right in
    let frame : IsFound (world k then_size n.caches u) c.args.nodes.owner (own_of i.caches c.args.nodes.owner) c.in-Ok.found = subst (λ (w : World). IsFound w c.args.nodes.owner (own_of i.caches c.args.nodes.owner) c.in-Ok.found) (sym there) c.in-Ok.ensures.frame in
    let holds = subst (λ (s : Store). IfSome c.in-Ok.found (λ f. HoldsPage (own_of i.caches c.args.nodes.owner) given s.frames f.0)) (sym led.same) c.in-Ok.ensures.given in
    subst (λ (p : Manager). IsLoaded before after given p q c.args.actor.0 c.args.address c.args.bytes c.part_of.result) c.self.view_is (record {
      at = at;
      place = sym r.is;
      owner = c.args.nodes.owner;
      has = record { held = o.owner.held; owner = o.owner.name ∙ ap (owner_of (nodes_of p)) o.name };
      frame = c.in-Ok.found;
      found = found_in k then_size i.caches n.caches u i.contexts right c.args.nodes.owner c.in-Ok.found frame (λ hand. (e.idle hand).2);
      bytes = c.part_of.ensures.piece;
      pulled = pulled_for (own_of i.caches c.args.nodes.owner) before after c.in-Ok.found
          (λ zero. (_, subst (λ (r : Result (Option FrameId) Miss). Traffic (pulls_for r (own_of i.caches c.args.nodes.owner)) (dirty_count i.caches + dirtied c.read_owner.result (own_of i.caches c.args.nodes.owner) - dirty_count n.caches + failed_victims c.read_owner.result) before after) c.in-Ok.is (e.traffic zero)))
          (λ hand. ap (λ m. g.M.Mapper.counts m) (e.idle hand).3);
      given = given_in k then_size i.caches n.caches u i.contexts right c.args.nodes.owner given c.in-Ok.found frame holds;
      translated = found_led i.contexts.page_bytes c.args.actor c.args.address c.args.bytes c.in-Ok.found n.store u c.remember_found.ensures (ends_within i.contexts.page_bytes c.args.address c.args.bytes _ at (sym r.is));
    })

-- Accesses that are ready, and admitted

pub returns-in-Err-clause-missed : goal.returns-in-Err-clause-missed
returns-in-Err-clause-missed g c =
    let e = c.read_owner.ensures in
    missed_at (own_of c.self.inside.caches c.args.nodes.owner) c.read_owner.result (g.M.Mapper.counts c.args.mapper.now) (g.M.Mapper.counts c.read_owner.new.mapper) c.in-Err.miss c.args.place.page c.fault_of.result c.fault_of.ensures c.in-Err.is (λ zero. (_, e.traffic zero)) (λ hand. (e.idle hand).0)

pub returns-in-Err-clause-no_more : goal.returns-in-Err-clause-no_more
returns-in-Err-clause-no_more g c =
    let i = c.self.inside in
    let n = c.read_owner.new in
    let nodes = c.self.invariant.sound.nodes in
    seen_no_more i.caches n.caches i.store n.store i.contexts c.self.view_is
    (failed_hand (world_at g.M.Mapper c.args.mapper.now i.caches i.store) (world_at g.M.Mapper n.mapper n.caches n.store) c.read_owner.ensures.still nodes.sound nodes.consistent.shaped c.in-Err.ensures.failed)

pub returns-in-Err-clause-admits : goal.returns-in-Err-clause-admits
returns-in-Err-clause-admits g c =
    let i = c.self.inside in
    let n = c.read_owner.new in
    seen_admits i.caches n.caches i.store n.store i.contexts c.self.view_is c.read_owner.ensures.answered.kept.nodes.caches

pub returns-in-Ok-clause-admits : goal.returns-in-Ok-clause-admits
returns-in-Ok-clause-admits g c =
    let i = c.self.inside in
    let n = c.read_owner.new in
    seen_admits i.caches n.caches i.store c.remember_found.new.store i.contexts c.self.view_is c.read_owner.ensures.answered.kept.nodes.caches

-- the access is ready where the owner of its page is at hand
ready_owner : (g : Over) (c : After-self g) → is_ready c.args.self.now c.args.actor.0 c.args.address ≡ is_at_hand (own_of c.self.inside.caches c.args.nodes.owner)
ready_owner g c =
    let i = c.self.inside in
    let o = told_nodes g c in
    let r = found g c in
    ready_hand i.caches i.store i.contexts i.live c.self.invariant.sound c.args.self.now c.self.view_is c.args.actor.0 c.args.address c.args.bytes (found_at r.region c.args.place) (sym r.is) c.args.nodes.node c.args.nodes.owner o.held o.owner o.name

-- then it is at hand
hand_there : (g : Over) (c : After-self g) → is_ready c.args.self.now c.args.actor.0 c.args.address ≡ true → IsAtHand c.args.self.now c.args.actor.0 c.args.address c.args.bytes
hand_there g c ready =
    let i = c.self.inside in
    let p : Manager = seen i.caches i.store i.contexts in
    let o = told_nodes g c in
    let r = found g c in
    subst (λ (p : Manager). IsAtHand p c.args.actor.0 c.args.address c.args.bytes) c.self.view_is (record {
      at = found_at r.region c.args.place;
      place = sym r.is;
      owner = c.args.nodes.owner;
      has = record { held = o.owner.held; owner = o.owner.name ∙ ap (owner_of (nodes_of p)) o.name };
      at_hand = sym (ready_owner g c) ∙ ready;
    })

pub returns-in-Ok-clause-at_hand : goal.returns-in-Ok-clause-at_hand
returns-in-Ok-clause-at_hand g c = hand_there g (goal.at.returns-in-Ok-clause-at_hand g c).After-self

pub returns-in-Err-clause-at_hand : goal.returns-in-Err-clause-at_hand
returns-in-Err-clause-at_hand g c = hand_there g (goal.at.returns-in-Err-clause-at_hand g c).After-self

pub returns-in-Ok-clause-pulled : goal.returns-in-Ok-clause-pulled
returns-in-Ok-clause-pulled g c = λ away.
    let i = c.self.inside in
    let nodes = c.self.invariant.sound.nodes in
    let at = (goal.at.returns-in-Ok-clause-pulled g c).After-self in
    let o = told_nodes g at in
    pulled_one (own_of i.caches c.args.nodes.owner) c.read_owner.result c.in-Ok.found (g.M.Mapper.counts c.args.mapper.now) (g.M.Mapper.counts c.read_owner.new.mapper) c.in-Ok.is (owner_some i.caches nodes.sound nodes.consistent.shaped c.args.nodes.node c.args.nodes.owner o.held o.owner) (sym (ready_owner g at) ∙ away)
    (λ zero. (_, c.read_owner.ensures.traffic zero))
