use Rattle.std.proofs.Common.{◌≡◌, true, length, sym, ap, ◌∙◌, arith}
use Rattle.vm_ids.specs.Counting.{RoseBy}
use Rattle.vm_ids.specs.declared.command.Command.TheVariants as commands
use Rattle.gmi_calls.specs.Calling.{MapperCall, done_by}
use Rattle.gmi_calls.specs.Parking.{NoPull}
use Rattle.pvm_core.specs.Access.{is_ready}
use Rattle.pvm_core.specs.Manager.{Manager, meaning, numbered, state_at}
use Rattle.pvm_core.proofs.Accesses.Found.{no_rise}
use Rattle.pvm_core.proofs.Accesses.Parked.{access_call, trouble_no_page, victim_no_page}
use Rattle.pvm_core.proofs.Accesses.Parts.{mapper_call, quiet_then, mapper_seen}
use Rattle.pvm_core.proofs.pvm.Pvm.issue_store.Given.{Over}
use Rattle.pvm_core.proofs.pvm.Pvm.issue_store.Goals.{After-is_owner_at_hand, Else-store_seen, Then-is_owner_at_hand}
use Rattle.pvm_core.proofs.pvm.Pvm.issue_store.Goals as goal

pub returns-then-store_seen-clause-answered : goal.returns-then-store_seen-clause-answered
returns-then-store_seen-clause-answered g c = access_call NoPull 0 (mapper_call (c.store_seen.ensures.call c.if-store_seen.true) c.requires.valid) tt tt (no_rise _) (λ r e. e)

-- where the page is looked for, the manager is as before
unseen : (g : Over) (c : Else-store_seen g) → c.store_seen.new.self ≡ c.args.self.now
unseen g c = c.store_seen.ensures.unseen c.if-store_seen.false

pub returns-in-Err-clause-answered : goal.returns-in-Err-clause-answered
returns-in-Err-clause-answered g c =
    let at = goal.at.returns-in-Err-clause-answered g c in
    let call = mapper_seen (unseen g at.Else-store_seen) c.in-Err.ensures.call in
    access_call NoPull 0 call tt (trouble_no_page c.in-Err.trouble c.in-Err.ensures.no_page) c.place_to_write.ensures.no_pull (λ r e. e)

-- the place of the access
pub nodes_at-nodes-requires : goal.nodes_at-nodes-requires
nodes_at-nodes-requires g c = record { place = (c.args.actor.0, c.args.address, length c.args.piece.now, c.in-Ok.ensures.place) }

-- whether the access is ready
asked : (g : Over) (c : After-is_owner_at_hand g) → is_ready c.place_to_write.new.self c.args.actor.0 c.args.address ≡ c.is_owner_at_hand.result
asked g c = sym (c.is_owner_at_hand.ensures ∙ c.nodes_at-nodes.ensures.ready c.args.actor.0 c.args.address (length c.args.piece.now) c.in-Ok.ensures.place)

-- and was before
asked_first : (g : Over) (c : After-is_owner_at_hand g) → is_ready c.args.self.now c.args.actor.0 c.args.address ≡ c.is_owner_at_hand.result
asked_first g c =
    sym (ap (λ (p : Manager). is_ready p c.args.actor.0 c.args.address) (unseen g (goal.at.After-is_owner_at_hand g c).Else-store_seen))
    ∙ sym (c.place_to_write.ensures.hands c.args.actor.0 c.args.address) ∙ asked g c

ready : (g : Over) (c : Then-is_owner_at_hand g) → is_ready c.place_to_write.new.self c.args.actor.0 c.args.address ≡ true
ready g c = asked g (goal.at.Then-is_owner_at_hand g c).After-is_owner_at_hand ∙ c.if-is_owner_at_hand.true

pub returns-then-is_owner_at_hand-clause-answered : goal.returns-then-is_owner_at_hand-clause-answered
returns-then-is_owner_at_hand-clause-answered g c =
    let at = goal.at.returns-then-is_owner_at_hand-clause-answered g c in
    let w = c.in-Ok.ensures.ready in
    let m = c.args.mapper.now in
    let state = w.state ∙ ap (λ (p : Manager). state_at p (g.M.Mapper.held m)) (unseen g at.Else-store_seen) in
    let made : numbered c.place_to_write.new.self ≡ numbered c.args.self.now = omega (arith, w.nodes.made, w.nodes.copies, ap numbered (unseen g at.Else-store_seen)) in
    let call : MapperCall g.M.Mapper meaning m c.args.self.now (commands.Store c.args.actor c.args.address c.args.piece.now) (done_by c.store_at.result) c.store_at.new.mapper c.store_at.new.self
    = quiet_then w.later w.asked.traffic state made w.page c.store_at.ensures.call in
    let none : RoseBy 0 (g.M.Mapper.counts m).pulls (g.M.Mapper.counts c.store_at.new.mapper).pulls = λ low. (
    let later = c.store_at.ensures.call.answers.rose.pulls_later in
    let y = c.store_at.ensures.no_pull (ready g at.Then-is_owner_at_hand) low in
    let x = c.place_to_write.ensures.no_pull (omega (arith, later, low)) in
    omega (arith, x, y)) in
    access_call NoPull 0 call tt (victim_no_page c.store_at.result (c.store_at.ensures.victim (ready g at.Then-is_owner_at_hand))) none (λ r e. e)

pub returns-then-is_owner_at_hand-clause-no_more_ready : goal.returns-then-is_owner_at_hand-clause-no_more_ready
returns-then-is_owner_at_hand-clause-no_more_ready g c = λ a x e.
    let at = goal.at.returns-then-is_owner_at_hand-clause-no_more_ready g c in
    sym (ap (λ (p : Manager). is_ready p a x) (unseen g at.Else-store_seen)) ∙ sym (c.place_to_write.ensures.hands a x) ∙ c.store_at.ensures.no_more (ready g at.Then-is_owner_at_hand) a x e

pub returns-then-is_owner_at_hand-clause-at_hand : goal.returns-then-is_owner_at_hand-clause-at_hand
returns-then-is_owner_at_hand-clause-at_hand g c = λ ok. asked_first g (goal.at.returns-then-is_owner_at_hand-clause-at_hand g c).After-is_owner_at_hand ∙ c.if-is_owner_at_hand.true

pub returns-else-is_owner_at_hand-clause-not_ready : goal.returns-else-is_owner_at_hand-clause-not_ready
returns-else-is_owner_at_hand-clause-not_ready g c = asked_first g (goal.at.returns-else-is_owner_at_hand-clause-not_ready g c).After-is_owner_at_hand ∙ c.if-is_owner_at_hand.false
