use Rattle.std.proofs.Common.{◌≡◌, Bool, true, false, Err, length, sym, ap, subst, ◌∙◌, arith}
use Rattle.vm_ids.specs.Counting.{RoseBy}
use Rattle.vm_ids.specs.declared.command.Command.TheVariants as commands
use Rattle.vm_ids.specs.declared.reply.Trouble.{Trouble}
use Rattle.residency.specs.declared.miss.Miss.TheVariants.{Victim}
use Rattle.gmi_calls.specs.Calling.{MapperCall, done_by}
use Rattle.gmi_calls.specs.Parking.{AccessCall, IsDelivered}
use Rattle.pvm_core.specs.Access.{IsMissAt, is_ready}
use Rattle.pvm_core.specs.Manager.{Manager, meaning, numbered, state_at}
use Rattle.pvm_core.proofs.Accesses.Behind.{done_or_victim, looked_then}
use Rattle.pvm_core.proofs.Accesses.Parked.{access_call, any_access, came_not, came_ready, came_stored, missed_access, trouble_no_page, victim_no_page}
use Rattle.pvm_core.proofs.Accesses.Parts.{quiet_then, mapper_seen}
use Rattle.pvm_core.proofs.pvm.Pvm.deliver_store.Given.{Over}
use Rattle.pvm_core.proofs.pvm.Pvm.deliver_store.Goals.{After-is_owner_at_hand, After-place_to_write, Else-store_seen, In-Ok}
use Rattle.pvm_core.proofs.pvm.Pvm.deliver_store.Goals as goal

-- where the page is looked for, the manager is as before
unseen : (g : Over) (c : Else-store_seen g) → c.store_seen.new.self ≡ c.args.self.now
unseen g c = c.store_seen.ensures.unseen c.if-store_seen.false

-- the place of the access
pub nodes_at-nodes-requires : goal.nodes_at-nodes-requires
nodes_at-nodes-requires g c = record { place = (c.args.actor.0, c.args.address, length c.args.piece.now, c.in-Ok.ensures.place) }

-- whether the access is ready
asked_now : (g : Over) (c : After-is_owner_at_hand g) → c.is_owner_at_hand.result ≡ is_ready c.place_to_write.new.self c.args.actor.0 c.args.address
asked_now g c = c.is_owner_at_hand.ensures ∙ c.nodes_at-nodes.ensures.ready c.args.actor.0 c.args.address (length c.args.piece.now) c.in-Ok.ensures.place

-- the questions for write access leave what is ready
as_before : (g : Over) (c : After-place_to_write g) → is_ready c.place_to_write.new.self c.args.actor.0 c.args.address ≡ is_ready c.args.self.now c.args.actor.0 c.args.address
as_before g c = c.place_to_write.ensures.hands c.args.actor.0 c.args.address ∙ ap (λ (p : Manager). is_ready p c.args.actor.0 c.args.address) (unseen g (goal.at.After-place_to_write g c).Else-store_seen)

asked : (g : Over) (c : After-is_owner_at_hand g) → c.is_owner_at_hand.result ≡ is_ready c.args.self.now c.args.actor.0 c.args.address
asked g c = asked_now g c ∙ as_before g (goal.at.After-is_owner_at_hand g c).After-place_to_write

pub returns-in-Err-clause-delivered : goal.returns-in-Err-clause-delivered
returns-in-Err-clause-delivered g c =
    let at = goal.at.returns-in-Err-clause-delivered g c in
    let command = commands.Store c.args.actor c.args.address c.args.piece.now in
    let call = mapper_seen (unseen g at.Else-store_seen) c.in-Err.ensures.call in
    access_call _ 0 call tt (trouble_no_page c.in-Err.trouble c.in-Err.ensures.no_page) c.place_to_write.ensures.no_pull (λ r e. came_not _ _ c.in-Err.trouble r (c.is_ready.ensures ∙ as_before g at.After-place_to_write) e)

-- a call behind the questions for write access
behind_questions : (g : Over) (c : In-Ok g) → numbered c.place_to_write.new.self ≡ numbered c.args.self.now
behind_questions g c =
    let w = c.in-Ok.ensures.ready in
    omega (arith, w.nodes.made, w.nodes.copies, ap numbered (unseen g (goal.at.In-Ok g c).Else-store_seen))

pub returns-then-is_owner_at_hand-clause-delivered : goal.returns-then-is_owner_at_hand-clause-delivered
returns-then-is_owner_at_hand-clause-delivered g c =
    let at = goal.at.returns-then-is_owner_at_hand-clause-delivered g c in
    let w = c.in-Ok.ensures.ready in
    let m = c.args.mapper.now in
    let state = w.state ∙ ap (λ (p : Manager). state_at p (g.M.Mapper.held m)) (unseen g at.Else-store_seen) in
    let call = quiet_then w.later w.asked.traffic state (behind_questions g at.In-Ok) w.page c.store_at.ensures.call in
    any_access _ call (λ r. came_ready _ _ r (sym (asked g at.After-is_owner_at_hand) ∙ c.if-is_owner_at_hand.true))

pub returns-in-Err-bring_page-clause-delivered : goal.returns-in-Err-bring_page-clause-delivered
returns-in-Err-bring_page-clause-delivered g c =
    let at = goal.at.returns-in-Err-bring_page-clause-delivered g c in
    let w = c.in-Ok.ensures.ready in
    let m = c.args.mapper.now in
    let k = c.bring_page.new.mapper in
    let q = c.bring_page.new.self in
    let trouble = c.in-Err-bring_page.trouble in
    let command = commands.Store c.args.actor c.args.address c.args.piece.now in
    let miss : IsMissAt (g.M.Mapper.counts c.place_to_write.new.mapper) (g.M.Mapper.counts k) trouble = c.in-Err-bring_page.ensures.missed in
    let state = w.state ∙ ap (λ (p : Manager). state_at p (g.M.Mapper.held m)) (unseen g at.Else-store_seen) in
    let first : MapperCall g.M.Mapper meaning c.place_to_write.new.mapper c.place_to_write.new.self command (Err trouble) k q = c.in-Err-bring_page.ensures.call c.args.piece.now w.may_write w.writable c.in-Ok.ensures.place in
    let call : MapperCall g.M.Mapper meaning m c.args.self.now command (Err trouble) k q = quiet_then w.later w.asked.traffic state (behind_questions g at.In-Ok) w.page first in
    let away : is_ready c.args.self.now c.args.actor.0 c.args.address ≡ false = sym (asked g at.After-is_owner_at_hand) ∙ c.if-is_owner_at_hand.false in
    let none : miss.miss ≡ Victim → RoseBy 0 (g.M.Mapper.counts m).pulls (g.M.Mapper.counts k).pulls = λ victim low. (
    let later = first.answers.rose.pulls_later in
    let y = miss.no_pull victim low in
    let x = c.place_to_write.ensures.no_pull (omega (arith, later, low)) in
    omega (arith, x, y)) in
    subst (λ (b : Bool). AccessCall g.M.Mapper meaning (IsDelivered b (record { answer = Err trouble; came = false })) m c.args.self.now command (Err trouble) k q) (sym away)
    (subst (λ (t : Trouble). AccessCall g.M.Mapper meaning (IsDelivered false (record { answer = Err t; came = false })) m c.args.self.now command (Err t) k q) (sym miss.is)
    (missed_access miss.miss miss.page (subst (λ (t : Trouble). MapperCall g.M.Mapper meaning m c.args.self.now command (Err t) k q) miss.is call) tt none))

pub returns-in-Ok-bring_page-clause-delivered : goal.returns-in-Ok-bring_page-clause-delivered
returns-in-Ok-bring_page-clause-delivered g c =
    let at = goal.at.returns-in-Ok-bring_page-clause-delivered g c in
    let w = c.in-Ok.ensures.ready in
    let m = c.args.mapper.now in
    let k = c.store_at-in-Ok-bring_page.new.mapper in
    let state = w.state ∙ ap (λ (p : Manager). state_at p (g.M.Mapper.held m)) (unseen g at.Else-store_seen) in
    let ready : is_ready c.bring_page.new.self c.args.actor.0 c.args.address ≡ true = c.in-Ok-bring_page.ensures.ready in
    let victim = c.store_at-in-Ok-bring_page.ensures.victim ready in
    let looked = c.bring_page.ensures.brought in
    let then = c.store_at-in-Ok-bring_page.ensures.call in
    let call : MapperCall g.M.Mapper meaning m c.args.self.now (commands.Store c.args.actor c.args.address c.args.piece.now) (done_by c.store_at-in-Ok-bring_page.result) k c.store_at-in-Ok-bring_page.new.self
    = quiet_then w.later w.asked.traffic state (behind_questions g at.In-Ok) w.page (looked_then looked (done_or_victim c.store_at-in-Ok-bring_page.result victim) then) in
    let away : is_ready c.place_to_write.new.self c.args.actor.0 c.args.address ≡ false = sym (asked_now g at.After-is_owner_at_hand) ∙ c.if-is_owner_at_hand.false in
    let one : RoseBy 1 (g.M.Mapper.counts m).pulls (g.M.Mapper.counts k).pulls = λ low. (
    let last = then.answers.rose.pulls_later in
    let later = looked.reach.later.pulls in
    let z = c.store_at-in-Ok-bring_page.ensures.no_pull ready low in
    let y = c.in-Ok-bring_page.ensures.pulled away (omega (arith, last, low)) in
    let x = c.place_to_write.ensures.no_pull (omega (arith, last, later, low)) in
    omega (arith, x, y, z)) in
    access_call _ 1 call tt (victim_no_page c.store_at-in-Ok-bring_page.result victim) one (λ r pulled. came_stored _ c.store_at-in-Ok-bring_page.result r (sym (asked g at.After-is_owner_at_hand) ∙ c.if-is_owner_at_hand.false) victim pulled)

pub returns-in-Ok-bring_page-clause-still_admits : goal.returns-in-Ok-bring_page-clause-still_admits
returns-in-Ok-bring_page-clause-still_admits g c = λ command e. c.store_at-in-Ok-bring_page.ensures.admits command (c.bring_page.ensures.admits command (c.place_to_write.ensures.admits command (c.store_seen.ensures.admits command e)))
