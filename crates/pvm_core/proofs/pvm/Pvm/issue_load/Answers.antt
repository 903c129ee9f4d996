use Rattle.std.proofs.Common.{◌≡◌, true, Ok, Err, sym, ap, subst, ◌∙◌, Result}
use Rattle.std.specs.Prelude.{IsOk}
use Rattle.pvm_core.proofs.Answering.Kept.{valid_seen}
use Rattle.vm_ids.specs.Counting.{RoseBy}
use Rattle.vm_ids.specs.declared.command.Command.TheVariants as commands
use Rattle.vm_ids.specs.declared.piece.Piece.{Piece}
use Rattle.vm_ids.specs.declared.reply.Reply.TheVariants as replies
use Rattle.vm_ids.specs.declared.reply.Trouble.{Trouble}
use Rattle.vm_ids.specs.declared.reply.Trouble.TheVariants as troubles
use Rattle.vm_model.specs.Answering.{answer_by}
use Rattle.gmi_calls.specs.Parking.{AccessCall, NoPull}
use Rattle.pvm_core.specs.Access.{is_ready}
use Rattle.pvm_core.specs.Keeping.{SameButSeen}
use Rattle.pvm_core.specs.Manager.{Manager, meaning}
use Rattle.pvm_core.proofs.Accesses.Found.{no_rise}
use Rattle.pvm_core.proofs.Accesses.Parked.{IsNoPage, access_call}
use Rattle.pvm_core.proofs.Accesses.Parts.{mapper_call, mapper_seen}
use Rattle.pvm_core.proofs.pvm.Pvm.issue_load.Given.{Over}
use Rattle.pvm_core.proofs.pvm.Pvm.issue_load.Goals.{After-is_owner_at_hand, After-load_at, In-None}
use Rattle.pvm_core.proofs.pvm.Pvm.issue_load.Goals as goal

-- no page is pulled where the mapper isn't called
pub returns-in-Some-clause-answered : goal.returns-in-Some-clause-answered
returns-in-Some-clause-answered g c = access_call NoPull 0 (mapper_call c.in-Some.ensures.call c.requires.valid) tt tt (no_rise _) (λ r e. e)

-- the manager is as before where no translation leads to the page
unseen : (g : Over) (c : In-None g) → c.load_seen.new.self ≡ c.args.self.now
unseen g c = c.in-None.ensures.unseen

pub returns-in-Err-clause-answered : goal.returns-in-Err-clause-answered
returns-in-Err-clause-answered g c =
    let at = goal.at.returns-in-Err-clause-answered g c in
    let q = c.load_seen.new.self in
    let m = c.args.mapper.now in
    let valid = valid_seen (unseen g at.In-None) c.requires.valid in
    subst (λ (p : Manager). AccessCall g.M.Mapper meaning NoPull m p (commands.Load c.args.actor c.args.address c.args.bytes) (Err (troubles.Refused c.in-Err.refusal)) m q) (unseen g at.In-None) (access_call NoPull 0 (mapper_call c.in-Err.ensures.load valid) tt tt (no_rise _) (λ r e. e))

-- the place of the access
pub nodes_at-nodes-requires : goal.nodes_at-nodes-requires
nodes_at-nodes-requires g c = record { place = (c.args.actor.0, c.args.address, c.args.bytes, sym c.in-Ok.is ∙ c.locate.ensures.place) }

-- whether the access is ready
ready : (g : Over) (c : After-is_owner_at_hand g) → c.is_owner_at_hand.result ≡ is_ready c.load_seen.new.self c.args.actor.0 c.args.address
ready g c = c.is_owner_at_hand.ensures ∙ c.nodes_at-nodes.ensures.ready c.args.actor.0 c.args.address c.args.bytes (sym c.in-Ok.is ∙ c.locate.ensures.place)

-- what a load leaves that is ready
at_hand : (g : Over) (c : After-load_at g) → c.is_owner_at_hand.result ≡ true → IsOk c.load_at.result × SameButSeen c.load_seen.new.self c.load_at.new.self × (c.load_at.new.mapper ≡ c.args.mapper.now)
at_hand g c here = c.load_at.ensures.idle (c.load_at.ensures.at_hand (sym (ready g (goal.at.After-load_at g c).After-is_owner_at_hand) ∙ here))

ok_no_page : (r : Result Piece Trouble) → IsOk r → IsNoPage (answer_by replies.Bytes r)
ok_no_page (Ok x) e = tt
ok_no_page (Err x) e = absurd (cc e)

pub returns-then-is_owner_at_hand-clause-answered : goal.returns-then-is_owner_at_hand-clause-answered
returns-then-is_owner_at_hand-clause-answered g c =
    let at = goal.at.returns-then-is_owner_at_hand-clause-answered g c in
    let m = c.args.mapper.now in
    let idle = at_hand g at.After-load_at c.if-is_owner_at_hand.true in
    let call = mapper_seen (unseen g at.In-None) c.load_at.ensures.call in
    let none : RoseBy 0 (g.M.Mapper.counts m).pulls (g.M.Mapper.counts c.load_at.new.mapper).pulls = subst (λ k. RoseBy 0 (g.M.Mapper.counts m).pulls (g.M.Mapper.counts k).pulls) (sym idle.2) (no_rise _) in
    access_call NoPull 0 call tt (ok_no_page c.load_at.result idle.0) none (λ r e. e)

pub returns-then-is_owner_at_hand-clause-at_hand : goal.returns-then-is_owner_at_hand-clause-at_hand
returns-then-is_owner_at_hand-clause-at_hand g c = λ ok.
    let at = goal.at.returns-then-is_owner_at_hand-clause-at_hand g c in
    sym (ap (λ (p : Manager). is_ready p c.args.actor.0 c.args.address) (unseen g at.In-None)) ∙ sym (ready g at.After-is_owner_at_hand) ∙ c.if-is_owner_at_hand.true

pub returns-else-is_owner_at_hand-clause-not_ready : goal.returns-else-is_owner_at_hand-clause-not_ready
returns-else-is_owner_at_hand-clause-not_ready g c =
    let at = goal.at.returns-else-is_owner_at_hand-clause-not_ready g c in
    sym (ap (λ (p : Manager). is_ready p c.args.actor.0 c.args.address) (unseen g at.In-None)) ∙ sym (ready g at.After-is_owner_at_hand) ∙ c.if-is_owner_at_hand.false
