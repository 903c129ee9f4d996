use Rattle.std.proofs.Common.{◌≡◌, Bool, true, false, Ok, Err, refl, sym, ap, subst, ◌∙◌, arith, Result}
use Rattle.std.specs.Prelude.{IfErr, IsOk, OnOk}
use Rattle.pvm_core.proofs.Answering.Kept.{valid_seen}
use Rattle.vm_ids.specs.Counting.{RoseBy}
use Rattle.vm_ids.specs.declared.command.Command.TheVariants as commands
use Rattle.vm_ids.specs.declared.piece.Piece.{Piece}
use Rattle.vm_ids.specs.declared.reply.Reply.TheVariants as replies
use Rattle.vm_ids.specs.declared.reply.Trouble.{Trouble}
use Rattle.vm_ids.specs.declared.reply.Trouble.TheVariants as troubles
use Rattle.vm_model.specs.Answering.{Answer, answer_by}
use Rattle.gmi_calls.specs.Calling.{MapperCall}
use Rattle.gmi_calls.specs.Parking.{AccessCall, IsDelivered}
use Rattle.pvm_core.specs.Access.{IsMissAt, is_ready}
use Rattle.pvm_core.specs.Manager.{Manager, meaning}
use Rattle.pvm_core.proofs.Accesses.Found.{no_rise}
use Rattle.pvm_core.proofs.Accesses.Parked.{access_call, any_access, came_not, came_ok, missed_access}
use Rattle.pvm_core.proofs.Accesses.Parts.{mapper_call, mapper_seen}
use Rattle.pvm_core.proofs.pvm.Pvm.deliver_load.Given.{Over}
use Rattle.pvm_core.proofs.pvm.Pvm.deliver_load.Goals.{After-is_owner_at_hand-ready, After-load_at, In-None}
use Rattle.pvm_core.proofs.pvm.Pvm.deliver_load.Goals as goal

-- the manager is as before where no translation leads to the page
unseen : (g : Over) (c : In-None g) → c.load_seen.new.self ≡ c.args.self.now
unseen g c = c.in-None.ensures.unseen

-- the place of the access
pub nodes_at-nodes-requires : goal.nodes_at-nodes-requires
nodes_at-nodes-requires g c = record { place = (c.args.actor.0, c.args.address, c.args.bytes, sym c.in-Ok.is ∙ c.locate.ensures.place) }

-- whether the access is ready
ready : (g : Over) (c : After-is_owner_at_hand-ready g) → c.is_owner_at_hand-ready.result ≡ is_ready c.load_seen.new.self c.args.actor.0 c.args.address
ready g c = c.is_owner_at_hand-ready.ensures ∙ c.nodes_at-nodes.ensures.ready c.args.actor.0 c.args.address c.args.bytes (sym c.in-Ok.is ∙ c.locate.ensures.place)

-- and was before
asked : (g : Over) (c : After-is_owner_at_hand-ready g) → c.is_owner_at_hand-ready.result ≡ is_ready c.args.self.now c.args.actor.0 c.args.address
asked g c = ready g c ∙ ap (λ (p : Manager). is_ready p c.args.actor.0 c.args.address) (unseen g (goal.at.After-is_owner_at_hand-ready g c).In-None)

-- the load at its place
loaded : (g : Over) (c : After-load_at g) (r : Result Piece Trouble) → c.load_at.result ≡ r → MapperCall g.M.Mapper meaning c.args.mapper.now c.args.self.now (commands.Load c.args.actor c.args.address c.args.bytes) (answer_by replies.Bytes r) c.load_at.new.mapper c.load_at.new.self
loaded g c r is =
    subst (λ (r : Result Piece Trouble). MapperCall g.M.Mapper meaning c.args.mapper.now c.args.self.now (commands.Load c.args.actor c.args.address c.args.bytes) (answer_by replies.Bytes r) c.load_at.new.mapper c.load_at.new.self) is
    (mapper_seen (unseen g (goal.at.After-load_at g c).In-None) c.load_at.ensures.call)

pub returns-in-Ok-load_at-clause-delivered : goal.returns-in-Ok-load_at-clause-delivered
returns-in-Ok-load_at-clause-delivered g c = go (is_ready c.args.self.now c.args.actor.0 c.args.address) refl
  where
    go : (b : Bool) → is_ready c.args.self.now c.args.actor.0 c.args.address ≡ b
        → AccessCall g.M.Mapper meaning (IsDelivered (is_ready c.args.self.now c.args.actor.0 c.args.address) (record { answer = Ok (replies.Bytes c.in-Ok-load_at.piece); came = true })) c.args.mapper.now c.args.self.now (commands.Load c.args.actor c.args.address c.args.bytes) (Ok (replies.Bytes c.in-Ok-load_at.piece)) c.load_at.new.mapper c.load_at.new.self
    go true e = any_access _ (loaded g (goal.at.returns-in-Ok-load_at-clause-delivered g c).After-load_at (Ok c.in-Ok-load_at.piece) c.in-Ok-load_at.is) (λ r. came_ok _ _ r (λ no. absurd (let f : true ≡ false = sym e ∙ no in cc f)))
    go false e =
        let away : is_ready c.load_seen.new.self c.args.actor.0 c.args.address ≡ false = ap (λ (q : Manager). is_ready q c.args.actor.0 c.args.address) (unseen g (goal.at.returns-in-Ok-load_at-clause-delivered g c).In-None) ∙ e in
        let rose : RoseBy 1 (g.M.Mapper.counts c.args.mapper.now).pulls (g.M.Mapper.counts c.load_at.new.mapper).pulls = subst (λ (r : Result Piece Trouble). OnOk r (RoseBy 1 (g.M.Mapper.counts c.args.mapper.now).pulls (g.M.Mapper.counts c.load_at.new.mapper).pulls)) c.in-Ok-load_at.is (c.load_at.ensures.pulled away) in
        access_call _ 1 (loaded g (goal.at.returns-in-Ok-load_at-clause-delivered g c).After-load_at (Ok c.in-Ok-load_at.piece) c.in-Ok-load_at.is) tt tt rose (λ r one. came_ok _ _ r (λ no. omega (arith, one)))

pub returns-in-Err-load_at-clause-delivered : goal.returns-in-Err-load_at-clause-delivered
returns-in-Err-load_at-clause-delivered g c = go c.is_owner_at_hand-ready.result refl
  where
    miss : IsMissAt (g.M.Mapper.counts c.args.mapper.now) (g.M.Mapper.counts c.load_at.new.mapper) c.in-Err-load_at.trouble
    miss = subst (λ (r : Result Piece Trouble). IfErr r (IsMissAt (g.M.Mapper.counts c.args.mapper.now) (g.M.Mapper.counts c.load_at.new.mapper))) c.in-Err-load_at.is c.load_at.ensures.missed

    go : (b : Bool) → c.is_owner_at_hand-ready.result ≡ b
        → AccessCall g.M.Mapper meaning (IsDelivered (is_ready c.args.self.now c.args.actor.0 c.args.address) (record { answer = Err c.in-Err-load_at.trouble; came = c.is_owner_at_hand-ready.result })) c.args.mapper.now c.args.self.now (commands.Load c.args.actor c.args.address c.args.bytes) (Err c.in-Err-load_at.trouble) c.load_at.new.mapper c.load_at.new.self
    go true e = absurd (let no : false ≡ true = subst IsOk c.in-Err-load_at.is (c.load_at.ensures.idle (c.load_at.ensures.at_hand (sym (ready g (goal.at.returns-in-Err-load_at-clause-delivered g c).After-is_owner_at_hand-ready) ∙ e))).0 in cc no)
    go false e =
        let away : is_ready c.args.self.now c.args.actor.0 c.args.address ≡ false = sym (asked g (goal.at.returns-in-Err-load_at-clause-delivered g c).After-is_owner_at_hand-ready) ∙ e in
        let call = subst (λ (t : Trouble). MapperCall g.M.Mapper meaning c.args.mapper.now c.args.self.now (commands.Load c.args.actor c.args.address c.args.bytes) (Err t) c.load_at.new.mapper c.load_at.new.self) miss.is (loaded g (goal.at.returns-in-Err-load_at-clause-delivered g c).After-load_at (Err c.in-Err-load_at.trouble) c.in-Err-load_at.is) in
        subst (λ (b : Bool). AccessCall g.M.Mapper meaning (IsDelivered b (record { answer = Err c.in-Err-load_at.trouble; came = c.is_owner_at_hand-ready.result })) c.args.mapper.now c.args.self.now (commands.Load c.args.actor c.args.address c.args.bytes) (Err c.in-Err-load_at.trouble) c.load_at.new.mapper c.load_at.new.self) (sym away)
        (subst (λ (b : Bool). AccessCall g.M.Mapper meaning (IsDelivered false (record { answer = Err c.in-Err-load_at.trouble; came = b })) c.args.mapper.now c.args.self.now (commands.Load c.args.actor c.args.address c.args.bytes) (Err c.in-Err-load_at.trouble) c.load_at.new.mapper c.load_at.new.self) (sym e)
        (subst (λ (t : Trouble). AccessCall g.M.Mapper meaning (IsDelivered false (record { answer = Err t; came = false })) c.args.mapper.now c.args.self.now (commands.Load c.args.actor c.args.address c.args.bytes) (Err t) c.load_at.new.mapper c.load_at.new.self) (sym miss.is)
        (missed_access miss.miss miss.page call tt miss.no_pull)))

pub returns-in-Err-clause-delivered : goal.returns-in-Err-clause-delivered
returns-in-Err-clause-delivered g c =
    let at = goal.at.returns-in-Err-clause-delivered g c in
    let q = c.load_seen.new.self in
    let m = c.args.mapper.now in
    let command = commands.Load c.args.actor c.args.address c.args.bytes in
    let answer : Answer = Err (troubles.Refused c.in-Err.refusal) in
    let valid = valid_seen (unseen g at.In-None) c.requires.valid in
    let call = mapper_seen (unseen g at.In-None) (mapper_call c.in-Err.ensures.load valid) in
    access_call _ 0 call tt tt (no_rise _) (λ r e. came_not _ _ _ r (c.is_ready.ensures ∙ ap (λ (p : Manager). is_ready p c.args.actor.0 c.args.address) (unseen g at.In-None)) e)
