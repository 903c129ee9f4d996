use Rattle.std.proofs.Common.{◌≡◌, Result, Ok, Err, sym, subst}
use Rattle.std.specs.Prelude.{IfOk, OnOk, length}
use Rattle.vm_ids.specs.Accessing.{command_for}
use Rattle.vm_ids.specs.declared.access.Access.{Access}
use Rattle.vm_ids.specs.declared.access.Access.TheVariants as accesses
use Rattle.vm_ids.specs.declared.command.Command.TheVariants as commands
use Rattle.vm_ids.specs.declared.piece.Piece.{Piece}
use Rattle.vm_ids.specs.declared.reply.Reply.TheVariants as replies
use Rattle.vm_ids.specs.declared.reply.Trouble.{Trouble}
use Rattle.vm_model.specs.Answering.{Answer, answer_by}
use Rattle.gmi_calls.specs.Calling.{done_by}
use Rattle.gmi_calls.specs.Parking.{AccessCall, IsDelivered, address_of}
use Rattle.pvm_core.specs.Access.{IsLoaded, is_ready}
use Rattle.pvm_core.specs.Leaving.{AccessLeaves, IsTranslatedToWrite}
use Rattle.pvm_core.specs.Manager.{Manager, meaning}
use Rattle.pvm_core.proofs.gmi.PvmGmi.deliver.Given.{Over}
use Rattle.pvm_core.proofs.gmi.PvmGmi.deliver.Goals.{After-deliver_load-result, After-deliver_store-result}
use Rattle.pvm_core.proofs.gmi.PvmGmi.deliver.Goals as goal

-- a load that is delivered
loaded : (g : Over) (c : After-deliver_load-result g) (r : Result Piece Trouble) → c.deliver_load-result.result.0 ≡ r → AccessCall {Manager = Manager} g.M.Mapper meaning (IsDelivered (is_ready c.args.self.now c.args.actor.0 (address_of c.args.access.now)) (record { answer = answer_by replies.Bytes r; came = c.deliver_load-result.result.1 })) c.args.mapper.now c.args.self.now (command_for c.args.actor c.args.access.now) (answer_by replies.Bytes r) c.deliver_load-result.new.mapper c.deliver_load-result.new.self
loaded g c r is =
    subst (λ (a : Access). AccessCall {Manager = Manager} g.M.Mapper meaning (IsDelivered (is_ready c.args.self.now c.args.actor.0 (address_of a)) (record { answer = answer_by replies.Bytes r; came = c.deliver_load-result.result.1 })) c.args.mapper.now c.args.self.now (command_for c.args.actor a) (answer_by replies.Bytes r) c.deliver_load-result.new.mapper c.deliver_load-result.new.self) (sym c.in-Load.is)
    (subst (λ (r : Result Piece Trouble). AccessCall {Manager = Manager} g.M.Mapper meaning (IsDelivered (is_ready c.args.self.now c.args.actor.0 (c.in-Load.address)) (record { answer = answer_by replies.Bytes r; came = c.deliver_load-result.result.1 })) c.args.mapper.now c.args.self.now (commands.Load c.args.actor c.in-Load.address c.in-Load.length) (answer_by replies.Bytes r) c.deliver_load-result.new.mapper c.deliver_load-result.new.self) is c.deliver_load-result.ensures.delivered)

-- a store that is delivered
stored : (g : Over) (c : After-deliver_store-result g) (r : Result (Unit {0}) Trouble) → c.deliver_store-result.result.0 ≡ r → AccessCall {Manager = Manager} g.M.Mapper meaning (IsDelivered (is_ready c.args.self.now c.args.actor.0 (address_of c.args.access.now)) (record { answer = done_by r; came = c.deliver_store-result.result.1 })) c.args.mapper.now c.args.self.now (command_for c.args.actor c.args.access.now) (done_by r) c.deliver_store-result.new.mapper c.deliver_store-result.new.self
stored g c r is =
    subst (λ (a : Access). AccessCall {Manager = Manager} g.M.Mapper meaning (IsDelivered (is_ready c.args.self.now c.args.actor.0 (address_of a)) (record { answer = done_by r; came = c.deliver_store-result.result.1 })) c.args.mapper.now c.args.self.now (command_for c.args.actor a) (done_by r) c.deliver_store-result.new.mapper c.deliver_store-result.new.self) (sym c.in-Store.is)
    (subst (λ (r : Result (Unit {0}) Trouble). AccessCall {Manager = Manager} g.M.Mapper meaning (IsDelivered (is_ready c.args.self.now c.args.actor.0 (c.in-Store.address)) (record { answer = done_by r; came = c.deliver_store-result.result.1 })) c.args.mapper.now c.args.self.now (commands.Store c.args.actor c.in-Store.address c.in-Store.piece) (done_by r) c.deliver_store-result.new.mapper c.deliver_store-result.new.self) is c.deliver_store-result.ensures.delivered)

pub returns-in-Ok-clause-delivered : goal.returns-in-Ok-clause-delivered
returns-in-Ok-clause-delivered g c = loaded g (goal.at.returns-in-Ok-clause-delivered g c).After-deliver_load-result (Ok c.in-Ok.piece) c.in-Ok.is

pub returns-in-Err-clause-delivered : goal.returns-in-Err-clause-delivered
returns-in-Err-clause-delivered g c = loaded g (goal.at.returns-in-Err-clause-delivered g c).After-deliver_load-result (Err c.in-Err.trouble) c.in-Err.is

pub returns-in-Ok-result-clause-delivered : goal.returns-in-Ok-result-clause-delivered
returns-in-Ok-result-clause-delivered g c = stored g (goal.at.returns-in-Ok-result-clause-delivered g c).After-deliver_store-result (Ok tt) c.in-Ok-result.is

pub returns-in-Err-result-clause-delivered : goal.returns-in-Err-result-clause-delivered
returns-in-Err-result-clause-delivered g c = stored g (goal.at.returns-in-Err-result-clause-delivered g c).After-deliver_store-result (Err c.in-Err-result.trouble) c.in-Err-result.is

-- What an access leaves

load_left : (g : Over) (c : After-deliver_load-result g) (answer : Answer) → AccessLeaves g.M.Mapper c.args.mapper.now c.args.self.now c.args.actor (accesses.Load c.in-Load.address c.in-Load.length) answer c.deliver_load-result.new.mapper c.deliver_load-result.new.self
    → AccessLeaves g.M.Mapper c.args.mapper.now c.args.self.now c.args.actor c.args.access.now answer c.deliver_load-result.new.mapper c.deliver_load-result.new.self
load_left g c answer left = subst (λ (a : Access). AccessLeaves g.M.Mapper c.args.mapper.now c.args.self.now c.args.actor a answer c.deliver_load-result.new.mapper c.deliver_load-result.new.self) (sym c.in-Load.is) left

store_left : (g : Over) (c : After-deliver_store-result g) (answer : Answer) → OnOk answer (IsTranslatedToWrite c.deliver_store-result.new.self c.args.actor.0 c.in-Store.address (length c.in-Store.piece)) → AccessLeaves g.M.Mapper c.args.mapper.now c.args.self.now c.args.actor c.args.access.now answer c.deliver_store-result.new.mapper c.deliver_store-result.new.self
store_left g c answer translated =
    let e = c.deliver_store-result.ensures in
    subst (λ (a : Access). AccessLeaves g.M.Mapper c.args.mapper.now c.args.self.now c.args.actor a answer c.deliver_store-result.new.mapper c.deliver_store-result.new.self) (sym c.in-Store.is) (record { copies = e.copies; grants = e.grants; translated = translated })

pub returns-in-Ok-clause-left : goal.returns-in-Ok-clause-left
returns-in-Ok-clause-left g c =
    let n = c.deliver_load-result.new in
    load_left g (goal.at.returns-in-Ok-clause-left g c).After-deliver_load-result (Ok (replies.Bytes c.in-Ok.piece))
    (subst (λ (r : Result Piece Trouble). IfOk r (IsLoaded (g.M.Mapper.counts c.args.mapper.now) (g.M.Mapper.counts n.mapper) (g.M.Mapper.given n.mapper) c.args.self.now n.self c.args.actor.0 c.in-Load.address c.in-Load.length)) c.in-Ok.is c.deliver_load-result.ensures.loaded)

pub returns-in-Err-clause-left : goal.returns-in-Err-clause-left
returns-in-Err-clause-left g c = load_left g (goal.at.returns-in-Err-clause-left g c).After-deliver_load-result (Err c.in-Err.trouble) tt

pub returns-in-Ok-result-clause-left : goal.returns-in-Ok-result-clause-left
returns-in-Ok-result-clause-left g c =
    store_left g (goal.at.returns-in-Ok-result-clause-left g c).After-deliver_store-result (Ok replies.Done)
    (subst (λ (r : Result (Unit {0}) Trouble). OnOk r (IsTranslatedToWrite c.deliver_store-result.new.self c.args.actor.0 c.in-Store.address (length c.in-Store.piece))) c.in-Ok-result.is c.deliver_store-result.ensures.translated)

pub returns-in-Err-result-clause-left : goal.returns-in-Err-result-clause-left
returns-in-Err-result-clause-left g c = store_left g (goal.at.returns-in-Err-result-clause-left g c).After-deliver_store-result (Err c.in-Err-result.trouble) tt
