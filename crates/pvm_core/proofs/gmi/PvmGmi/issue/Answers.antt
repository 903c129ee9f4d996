use Rattle.std.proofs.Common.{◌≡◌, Result, Ok, Err, sym, subst}
use Rattle.std.specs.Prelude.{IfOk, OnOk, length}
use Rattle.vm_ids.specs.Accessing.{command_for}
use Rattle.vm_ids.specs.declared.access.Access.{Access}
use Rattle.vm_ids.specs.declared.access.Access.TheVariants as accesses
use Rattle.vm_ids.specs.declared.command.Command.TheVariants as commands
use Rattle.vm_ids.specs.declared.piece.Piece.{Piece}
use Rattle.vm_ids.specs.declared.reply.Reply.TheVariants as replies
use Rattle.vm_ids.specs.declared.reply.Trouble.{Trouble}
use Rattle.vm_model.specs.Answering.{Answer, answer_by}
use Rattle.gmi_calls.specs.Calling.{done_by}
use Rattle.gmi_calls.specs.Parking.{AccessCall, NoPull}
use Rattle.pvm_core.specs.Access.{IsLoaded}
use Rattle.pvm_core.specs.Leaving.{AccessLeaves, IsTranslatedToWrite, IssueLeaves}
use Rattle.pvm_core.specs.Manager.{Manager, meaning}
use Rattle.pvm_core.proofs.gmi.PvmGmi.issue.Given.{Over}
use Rattle.pvm_core.proofs.gmi.PvmGmi.issue.Goals.{After-issue_load, After-issue_store}
use Rattle.pvm_core.proofs.gmi.PvmGmi.issue.Goals as goal

-- a load that is answered
loaded : (g : Over) (c : After-issue_load g) (r s : Result Piece Trouble) → r ≡ s → AccessCall {Manager = Manager} g.M.Mapper meaning NoPull c.args.mapper.now c.args.self.now (commands.Load c.args.actor c.in-Load.address c.in-Load.length) (answer_by replies.Bytes r) c.issue_load.new.mapper c.issue_load.new.self
    → AccessCall {Manager = Manager} g.M.Mapper meaning NoPull c.args.mapper.now c.args.self.now (command_for c.args.actor c.args.access.now) (answer_by replies.Bytes s) c.issue_load.new.mapper c.issue_load.new.self
loaded g c r s is answered =
    subst (λ (a : Access). AccessCall {Manager = Manager} g.M.Mapper meaning NoPull c.args.mapper.now c.args.self.now (command_for c.args.actor a) (answer_by replies.Bytes s) c.issue_load.new.mapper c.issue_load.new.self) (sym c.in-Load.is)
    (subst (λ (r : Result Piece Trouble). AccessCall {Manager = Manager} g.M.Mapper meaning NoPull c.args.mapper.now c.args.self.now (commands.Load c.args.actor c.in-Load.address c.in-Load.length) (answer_by replies.Bytes r) c.issue_load.new.mapper c.issue_load.new.self) is answered)

-- a store that is answered
stored : (g : Over) (c : After-issue_store g) (r s : Result (Unit {0}) Trouble) → r ≡ s → AccessCall {Manager = Manager} g.M.Mapper meaning NoPull c.args.mapper.now c.args.self.now (commands.Store c.args.actor c.in-Store.address c.in-Store.piece) (done_by r) c.issue_store.new.mapper c.issue_store.new.self
    → AccessCall {Manager = Manager} g.M.Mapper meaning NoPull c.args.mapper.now c.args.self.now (command_for c.args.actor c.args.access.now) (done_by s) c.issue_store.new.mapper c.issue_store.new.self
stored g c r s is answered =
    subst (λ (a : Access). AccessCall {Manager = Manager} g.M.Mapper meaning NoPull c.args.mapper.now c.args.self.now (command_for c.args.actor a) (done_by s) c.issue_store.new.mapper c.issue_store.new.self) (sym c.in-Store.is)
    (subst (λ (r : Result (Unit {0}) Trouble). AccessCall {Manager = Manager} g.M.Mapper meaning NoPull c.args.mapper.now c.args.self.now (commands.Store c.args.actor c.in-Store.address c.in-Store.piece) (done_by r) c.issue_store.new.mapper c.issue_store.new.self) is answered)

pub returns-in-Some-Ok-clause-answered : goal.returns-in-Some-Ok-clause-answered
returns-in-Some-Ok-clause-answered g c = loaded g (goal.at.returns-in-Some-Ok-clause-answered g c).After-issue_load c.in-Some-Ok.field-0 (Ok c.in-Some-Ok.piece) c.in-Some-Ok.field-0-is c.in-Some-Ok.ensures.answered

pub returns-in-Some-Err-clause-answered : goal.returns-in-Some-Err-clause-answered
returns-in-Some-Err-clause-answered g c = loaded g (goal.at.returns-in-Some-Err-clause-answered g c).After-issue_load c.in-Some-Err.field-0 (Err c.in-Some-Err.trouble) c.in-Some-Err.field-0-is c.in-Some-Err.ensures.answered

pub returns-in-Some-Ok-issue_store-clause-answered : goal.returns-in-Some-Ok-issue_store-clause-answered
returns-in-Some-Ok-issue_store-clause-answered g c = stored g (goal.at.returns-in-Some-Ok-issue_store-clause-answered g c).After-issue_store c.in-Some-Ok-issue_store.field-0 (Ok tt) c.in-Some-Ok-issue_store.field-0-is c.in-Some-Ok-issue_store.ensures.answered

pub returns-in-Some-Err-issue_store-clause-answered : goal.returns-in-Some-Err-issue_store-clause-answered
returns-in-Some-Err-issue_store-clause-answered g c = stored g (goal.at.returns-in-Some-Err-issue_store-clause-answered g c).After-issue_store c.in-Some-Err-issue_store.field-0 (Err c.in-Some-Err-issue_store.trouble) c.in-Some-Err-issue_store.field-0-is c.in-Some-Err-issue_store.ensures.answered

-- What an access leaves

load_left : (g : Over) (c : After-issue_load g) (answer : Answer) → AccessLeaves g.M.Mapper c.args.mapper.now c.args.self.now c.args.actor (accesses.Load c.in-Load.address c.in-Load.length) answer c.issue_load.new.mapper c.issue_load.new.self
    → AccessLeaves g.M.Mapper c.args.mapper.now c.args.self.now c.args.actor c.args.access.now answer c.issue_load.new.mapper c.issue_load.new.self
load_left g c answer left = subst (λ (a : Access). AccessLeaves g.M.Mapper c.args.mapper.now c.args.self.now c.args.actor a answer c.issue_load.new.mapper c.issue_load.new.self) (sym c.in-Load.is) left

store_left : (g : Over) (c : After-issue_store g) (answer : Answer) → OnOk answer (IsTranslatedToWrite c.issue_store.new.self c.args.actor.0 c.in-Store.address (length c.in-Store.piece)) → AccessLeaves g.M.Mapper c.args.mapper.now c.args.self.now c.args.actor c.args.access.now answer c.issue_store.new.mapper c.issue_store.new.self
store_left g c answer translated =
    let e = c.issue_store.ensures in
    subst (λ (a : Access). AccessLeaves g.M.Mapper c.args.mapper.now c.args.self.now c.args.actor a answer c.issue_store.new.mapper c.issue_store.new.self) (sym c.in-Store.is) (record { copies = e.copies; grants = e.grants; translated = translated })

pub returns-in-Some-Ok-clause-left : goal.returns-in-Some-Ok-clause-left
returns-in-Some-Ok-clause-left g c =
    let n = c.issue_load.new in
    load_left g (goal.at.returns-in-Some-Ok-clause-left g c).After-issue_load (Ok (replies.Bytes c.in-Some-Ok.piece))
    (subst (λ (r : Result Piece Trouble). IfOk r (IsLoaded (g.M.Mapper.counts c.args.mapper.now) (g.M.Mapper.counts n.mapper) (g.M.Mapper.given n.mapper) c.args.self.now n.self c.args.actor.0 c.in-Load.address c.in-Load.length)) c.in-Some-Ok.field-0-is c.in-Some-Ok.ensures.loaded)

pub returns-in-Some-Err-clause-left : goal.returns-in-Some-Err-clause-left
returns-in-Some-Err-clause-left g c = load_left g (goal.at.returns-in-Some-Err-clause-left g c).After-issue_load (Err c.in-Some-Err.trouble) tt

pub returns-in-Some-Ok-issue_store-clause-left : goal.returns-in-Some-Ok-issue_store-clause-left
returns-in-Some-Ok-issue_store-clause-left g c =
    store_left g (goal.at.returns-in-Some-Ok-issue_store-clause-left g c).After-issue_store (Ok replies.Done)
    (subst (λ (r : Result (Unit {0}) Trouble). OnOk r (IsTranslatedToWrite c.issue_store.new.self c.args.actor.0 c.in-Store.address (length c.in-Store.piece))) c.in-Some-Ok-issue_store.field-0-is c.in-Some-Ok-issue_store.ensures.translated)

pub returns-in-Some-Err-issue_store-clause-left : goal.returns-in-Some-Err-issue_store-clause-left
returns-in-Some-Err-issue_store-clause-left g c = store_left g (goal.at.returns-in-Some-Err-issue_store-clause-left g c).After-issue_store (Err c.in-Some-Err-issue_store.trouble) tt

load_issued : (g : Over) (c : After-issue_load g) → IssueLeaves c.args.access.now c.args.mapper.now c.args.self.now c.issue_load.new.mapper c.issue_load.new.self
load_issued g c = subst (λ (a : Access). IssueLeaves a c.args.mapper.now c.args.self.now c.issue_load.new.mapper c.issue_load.new.self) (sym c.in-Load.is) c.issue_load.ensures.idle

store_issued : (g : Over) (c : After-issue_store g) → IssueLeaves c.args.access.now c.args.mapper.now c.args.self.now c.issue_store.new.mapper c.issue_store.new.self
store_issued g c = subst (λ (a : Access). IssueLeaves a c.args.mapper.now c.args.self.now c.issue_store.new.mapper c.issue_store.new.self) (sym c.in-Store.is) c.issue_store.ensures.grants

pub returns-in-Some-Ok-clause-issued : goal.returns-in-Some-Ok-clause-issued
returns-in-Some-Ok-clause-issued g c = load_issued g (goal.at.returns-in-Some-Ok-clause-issued g c).After-issue_load

pub returns-in-Some-Err-clause-issued : goal.returns-in-Some-Err-clause-issued
returns-in-Some-Err-clause-issued g c = load_issued g (goal.at.returns-in-Some-Err-clause-issued g c).After-issue_load

pub returns-in-None-clause-issued : goal.returns-in-None-clause-issued
returns-in-None-clause-issued g c = load_issued g (goal.at.returns-in-None-clause-issued g c).After-issue_load

pub returns-in-Some-Ok-issue_store-clause-issued : goal.returns-in-Some-Ok-issue_store-clause-issued
returns-in-Some-Ok-issue_store-clause-issued g c = store_issued g (goal.at.returns-in-Some-Ok-issue_store-clause-issued g c).After-issue_store

pub returns-in-Some-Err-issue_store-clause-issued : goal.returns-in-Some-Err-issue_store-clause-issued
returns-in-Some-Err-issue_store-clause-issued g c = store_issued g (goal.at.returns-in-Some-Err-issue_store-clause-issued g c).After-issue_store

pub returns-in-None-issue_store-clause-issued : goal.returns-in-None-issue_store-clause-issued
returns-in-None-issue_store-clause-issued g c = store_issued g (goal.at.returns-in-None-issue_store-clause-issued g c).After-issue_store
