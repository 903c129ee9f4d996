use Rattle.std.proofs.Common.{◌≡◌, ℕ, Option, length, sym, ap, subst, ◌∙◌, arith}
use Rattle.std.specs.Prelude.{Result, Err}
use Rattle.pvm_core.proofs.Answering.Kept.{valid_seen}
use Rattle.std.proofs.result.Match.{err_is}
use Rattle.gmi_calls.specs.Calling.{done_by}
use Rattle.vm_ids.specs.declared.command.Command.TheVariants as commands
use Rattle.vm_ids.specs.declared.reply.Trouble.{Trouble}
use Rattle.vm_ids.specs.declared.reply.Trouble.TheVariants as troubles
use Rattle.vm_model.specs.Machine.{Machine}
use Rattle.vm_model.specs.Run.{State}
use Rattle.pvm_core.specs.Access.{AskedInVain}
use Rattle.pvm_core.specs.Manager.{Manager, machine_of, numbered, state_at}
use Rattle.segment_ops.specs.Access.{GrantsStay}
use Rattle.gmi_calls.specs.Calling.{Fits, MapperCall}
use Rattle.pvm_core.specs.Access.{OnNoAccess}
use Rattle.pvm_core.specs.Manager.{meaning}
use Rattle.pvm_core.proofs.Accesses.Asked.{none_asked}
use Rattle.pvm_core.proofs.Accesses.Parts.{mapper_call, quiet_then, mapper_seen}
use Rattle.pvm_core.proofs.pvm.Pvm.store.Given.{Over}
use Rattle.pvm_core.proofs.pvm.Pvm.store.Goals.{After-from_residual, Else-store_seen, In_ok-place}
use Rattle.pvm_core.proofs.pvm.Pvm.store.Goals as goal

-- where the page is looked for, the manager is as before
unseen : (g : Over) (c : Else-store_seen g) → c.store_seen.new.self ≡ c.args.self.now
unseen g c = c.store_seen.ensures.unseen c.if-store_seen.false

pub store_seen-requires : goal.store_seen-requires
store_seen-requires g c = record { valid = (g.M.Mapper.held c.args.mapper.now, c.requires.valid) }

pub returns-then-store_seen-clause-call : goal.returns-then-store_seen-clause-call
returns-then-store_seen-clause-call g c = mapper_call (c.store_seen.ensures.call c.if-store_seen.true) c.requires.valid

pub returns-then-store_seen-clause-copies : goal.returns-then-store_seen-clause-copies
returns-then-store_seen-clause-copies g c = omega (arith, c.store_seen.ensures.copies)

pub returns-then-store_seen-clause-translated : goal.returns-then-store_seen-clause-translated
returns-then-store_seen-clause-translated g c = c.store_seen.ensures.translated c.if-store_seen.true

pub place_to_write-requires-clause-valid : goal.place_to_write-requires-clause-valid
place_to_write-requires-clause-valid g c = valid_seen (unseen g (goal.at.place_to_write-requires-clause-valid g c).Else-store_seen) c.requires.valid

pub place_to_write-requires-clause-fits : goal.place_to_write-requires-clause-fits
place_to_write-requires-clause-fits g c = subst (λ (p : Manager). Fits (g.M.Mapper.page_bytes c.args.mapper.now) (machine_of p (g.M.Mapper.held c.args.mapper.now))) (sym (unseen g (goal.at.place_to_write-requires-clause-fits g c).Else-store_seen)) c.requires.fits

-- The page may not be written

-- the trouble is handed on
handed_on : (g : Over) (c : After-from_residual g) → c.from_residual.result ≡ Err c.in_err-place.field-0.0
handed_on g c = err_is c.from_residual.result _ c.from_residual.ensures.1

pub returns-in_err-place-clause-call : goal.returns-in_err-place-clause-call
returns-in_err-place-clause-call g c =
    let at = goal.at.returns-in_err-place-clause-call g c in
    let q = c.place_to_write.new.self in
    let n = c.place_to_write.new.mapper in
    subst (λ (x : Result _ Trouble). MapperCall g.M.Mapper meaning c.args.mapper.now c.args.self.now (commands.Store c.args.actor c.args.address c.args.piece.now) (done_by x) n q) (sym (handed_on g at.After-from_residual))
    (mapper_seen (unseen g at.Else-store_seen) c.in_err-place.ensures.call)

pub returns-in_err-place-clause-copies : goal.returns-in_err-place-clause-copies
returns-in_err-place-clause-copies g c = omega (arith, c.place_to_write.ensures.copies, ap (λ (p : Manager). p.caches.copies) (unseen g (goal.at.returns-in_err-place-clause-copies g c).Else-store_seen))

pub returns-in_err-place-clause-refused : goal.returns-in_err-place-clause-refused
returns-in_err-place-clause-refused g c = λ r e.
    let at = goal.at.returns-in_err-place-clause-refused g c in
    let same : c.in_err-place.field-0.0 ≡ troubles.Refused r = (let q : Err c.in_err-place.field-0.0 ≡ Err (troubles.Refused r) = sym (handed_on g at.After-from_residual) ∙ e in cc q) in
    let left = c.in_err-place.ensures.refused r same in
    (left.0 ∙ unseen g at.Else-store_seen, left.1)

pub returns-in_err-place-clause-asked : goal.returns-in_err-place-clause-asked
returns-in_err-place-clause-asked g c =
    let at = goal.at.returns-in_err-place-clause-asked g c in
    subst (λ (x : Result _ Trouble). OnNoAccess x (AskedInVain c.args.self.now c.place_to_write.new.self c.args.actor.0 c.args.address (length c.args.piece.now))) (sym (handed_on g at.After-from_residual))
    (subst (λ (p : Manager). OnNoAccess (Err c.in_err-place.field-0.0) (AskedInVain p c.place_to_write.new.self c.args.actor.0 c.args.address (length c.args.piece.now))) (unseen g at.Else-store_seen) c.in_err-place.ensures.asked)

pub returns-in_err-place-clause-grants : goal.returns-in_err-place-clause-grants
returns-in_err-place-clause-grants g c = subst (λ (p : Manager). GrantsStay p.caches c.place_to_write.new.self.caches) (unseen g (goal.at.returns-in_err-place-clause-grants g c).Else-store_seen) c.place_to_write.ensures.grants

-- Or it may

pub nodes_at-nodes-requires : goal.nodes_at-nodes-requires
nodes_at-nodes-requires g c = record { place = (c.args.actor.0, c.args.address, length c.args.piece.now, c.in_ok-place.ensures.place) }

pub store_at-requires-clause-made : goal.store_at-requires-clause-made
store_at-requires-clause-made g c =
    let nodes = c.in_ok-place.ensures.ready.nodes in
    omega (arith, nodes.made, nodes.copies, c.requires.made, ap numbered (unseen g (goal.at.store_at-requires-clause-made g c).Else-store_seen))

-- the manager stands for what it did
state : (g : Over) (c : In_ok-place g) → state_at c.place_to_write.new.self (g.M.Mapper.held c.place_to_write.new.mapper) ≡ state_at c.args.self.now (g.M.Mapper.held c.args.mapper.now)
state g c = c.in_ok-place.ensures.ready.state ∙ ap (λ (p : Manager). state_at p (g.M.Mapper.held c.args.mapper.now)) (unseen g (goal.at.In_ok-place g c).Else-store_seen)

pub store_at-requires-clause-fits : goal.store_at-requires-clause-fits
store_at-requires-clause-fits g c =
    let is = state g (goal.at.store_at-requires-clause-fits g c).In_ok-place in
    let size = c.in_ok-place.ensures.ready.page in
    subst (λ (m : Machine). Fits (g.M.Mapper.page_bytes c.place_to_write.new.mapper) m) (ap (λ (s : State). s.machine) (sym is))
    (subst (λ (size : Option ℕ). Fits size (machine_of c.args.self.now (g.M.Mapper.held c.args.mapper.now))) (sym size) c.requires.fits)

pub returns-clause-call : goal.returns-clause-call
returns-clause-call g c =
    let at = goal.at.returns-clause-call g c in
    let ready = c.in_ok-place.ensures.ready in
    let made : numbered c.place_to_write.new.self ≡ numbered c.args.self.now = omega (arith, ready.nodes.made, ready.nodes.copies, ap numbered (unseen g at.Else-store_seen)) in
    quiet_then ready.later ready.asked.traffic (state g at.In_ok-place) made ready.page c.store_at.ensures.call

pub returns-clause-copies : goal.returns-clause-copies
returns-clause-copies g c = omega (arith, c.store_at.ensures.copies, c.place_to_write.ensures.copies, ap (λ (p : Manager). p.caches.copies) (unseen g (goal.at.returns-clause-copies g c).Else-store_seen))

pub returns-clause-refused : goal.returns-clause-refused
returns-clause-refused g c = λ r e. absurd (c.store_at.ensures.unrefused r e)

pub returns-clause-asked : goal.returns-clause-asked
returns-clause-asked g c = none_asked c.store_at.result _ c.store_at.ensures.asked

pub returns-clause-grants : goal.returns-clause-grants
returns-clause-grants g c =
    let first = subst (λ (p : Manager). GrantsStay p.caches c.place_to_write.new.self.caches) (unseen g (goal.at.returns-clause-grants g c).Else-store_seen) c.place_to_write.ensures.grants in
    λ cache page e. c.store_at.ensures.grants cache page (first cache page e)
