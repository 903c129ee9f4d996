use Rattle.std.proofs.Common.{◌≡◌, refl, sym, ap, subst, ◌∙◌}
use Rattle.std.specs.Prelude.{Result, Ok, Err, IsOk}
use Rattle.pvm_core.proofs.Answering.Kept.{valid_seen}
use Rattle.std.proofs.result.Match.{err_is}
use Rattle.vm_ids.specs.declared.command.Command.TheVariants as commands
use Rattle.vm_ids.specs.declared.reply.Reply.TheVariants as replies
use Rattle.vm_ids.specs.declared.reply.Trouble.TheVariants as troubles
use Rattle.vm_ids.specs.Forest.Nodes.{no_forest}
use Rattle.pvm_core.specs.Access.{IsAtHand, IsLoaded}
use Rattle.pvm_core.specs.Keeping.{SameButSeen}
use Rattle.vm_model.specs.Answering.{answer_by}
use Rattle.vm_model.specs.Place.{place}
use Rattle.pvm_core.specs.Manager.{Manager, machine_by, machine_of}
use Rattle.contexts.proofs.Placing.{refused_at}
use Rattle.gmi_calls.specs.Calling.{Fits, MapperCall}
use Rattle.std.specs.Prelude.{IfOk}
use Rattle.pvm_core.specs.Manager.{meaning}
use Rattle.pvm_core.proofs.Accesses.Parts.{mapper_call, mapper_seen}
use Rattle.pvm_core.proofs.pvm.Pvm.load.Given.{Over}
use Rattle.pvm_core.proofs.pvm.Pvm.load.Goals.{After-from_residual, In-None}
use Rattle.pvm_core.proofs.pvm.Pvm.load.Goals as goal

-- the manager is as before where no translation leads to the page
unseen : (g : Over) (c : In-None g) → c.load_seen.new.self ≡ c.args.self.now
unseen g c = c.in-None.ensures.unseen

pub load_seen-requires-clause-valid : goal.load_seen-requires-clause-valid
load_seen-requires-clause-valid g c = (g.M.Mapper.held c.args.mapper.now, c.requires.valid)

pub returns-in-Some-clause-call : goal.returns-in-Some-clause-call
returns-in-Some-clause-call g c = mapper_call c.in-Some.ensures.call c.requires.valid

pub returns-in-Some-clause-copies : goal.returns-in-Some-clause-copies
returns-in-Some-clause-copies g c = ap (λ (p : Manager). p.caches.copies) c.load_seen.ensures.same.same

pub returns-in-Some-clause-idle : goal.returns-in-Some-clause-idle
returns-in-Some-clause-idle g c = λ hand. (refl, c.load_seen.ensures.same, refl)

pub returns-in-Some-clause-loaded : goal.returns-in-Some-clause-loaded
returns-in-Some-clause-loaded g c = c.in-Some.ensures.loaded (g.M.Mapper.counts c.args.mapper.now) (g.M.Mapper.given c.args.mapper.now)

-- the refusal
refusal : (g : Over) (c : After-from_residual g) → c.from_residual.result ≡ Err (troubles.Refused c.in_err-place-in-None.field-0.0)
refusal g c = err_is c.from_residual.result _ c.from_residual.ensures.1

pub returns-in_err-place-in-None-clause-call : goal.returns-in_err-place-in-None-clause-call
returns-in_err-place-in-None-clause-call g c =
    let at = goal.at.returns-in_err-place-in-None-clause-call g c in
    let q = c.load_seen.new.self in
    let same = unseen g at.In-None in
    mapper_seen same (subst (λ (r : Result _ _). MapperCall g.M.Mapper meaning c.args.mapper.now q (commands.Load c.args.actor c.args.address c.args.bytes) (answer_by replies.Bytes r) c.args.mapper.now q) (sym (refusal g at.After-from_residual))
    (mapper_call c.in_err-place-in-None.ensures.load (valid_seen same c.requires.valid)))

pub returns-in_err-place-in-None-clause-idle : goal.returns-in_err-place-in-None-clause-idle
returns-in_err-place-in-None-clause-idle g c = λ hand.
    let at = goal.at.returns-in_err-place-in-None-clause-idle g c in
    let q = c.load_seen.new.self in
    let at_hand : IsAtHand q c.args.actor.0 c.args.address c.args.bytes = subst (λ (p : Manager). IsAtHand p c.args.actor.0 c.args.address c.args.bytes) (sym (unseen g at.In-None)) hand in
    absurd (let e : Err c.in_err-place-in-None.field-0.0 ≡ Ok at_hand.at = refused_at (place (machine_by q no_forest) c.args.actor.0 c.args.address c.args.bytes) c.in_err-place-in-None.field-0.0 (sym c.in_err-place-in-None.was ∙ c.locate.ensures.place) ∙ at_hand.place in cc e)

pub nodes_at-nodes-requires : goal.nodes_at-nodes-requires
nodes_at-nodes-requires g c = record { place = (c.args.actor.0, c.args.address, c.args.bytes, sym c.in_ok-place-in-None.was ∙ c.locate.ensures.place) }

pub load_at-requires-clause-place : goal.load_at-requires-clause-place
load_at-requires-clause-place g c = sym c.in_ok-place-in-None.was ∙ c.locate.ensures.place

pub load_at-requires-clause-valid : goal.load_at-requires-clause-valid
load_at-requires-clause-valid g c = valid_seen c.in-None.ensures.unseen c.requires.valid

pub load_at-requires-clause-fits : goal.load_at-requires-clause-fits
load_at-requires-clause-fits g c = subst (λ (p : Manager). Fits (g.M.Mapper.page_bytes c.args.mapper.now) (machine_of p (g.M.Mapper.held c.args.mapper.now))) (sym c.in-None.ensures.unseen) c.requires.fits

pub returns-in_ok-place-in-None-clause-call : goal.returns-in_ok-place-in-None-clause-call
returns-in_ok-place-in-None-clause-call g c = mapper_seen c.in-None.ensures.unseen c.load_at.ensures.call

pub returns-in_ok-place-in-None-clause-copies : goal.returns-in_ok-place-in-None-clause-copies
returns-in_ok-place-in-None-clause-copies g c = subst (λ (p : Manager). c.load_at.new.self.caches.copies ≡ p.caches.copies) c.in-None.ensures.unseen c.load_at.ensures.copies

pub returns-in_ok-place-in-None-clause-idle : goal.returns-in_ok-place-in-None-clause-idle
returns-in_ok-place-in-None-clause-idle g c = subst (λ (p : Manager). IsAtHand p c.args.actor.0 c.args.address c.args.bytes → IsOk c.load_at.result × SameButSeen p c.load_at.new.self × (c.load_at.new.mapper ≡ c.args.mapper.now)) c.in-None.ensures.unseen c.load_at.ensures.idle

pub returns-in_ok-place-in-None-clause-loaded : goal.returns-in_ok-place-in-None-clause-loaded
returns-in_ok-place-in-None-clause-loaded g c = subst (λ (p : Manager). IfOk c.load_at.result (IsLoaded (g.M.Mapper.counts c.args.mapper.now) (g.M.Mapper.counts c.load_at.new.mapper) (g.M.Mapper.given c.load_at.new.mapper) p c.load_at.new.self c.args.actor.0 c.args.address c.args.bytes)) c.in-None.ensures.unseen c.load_at.ensures.loaded
