use Rattle.std.proofs.Common.{◌≡◌, refl, sym, ap, subst, ◌∙◌}
use Rattle.std.specs.Prelude.{Err, IsOk}
use Rattle.vm_ids.specs.declared.command.Command.TheVariants as commands
use Rattle.vm_ids.specs.declared.reply.Trouble.TheVariants as troubles
use Rattle.vm_model.specs.Answering.{Answer}
use Rattle.vm_model.specs.Machine.{numbered}
use Rattle.vm_model.specs.Place.{place, place_of_actor}
use Rattle.local_cache.specs.Whole.{size_of}
use Rattle.pvm_core.specs.Manager.{Manager, machine_by, machine_of, state_at}
use Rattle.pvm_core.proofs.Answering.Answered.{called, failed}
use Rattle.pvm_core.proofs.Answering.Reaching.{reach_none}
use Rattle.pvm_core.proofs.Answering.Kept.{seen}
use Rattle.contexts.proofs.Placing.{found_at, refused_at, spot}
use Rattle.pvm_core.proofs.Accesses.Loading.{load_refused, load_unrefused}
use Rattle.pvm_core.proofs.Answering.Recorded.{refused_call}
use Rattle.vm_ids.specs.Counting.{no_counts}
use Rattle.gmi_calls.specs.Calling.{CallDone}
use Rattle.pvm_core.specs.Manager.{meaning}
use Rattle.regions.specs.AddressSpace.{place_told}
use Rattle.pvm_core.proofs.Accesses.Storing.{store_protected, store_refused}
use Rattle.vm_ids.specs.declared.refusal.Refusal.TheVariants as refusals
use Rattle.pvm_core.proofs.Accesses.Parts.{if_err, if_ok_by, quiet_answer}
use Rattle.vm_model.specs.Run.{IsUnrefused}
use Rattle.pvm_core.specs.Access.{Admits}
use Rattle.pvm_core.specs.Manager.{machine_by}
use Rattle.pvm_core.proofs.pvm.Pvm.locate.Goals as goal

-- the refusal is the machine's
pub returns-clause-load : goal.returns-clause-load
returns-clause-load c = if_err c.locate.result _ (λ r is.
    let i = c.self.inside in
    let p : Manager = seen i.caches i.store i.contexts in
    let command = commands.Load c.args.actor c.args.address c.args.bytes in
    let answer : Answer = Err (troubles.Refused r) in
    subst (λ (p : Manager). CallDone meaning p command answer p) c.self.view_is (refused_call (λ h v. quiet_answer (state_at p h) (state_at p h) command answer
    (called no_counts no_counts p p h h command answer (reach_none (machine_of p h) h no_counts) c.self.invariant.sound.nodes c.self.invariant.sound.nodes v refl (λ done m f s none. none) tt tt (λ f. refl) (λ page. refl)
    (λ f s. load_refused (machine_by p f) c.args.actor.0 c.args.address c.args.bytes r (refused_at (place (machine_by p f) c.args.actor.0 c.args.address c.args.bytes) r (sym is ∙ c.locate.ensures)))))))

pub returns-clause-store : goal.returns-clause-store
returns-clause-store c = if_err c.locate.result _ (λ r is. λ piece long.
    let i = c.self.inside in
    let p : Manager = seen i.caches i.store i.contexts in
    let command = commands.Store c.args.actor c.args.address piece in
    let answer : Answer = Err (troubles.Refused r) in
    subst (λ (p : Manager). CallDone meaning p command answer p) c.self.view_is (refused_call (λ h v. quiet_answer (state_at p h) (state_at p h) command answer
    (failed no_counts no_counts p p h h command answer (reach_none (machine_of p h) h no_counts) c.self.invariant.sound.nodes c.self.invariant.sound.nodes v refl refl tt tt
    (λ f s. store_refused (machine_by p f) c.args.actor.0 c.args.address piece s r (refused_at (place (machine_by p f) c.args.actor.0 c.args.address c.args.bytes) r (sym is ∙ c.locate.ensures) ∙ ap (λ n. place (machine_by p f) c.args.actor.0 c.args.address n) (sym long)))))))

pub returns-clause-protected : goal.returns-clause-protected
returns-clause-protected c = if_ok_by c.locate.result _ (λ pl is. λ no_write piece long.
    let i = c.self.inside in
    let p : Manager = seen i.caches i.store i.contexts in
    let r = spot (size_of i.caches) i.contexts c.args.actor.0 c.args.address c.args.bytes pl c.self.invariant.sound.actors (sym is ∙ c.locate.ensures) in
    let command = commands.Store c.args.actor c.args.address piece in
    let answer : Answer = Err (troubles.Refused refusals.Protection) in
    subst (λ (p : Manager). CallDone meaning p command answer p) c.self.view_is (refused_call (λ h v. quiet_answer (state_at p h) (state_at p h) command answer
    (failed no_counts no_counts p p h h command answer (reach_none (machine_of p h) h no_counts) c.self.invariant.sound.nodes c.self.invariant.sound.nodes v refl refl tt tt
    (λ f s. store_protected (machine_by p f) c.args.actor.0 c.args.address piece s (found_at r.region pl) (r.is ∙ ap (λ n. place (machine_by p f) c.args.actor.0 c.args.address n) (sym long)) no_write)))))

pub returns-clause-place : goal.returns-clause-place
returns-clause-place c = subst (λ (p : Manager). c.locate.result ≡ place_told (place_of_actor p.page_bytes (numbered p.actors c.args.actor.0) c.args.address c.args.bytes)) c.self.view_is c.locate.ensures

pub returns-clause-admitted : goal.returns-clause-admitted
returns-clause-admitted c = if_ok_by c.locate.result _ (λ pl is.
    let i = c.self.inside in
    let r = spot (size_of i.caches) i.contexts c.args.actor.0 c.args.address c.args.bytes pl c.self.invariant.sound.actors (sym is ∙ c.locate.ensures) in
    subst (λ (p : Manager). Admits p (commands.Load c.args.actor c.args.address c.args.bytes)) c.self.view_is (subst IsOk r.is refl))

pub returns-clause-unrefused : goal.returns-clause-unrefused
returns-clause-unrefused c = if_ok_by c.locate.result _ (λ pl is. λ h valid.
    let i = c.self.inside in
    let r = spot (size_of i.caches) i.contexts c.args.actor.0 c.args.address c.args.bytes pl c.self.invariant.sound.actors (sym is ∙ c.locate.ensures) in
    subst (λ (p : Manager). IsUnrefused (state_at p h) (commands.Load c.args.actor c.args.address c.args.bytes)) c.self.view_is
    (load_unrefused (seen i.caches i.store i.contexts) h c.self.invariant.sound.nodes c.args.actor c.args.address c.args.bytes (found_at r.region pl) (λ f. r.is)))
