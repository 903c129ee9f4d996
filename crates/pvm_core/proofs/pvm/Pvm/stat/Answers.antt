use Rattle.std.specs.Prelude.{◌||◌, is_some}
use Rattle.frame_pool.specs.Pool.{is_pinned}
use Rattle.global_map.specs.Pairs.{node_of}
use Rattle.std.proofs.Common.{◌≡◌, Bool, true, false, refl, sym, ap, subst, ◌∙◌}
use Rattle.std.specs.Prelude.{Ok}
use Rattle.vm_ids.specs.declared.command.Command.TheVariants as commands
use Rattle.vm_ids.specs.declared.reply.Counts.{Counts}
use Rattle.vm_ids.specs.declared.reply.Reply.TheVariants as replies
use Rattle.vm_model.specs.Answering.{reply}
use Rattle.pvm_core.specs.Keeping.{HasFewWorking, HoldsEachOnce}
use Rattle.pvm_core.specs.Manager.{Manager, machine_by}
use Rattle.pvm_core.specs.Standing.{StandsRight}
use Rattle.pvm_core.specs.contracts.pvm.Pvm.{the_view}
use Rattle.pvm_core.proofs.Answering.Answered.{seated}
use Rattle.pvm_core.proofs.Answering.Kept.{seen, valid_seen, answer_still}
use Rattle.pvm_core.proofs.Holding.Kept.{locked_in}
use Rattle.pvm_core.proofs.Meaning.Kept.{few_kept, numbered_by}
use Rattle.pvm_core.proofs.Meaning.Values.{followed_of}
use Rattle.pvm_core.proofs.Answering.Chains.{counts_are}
use Rattle.pvm_core.proofs.pvm.Pvm.stat.Goals as goal

-- a pinned frame is bound
bound_or : (a b : Bool) → (b ≡ true → a ≡ true) → (a || b) ≡ a
bound_or true b e = refl
bound_or false true e = sym (e refl)
bound_or false false e = refl

pub returns-clause-answers : goal.returns-clause-answers
returns-clause-answers c = λ h v.
    let p : Manager = the_view c.self.inside in
    answer_still h c.self.view_is (seated p p h commands.Stat (Ok (replies.Stat c.counts.result)) c.self.invariant.sound.nodes c.self.invariant.sound.nodes (valid_seen c.self.view_is v) refl (λ done m f s none. none) refl tt (λ f. refl) (λ page. refl)
    (λ f s. ap (λ (k : Counts). reply (replies.Stat k) (machine_by p f)) (counts_are p h c.self.invariant.sound.nodes ∙ sym c.counts.ensures.counts)))

pub returns-clause-bounded : goal.returns-clause-bounded
returns-clause-bounded c = subst HasFewWorking (sym c.counts.ensures.counts) c.self.invariant.sound.bounded

pub returns-clause-counters : goal.returns-clause-counters
returns-clause-counters c = λ h. numbered_by c.args.self.now h

pub returns-clause-stands : goal.returns-clause-stands
returns-clause-stands c = λ h v.
    let i = c.self.inside in
    let p : Manager = seen i.caches i.store i.contexts in
    let w = valid_seen c.self.view_is v in
    let sound = c.self.invariant.sound in
    let placed = w.right.tied.placed in
    let once : HoldsEachOnce p = record {
      bound = placed.bound;
      held = λ f. placed.held f ∙ bound_or (is_some (node_of i.store.map f)) (is_pinned i.store.frames f) (λ pinned. ap is_some (locked_in i.caches i.store.map f (sym (sound.locked.pinned f) ∙ pinned)).here);
      slots = placed.slots;
    } in
    subst (λ (p : Manager). StandsRight p h) c.self.view_is (record {
      forest = followed_of p h sound.nodes sound.actors.some w.whole;
      once = once;
      translated = c.self.invariant.translated;
      locked = sound.locked;
      few = few_kept p once w.right.tied.fitted.map_frames placed.in_slots sound.nodes.sound.kept.named sound.bounded;
    })
