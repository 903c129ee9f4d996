use Rattle.std.proofs.Common.{ap, ◌≡◌, ℕ, [], ◌∷◌, ◌++◌, Some, length, refl, subst}
use Rattle.std.specs.Prelude.{OnErr}
use Rattle.vm_ids.specs.declared.command.Command.TheVariants as commands
use Rattle.vm_ids.specs.declared.reply.Reply.TheVariants as replies
use Rattle.vm_model.specs.Answering.{answer_by}
use Rattle.local_cache.specs.Whole.{size_of}
use Rattle.contexts.specs.Actors.{Actors, is_full}
use Rattle.contexts.specs.Placed.{AreRight}
use Rattle.contexts.proofs.Placing.{after_either, right_made}
use Rattle.contexts.proofs.RegionRows.{actor_outcome}
use Rattle.pvm_core.specs.Locks.{locks_over}
use Rattle.pvm_core.proofs.Holding.Actors.{over_made}
use Rattle.pvm_core.specs.Manager.{Manager, caches_shown, forest_of, machine_of, numbered}
use Rattle.pvm_core.specs.Translated.{AreTranslationsRight}
use Rattle.pvm_core.specs.contracts.pvm.Pvm.{the_view}
use Rattle.pvm_core.proofs.Translating.Commands.{made_right}
use Rattle.pvm_core.proofs.Answering.Answered.{made_stays, seated}
use Rattle.pvm_core.proofs.Answering.Kept.{on_err, seated_same, seated_sound, seated_valid, valid_seen, answer_seen}
use Rattle.pvm_core.proofs.pvm.Pvm.make_actor.Goals as goal

abbrev more : Actors → Actors
more t = record t { actors = t.actors ++ Some [] ∷ [] }

pub invariant_of-self : goal.invariant_of-self
invariant_of-self c = record {
  sound = (
      let i = c.self.inside in
      let e = c.make.ensures in
      let u = c.make.new.self in
      seated_sound i.caches i.store i.contexts u i.live (after_either (λ (t : Actors). t.page_bytes ≡ i.contexts.page_bytes) i.contexts u (more i.contexts) c.make.result e.ok e.err refl refl)
      (after_either (AreRight (size_of i.caches)) i.contexts u (more i.contexts) c.make.result e.ok e.err (right_made (size_of i.caches) i.contexts c.self.invariant.sound.actors) c.self.invariant.sound.actors)
      (after_either (λ (t : Actors). (cache page : ℕ) → locks_over t.actors cache page ≡ locks_over i.contexts.actors cache page) i.contexts u (more i.contexts) c.make.result e.ok e.err (λ cache page. over_made cache page i.contexts.actors) (λ cache page. refl)) c.self.invariant.sound
      );
  translated = after_either (λ (t : Actors). AreTranslationsRight c.self.inside.caches c.self.inside.store t) c.self.inside.contexts c.make.new.self (more c.self.inside.contexts) c.make.result c.make.ensures.ok c.make.ensures.err (made_right c.self.inside.caches c.self.inside.store c.self.inside.contexts c.self.invariant.translated) c.self.invariant.translated;
}

pub returns-clause-call : goal.returns-clause-call
returns-clause-call c = record {
  valid = (
      λ h v.
      let i = c.self.inside in
      let e = c.make.ensures in
      let u = c.make.new.self in
      let q : Manager = the_view (record i { contexts = u }) in
      seated_valid (the_view i) q h refl refl (after_either (λ (t : Actors). t.page_bytes ≡ i.contexts.page_bytes) i.contexts u (more i.contexts) c.make.result e.ok e.err refl refl) (valid_seen c.self.view_is v)
      );
  answers = (
      λ h v.
      let i = c.self.inside in
      let e = c.make.ensures in
      let u = c.make.new.self in
      let q : Manager = the_view (record i { contexts = u }) in
      answer_seen h c.self.view_is (seated (the_view i) q h commands.MakeActor (answer_by replies.Actor c.make.result) c.self.invariant.sound.nodes c.self.invariant.sound.nodes (seated_valid (the_view i) q h refl refl (after_either (λ (t : Actors). t.page_bytes ≡ i.contexts.page_bytes) i.contexts u (more i.contexts) c.make.result e.ok e.err refl refl) (valid_seen c.self.view_is v)) refl (λ done m f s none. none) refl tt (λ f. refl) (λ page. refl)
      (λ f s. actor_outcome (caches_shown f 1 i.caches.caches) (length i.store.frames.held) i.contexts u (Some (forest_of (the_view i) h)) s (is_full i.contexts) c.make.result refl e.refused e.made e.ok e.err))
      );
  made = λ h v. made_stays (machine_of c.args.self.now h) commands.MakeActor (answer_by replies.Actor c.make.result) (machine_of (the_view (record c.self.inside { contexts = c.make.new.self })) h) (numbered c.args.self.now) (numbered (the_view (record c.self.inside { contexts = c.make.new.self }))) (ap numbered c.self.view_is);
  room = refl;
}

pub returns-clause-err : goal.returns-clause-err
returns-clause-err c =
    let i = c.self.inside in
    let u = c.make.new.self in
    let q : Manager = the_view (record i { contexts = u }) in
    subst (λ (p : Manager). OnErr c.make.result (q ≡ p)) c.self.view_is
    (on_err c.make.result (seated_same i.caches i.store i.contexts u) c.make.ensures.err)
