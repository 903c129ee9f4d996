use Rattle.std.proofs.Common.{ap, ◌≡◌, length, refl, subst}
use Rattle.std.specs.Prelude.{OnErr}
use Rattle.vm_ids.specs.declared.command.Command.TheVariants as commands
use Rattle.vm_ids.specs.declared.reply.Reply.TheVariants as replies
use Rattle.vm_model.specs.Answering.{answer_by}
use Rattle.local_cache.specs.Whole.{size_of}
use Rattle.contexts.specs.Actors.{Actors, split_refusal, with_split}
use Rattle.contexts.proofs.Placing.{after_either, right_cut}
use Rattle.contexts.proofs.RegionRows.{split_outcome}
use Rattle.pvm_core.specs.Manager.{Manager, caches_shown, machine_of, numbered}
use Rattle.pvm_core.specs.contracts.pvm.Pvm.{the_view}
use Rattle.pvm_core.proofs.Acting.{acted, acted_valid, cut}
use Rattle.pvm_core.proofs.Answering.Kept.{on_err, seated_same, seated_sound}
use Rattle.pvm_core.proofs.Translating.Commands.{split_right}
use Rattle.pvm_core.proofs.Answering.Answered.{made_stays}
use Rattle.pvm_core.proofs.Holding.Actors.{over_cut}
use Rattle.pvm_core.proofs.pvm.Pvm.split.Goals as goal

pub invariant_of-self : goal.invariant_of-self
invariant_of-self c = record {
  sound = (
      let i = c.self.inside in
      let e = c.split.ensures in
      let t : Actors = i.contexts in
      let u = c.split.new.self in
      let region = c.args.region in
      seated_sound i.caches i.store t u i.live
      (after_either (λ (w : Actors). w.page_bytes ≡ t.page_bytes) t u (with_split t region.0 c.args.pages) c.split.result e.ok e.err refl refl)
      (right_cut (size_of i.caches) t u region c.args.pages (split_refusal t region.0 c.args.pages) c.split.result refl e.refused e.ok e.err c.self.invariant.sound.actors)
      (over_cut t u region c.args.pages (split_refusal t region.0 c.args.pages) c.split.result refl e.refused e.ok e.err) c.self.invariant.sound
      );
  translated = (
      let i = c.self.inside in
      let e = c.split.ensures in
      let t : Actors = i.contexts in
      split_right i.caches i.store t c.split.new.self c.args.region c.args.pages (split_refusal t c.args.region.0 c.args.pages) c.split.result c.self.invariant.sound.actors.some c.self.invariant.translated refl e.refused e.ok e.err
      );
}

pub returns-clause-call : goal.returns-clause-call
returns-clause-call c = record {
  valid = (
      λ h v.
      let i = c.self.inside in
      let e = c.split.ensures in
      let t : Actors = i.contexts in
      let u = c.split.new.self in
      acted_valid i.caches i.store t _ c.self.view_is h v u
      (after_either (λ (w : Actors). w.page_bytes ≡ t.page_bytes) t u (with_split t c.args.region.0 c.args.pages) c.split.result e.ok e.err refl refl)
      );
  answers = (
      λ h v.
      let i = c.self.inside in
      let e = c.split.ensures in
      let t : Actors = i.contexts in
      let u = c.split.new.self in
      let region = c.args.region in
      let pages = c.args.pages in
      acted i.caches i.store t _ c.self.view_is h v (commands.Split region pages) (cut region pages) (answer_by replies.Region c.split.result) c.self.invariant.sound.nodes u
      (after_either (λ (w : Actors). w.page_bytes ≡ t.page_bytes) t u (with_split t region.0 pages) c.split.result e.ok e.err refl refl)
      (λ f g k. split_outcome t u region pages (caches_shown f 1 i.caches.caches) (length i.store.frames.held) g k (split_refusal t region.0 pages) c.split.result refl e.refused e.made e.ok e.err)
      );
  made = λ h v. made_stays (machine_of c.args.self.now h) (commands.Split c.args.region c.args.pages) (answer_by replies.Region c.split.result) (machine_of (the_view (record c.self.inside { contexts = c.split.new.self })) h) (numbered c.args.self.now) (numbered (the_view (record c.self.inside { contexts = c.split.new.self }))) (ap numbered c.self.view_is);
  room = refl;
}

pub returns-clause-err : goal.returns-clause-err
returns-clause-err c =
    let i = c.self.inside in
    let u = c.split.new.self in
    let q : Manager = the_view (record i { contexts = u }) in
    subst (λ (p : Manager). OnErr c.split.result (q ≡ p)) c.self.view_is
    (on_err c.split.result (seated_same i.caches i.store i.contexts u) c.split.ensures.err)
