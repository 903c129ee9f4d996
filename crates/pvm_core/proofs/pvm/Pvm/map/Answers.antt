use Rattle.std.proofs.result.Match.{err_is}
use Rattle.std.proofs.Common.{◌≡◌, ℕ, Option, length, refl, sym, ap, ◌∙◌}
use Rattle.std.specs.Prelude.{Ok, Err}
use Rattle.vm_ids.specs.declared.command.Command.TheVariants as commands
use Rattle.vm_ids.specs.declared.reply.Reply.TheVariants as replies
use Rattle.vm_ids.specs.declared.reply.Trouble.TheVariants as troubles
use Rattle.vm_model.specs.Answering.{answer_by, reply}
use Rattle.vm_model.specs.Machine.{numbered}
use Rattle.vm_model.specs.PageForest.{PageForest}
use Rattle.local_cache.specs.Whole.{size_of}
use Rattle.contexts.specs.Actors.{Actors, machine_with, next_region, with_region}
use Rattle.contexts.specs.Maps.{map_refusal}
use Rattle.contexts.specs.Placed.{AreRight}
use Rattle.contexts.proofs.Placing.{after_either, next_placed, right_mapped}
use Rattle.contexts.proofs.RegionRows.{IsMappable, is_mappable, map_refused, map_row, size_in}
use Rattle.pvm_core.specs.Manager as managers
use Rattle.vm_ids.specs.Held.{Held}
use Rattle.pvm_core.specs.Manager.{IsManagerRight, IsValid, Manager, caches_shown, machine_of, state_at}
use Rattle.pvm_core.specs.Locks.{locks_over}
use Rattle.pvm_core.proofs.Holding.Actors.{over_mapped}
use Rattle.pvm_core.specs.Translated.{AreTranslationsRight}
use Rattle.pvm_core.specs.contracts.pvm.Pvm.{the_view}
use Rattle.pvm_core.proofs.Translating.Commands.{mapped_right}
use Rattle.pvm_core.proofs.Answering.Answered.{made_stays, seated}
use Rattle.pvm_core.proofs.Answering.Kept.{seated_sound, seated_valid, valid_seen, answer_seen, answer_still}
use Rattle.pvm_core.proofs.Meaning.Shown.{shown_size}
use Rattle.pvm_core.proofs.Answering.Recorded.{refused_call}
use Rattle.pvm_core.proofs.pvm.Pvm.map.Goals as goal
use Rattle.pvm_core.proofs.pvm.Pvm.map.Goals.{After-map}

pub returns-in-Some-clause-call : goal.returns-in-Some-clause-call
returns-in-Some-clause-call c = refused_call (
    λ h v.
    let i = c.self.inside in
    let p : Manager = the_view i in
    let t : Actors = i.contexts in
    let x = c.args.mapping in
    let actor = c.args.actor.0 in
    answer_still h c.self.view_is (seated p p h (commands.Map c.args.actor x) (Err (troubles.Refused c.in-Some.refusal)) c.self.invariant.sound.nodes c.self.invariant.sound.nodes (valid_seen c.self.view_is v) refl (λ done m f s none. none) refl tt (λ f. refl) (λ page. refl)
    (λ f s. let caches = caches_shown f 1 i.caches.caches in
    let size : size_in (numbered caches x.extent.cache.0) ≡ c.pages-count.result = shown_size f i.caches.caches x.extent.cache.0 ∙ sym c.pages-count.ensures in
    map_refused t x caches (length i.store.frames.held) actor c.in-Some.refusal (numbered t.actors actor) (numbered caches x.extent.cache.0) refl refl
    (ap (λ (q : Option ℕ). map_refusal t (numbered t.actors actor) q x) size ∙ sym c.map_refusal.ensures ∙ c.in-Some.is))))

-- with the region, or without it, the manager is right
right : (c : After-map) → IsManagerRight c.self.inside.caches c.self.inside.store c.map.new.self c.self.inside.live
right c = record {
  sound = (
      let i = c.self.inside in
      let t : Actors = i.contexts in
      let u : Actors = c.map.new.self in
      let x = c.args.mapping in
      let actor = c.args.actor.0 in
      let e = c.map.ensures in
      let sizes = size_of i.caches in
      let k = is_mappable t x (numbered t.actors actor) c.pages-count.result (sym c.map_refusal.ensures ∙ c.in_default.is) in
      let new = next_placed sizes t x (numbered t.actors actor) c.pages-count.result (sym c.pages-count.ensures) k in
      seated_sound i.caches i.store t u i.live
      (after_either (λ (w : Actors). w.page_bytes ≡ t.page_bytes) t u (with_region t actor x) c.map.result e.ok e.err refl refl)
      (after_either (AreRight sizes) t u (with_region t actor x) c.map.result e.ok e.err (right_mapped sizes t actor x new c.self.invariant.sound.actors) c.self.invariant.sound.actors)
      (after_either (λ (w : Actors). (cache page : ℕ) → locks_over w.actors cache page ≡ locks_over t.actors cache page) t u (with_region t actor x) c.map.result e.ok e.err (λ cache page. over_mapped cache page t.actors actor k.regions (next_region t x) k.here refl) (λ cache page. refl))
      c.self.invariant.sound
      );
  translated = (
      let i = c.self.inside in
      let t : Actors = i.contexts in
      let x = c.args.mapping in
      let actor = c.args.actor.0 in
      let e = c.map.ensures in
      let k = is_mappable t x (numbered t.actors actor) c.pages-count.result (sym c.map_refusal.ensures ∙ c.in_default.is) in
      after_either (AreTranslationsRight i.caches i.store) t c.map.new.self (with_region t actor x) c.map.result e.ok e.err
      (mapped_right i.caches i.store t c.self.invariant.translated actor x k.regions k.here k.apart) c.self.invariant.translated
      );
}

pub invariant_of-self : goal.invariant_of-self
invariant_of-self c = right (goal.at.invariant_of-self c).After-map

pub invariant_of-self-2 : goal.invariant_of-self-2
invariant_of-self-2 c = right (goal.at.invariant_of-self-2 c).After-map

-- nothing of the pages changes
still : (c : After-map) → (h : Option Held) → IsValid c.args.self.now h → IsValid (the_view (record c.self.inside { contexts = c.map.new.self })) h
still c h v =
    let i = c.self.inside in
    let t : Actors = i.contexts in
    let u : Actors = c.map.new.self in
    let e = c.map.ensures in
    let page : u.page_bytes ≡ t.page_bytes = after_either (λ (w : Actors). w.page_bytes ≡ t.page_bytes) t u (with_region t c.args.actor.0 c.args.mapping) c.map.result e.ok e.err refl refl in
    seated_valid (the_view i) (the_view (record i { contexts = u })) h refl refl page (valid_seen c.self.view_is v)

pub returns-clause-call : goal.returns-clause-call
returns-clause-call c = record {
  valid = still (goal.at.returns-clause-call c).After-map;
  answers = (
      λ h v.
      let i = c.self.inside in
      let t : Actors = i.contexts in
      let u : Actors = c.map.new.self in
      let p : Manager = the_view i in
      let q : Manager = the_view (record i { contexts = u }) in
      let x = c.args.mapping in
      let actor = c.args.actor.0 in
      let command = commands.Map c.args.actor x in
      let frames = length i.store.frames.held in
      let size : (f : PageForest) → size_in (numbered (caches_shown f 1 i.caches.caches) x.extent.cache.0) ≡ c.pages-count.result
      = λ f. shown_size f i.caches.caches x.extent.cache.0 ∙ sym c.pages-count.ensures in
      let k : (f : PageForest) → IsMappable t (numbered t.actors actor) (size_in (numbered (caches_shown f 1 i.caches.caches) x.extent.cache.0)) x
      = λ f. is_mappable t x (numbered t.actors actor) (size_in (numbered (caches_shown f 1 i.caches.caches) x.extent.cache.0))
      (ap (λ (n : Option ℕ). map_refusal t (numbered t.actors actor) n x) (size f) ∙ sym c.map_refusal.ensures ∙ c.in_default.is) in
      let row = λ (f : PageForest). map_row t x (caches_shown f 1 i.caches.caches) frames actor (k f) in
      let valid = still (goal.at.returns-clause-call c).After-map h v in
      (answer_seen h c.self.view_is (seated p q h command (Ok (replies.Region c.in_ok-map.field-0)) c.self.invariant.sound.nodes c.self.invariant.sound.nodes valid refl (λ done m f s none. none) refl tt (λ f. refl) (λ page. refl)
      (λ f s. row f ∙ (λ j. reply (replies.Region (record { 0 = sym c.in_ok-map.ensures.number j })) (machine_with (caches_shown f 1 i.caches.caches) frames (sym c.in_ok-map.ensures.ok j))))))
      );
  made = λ h v. made_stays (machine_of c.args.self.now h) (commands.Map c.args.actor c.args.mapping) (answer_by replies.Region (Ok c.in_ok-map.field-0)) (machine_of (the_view (record c.self.inside { contexts = c.map.new.self })) h) (managers.numbered c.args.self.now) (managers.numbered (the_view (record c.self.inside { contexts = c.map.new.self }))) (ap managers.numbered c.self.view_is);
  room = refl;
}

pub returns-in_err-map-clause-call : goal.returns-in_err-map-clause-call
returns-in_err-map-clause-call c = record {
  valid = still (goal.at.returns-in_err-map-clause-call c).After-map;
  answers = (
      λ h v.
      let i = c.self.inside in
      let t : Actors = i.contexts in
      let u : Actors = c.map.new.self in
      let p : Manager = the_view i in
      let q : Manager = the_view (record i { contexts = u }) in
      let x = c.args.mapping in
      let actor = c.args.actor.0 in
      let command = commands.Map c.args.actor x in
      let frames = length i.store.frames.held in
      let size : (f : PageForest) → size_in (numbered (caches_shown f 1 i.caches.caches) x.extent.cache.0) ≡ c.pages-count.result
      = λ f. shown_size f i.caches.caches x.extent.cache.0 ∙ sym c.pages-count.ensures in
      let k : (f : PageForest) → IsMappable t (numbered t.actors actor) (size_in (numbered (caches_shown f 1 i.caches.caches) x.extent.cache.0)) x
      = λ f. is_mappable t x (numbered t.actors actor) (size_in (numbered (caches_shown f 1 i.caches.caches) x.extent.cache.0))
      (ap (λ (n : Option ℕ). map_refusal t (numbered t.actors actor) n x) (size f) ∙ sym c.map_refusal.ensures ∙ c.in_default.is) in
      let row = λ (f : PageForest). map_row t x (caches_shown f 1 i.caches.caches) frames actor (k f) in
      let valid = still (goal.at.returns-in_err-map-clause-call c).After-map h v in
      rw (err_is c.from_residual.result _ c.from_residual.ensures.1)
      (answer_seen h c.self.view_is (seated p q h command (Err troubles.Memory) c.self.invariant.sound.nodes c.self.invariant.sound.nodes valid refl (λ done m f s none. none) refl tt (λ f. refl) (λ page. refl)
      (λ f s. (ap (machine_with (caches_shown f 1 i.caches.caches) frames) c.in_err-map.ensures.err, tt, (let line = row f in rw line tt)))))
      );
  made = λ h v. made_stays (machine_of c.args.self.now h) (commands.Map c.args.actor c.args.mapping) (answer_by replies.Region c.from_residual.result) (machine_of (the_view (record c.self.inside { contexts = c.map.new.self })) h) (managers.numbered c.args.self.now) (managers.numbered (the_view (record c.self.inside { contexts = c.map.new.self }))) (ap managers.numbered c.self.view_is);
  room = refl;
}
