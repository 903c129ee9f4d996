use Rattle.std.proofs.Common.{arith, refl, ◌≡◌, true, [], length, map, sym, subst, ap, ◌∙◌}
use Rattle.std.proofs.lemmas.List.{length-map}
use Rattle.vm_ids.specs.Counting.{no_counts}
use Rattle.std.specs.Prelude.{Ok, Err, is_some}
use Rattle.vm_ids.specs.declared.command.Command.TheVariants as commands
use Rattle.vm_ids.specs.declared.refusal.Refusal.TheVariants as refusals
use Rattle.vm_ids.specs.declared.reply.Reply.TheVariants as replies
use Rattle.vm_ids.specs.declared.reply.Trouble.TheVariants as troubles
use Rattle.vm_model.specs.Answering.{reply}
use Rattle.vm_model.specs.Regions.{region_with}
use Rattle.vm_model.specs.Run.{AnswerIs, State}
use Rattle.page_tables.specs.Translations.{unless}
use Rattle.residency.specs.declared.store.Store.{Store}
use Rattle.local_cache.specs.Whole.{size_of}
use Rattle.contexts.specs.Actors.{Actors, machine_with}
use Rattle.contexts.proofs.Told.{told_some}
use Rattle.contexts.specs.Placed.{AreRight}
use Rattle.contexts.proofs.Placing.{right_without}
use Rattle.contexts.proofs.RegionRows.{told_of, unmap_locked, unmap_none, unmap_row}
use Rattle.pvm_core.specs.Manager.{IsManagerRight, IsValid, caches_shown, numbered, state_at}
use Rattle.pvm_core.specs.Translated.{AreTranslationsRight, is_in_region}
use Rattle.pvm_core.specs.Locks.{locks_over}
use Rattle.pvm_core.proofs.Acting.{acted, acted_valid, told, unmapped}
use Rattle.pvm_core.proofs.Answering.Kept.{seated_sound, seen}
use Rattle.pvm_core.proofs.Holding.Actors.{over_unmapped}
use Rattle.pvm_core.proofs.Translating.Commands.{unmapped_right}
use Rattle.pvm_core.proofs.Translating.Tables.{tables_sound, tables_state, tables_valid, with_tables}
use Rattle.pvm_core.proofs.Answering.Recorded.{refused_call}
use Rattle.pvm_core.proofs.pvm.Pvm.unmap.Goals as goal

pub returns-in_default-clause-call : goal.returns-in_default-clause-call
returns-in_default-clause-call c = refused_call (
    λ h v.
    let i = c.self.inside in
    let n = c.args.region.0 in
    told i.caches i.store i.contexts _ c.self.view_is h v (commands.Unmap c.args.region) (unmapped c.args.region) (Err (troubles.Refused refusals.NoRegion)) c.self.invariant.sound.nodes
    (λ f g k. unmap_none (caches_shown f 1 i.caches.caches) (length i.store.frames.held) i.contexts n
    (sym (told_some n 1 i.contexts.actors) ∙ ap is_some (sym c.status.ensures ∙ c.in_default.is))))

pub returns-then-status-clause-call : goal.returns-then-status-clause-call
returns-then-status-clause-call c = refused_call (
    λ h v.
    let i = c.self.inside in
    let n = c.args.region.0 in
    let r = told_of n i.contexts c.in-Some.status (sym c.status.ensures ∙ c.in-Some.is) in
    told i.caches i.store i.contexts _ c.self.view_is h v (commands.Unmap c.args.region) (unmapped c.args.region) (Err (troubles.Refused refusals.Locked)) c.self.invariant.sound.nodes
    (λ f g k. unmap_locked (caches_shown f 1 i.caches.caches) (length i.store.frames.held) i.contexts n r.region r.found (sym r.locked ∙ c.if-status.true)))

pub invariant_of-self : goal.invariant_of-self
invariant_of-self c =
    let i = c.self.inside in
    let n = c.args.region.0 in
    let t : Actors = i.contexts in
    let u = c.unmap.new.self in
    let some = c.self.invariant.sound.actors.some in
    let status = sym c.status.ensures ∙ c.in-Some.is in
    let r = told_of n t c.in-Some.status status in
    let there : is_some (region_with n t.actors) ≡ true = ap is_some r.found in
    let gone = c.unmap.ensures.gone (c.unmap.ensures.found ∙ there) in
    subst (λ (s : Store). IsManagerRight i.caches s u i.live) (sym c.forget_region.ensures) (record {
      sound = tables_sound i.caches i.store (map (unless (is_in_region t.page_bytes c.in-Some.status)) i.store.tables) u i.live
          (seated_sound i.caches i.store t u i.live (ap (λ (t : Actors). t.page_bytes) gone)
          (subst (AreRight (size_of i.caches)) (sym gone) (right_without (size_of i.caches) n t c.self.invariant.sound.actors))
          (λ cache page. ap (λ (w : Actors). locks_over w.actors cache page) gone ∙ over_unmapped cache page n r.region t.actors c.unmap.ensures.once r.found (sym r.locked ∙ c.if-status.false))
          c.self.invariant.sound);
      translated = subst (AreTranslationsRight i.caches (with_tables i.store (map (unless (is_in_region t.page_bytes c.in-Some.status)) i.store.tables))) (sym gone)
          (unmapped_right i.caches i.store t c.self.invariant.translated n c.in-Some.status some c.unmap.ensures.once status);
    })

pub returns-clause-call : goal.returns-clause-call
returns-clause-call c = record {
  valid = (
      λ h v.
      let i = c.self.inside in
      let n = c.args.region.0 in
      let u = c.unmap.new.self in
      let r = told_of n i.contexts c.in-Some.status (sym c.status.ensures ∙ c.in-Some.is) in
      let there : is_some (region_with n i.contexts.actors) ≡ true = ap is_some r.found in
      subst (λ (s : Store). IsValid (seen i.caches s u) h) (sym c.forget_region.ensures)
      (tables_valid (seen i.caches i.store u) (map (unless (is_in_region i.contexts.page_bytes c.in-Some.status)) i.store.tables) (length-map i.store.tables (unless (is_in_region i.contexts.page_bytes c.in-Some.status))) h
      (acted_valid i.caches i.store i.contexts _ c.self.view_is h v u (ap (λ (t : Actors). t.page_bytes) (c.unmap.ensures.gone (c.unmap.ensures.found ∙ there)))))
      );
  answers = (
      λ h v.
      let i = c.self.inside in
      let n = c.args.region.0 in
      let t : Actors = i.contexts in
      let u = c.unmap.new.self in
      let r = told_of n t c.in-Some.status (sym c.status.ensures ∙ c.in-Some.is) in
      let there : is_some (region_with n t.actors) ≡ true = ap is_some r.found in
      let gone = c.unmap.ensures.gone (c.unmap.ensures.found ∙ there) in
      subst (λ (s : Store). AnswerIs (state_at c.args.self.now h) (commands.Unmap c.args.region) (Ok replies.Done) [] no_counts (state_at (seen i.caches s u) h)) (sym c.forget_region.ensures)
      (subst (λ (m : State). AnswerIs (state_at c.args.self.now h) (commands.Unmap c.args.region) (Ok replies.Done) [] no_counts m)
      (sym (tables_state (seen i.caches i.store u) (map (unless (is_in_region t.page_bytes c.in-Some.status)) i.store.tables) (length-map i.store.tables (unless (is_in_region t.page_bytes c.in-Some.status))) h))
      (acted i.caches i.store t _ c.self.view_is h v (commands.Unmap c.args.region) (unmapped c.args.region) (Ok replies.Done) c.self.invariant.sound.nodes u
      (ap (λ (w : Actors). w.page_bytes) gone)
      (λ f g k. let caches = caches_shown f 1 i.caches.caches in
      let frames = length i.store.frames.held in
      unmap_row caches frames t n r.region r.found (sym r.locked ∙ c.if-status.false) ∙ ap (λ (w : Actors). reply replies.Done (machine_with caches frames w)) (sym gone))))
      );
  made = λ h v. omega (arith, ap numbered c.self.view_is);
  room = refl;
}
