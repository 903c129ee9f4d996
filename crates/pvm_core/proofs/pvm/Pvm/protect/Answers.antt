use Rattle.std.proofs.Common.{arith, refl, ◌≡◌, true, List, [], length, Option, sym, ap, subst, ◌∙◌}
use Rattle.std.specs.Prelude.{Ok, Err, is_some}
use Rattle.std.proofs.lemmas.Bool.{cond-false, cond-true}
use Rattle.vm_ids.specs.Counting.{no_counts}
use Rattle.vm_ids.specs.declared.command.Command.TheVariants as commands
use Rattle.vm_ids.specs.declared.refusal.Refusal.TheVariants as refusals
use Rattle.vm_ids.specs.declared.reply.Reply.TheVariants as replies
use Rattle.vm_ids.specs.declared.reply.Trouble.TheVariants as troubles
use Rattle.vm_model.specs.Answering.{reply}
use Rattle.vm_model.specs.Regions.{region_with}
use Rattle.vm_model.specs.Run.{AnswerIs, State}
use Rattle.local_cache.specs.Whole.{size_of}
use Rattle.page_tables.specs.declared.entry.Entry.{Entry}
use Rattle.residency.specs.declared.store.Store.{Store}
use Rattle.contexts.specs.Actors.{Actors, machine_with}
use Rattle.contexts.proofs.Told.{told_some}
use Rattle.contexts.specs.Placed.{AreRight}
use Rattle.contexts.proofs.Placing.{right_with_allowed}
use Rattle.contexts.proofs.RegionRows.{protect_none, protect_row, with_allowed}
use Rattle.pvm_core.specs.Manager.{IsManagerRight, IsValid, caches_shown, numbered, state_at}
use Rattle.pvm_core.specs.Locks.{locks_over}
use Rattle.pvm_core.specs.Translated.{AreTranslationsRight}
use Rattle.pvm_core.specs.declared.pvm.Pvm.TheInside.{Inside}
use Rattle.pvm_core.proofs.Acting.{acted, acted_valid, protected, told}
use Rattle.pvm_core.proofs.Answering.Kept.{seated_sound, seen}
use Rattle.pvm_core.proofs.Translating.Commands.{forgotten, forgotten_count, protected_right}
use Rattle.pvm_core.proofs.Translating.Tables.{tables_sound, tables_state, tables_valid, with_tables}
use Rattle.pvm_core.proofs.Answering.Recorded.{refused_call}
use Rattle.pvm_core.proofs.pvm.Pvm.protect.Goals as goal
use Rattle.pvm_core.proofs.pvm.Pvm.protect.Goals.{After-protect, In-Some, else-not-prot, then-not-prot}
use Rattle.pvm_core.proofs.Holding.Actors.{over_allowed}

pub returns-in_default-clause-call : goal.returns-in_default-clause-call
returns-in_default-clause-call c = refused_call (
    λ h v.
    let i = c.self.inside in
    let n = c.args.region.0 in
    told i.caches i.store i.contexts _ c.self.view_is h v (commands.Protect c.args.region c.args.prot) (protected c.args.region c.args.prot) (Err (troubles.Refused refusals.NoRegion)) c.self.invariant.sound.nodes
    (λ f g k. protect_none (caches_shown f 1 i.caches.caches) (length i.store.frames.held) i.contexts n c.args.prot
    (sym (told_some n 1 i.contexts.actors) ∙ ap is_some (sym c.status.ensures ∙ c.in_default.is))))

abbrev with_forgotten : Inside → List (Option Entry) → Inside
with_forgotten i ts = record i { store = with_tables i.store ts }

-- an actor has the region
there : (c : In-Some) → is_some (region_with c.args.region.0 c.self.inside.contexts.actors) ≡ true
there c = sym (told_some c.args.region.0 1 c.self.inside.contexts.actors) ∙ ap is_some (sym c.status.ensures ∙ c.in-Some.is)

-- its translations were dropped where it may be written no more
inside : (c : After-protect) → c.if-not-prot.self-inside ≡ with_forgotten c.self.inside (forgotten c.self.inside.contexts.page_bytes c.args.prot c.in-Some.was c.self.inside.store.tables)
inside c =
    let i = c.self.inside in
    elim c.if-not-prot.branch [
      | then-not-prot w ↦ w.self-inside-is ∙ ap (λ (s : Store). record i { store = s }) (w.forget_region.ensures ∙ ap (with_tables i.store) (sym (cond-true _ _ _ w.if-not-prot.true)))
      | else-not-prot w ↦ w.self-inside-is ∙ ap (with_forgotten i) (sym (cond-false _ _ _ w.if-not-prot.false))
    ]

-- and it allows what was asked
allowed : (c : After-protect) → c.protect.new.self ≡ with_allowed c.args.region.0 c.args.prot c.self.inside.contexts
allowed c =
    let n = c.args.region.0 in
    let e = c.protect.ensures in
    let found = e.found ∙ ap (λ (x : Inside). is_some (region_with n x.contexts.actors)) (inside c) ∙ there (goal.at.After-protect c).In-Some in
    e.changed found ∙ ap (λ (x : Inside). with_allowed n c.args.prot x.contexts) (inside c)

pub invariant_of-self : goal.invariant_of-self
invariant_of-self c =
    let i = c.self.inside in
    let t : Actors = i.contexts in
    let u : Actors = c.protect.new.self in
    let ts : List (Option Entry) = forgotten t.page_bytes c.args.prot c.in-Some.was i.store.tables in
    let at = (goal.at.invariant_of-self c).After-protect in
    let new = allowed at in
    let some = there (goal.at.invariant_of-self c).In-Some in
    subst (λ (x : Inside). IsManagerRight x.caches x.store u x.live) (sym (inside at)) (record {
      sound = tables_sound i.caches i.store ts u i.live
          (seated_sound i.caches i.store t u i.live (ap (λ (w : Actors). w.page_bytes) new)
          (subst (AreRight (size_of i.caches)) (sym new) (right_with_allowed (size_of i.caches) c.args.region.0 c.args.prot t some c.self.invariant.sound.actors))
          (λ cache page. ap (λ (w : Actors). locks_over w.actors cache page) new ∙ over_allowed c.args.region.0 c.args.prot t some cache page) c.self.invariant.sound);
      translated = subst (AreTranslationsRight i.caches (with_tables i.store ts)) (sym new)
          (protected_right i.caches i.store t c.args.region.0 c.args.prot c.in-Some.was c.self.invariant.sound.actors.some c.self.invariant.translated (sym c.status.ensures ∙ c.in-Some.is));
    })

pub returns-clause-call : goal.returns-clause-call
returns-clause-call c = record {
  valid = (
      λ h v.
      let i = c.self.inside in
      let t : Actors = i.contexts in
      let u : Actors = c.protect.new.self in
      let ts : List (Option Entry) = forgotten t.page_bytes c.args.prot c.in-Some.was i.store.tables in
      let at = (goal.at.returns-clause-call c).After-protect in
      let new = allowed at in
      subst (λ (x : Inside). IsValid (seen x.caches x.store u) h) (sym (inside at))
      (tables_valid (seen i.caches i.store u) ts (forgotten_count t.page_bytes c.args.prot c.in-Some.was i.store.tables) h
      (acted_valid i.caches i.store t _ c.self.view_is h v u (ap (λ (w : Actors). w.page_bytes) new)))
      );
  answers = (
      λ h v.
      let i = c.self.inside in
      let t : Actors = i.contexts in
      let u : Actors = c.protect.new.self in
      let ts : List (Option Entry) = forgotten t.page_bytes c.args.prot c.in-Some.was i.store.tables in
      let at = (goal.at.returns-clause-call c).After-protect in
      let new = allowed at in
      let command = commands.Protect c.args.region c.args.prot in
      subst (λ (x : Inside). AnswerIs (state_at c.args.self.now h) command (Ok replies.Done) [] no_counts (state_at (seen x.caches x.store u) h)) (sym (inside at))
      (subst (λ (m : State). AnswerIs (state_at c.args.self.now h) command (Ok replies.Done) [] no_counts m)
      (sym (tables_state (seen i.caches i.store u) ts (forgotten_count t.page_bytes c.args.prot c.in-Some.was i.store.tables) h))
      (acted i.caches i.store t _ c.self.view_is h v command (protected c.args.region c.args.prot) (Ok replies.Done) c.self.invariant.sound.nodes u
      (ap (λ (w : Actors). w.page_bytes) new)
      (λ f g k. let caches = caches_shown f 1 i.caches.caches in
      let frames = length i.store.frames.held in
      protect_row caches frames t c.args.region.0 c.args.prot (there (goal.at.returns-clause-call c).In-Some) ∙ ap (λ (w : Actors). reply replies.Done (machine_with caches frames w)) (sym new))))
      );
  made = λ h v. omega (arith, ap (λ (x : Inside). numbered (seen x.caches x.store c.protect.new.self)) (inside (goal.at.returns-clause-call c).After-protect), ap numbered c.self.view_is);
  room = refl;
}
