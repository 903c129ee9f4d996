use Rattle.std.proofs.Common.{◌≡◌, ℕ, ◌<◌, false, [], length, refl, sym, ap, subst, ◌∙◌, arith}
use Rattle.std.specs.Prelude.{Ok, Err, is_some}
use Rattle.std.proofs.lemmas.Bool.{not-false, not-true}
use Rattle.vm_ids.specs.Counting.{no_counts}
use Rattle.vm_ids.specs.declared.command.Command.TheVariants as commands
use Rattle.vm_ids.specs.declared.command.Mapping.{Mapping}
use Rattle.vm_ids.specs.declared.refusal.Refusal.TheVariants as refusals
use Rattle.vm_ids.specs.declared.reply.Reply.TheVariants as replies
use Rattle.vm_ids.specs.declared.reply.Trouble.TheVariants as troubles
use Rattle.vm_model.specs.Run.{AnswerIs}
use Rattle.local_cache.specs.Arena.{locks_of}
use Rattle.local_cache.specs.Whole.{size_of}
use Rattle.local_cache.proofs.Tables.Sizes.{sizes_same}
use Rattle.segment_ops.specs.Ranges.{HasRange, IsPageOf}
use Rattle.contexts.specs.Actors.{Actors}
use Rattle.contexts.proofs.Placing.{right_with_locked}
use Rattle.contexts.proofs.RegionRows.{IsToldOf, told_of, unlock_none, unlock_not, unlock_row, untold_of, with_locked}
use Rattle.pvm_core.specs.Holding.{LocksMore}
use Rattle.pvm_core.specs.Manager.{IsManagerSound, IsValid, caches_shown, numbered, state_at}
use Rattle.pvm_core.proofs.Acting.{told}
use Rattle.pvm_core.proofs.Answering.Kept.{seen, valid_seen, answer_seen}
use Rattle.pvm_core.proofs.Locking.Covered.{placed_with}
use Rattle.pvm_core.proofs.Locking.Gone.{IsGone, gone_answer, gone_numbered, gone_sound, gone_valid, region_locks, unlocked_counts, unlocked_is}
use Rattle.pvm_core.proofs.Locking.Regions.{placed_range}
use Rattle.pvm_core.specs.Translated.{AreTranslationsRight}
use Rattle.pvm_core.proofs.Translating.Relocked.{relocked_right}
use Rattle.pvm_core.proofs.Answering.Recorded.{refused_call}
use Rattle.pvm_core.proofs.pvm.Pvm.unlock.Goals.{After-let_go, After-set_locked, In-Some}
use Rattle.pvm_core.proofs.pvm.Pvm.unlock.Goals as goal

pub returns-in_default-clause-call : goal.returns-in_default-clause-call
returns-in_default-clause-call c = refused_call (
    λ h v.
    let i = c.self.inside in
    told i.caches i.store i.contexts _ c.self.view_is h v (commands.Unlock c.args.region) (unlocked_is c.args.region) (Err (troubles.Refused refusals.NoRegion)) c.self.invariant.sound.nodes
    (λ f g k. unlock_none (caches_shown f 1 i.caches.caches) (length i.store.frames.held) i.contexts c.args.region.0 (untold_of c.args.region.0 i.contexts (sym c.status.ensures ∙ c.in_default.is))))

-- the region of which this is told
region : (c : In-Some) → IsToldOf c.args.region.0 c.self.inside.contexts c.in-Some.status
region c = told_of c.args.region.0 c.self.inside.contexts c.in-Some.status (sym c.status.ensures ∙ c.in-Some.is)

pub returns-then-not-status-clause-call : goal.returns-then-not-status-clause-call
returns-then-not-status-clause-call c = refused_call (
    λ h v.
    let i = c.self.inside in
    let r = region (goal.at.returns-then-not-status-clause-call c).In-Some in
    told i.caches i.store i.contexts _ c.self.view_is h v (commands.Unlock c.args.region) (unlocked_is c.args.region) (Err (troubles.Refused refusals.NotLocked)) c.self.invariant.sound.nodes
    (λ f g k. unlock_not (caches_shown f 1 i.caches.caches) (length i.store.frames.held) i.contexts c.args.region.0 r.region r.found (sym r.locked ∙ not-true c.in-Some.status.locked c.if-not-status.true)))

pub let_go-requires-clause-range : goal.let_go-requires-clause-range
let_go-requires-clause-range c =
    let i = c.self.inside in
    let r = region (goal.at.let_go-requires-clause-range c).In-Some in
    let placed = placed_with (size_of i.caches) c.args.region.0 r.region i.contexts.actors c.self.invariant.sound.actors.placed r.found in
    subst (λ (m : Mapping). HasRange i.caches m.extent) (sym r.mapping) (placed_range i.caches i.caches r.region (sizes_same i.caches i.caches refl) placed)

pub let_go-requires-clause-locked : goal.let_go-requires-clause-locked
let_go-requires-clause-locked c =
    let i = c.self.inside in
    let r = region (goal.at.let_go-requires-clause-locked c).In-Some in
    subst (λ (m : Mapping). (page : ℕ) → IsPageOf m.extent page → 0 < locks_of i.caches m.extent.cache.0 page) (sym r.mapping)
    (region_locks i.caches i.contexts c.args.region.0 r.region r.found (sym r.locked ∙ not-false c.in-Some.status.locked c.if-not-status.false) c.self.invariant.sound.locked.counted)

-- its locks were let go
gone : (c : After-let_go) → IsGone c.self.inside.caches c.let_go.new.caches c.self.inside.store c.let_go.new.store c.self.inside.contexts (with_locked c.args.region.0 false c.self.inside.contexts) c.self.inside.live
gone c =
    let i = c.self.inside in
    let e = c.let_go.ensures in
    let r = region (goal.at.After-let_go c).In-Some in
    let locked = sym r.locked ∙ not-false c.in-Some.status.locked c.if-not-status.false in
    let less = subst (λ (m : Mapping). LocksMore m.extent c.let_go.new.caches i.caches) r.mapping e.locks in
    record {
      pages = e.pages;
      holds = e.held;
      sound = c.self.invariant.sound;
      page = refl;
      right = right_with_locked (size_of i.caches) c.args.region.0 false r.region i.contexts r.found c.self.invariant.sound.actors;
      counted = unlocked_counts i.caches c.let_go.new.caches i.contexts c.args.region.0 r.region r.found locked c.self.invariant.sound.locked.counted less;
      low = λ cache page. omega (arith, less cache page);
    }

-- and it is locked no more
unlocked : (c : After-set_locked) → c.set_locked.new.self ≡ with_locked c.args.region.0 false c.self.inside.contexts
unlocked c = c.set_locked.ensures.changed (c.set_locked.ensures.found ∙ ap is_some (region (goal.at.After-set_locked c).In-Some).found)

pub invariant_of-self : goal.invariant_of-self
invariant_of-self c = record {
  sound = (
      let n = c.let_go.new in
      let v = valid_seen c.self.view_is c.requires.1 in
      subst (λ (x : Actors). IsManagerSound n.caches n.store x c.self.inside.live) (sym (unlocked (goal.at.invariant_of-self c).After-set_locked)) (gone_sound (gone (goal.at.invariant_of-self c).After-let_go) c.requires.0 v)
      );
  translated = (
      let i = c.self.inside in
      let n = c.let_go.new in
      subst (AreTranslationsRight n.caches n.store) (sym (unlocked (goal.at.invariant_of-self c).After-set_locked)) (relocked_right n.caches n.store i.contexts c.args.region.0 false (c.let_go.ensures.pages.translated i.contexts c.self.invariant.translated))
      );
}

pub returns-clause-call : goal.returns-clause-call
returns-clause-call c = record {
  valid = (
      λ h valid.
      let v = valid_seen c.self.view_is valid in
      subst (λ (x : Actors). IsValid (seen c.let_go.new.caches c.let_go.new.store x) h) (sym (unlocked (goal.at.returns-clause-call c).After-set_locked)) (gone_valid (gone (goal.at.returns-clause-call c).After-let_go) h v)
      );
  answers = (
      λ h valid.
      let i = c.self.inside in
      let n = c.let_go.new in
      let r = region (goal.at.returns-clause-call c).In-Some in
      let v = valid_seen c.self.view_is valid in
      answer_seen h c.self.view_is (subst (λ (x : Actors). AnswerIs (state_at (seen i.caches i.store i.contexts) h) (commands.Unlock c.args.region) (Ok replies.Done) [] no_counts (state_at (seen n.caches n.store x) h)) (sym (unlocked (goal.at.returns-clause-call c).After-set_locked))
      (gone_answer (gone (goal.at.returns-clause-call c).After-let_go) h v (commands.Unlock c.args.region) refl (λ m next f. refl) (λ m g. tt)
      (λ f g k. unlock_row (caches_shown f 1 i.caches.caches) (length i.store.frames.held) i.contexts c.args.region.0 r.region r.found (sym r.locked ∙ not-false c.in-Some.status.locked c.if-not-status.false))))
      );
  made = (
      λ h valid.
      let v = valid_seen c.self.view_is valid in
      let same = gone_numbered (gone (goal.at.returns-clause-call c).After-let_go) h v in
      omega (arith, same, ap numbered c.self.view_is)
      );
  room = refl;
}
