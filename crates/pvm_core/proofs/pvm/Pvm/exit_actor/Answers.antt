use Rattle.std.proofs.Common.{◌≡◌, List, [], length, map, Option, Some, refl, sym, ap, subst, ◌∙◌, arith}
use Rattle.std.proofs.lemmas.List.{length-map}
use Rattle.std.specs.Prelude.{Ok, Err, is_some}
use Rattle.vm_ids.specs.Counting.{no_counts}
use Rattle.vm_ids.specs.declared.command.Command.TheVariants as commands
use Rattle.vm_ids.specs.declared.refusal.Refusal.TheVariants as refusals
use Rattle.vm_ids.specs.declared.reply.Reply.TheVariants as replies
use Rattle.vm_ids.specs.declared.reply.Trouble.TheVariants as troubles
use Rattle.vm_model.specs.Machine.{numbered as actor_numbered}
use Rattle.vm_model.specs.Run.{AnswerIs, State}
use Rattle.local_cache.specs.Whole.{size_of}
use Rattle.page_tables.specs.Entries.{is_of_actor}
use Rattle.page_tables.specs.Translations.{unless}
use Rattle.page_tables.specs.declared.entry.Entry.{Entry}
use Rattle.contexts.specs.Actors.{Actors}
use Rattle.contexts.proofs.Placing.{right_without_actor}
use Rattle.contexts.proofs.RegionRows.{exit_none, exit_row, without_actor}
use Rattle.pvm_core.specs.Manager.{IsManagerRight, IsValid, Manager, caches_shown, numbered, state_at}
use Rattle.pvm_core.proofs.Acting.{exited, told}
use Rattle.pvm_core.proofs.Answering.Kept.{seen, valid_seen, answer_seen}
use Rattle.pvm_core.proofs.Locking.Gone.{IsGone, actor_locks, actor_placed, ended_counts, gone_answer, gone_numbered, gone_sound, gone_valid, mapped_is, mapped_none}
use Rattle.pvm_core.proofs.Translating.Commands.{ended_right}
use Rattle.pvm_core.proofs.Translating.Tables.{tables_sound, tables_state, tables_valid, with_tables}
use Rattle.pvm_core.proofs.Answering.Recorded.{refused_call}
use Rattle.pvm_core.proofs.pvm.Pvm.exit_actor.Goals.{After-drop_actor, After-let_all_go, In-Some}
use Rattle.pvm_core.proofs.pvm.Pvm.exit_actor.Goals as goal

pub returns-in_default-clause-call : goal.returns-in_default-clause-call
returns-in_default-clause-call c = refused_call (
    λ h v.
    let i = c.self.inside in
    told i.caches i.store i.contexts _ c.self.view_is h v (commands.ExitActor c.args.actor) (exited c.args.actor) (Err (troubles.Refused refusals.NoActor)) c.self.invariant.sound.nodes
    (λ f g k. exit_none (caches_shown f 1 i.caches.caches) (length i.store.frames.held) i.contexts c.args.actor.0
    (mapped_none _ c.regions.result _ c.regions.ensures.regions c.in_default.is)))

-- the actor has these regions
here : (c : In-Some) → actor_numbered c.self.inside.contexts.actors c.args.actor.0 ≡ Some c.in-Some.regions.now.regions
here c = mapped_is _ c.regions.result c.in-Some.regions _ c.regions.ensures.regions c.in-Some.is

pub let_all_go-requires-clause-placed : goal.let_all_go-requires-clause-placed
let_all_go-requires-clause-placed c = actor_placed (size_of c.self.inside.caches) c.self.inside.contexts c.args.actor.0 c.in-Some.regions.now.regions (here (goal.at.let_all_go-requires-clause-placed c).In-Some) c.self.invariant.sound.actors

pub let_all_go-requires-clause-locked : goal.let_all_go-requires-clause-locked
let_all_go-requires-clause-locked c = actor_locks c.self.inside.caches c.self.inside.contexts c.args.actor.0 c.in-Some.regions.now.regions (here (goal.at.let_all_go-requires-clause-locked c).In-Some) c.self.invariant.sound.locked.counted

-- their locks were let go
gone : (c : After-let_all_go) → IsGone c.self.inside.caches c.let_all_go.new.caches c.self.inside.store c.let_all_go.new.store c.self.inside.contexts (without_actor c.args.actor.0 c.self.inside.contexts) c.self.inside.live
gone c =
    let i = c.self.inside in
    let e = c.let_all_go.ensures in
    record {
      pages = e.pages;
      holds = e.held;
      sound = c.self.invariant.sound;
      page = refl;
      right = right_without_actor (size_of i.caches) c.args.actor.0 i.contexts c.self.invariant.sound.actors;
      counted = ended_counts i.caches c.let_all_go.new.caches i.contexts c.args.actor.0 c.in-Some.regions.now.regions (here (goal.at.After-let_all_go c).In-Some) c.self.invariant.sound.locked.counted e.locks;
      low = λ cache page. omega (arith, e.locks cache page);
    }

-- and its translations were dropped
dropped : (c : After-drop_actor) → c.drop_actor.new.self ≡ map (unless (is_of_actor c.args.actor.0)) c.let_all_go.new.store.tables
dropped c = c.drop_actor.ensures ∙ ap (map (unless (is_of_actor c.args.actor.0))) c.tables_mut.ensures.tables

pub invariant_of-self : goal.invariant_of-self
invariant_of-self c =
    let i = c.self.inside in
    let n = c.let_all_go.new in
    let v = valid_seen c.self.view_is c.requires.1 in
    let ts : List (Option Entry) = map (unless (is_of_actor c.args.actor.0)) n.store.tables in
    subst (λ (xs : List (Option Entry)). IsManagerRight n.caches (with_tables n.store xs) c.exit.new.self i.live) (sym (dropped (goal.at.invariant_of-self c).After-drop_actor))
    (subst (λ (x : Actors). IsManagerRight n.caches (with_tables n.store ts) x i.live) (sym c.exit.ensures) (record {
      sound = tables_sound n.caches n.store ts (without_actor c.args.actor.0 i.contexts) i.live (gone_sound (gone (goal.at.invariant_of-self c).After-let_all_go) c.requires.0 v);
      translated = ended_right n.caches n.store i.contexts (c.let_all_go.ensures.pages.translated i.contexts c.self.invariant.translated) c.args.actor.0 c.in-Some.regions.now.regions (here (goal.at.invariant_of-self c).In-Some);
    }))

pub returns-clause-call : goal.returns-clause-call
returns-clause-call c = record {
  valid = (
      λ h valid.
      let n = c.let_all_go.new in
      let v = valid_seen c.self.view_is valid in
      let ts : List (Option Entry) = map (unless (is_of_actor c.args.actor.0)) n.store.tables in
      subst (λ (xs : List (Option Entry)). IsValid (seen n.caches (with_tables n.store xs) c.exit.new.self) h) (sym (dropped (goal.at.returns-clause-call c).After-drop_actor))
      (tables_valid (seen n.caches n.store c.exit.new.self) ts (length-map n.store.tables (unless (is_of_actor c.args.actor.0))) h
      (subst (λ (x : Actors). IsValid (seen n.caches n.store x) h) (sym c.exit.ensures) (gone_valid (gone (goal.at.returns-clause-call c).After-let_all_go) h v)))
      );
  answers = (
      λ h valid.
      let i = c.self.inside in
      let n = c.let_all_go.new in
      let v = valid_seen c.self.view_is valid in
      let ts : List (Option Entry) = map (unless (is_of_actor c.args.actor.0)) n.store.tables in
      let last : Manager = seen n.caches n.store c.exit.new.self in
      subst (λ (xs : List (Option Entry)). AnswerIs (state_at c.args.self.now h) (commands.ExitActor c.args.actor) (Ok replies.Done) [] no_counts (state_at (seen n.caches (with_tables n.store xs) c.exit.new.self) h)) (sym (dropped (goal.at.returns-clause-call c).After-drop_actor))
      (subst (λ (m : State). AnswerIs (state_at c.args.self.now h) (commands.ExitActor c.args.actor) (Ok replies.Done) [] no_counts m) (sym (tables_state last ts (length-map n.store.tables (unless (is_of_actor c.args.actor.0))) h))
      (answer_seen h c.self.view_is (subst (λ (x : Actors). AnswerIs (state_at (seen i.caches i.store i.contexts) h) (commands.ExitActor c.args.actor) (Ok replies.Done) [] no_counts (state_at (seen n.caches n.store x) h)) (sym c.exit.ensures)
      (gone_answer (gone (goal.at.returns-clause-call c).After-let_all_go) h v (commands.ExitActor c.args.actor) refl (λ m next f. refl) (λ m g. tt)
      (λ f g k. exit_row (caches_shown f 1 i.caches.caches) (length i.store.frames.held) i.contexts c.args.actor.0 (ap is_some (here (goal.at.returns-clause-call c).In-Some)))))))
      );
  made = (
      λ h valid.
      let v = valid_seen c.self.view_is valid in
      let same = gone_numbered (gone (goal.at.returns-clause-call c).After-let_all_go) h v in
      omega (arith, same, ap numbered c.self.view_is)
      );
  room = refl;
}
