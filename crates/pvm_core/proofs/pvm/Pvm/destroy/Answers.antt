use Rattle.std.proofs.Common.{rules, ◌≡◌, ℕ, ◌+◌, ◌-◌, Bool, false, Option, Some, None, is_some, length, refl, sym, ap, subst, ◌∙◌, arith}
use Rattle.std.specs.Prelude.{IfErr, IsOk, OnErr, Result, Ok, Err, unwrap_or}
use Rattle.std.proofs.result.Match.{err_is}
use Rattle.std.specs.List.{list_any}
use Rattle.vm_ids.specs.Counting.{MapperCounts, Rose}
use Rattle.vm_ids.specs.declared.command.Command.TheVariants as commands
use Rattle.vm_ids.specs.declared.command.Extent.{Extent}
use Rattle.vm_ids.specs.declared.refusal.Refusal.TheVariants as refusals
use Rattle.vm_ids.specs.declared.reply.Reply.TheVariants as replies
use Rattle.vm_ids.specs.declared.reply.Trouble.{Trouble}
use Rattle.vm_ids.specs.declared.reply.Trouble.TheVariants as troubles
use Rattle.vm_ids.proofs.Forest.Laws.Ranges.{ranges_hold_their_pages}
use Rattle.vm_ids.specs.Forest.Commands.{destroy, page_names}
use Rattle.vm_ids.specs.Forest.Shape.{IsBounded}
use Rattle.vm_ids.specs.Held.{Held, segments_of}
use Rattle.local_cache.specs.Arena.{Arena, table_of}
use Rattle.local_cache.specs.Whole.{size_of}
use Rattle.contexts.specs.Actors.{Actors}
use Rattle.contexts.proofs.RegionRows.{sized, unsized}
use Rattle.residency.specs.declared.store.Store.{Store}
use Rattle.vm_ids.specs.declared.numbers.CacheId.{CacheId}
use Rattle.page_commands.specs.Steps.{IsStoreTied, IsUnpinned}
use Rattle.page_commands.proofs.TiedStores.Tied.{tied_right}
use Rattle.segment_ops.specs.Ranges.{HasRange}
use Rattle.vm_model.specs.Answering.{Answer, is_mapped, maps_in}
use Rattle.vm_model.specs.Following.{forest_after}
use Rattle.vm_model.specs.Machine.{Machine, cache_of, pages_in}
use Rattle.vm_model.specs.Outcome.{OutcomeAt}
use Rattle.vm_model.specs.Run.{CallIs}
use Rattle.vm_model.specs.Synchronised.{ArePushed}
use Rattle.pvm_core.specs.Keeping.{CopiesNothing}
use Rattle.pvm_core.specs.Manager.{IsValid, Manager, forest_of, machine_by, machine_of, numbered, state_at}
use Rattle.pvm_core.specs.Saving.{CopiesSaved, IsNotWrittenBack, IsWrittenBack, KeepsMachine, all_of, is_named}
use Rattle.pvm_core.specs.contracts.pvm.Pvm.{the_view}
use Rattle.pvm_core.proofs.Answering.Answered.{call_is, failed}
use Rattle.pvm_core.proofs.Answering.Ended.{Ended, ended_call}
use Rattle.pvm_core.proofs.Readiness.Copies.{range_copied}
use Rattle.pvm_core.proofs.Destroying.Failed.{IsNotDestroyed, of_cache, touched, not_destroyed}
use Rattle.pvm_core.proofs.Destroying.Rows.{destroy_in_use, destroy_no_cache}
use Rattle.pvm_core.proofs.Destroying.Taken.{follows, taken, taken_sound, taken_valid}
use Rattle.pvm_core.proofs.Answering.Kept.{seen, valid_seen}
use Rattle.pvm_core.proofs.Accesses.Loading.{size_le, sized_table}
use Rattle.pvm_core.proofs.Answering.Reaching.{reach_none}
use Rattle.pvm_core.proofs.Answering.Rising.{rises_between}
use Rattle.pvm_core.proofs.Meaning.Shown.{shown_size}
use Rattle.pvm_core.proofs.Spanning.Transfers.{named_machine}
use Rattle.local_cache.specs.Arena.{is_locked}
use Rattle.pvm_core.proofs.Holding.Kept.{held_released}
use Rattle.pvm_core.proofs.Holding.Loose.{unpinned_page, working_unpinned}
use Rattle.pvm_core.proofs.Holding.Actors.{over_none}
use Rattle.pvm_core.proofs.Translating.Cells.{without_right}
use Rattle.pvm_core.proofs.Translating.Unmapped.{unmapped_right}
use Rattle.pvm_core.proofs.Translating.Writable.{homes_writable}
use Rattle.pvm_core.proofs.Answering.Recorded.{refused_mapper_call}
use Rattle.pvm_core.proofs.pvm.Pvm.destroy.Given.{Over}
use Rattle.pvm_core.proofs.pvm.Pvm.destroy.Goals.{After-from_residual, After-remove, After-self-2, In-Some}
use Rattle.pvm_core.proofs.pvm.Pvm.destroy.Goals as goal

pub returns-in_default-clause-call : goal.returns-in_default-clause-call
returns-in_default-clause-call g c = refused_mapper_call c.requires.valid (
    let h = g.M.Mapper.held c.args.mapper.now in
    let counts = g.M.Mapper.counts c.args.mapper.now in
    let p : Manager = the_view c.self.inside in
    let command = commands.Destroy c.args.cache in
    let answer : Answer = Err (troubles.Refused refusals.NoCache) in
    subst (λ (p : Manager). CallIs counts counts (state_at p h) command answer (state_at p h)) c.self.view_is
    (failed counts counts p p h h command answer (reach_none (machine_of p h) h counts) c.self.invariant.sound.nodes c.self.invariant.sound.nodes (valid_seen c.self.view_is c.requires.valid) refl refl tt tt
    (λ f s. destroy_no_cache (machine_by p f) c.args.cache.0 (unsized _ (shown_size f p.caches.caches c.args.cache.0 ∙ sym c.pages.ensures ∙ c.in_default.is)))))

pub returns-then-maps-clause-call : goal.returns-then-maps-clause-call
returns-then-maps-clause-call g c = refused_mapper_call c.requires.valid (
    let h = g.M.Mapper.held c.args.mapper.now in
    let counts = g.M.Mapper.counts c.args.mapper.now in
    let p : Manager = the_view c.self.inside in
    let command = commands.Destroy c.args.cache in
    let answer : Answer = Err (troubles.Refused refusals.InUse) in
    subst (λ (p : Manager). CallIs counts counts (state_at p h) command answer (state_at p h)) c.self.view_is
    (failed counts counts p p h h command answer (reach_none (machine_of p h) h counts) c.self.invariant.sound.nodes c.self.invariant.sound.nodes (valid_seen c.self.view_is c.requires.valid) refl refl tt tt
    (λ f s. let k = sized _ c.in-Some.pages (shown_size f p.caches.caches c.args.cache.0 ∙ sym c.pages.ensures ∙ c.in-Some.is) in
    destroy_in_use (machine_by p f) c.args.cache.0 k.0 k.1
    (sym c.maps.ensures ∙ c.if-maps.true))))

-- so many pages the cache has
size : (g : Over) (c : In-Some g) → size_of c.self.inside.caches c.args.cache.0 ≡ Some c.in-Some.pages
size g c = sym c.pages.ensures ∙ c.in-Some.is

pub write_back-requires-clause-range : goal.write_back-requires-clause-range
write_back-requires-clause-range g c =
    subst (λ (p : Manager). HasRange p.caches (of_cache c.args.cache c.in-Some.pages)) c.self.view_is (record { pages = c.in-Some.pages; size = size g (goal.at.write_back-requires-clause-range g c).In-Some; within = omega arith })

-- the pages aren't written back
not_written : (g : Over) (c : After-from_residual g)
    → IsNotDestroyed c.args.self.now c.write_back.new.self (g.M.Mapper.held c.args.mapper.now) (g.M.Mapper.held c.write_back.new.mapper) (g.M.Mapper.counts c.args.mapper.now) (g.M.Mapper.counts c.write_back.new.mapper) c.args.cache c.from_residual.result
not_written g c =
    let i = c.self.inside in
    let all : Extent = of_cache c.args.cache c.in-Some.pages in
    let q = c.write_back.new.self in
    let e = c.write_back.ensures in
    let h = g.M.Mapper.held c.args.mapper.now in
    let k = g.M.Mapper.held c.write_back.new.mapper in
    let before = g.M.Mapper.counts c.args.mapper.now in
    let after = g.M.Mapper.counts c.write_back.new.mapper in
    let p : Manager = seen i.caches i.store i.contexts in
    let keeps : KeepsMachine p q h k before after = subst (λ (p : Manager). KeepsMachine p q h k before after) (sym c.self.view_is) e.keeps in
    let trouble = c.in_err-write_back.field-0.0 in
    let is : c.from_residual.result ≡ Err trouble = err_is c.from_residual.result _ c.from_residual.ensures.1 in
    let wrong : IsNotWrittenBack all p h q k trouble = subst (λ (p : Manager). IsNotWrittenBack all p h q k trouble) (sym c.self.view_is) (subst (λ (r : Result _ Trouble). IfErr r (IsNotWrittenBack all c.args.self.now h q k)) c.in_err-write_back.was e.not_written) in
    subst (λ (p : Manager). IsNotDestroyed p q h k before after c.args.cache c.from_residual.result) c.self.view_is
    (subst (λ (r : Result _ Trouble). IsNotDestroyed p q h k before after c.args.cache r) (sym is)
    (not_destroyed p q h k before after c.args.cache c.in-Some.pages keeps c.self.invariant.sound.nodes e.whole e.valid (size g (goal.at.After-from_residual g c).In-Some) (λ f. sym c.maps.ensures ∙ c.if-maps.false) trouble wrong
    (subst (λ (r : Result _ Trouble). OnErr r (Rose before.faults after.faults)) c.in_err-write_back.was e.cause)))

pub returns-in_err-write_back-clause-call : goal.returns-in_err-write_back-clause-call
returns-in_err-write_back-clause-call g c = record {
  valid = search rules;
  answers = (not_written g c).answers;
  asks_first = (not_written g c).asks_first;
  made = (not_written g c).made;
  room = refl;
  page = search rules;
}

pub returns-in_err-write_back-clause-copies : goal.returns-in_err-write_back-clause-copies
returns-in_err-write_back-clause-copies g c = (not_written g c).copies

pub returns-in_err-write_back-clause-refused : goal.returns-in_err-write_back-clause-refused
returns-in_err-write_back-clause-refused g c = λ r e. absurd ((not_written g c).refused r e)

pub returns-in_err-write_back-clause-idle : goal.returns-in_err-write_back-clause-idle
returns-in_err-write_back-clause-idle g c = λ none. absurd (
    let t = c.write_back.ensures.temporary none in
    let fine : IsOk {T = Unit {0}} (Err c.in_err-write_back.field-0.0) = subst (λ (r : Result (Unit {0}) Trouble). IsOk r) c.in_err-write_back.was t.0 in cc fine)

-- the pages are written back, and no region maps them
record IsToGo (p : Manager) (h g : Option Held) (c d : MapperCounts) (a : Arena) (s : Store) (t : Actors) (cache : CacheId) (pages : ℕ) : Type 0 where
  pub valid : IsValid (seen a s t) g
  pub tied : IsStoreTied s a
  pub keeps : KeepsMachine p (seen a s t) h g c d
  pub written : IsWrittenBack (of_cache cache pages) p (seen a s t) h g
  pub size : size_of a cache.0 ≡ Some pages
  pub free : list_any (maps_in cache.0) t.actors ≡ false

to_go : (g : Over) (c : After-self-2 g)
    → IsToGo (seen c.self.inside.caches c.self.inside.store c.self.inside.contexts) (g.M.Mapper.held c.args.mapper.now) (g.M.Mapper.held c.write_back.new.mapper) (g.M.Mapper.counts c.args.mapper.now) (g.M.Mapper.counts c.write_back.new.mapper) c.self-2.inside.caches c.self-2.inside.store c.self-2.inside.contexts c.args.cache c.in-Some.pages
to_go g c =
    let i = c.self.inside in
    let j = c.self-2.inside in
    let all : Extent = of_cache c.args.cache c.in-Some.pages in
    let q = c.write_back.new.self in
    let h = g.M.Mapper.held c.args.mapper.now in
    let k = g.M.Mapper.held c.write_back.new.mapper in
    let before = g.M.Mapper.counts c.args.mapper.now in
    let after = g.M.Mapper.counts c.write_back.new.mapper in
    let p : Manager = seen i.caches i.store i.contexts in
    let back = sym c.self-2.view_is in
    let valid : IsValid (seen j.caches j.store j.contexts) k = subst (λ (p : Manager). IsValid p k) back c.write_back.ensures.valid in
    let keeps : KeepsMachine p (seen j.caches j.store j.contexts) h k before after = subst (λ (r : Manager). KeepsMachine p r h k before after) back (subst (λ (p : Manager). KeepsMachine p q h k before after) (sym c.self.view_is) c.write_back.ensures.keeps) in
    record {
      valid = valid;
      tied = tied_right k None j.caches j.store valid.right;
      keeps = keeps;
      written = subst (λ (r : Manager). IsWrittenBack all p r h k) back (subst (λ (p : Manager). IsWrittenBack all p q h k) (sym c.self.view_is) c.in_ok-write_back.ensures.written);
      size = keeps.same.sizes c.args.cache.0 ∙ size g (goal.at.After-self-2 g c).In-Some;
      free = subst (λ (m : Machine). is_mapped m c.args.cache.0 ≡ false) (sym keeps.machine) (sym c.maps.ensures ∙ c.if-maps.false);
    }

pub destroy_pages-requires-clause-ready : goal.destroy_pages-requires-clause-ready
destroy_pages-requires-clause-ready g c =
    let j = c.self-2.inside in
    let sound = c.self-2.invariant.sound in
    let r = to_go g (goal.at.destroy_pages-requires-clause-ready g c).After-self-2 in
    record {
      retire = record {
        tied = r.tied;
        whole = sound.nodes;
        unpinned = λ x is.
            let at = (ranges_hold_their_pages c.args.cache 0 c.in-Some.pages x).0 is in
            let page = 0 + at.0 in
            subst (IsUnpinned j.store j.caches) (sym at.2) (unpinned_page j.caches j.store j.contexts.actors sound.locked c.args.cache (record { 0 = page }) (ap is_locked (sound.locked.counted c.args.cache.0 page ∙ over_none c.args.cache.0 page j.contexts.actors r.free)));
        made = omega (arith, r.keeps.made, c.requires.made, ap numbered c.self.view_is, sound.few, sound.counted, size_le j.caches c.args.cache.0 c.in-Some.pages r.size);
      };
      saved = r.written.saved_now;
      working = working_unpinned j.caches j.store j.contexts.actors sound.locked;
    }

pub destroy_pages-requires-clause-pages : goal.destroy_pages-requires-clause-pages
destroy_pages-requires-clause-pages g c = (to_go g (goal.at.destroy_pages-requires-clause-pages g c).After-self-2).size

pub remove-requires-clause-live : goal.remove-requires-clause-live
remove-requires-clause-live g c =
    let t = sized_table (table_of c.destroy_pages.new.caches c.args.cache.0) c.in-Some.pages (c.destroy_pages.ensures.kept.sizes.sizes c.args.cache.0 ∙ (to_go g (goal.at.remove-requires-clause-live g c).After-self-2).size) in
    ap is_some t.1

pub overflow_sub-self : goal.overflow_sub-self
overflow_sub-self g c =
    let sound = c.self-2.invariant.sound in
    omega (arith, size_le c.self-2.inside.caches c.args.cache.0 c.in-Some.pages (to_go g (goal.at.overflow_sub-self g c).After-self-2).size, sound.counted)

-- the cache is gone
gone : (g : Over) (c : After-remove g)
    → Ended c.args.self.now c.remove.new.self c.destroy_pages.new.store c.self-2.inside.contexts (c.self-2.inside.live - c.in-Some.pages) (g.M.Mapper.held c.args.mapper.now) (g.M.Mapper.held c.write_back.new.mapper) (g.M.Mapper.counts c.args.mapper.now) (g.M.Mapper.counts c.write_back.new.mapper) (commands.Destroy c.args.cache) (Ok replies.Done)
    × CopiesSaved (all_of c.args.self.now.caches c.args.cache) c.args.self.now (g.M.Mapper.held c.args.mapper.now) (seen c.remove.new.self c.destroy_pages.new.store c.self-2.inside.contexts) (Ok tt)
gone g c =
    let at = goal.at.After-remove g c in
    let i = c.self.inside in
    let j = c.self-2.inside in
    let sound = c.self-2.invariant.sound in
    let pages = c.in-Some.pages in
    let all : Extent = of_cache c.args.cache pages in
    let h = g.M.Mapper.held c.args.mapper.now in
    let k = g.M.Mapper.held c.write_back.new.mapper in
    let before = g.M.Mapper.counts c.args.mapper.now in
    let after = g.M.Mapper.counts c.write_back.new.mapper in
    let p : Manager = seen i.caches i.store i.contexts in
    let m : Manager = seen j.caches j.store j.contexts in
    let w = to_go g at.After-self-2 in
    let b = c.destroy_pages.new in
    let e = c.destroy_pages.ensures in
    let d = c.remove.new.self in
    let r = c.remove.ensures in
    let z : Manager = seen d b.store j.contexts in
    let whole = e.empties.whole d r.changed (r.sound e.kept.sound) r.forest in
    let bounded = subst IsBounded (sym r.forest) e.empties.settles.bounded in
    let t0 = sized_table (table_of i.caches c.args.cache.0) pages (size g at.In-Some) in
    let t = sized_table (table_of j.caches c.args.cache.0) pages w.size in
    let answer : Answer = Ok replies.Done in
    let command = commands.Destroy c.args.cache in
    let rises = rises_between (length w.keeps.reach.pushes) before after in
    let many : pages_in (cache_of (machine_of p h) c.args.cache.0) ≡ pages = touched p m h k before after c.args.cache pages w.keeps c.self.invariant.sound.nodes sound.nodes w.valid t0.0 t0.1 t0.2 (λ f. sym c.maps.ensures ∙ c.if-maps.false) (forest_of p h) in
    let named = named_machine p (forest_of p h) c.args.cache.0 in
    let now : IsValid z k = taken_valid j.caches b.caches d j.store b.store j.contexts j.live c.args.cache pages sound w.size w.free e.kept.sizes e.kept.gives_back w.tied r.changed whole bounded k w.valid e.empties.right e.rule.forest e.kept.sound.kept.listed e.empties.empty t.0 t.1 t.2 in
    let after_is : forest_of z k ≡ forest_after (forest_of p h) (machine_of p h) command answer (machine_of z k)
    = follows j.caches b.caches d j.store b.store j.contexts j.live c.args.cache pages sound w.size w.free e.kept.sizes e.kept.gives_back w.tied r.changed whole bounded k w.valid e.empties.right e.rule.forest e.kept.sound.kept.listed e.empties.empty t.0 t.1 t.2 (is_named i.caches c.args.cache.0) (forest_of p h) w.written.forest
    ∙ ap (λ (n : ℕ). destroy (is_named i.caches c.args.cache.0) (page_names c.args.cache 0 n) (forest_of p h)) (sym many)
    ∙ ap (λ (x : Bool). destroy x (page_names c.args.cache 0 (pages_in (cache_of (machine_of p h) c.args.cache.0))) (forest_of p h)) (sym named) in
    let outcome : OutcomeAt (segments_of k) (machine_of p h) (Some (forest_of p h)) command answer (machine_of z k) rises
    = subst (λ (m : Machine). OutcomeAt (segments_of k) m (Some (forest_of p h)) command answer (machine_of z k) rises) w.keeps.machine (taken j.caches b.caches d j.store b.store j.contexts j.live c.args.cache pages sound w.size w.free e.kept.sizes e.kept.gives_back w.tied r.changed whole bounded k w.valid e.empties.right e.rule.forest e.kept.sound.kept.listed e.empties.empty t.0 t.1 t.2 (forest_of p h) rises) in
    let saves = range_copied p m h k all c.self.invariant.sound.nodes (is_named i.caches c.args.cache.0) w.written.forest in
    let copies : CopiesSaved all p h z (Ok tt) = ap (λ a. a.copies) r.changed ∙ e.empties.settles.copies ∙ saves.0 in
    let whole_extent : all_of i.caches c.args.cache ≡ all = ap (λ (o : Option ℕ). of_cache c.args.cache (unwrap_or o 0)) (size g at.In-Some) in
    subst (λ (p : Manager). Ended p d b.store j.contexts (j.live - pages) h k before after command answer × CopiesSaved (all_of p.caches c.args.cache) p h z (Ok tt)) c.self.view_is (
      record {
        sound = taken_sound j.caches b.caches d j.store b.store j.contexts j.live c.args.cache pages sound w.size w.free e.kept.sizes e.kept.gives_back w.tied r.changed whole bounded e.kept.sound.kept.listed (held_released _ j.caches b.caches j.store b.store e.kept w.tied j.contexts sound.nodes sound.actors sound.locked);
        valid = now;
        answers = call_is before after p z h k command answer w.keeps.reach now tt (subst (λ (n : ℕ). ArePushed (machine_of p h) (segments_of k) c.args.cache.0 0 n) (let e : 0 + pages ≡ pages = omega arith in e ∙ sym many) w.written.pushed) after_is outcome;
        made = omega (arith, many, w.keeps.made, saves.1, e.empties.settles.made, e.empties.settles.copies, ap (λ a. a.made) r.changed, ap (λ a. a.copies) r.changed);
      },
      subst (λ (e : Extent). CopiesSaved e p h z (Ok tt)) (sym whole_extent) copies,
    )

pub invariant_of-self : goal.invariant_of-self
invariant_of-self g c = record {
  sound = (gone g (goal.at.invariant_of-self g c).After-remove).0.sound;
  translated = (
      let j = c.self-2.inside in
      let e = c.destroy_pages.ensures in
      let b = c.destroy_pages.new in
      without_right b.caches c.remove.new.self b.store c.args.cache c.remove.ensures.changed j.contexts
      (unmapped_right c.args.cache c.in-Some.pages j.caches b.caches j.store b.store j.contexts (to_go g (goal.at.invariant_of-self g c).After-self-2).free e.translations (homes_writable _ j.caches b.caches e.kept.sizes e.kept.homes) c.self-2.invariant.translated)
      );
}

pub returns-clause-call : goal.returns-clause-call
returns-clause-call g c = ended_call g.M.Mapper c.args.mapper.now c.write_back.new.mapper (gone g (goal.at.returns-clause-call g c).After-remove).0 tt (search rules)

pub returns-clause-copies : goal.returns-clause-copies
returns-clause-copies g c = (gone g (goal.at.returns-clause-copies g c).After-remove).1

pub returns-clause-idle : goal.returns-clause-idle
returns-clause-idle g c = λ none.
    let j = c.self-2.inside in
    let e = c.destroy_pages.ensures in
    let z : Manager = seen c.remove.new.self c.destroy_pages.new.store j.contexts in
    let still = c.write_back.ensures.temporary none in
    let gives = e.kept.gives_back None None (to_go g (goal.at.returns-clause-idle g c).After-self-2).tied in
    let same : seen j.caches j.store j.contexts ≡ c.args.self.now = c.self-2.view_is ∙ still.1 in (
      still.2,
      still.3,
      (let out : CopiesNothing c.args.self.now z = subst (λ (p : Manager). CopiesNothing p z) same (record { copies = ap (λ k. k.copies) c.remove.ensures.changed ∙ e.empties.settles.copies; held = gives.held; bytes = gives.bytes }) in out),
      tt,
    )
