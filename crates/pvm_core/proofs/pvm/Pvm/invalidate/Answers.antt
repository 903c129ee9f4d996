use Rattle.std.proofs.Common.{rules, ◌≡◌, ℕ, ◌+◌, ◌*◌, ◌≤◌, false, Some, None, refl, sym, ap, subst, ◌∙◌, arith}
use Rattle.std.specs.Prelude.{Result, Ok, Err, length, option_map}
use Rattle.std.proofs.result.Match.{err_is}
use Rattle.gmi_calls.specs.Calling.{AsksFirst, RaisesMade, done_by}
use Rattle.vm_ids.specs.Held.{segments_of}
use Rattle.vm_ids.specs.Forest.Saving.{is_unsaved}
use Rattle.local_cache.specs.Reading as arena
use Rattle.vm_ids.specs.declared.command.Command.TheVariants as commands
use Rattle.vm_ids.specs.declared.reply.FaultAt.TheVariants as faults
use Rattle.vm_ids.specs.declared.reply.Reply.TheVariants as replies
use Rattle.vm_ids.specs.declared.reply.Trouble.{Trouble}
use Rattle.vm_ids.specs.declared.reply.Trouble.TheVariants as troubles
use Rattle.local_cache.specs.Arena.{Arena, Table, is_granted, table_of}
use Rattle.local_cache.specs.Whole.{size_of}
use Rattle.local_cache.proofs.Nodes.Count.{forest_len}
use Rattle.local_cache.proofs.Whole.LivePages.{range_there}
use Rattle.page_commands.proofs.TiedStores.Tied.{tied_right}
use Rattle.vm_model.specs.Machine.{cache_of, pages_in}
use Rattle.vm_model.specs.Answering.{held_for, is_any_locked}
use Rattle.vm_model.specs.Outcome.{IsNotRefused}
use Rattle.vm_model.specs.PageForest.{PageForest}
use Rattle.vm_model.specs.Synchronised.{ArePushed}
use Rattle.vm_model.specs.Run.{CallIs, State}
use Rattle.pvm_core.specs.Manager.{IsValid, Manager, forest_of, machine_by, machine_of, numbered, state_at}
use Rattle.pvm_core.specs.Keeping.{CopiesNothing, HasMoreRoom}
use Rattle.pvm_core.specs.Saving.{CopiesSaved, KeepsMachine}
use Rattle.pvm_core.specs.Writes.{SameGrants}
use Rattle.pvm_core.proofs.Readiness.Granted.{tables_grants}
use Rattle.pvm_core.proofs.Readiness.Readying.{failed_save, more_room}
use Rattle.pvm_core.specs.contracts.pvm.Pvm.{the_view}
use Rattle.pvm_core.proofs.Answering.Answered.{failed, made_stays}
use Rattle.pvm_core.proofs.Answering.Ended.{Ended, ended_call}
use Rattle.pvm_core.proofs.Answering.Changed.{changed_sound, slots_enough}
use Rattle.pvm_core.proofs.Extents.Rows.{IsExtent, extent_by, extent_open, extent_unlocked, invalidate_refused, invalidate_row}
use Rattle.pvm_core.proofs.Extents.Taken.{IsTaking, taken_is, taken_pushed, taken_valid, taking, taking_copied, taking_copies, taking_saved}
use Rattle.pvm_core.proofs.Extents.Unsaved.{unsaved_asks, unsaved_is, unsaved_made}
use Rattle.pvm_core.proofs.Answering.Kept.{seen, valid_seen, call_seen}
use Rattle.pvm_core.proofs.Meaning.Live.{nodes_most}
use Rattle.pvm_core.proofs.Accesses.Loading.{size_le}
use Rattle.pvm_core.proofs.Answering.Reaching.{reach_none}
use Rattle.pvm_core.proofs.NewCaches.Roomy.{IsRoomy}
use Rattle.pvm_core.proofs.Spanning.Reserved.{reserved}
use Rattle.pvm_core.proofs.Spanning.Transferring.{nothing_given_back}
use Rattle.pvm_core.specs.Locks.{any_locked}
use Rattle.pvm_core.proofs.Holding.Counted.{any_same, same_locked}
use Rattle.pvm_core.proofs.Holding.Kept.{held_released}
use Rattle.pvm_core.proofs.Holding.Loose.{unpinned_names, working_unpinned}
use Rattle.pvm_core.proofs.Translating.Cells.{roomier_right}
use Rattle.pvm_core.proofs.Translating.Left.{left_right}
use Rattle.pvm_core.proofs.Translating.Writable.{homes_writable}
use Rattle.pvm_core.proofs.Answering.Recorded.{asks_quiet, no_traffic, refused_seen}
use Rattle.pvm_core.proofs.pvm.Pvm.invalidate.Given.{Over}
use Rattle.pvm_core.proofs.pvm.Pvm.invalidate.Goals.{After-from_residual-in_err-save, After-invalidate_pages, After-reserve, After-save, After-self-2, In_default}
use Rattle.pvm_core.proofs.pvm.Pvm.invalidate.Goals as goal

pub returns-in-Some-clause-call : goal.returns-in-Some-clause-call
returns-in-Some-clause-call g c = refused_seen c.self.view_is c.requires.valid (λ valid.
    let h = g.M.Mapper.held c.args.mapper.now in
    let before = g.M.Mapper.counts c.args.mapper.now in
    let p : Manager = the_view c.self.inside in
    let i = c.self.invariant.sound in
    failed before before p p h h (commands.Invalidate c.args.extent) (Err (troubles.Refused c.in-Some.refusal)) (reach_none _ h before) i.nodes i.nodes valid refl refl tt tt
    (λ f s. invalidate_refused p f c.args.extent i.locked.counted c.in-Some.refusal (sym c.extent_refusal.ensures ∙ c.in-Some.is) (held_for (machine_by p f) s c.args.extent.cache.0)))

-- nothing refuses the extent
extent : (g : Over) (c : In_default g) → IsExtent c.self.inside.caches c.args.extent
extent g c = extent_open c.self.inside.caches c.args.extent (any_locked c.self.inside.caches c.args.extent) (sym c.extent_refusal.ensures ∙ c.in_default.is)

unlocked : (g : Over) (c : In_default g) → any_locked c.self.inside.caches c.args.extent ≡ false
unlocked g c = extent_unlocked (table_of c.self.inside.caches c.args.extent.cache.0) c.args.extent (any_locked c.self.inside.caches c.args.extent) (sym c.extent_refusal.ensures ∙ c.in_default.is)

-- room was taken
roomy : (g : Over) (c : After-reserve g) → IsRoomy c.self.inside.caches c.reserve.new.self c.self.inside.store c.self.inside.store c.self.inside.contexts c.self.inside.live
roomy g c =
    let i = c.self.inside in
    let r = c.reserve.ensures in
    reserved i.caches c.reserve.new.self i.store i.contexts i.live r.kept r.no_less.0 r.forest (r.sound c.self.invariant.sound.nodes.sound) c.self.invariant.sound

roomy_valid : (g : Over) (c : After-reserve g) → IsValid (seen c.reserve.new.self c.self.inside.store c.self.inside.contexts) (g.M.Mapper.held c.args.mapper.now)
roomy_valid g c = (roomy g c).valid (g.M.Mapper.held c.args.mapper.now) (valid_seen c.self.view_is c.requires.valid)

pub invariant_of-self : goal.invariant_of-self
invariant_of-self g c = record {
  sound = (roomy g (goal.at.invariant_of-self g c).After-reserve).sound;
  translated = roomier_right c.self.inside.caches c.reserve.new.self c.self.inside.store c.reserve.ensures.kept c.self.inside.contexts c.self.invariant.translated;
}

pub returns-in_err-reserve-clause-call : goal.returns-in_err-reserve-clause-call
returns-in_err-reserve-clause-call g c = record {
  valid = roomy_valid g (goal.at.returns-in_err-reserve-clause-call g c).After-reserve;
  answers = (
      let at = goal.at.returns-in_err-reserve-clause-call g c in
      let h = g.M.Mapper.held c.args.mapper.now in
      let before = g.M.Mapper.counts c.args.mapper.now in
      let i = c.self.inside in
      let r = roomy g at.After-reserve in
      let p : Manager = seen i.caches i.store i.contexts in
      let q : Manager = seen c.reserve.new.self i.store i.contexts in
      let command = commands.Invalidate c.args.extent in
      let is : c.from_residual.result ≡ Err troubles.Memory = err_is c.from_residual.result _ c.from_residual.ensures.1 in
      call_seen h c.self.view_is (subst (λ (r : Result _ _). CallIs before before (state_at p h) command (done_by r) (state_at q h)) (sym is)
      (failed before before p q h h command (Err troubles.Memory) (reach_none _ h before) c.self.invariant.sound.nodes r.sound.nodes (roomy_valid g at.After-reserve) (r.forest h) refl tt tt
      (λ f s. (
        r.by f,
        tt,
        subst (λ a. IsNotRefused a.answer) (sym (invalidate_row p f c.args.extent (extent g at.In_default) (any_same p f c.self.invariant.sound.locked.counted c.args.extent ∙ unlocked g at.In_default) (held_for (machine_by p f) s c.args.extent.cache.0))) tt,
      ))))
      );
  asks_first = asks_quiet (commands.Invalidate c.args.extent) (done_by c.from_residual.result) (g.M.Mapper.counts c.args.mapper.now) (g.M.Mapper.counts c.args.mapper.now) (no_traffic (g.M.Mapper.counts c.args.mapper.now));
  made = made_stays (machine_of c.args.self.now (g.M.Mapper.held c.args.mapper.now)) (commands.Invalidate c.args.extent) (done_by c.from_residual.result) (machine_of (seen c.reserve.new.self c.self.inside.store c.self.inside.contexts) (g.M.Mapper.held c.args.mapper.now)) (numbered c.args.self.now) (numbered (seen c.reserve.new.self c.self.inside.store c.self.inside.contexts)) (ap (λ a. a.made + a.copies) c.reserve.ensures.kept ∙ ap numbered c.self.view_is);
  room = refl;
  page = search rules;
}

pub invariant_of-self-2 : goal.invariant_of-self-2
invariant_of-self-2 g c = record {
  sound = (roomy g (goal.at.invariant_of-self-2 g c).After-reserve).sound;
  translated = roomier_right c.self.inside.caches c.reserve.new.self c.self.inside.store c.reserve.ensures.kept c.self.inside.contexts c.self.invariant.translated;
}

pub save-requires-clause-valid : goal.save-requires-clause-valid
save-requires-clause-valid g c = roomy_valid g (goal.at.save-requires-clause-valid g c).After-reserve

pub save-requires-clause-range : goal.save-requires-clause-range
save-requires-clause-range g c =
    let x = extent_by c.self.inside.caches c.reserve.new.self c.args.extent (ap (λ a. a.caches) c.reserve.ensures.kept) (extent g (goal.at.save-requires-clause-range g c).In_default) in
    record { pages = length x.table.pages; size = ap (option_map (λ (t : Table). length t.pages)) x.there; within = x.ends }

-- a page wasn't saved
unsaved : (g : Over) (c : After-from_residual-in_err-save g)
    → CallIs (g.M.Mapper.counts c.args.mapper.now) (g.M.Mapper.counts c.save.new.mapper) (state_at c.args.self.now (g.M.Mapper.held c.args.mapper.now)) (commands.Invalidate c.args.extent) (done_by c.from_residual-in_err-save.result) (state_at c.save.new.self (g.M.Mapper.held c.save.new.mapper))
    × RaisesMade (machine_of c.args.self.now (g.M.Mapper.held c.args.mapper.now)) (commands.Invalidate c.args.extent) (done_by c.from_residual-in_err-save.result) (machine_of c.save.new.self (g.M.Mapper.held c.save.new.mapper)) (numbered c.args.self.now) (numbered c.save.new.self)
    × AsksFirst (commands.Invalidate c.args.extent) (done_by c.from_residual-in_err-save.result) (g.M.Mapper.counts c.args.mapper.now) (g.M.Mapper.counts c.save.new.mapper)
unsaved g c =
    let at = goal.at.After-from_residual-in_err-save g c in
    let h = g.M.Mapper.held c.args.mapper.now in
    let z = g.M.Mapper.held c.save.new.mapper in
    let before = g.M.Mapper.counts c.args.mapper.now in
    let after = g.M.Mapper.counts c.save.new.mapper in
    let i = c.self.inside in
    let b = c.reserve.new.self in
    let r = roomy g at.After-reserve in
    let p : Manager = seen i.caches i.store i.contexts in
    let q : Manager = seen b i.store i.contexts in
    let x = extent_by i.caches b c.args.extent (ap (λ a. a.caches) c.reserve.ensures.kept) (extent g at.In_default) in
    let e = c.save.ensures in
    let trouble = c.in_err-save.field-0.0 in
    let free : (f : PageForest) → is_any_locked (machine_by q f) c.args.extent.cache c.args.extent.first.0 c.args.extent.pages ≡ false = λ f. any_same q f r.sound.locked.counted c.args.extent ∙ same_locked p q c.self.invariant.sound.locked.counted r.sound.locked.counted r.by c.args.extent ∙ unlocked g at.In_default in
    let same : numbered q ≡ numbered c.args.self.now = ap (λ a. a.made + a.copies) c.reserve.ensures.kept ∙ ap numbered c.self.view_is in
    rw (err_is c.from_residual-in_err-save.result _ c.from_residual-in_err-save.ensures.1) (
      call_seen h c.self.view_is (subst (λ (s : State). CallIs before after s (commands.Invalidate c.args.extent) (Err trouble) (state_at c.save.new.self z)) (r.state h)
          (unsaved_is q c.save.new.self h z before after c.args.extent x free r.sound.nodes e.valid e.keeps trouble c.in_err-save.ensures.failed c.in_err-save.ensures.cause)),
      subst (λ (n : ℕ). RaisesMade (machine_of c.args.self.now h) (commands.Invalidate c.args.extent) (Err trouble) (machine_of c.save.new.self (g.M.Mapper.held c.save.new.mapper)) n (numbered c.save.new.self)) same
          (unsaved_made q c.save.new.self h z before after c.args.extent x free r.sound.nodes e.valid e.keeps trouble c.in_err-save.ensures.failed (machine_of c.args.self.now h) (machine_of c.save.new.self (g.M.Mapper.held c.save.new.mapper))),
      unsaved_asks q c.save.new.self h z before after c.args.extent x free r.sound.nodes e.valid e.keeps trouble c.in_err-save.ensures.failed,
    )

pub returns-in_err-save-clause-call : goal.returns-in_err-save-clause-call
returns-in_err-save-clause-call g c = record {
  valid = search rules;
  answers = (unsaved g c).0;
  asks_first = (unsaved g c).2;
  made = (unsaved g c).1;
  room = refl;
  page = search rules;
}

-- the pages are saved, and may be taken
ready : (g : Over) (c : After-self-2 g)
    → IsTaking (seen c.self.inside.caches c.self.inside.store c.self.inside.contexts) (g.M.Mapper.held c.args.mapper.now) (g.M.Mapper.held c.save.new.mapper) c.self-2.inside.caches c.self-2.inside.store c.self-2.inside.contexts c.args.extent (g.M.Mapper.counts c.args.mapper.now) (g.M.Mapper.counts c.save.new.mapper)
ready g c =
    let at = goal.at.After-self-2 g c in
    let h = g.M.Mapper.held c.args.mapper.now in
    let z = g.M.Mapper.held c.save.new.mapper in
    let before = g.M.Mapper.counts c.args.mapper.now in
    let after = g.M.Mapper.counts c.save.new.mapper in
    let i = c.self.inside in
    let j = c.self-2.inside in
    let q : Manager = seen c.reserve.new.self i.store i.contexts in
    let r = roomy g at.After-reserve in
    let kept = c.reserve.ensures.kept in
    taking (seen i.caches i.store i.contexts) q h z before after j.caches j.store j.contexts c.args.extent (extent g at.In_default) (ap (λ a. a.caches) kept) (ap (λ a. a.made) kept) (ap (λ (s : State). s.machine) (r.state h)) r.by (r.forest h)
    (valid_seen c.self-2.view_is c.save.ensures.valid) (subst (λ (m : Manager). KeepsMachine q m h z before after) (sym c.self-2.view_is) c.save.ensures.keeps)
    (ap (λ (m : Manager). m.caches.caches) c.self-2.view_is ∙ c.save.ensures.tables) (ap (λ (m : Manager). forest_of m z) c.self-2.view_is ∙ c.in_ok-save.ensures.saved)

-- so many pages the cache has
size : (g : Over) (c : After-self-2 g) → size_of c.self-2.inside.caches c.args.extent.cache.0 ≡ Some (length (ready g c).extent.table.pages)
size g c = ap (option_map (λ (t : Table). length t.pages)) (ready g c).extent.there

-- and none of the extent is locked
unlocked_still : (g : Over) (c : After-self-2 g) → any_locked c.self-2.inside.caches c.args.extent ≡ false
unlocked_still g c =
    let i = c.self.inside in
    let j = c.self-2.inside in
    same_locked (seen i.caches i.store i.contexts) (seen j.caches j.store j.contexts) c.self.invariant.sound.locked.counted c.self-2.invariant.sound.locked.counted (ready g c).by c.args.extent ∙ unlocked g (goal.at.After-self-2 g c).In_default

pub invalidate_pages-requires-clause-nodes : goal.invalidate_pages-requires-clause-nodes
invalidate_pages-requires-clause-nodes g c =
    let at = (goal.at.invalidate_pages-requires-clause-nodes g c).After-self-2 in
    let r = ready g at in
    range_there c.self-2.inside.caches c.self-2.invariant.sound.nodes c.args.extent.cache c.args.extent.first.0 c.args.extent.pages (length r.extent.table.pages) (size g at) r.extent.ends

pub invalidate_pages-requires-clause-ready : goal.invalidate_pages-requires-clause-ready
invalidate_pages-requires-clause-ready g c =
    let at = (goal.at.invalidate_pages-requires-clause-ready g c).After-self-2 in
    let i = c.self.inside in
    let j = c.self-2.inside in
    let k = c.self-2.invariant.sound in
    let r = ready g at in
    record {
      retire = record {
        tied = tied_right (g.M.Mapper.held c.save.new.mapper) None j.caches j.store r.valid.right;
        whole = k.nodes;
        unpinned = unpinned_names j.caches j.store j.contexts.actors k.locked c.args.extent (unlocked_still g at);
        made = omega (arith, r.made, c.requires.made, ap numbered c.self.view_is, k.few, k.counted, size_le j.caches c.args.extent.cache.0 (length r.extent.table.pages) (size g at), r.extent.ends);
      };
      saved = λ named. taking_saved (seen i.caches i.store i.contexts) (g.M.Mapper.held c.args.mapper.now) (g.M.Mapper.held c.save.new.mapper) j.caches j.store j.contexts c.args.extent _ _ c.self.invariant.sound.nodes r k.nodes;
      working = working_unpinned j.caches j.store j.contexts.actors k.locked;
    }

pub invalidate_pages-requires-clause-room : goal.invalidate_pages-requires-clause-room
invalidate_pages-requires-clause-room g c =
    let at = (goal.at.invalidate_pages-requires-clause-room g c).After-self-2 in
    let j = c.self-2.inside in
    let k = c.self-2.invariant.sound in
    let r = ready g at in
    record {
      room = let same = ap (λ (m : Manager). m.caches.room.nodes) c.self-2.view_is ∙ ap (λ r. r.nodes) c.save.ensures.room in omega (arith, same, c.in_ok-reserve.ensures.nodes);
      few = omega (arith, forest_len j.caches, nodes_most k, k.few, k.counted, size_le j.caches c.args.extent.cache.0 (length r.extent.table.pages) (size g at), r.extent.ends);
    }

-- the pages are taken, and are what the segment holds
taken : (g : Over) (c : After-invalidate_pages g)
    → Ended c.args.self.now c.invalidate_pages.new.caches c.invalidate_pages.new.store c.self-2.inside.contexts c.self-2.inside.live (g.M.Mapper.held c.args.mapper.now) (g.M.Mapper.held c.save.new.mapper) (g.M.Mapper.counts c.args.mapper.now) (g.M.Mapper.counts c.save.new.mapper) (commands.Invalidate c.args.extent) (Ok replies.Done)
    × ArePushed (machine_of (seen c.invalidate_pages.new.caches c.invalidate_pages.new.store c.self-2.inside.contexts) (g.M.Mapper.held c.save.new.mapper)) (segments_of (g.M.Mapper.held c.save.new.mapper)) c.args.extent.cache.0 c.args.extent.first.0 (c.args.extent.first.0 + c.args.extent.pages)
taken g c =
    let at = (goal.at.After-invalidate_pages g c).After-self-2 in
    let h = g.M.Mapper.held c.args.mapper.now in
    let z = g.M.Mapper.held c.save.new.mapper in
    let before = g.M.Mapper.counts c.args.mapper.now in
    let after = g.M.Mapper.counts c.save.new.mapper in
    let i = c.self.inside in
    let j = c.self-2.inside in
    let k = c.self-2.invariant.sound in
    let p : Manager = seen i.caches i.store i.contexts in
    let r = ready g at in
    let e = c.invalidate_pages.ensures in
    let d = c.invalidate_pages.new.caches in
    let u = c.invalidate_pages.new.store in
    let tied = tied_right z None j.caches j.store r.valid.right in
    let right = e.pages.right (slots_enough j.caches d j.store u j.contexts j.live k e.kept.sizes e.kept.gives_back tied e.pages.whole) in
    let old : IsValid p h = valid_seen c.self.view_is c.requires.valid in
    let copies = taking_copies p h z j.caches j.store j.contexts c.args.extent before after c.self.invariant.sound.nodes r in
    let made : numbered (seen d u j.contexts) ≤ numbered p + 8 * (c.args.extent.pages + pages_in (cache_of (machine_of p h) c.args.extent.cache.0)) + 8 = omega (arith, copies, e.pages.settles.made, e.pages.settles.copies, r.made) in (
      subst (λ (p : Manager). Ended p d u j.contexts j.live h z before after (commands.Invalidate c.args.extent) (Ok replies.Done)) c.self.view_is (record {
        sound = changed_sound j.caches d j.store u j.contexts j.live k e.kept.sizes e.kept.gives_back tied e.pages.whole e.pages.settles.bounded (held_released _ j.caches d j.store u e.kept tied j.contexts k.nodes k.actors k.locked);
        valid = taken_valid p h z j.caches d j.store u j.contexts j.live k r.valid c.args.extent r.extent (unlocked_still g at) r.machine r.by c.self.invariant.sound.nodes old r.forest e.kept.sizes e.kept.gives_back tied e.pages.whole right e.rule.forest;
        answers = taken_is p h z j.caches d j.store u j.contexts j.live k r.valid c.args.extent r.extent (unlocked_still g at) r.machine r.by c.self.invariant.sound.nodes old r.forest e.kept.sizes e.kept.gives_back tied e.pages.whole right e.rule.forest before after r.reach;
        made = omega (arith, made);
      }),
      taken_pushed p h z j.caches d j.store u j.contexts j.live k r.valid c.args.extent r.extent (unlocked_still g at) r.machine r.by c.self.invariant.sound.nodes old r.forest e.kept.sizes e.kept.gives_back tied e.pages.whole right e.rule.forest,
    )

pub invariant_of-self-3 : goal.invariant_of-self-3
invariant_of-self-3 g c = record {
  sound = (taken g c).0.sound;
  translated = (
      let j = c.self-2.inside in
      let e = c.invalidate_pages.ensures in
      let d = c.invalidate_pages.new.caches in
      let u = c.invalidate_pages.new.store in
      left_right _ _ _ j.caches d j.store u j.contexts e.translations (λ actor page at is i. i) (homes_writable _ j.caches d e.kept.sizes e.kept.homes) c.self-2.invariant.translated
      );
}

pub returns-clause-call : goal.returns-clause-call
returns-clause-call g c = ended_call g.M.Mapper c.args.mapper.now c.save.new.mapper (taken g c).0 tt (search rules)

pub returns-clause-taken : goal.returns-clause-taken
returns-clause-taken g c = (taken g c).1

-- Copies and grants

pub returns-in-Some-clause-memory : goal.returns-in-Some-clause-memory
returns-in-Some-clause-memory g c = λ memory. absurd (let k : troubles.Refused c.in-Some.refusal ≡ troubles.Memory = cc memory in cc k)

pub returns-in-Some-clause-grants : goal.returns-in-Some-clause-grants
returns-in-Some-clause-grants g c = λ cache page. refl

pub returns-in_err-reserve-clause-copies : goal.returns-in_err-reserve-clause-copies
returns-in_err-reserve-clause-copies g c =
    let h = g.M.Mapper.held c.args.mapper.now in
    let i = c.self.inside in
    let p : Manager = seen i.caches i.store i.contexts in
    let q : Manager = seen c.reserve.new.self i.store i.contexts in
    let is : c.from_residual.result ≡ Err troubles.Memory = err_is c.from_residual.result _ c.from_residual.ensures.1 in
    subst (λ (p : Manager). CopiesSaved c.args.extent p h q c.from_residual.result) c.self.view_is
    (subst (λ (r : Result (Unit {0}) Trouble). CopiesSaved c.args.extent p h q r) (sym is) (ap (λ (k : Arena). k.copies) c.reserve.ensures.kept))

pub returns-in_err-reserve-clause-memory : goal.returns-in_err-reserve-clause-memory
returns-in_err-reserve-clause-memory g c = λ memory. (
  (let i = c.self.inside in subst (λ (p : Manager). HasMoreRoom p (seen c.reserve.new.self i.store i.contexts)) c.self.view_is (more_room i.caches i.caches c.reserve.new.self i.store i.contexts refl c.reserve.ensures.kept)),
  refl,
  refl,
)

pub returns-in_err-reserve-clause-grants : goal.returns-in_err-reserve-clause-grants
returns-in_err-reserve-clause-grants g c = subst (λ (p : Manager). SameGrants p.caches c.reserve.new.self) c.self.view_is (tables_grants c.self.inside.caches c.reserve.new.self (ap (λ (k : Arena). k.caches) c.reserve.ensures.kept))

pub returns-in_err-save-clause-copies : goal.returns-in_err-save-clause-copies
returns-in_err-save-clause-copies g c =
    let h = g.M.Mapper.held c.args.mapper.now in
    let i = c.self.inside in
    let p : Manager = seen i.caches i.store i.contexts in
    let q = c.save.new.self in
    let s = failed_save c.args.extent (seen c.reserve.new.self i.store i.contexts) q h (g.M.Mapper.held c.save.new.mapper) c.in_err-save.field-0.0 c.in_err-save.ensures.failed in
    rw (err_is c.from_residual-in_err-save.result _ c.from_residual-in_err-save.ensures.1)
    (subst (λ (p : Manager). CopiesSaved c.args.extent p h q (Err c.in_err-save.field-0.0)) c.self.view_is
    (subst (λ (t : Trouble). CopiesSaved c.args.extent p h q (Err t)) (sym s.1) (s.2.copies ∙ ap (λ (k : Arena). k.copies + s.0) c.reserve.ensures.kept)))

pub returns-in_err-save-clause-memory : goal.returns-in_err-save-clause-memory
returns-in_err-save-clause-memory g c = λ memory. absurd (
    let s = failed_save c.args.extent _ _ _ _ c.in_err-save.field-0.0 c.in_err-save.ensures.failed in
    let is = sym (err_is c.from_residual-in_err-save.result _ c.from_residual-in_err-save.ensures.1) ∙ memory in
    let t : c.in_err-save.field-0.0 ≡ troubles.Memory = cc is in
    let k : troubles.Memory ≡ troubles.Mapper (faults.Save s.0) = sym t ∙ s.1 in
    cc k)

-- the saves leave what is granted
saved_grants : (g : Over) (c : After-save g) → SameGrants c.args.self.now.caches c.save.new.self.caches
saved_grants g c = subst (λ (p : Manager). SameGrants p.caches c.save.new.self.caches) c.self.view_is (tables_grants c.self.inside.caches c.save.new.self.caches (c.save.ensures.tables ∙ ap (λ (k : Arena). k.caches) c.reserve.ensures.kept))

pub returns-in_err-save-clause-grants : goal.returns-in_err-save-clause-grants
returns-in_err-save-clause-grants g c = saved_grants g (goal.at.returns-in_err-save-clause-grants g c).After-save

pub returns-clause-copies : goal.returns-clause-copies
returns-clause-copies g c =
    let at = (goal.at.returns-clause-copies g c).After-self-2 in
    let h = g.M.Mapper.held c.args.mapper.now in
    let i = c.self.inside in
    let j = c.self-2.inside in
    let p : Manager = seen i.caches i.store i.contexts in
    let z : Manager = seen c.invalidate_pages.new.caches c.invalidate_pages.new.store j.contexts in
    subst (λ (p : Manager). CopiesSaved c.args.extent p h z (Ok tt)) c.self.view_is
    (c.invalidate_pages.ensures.pages.settles.copies ∙ taking_copied p h (g.M.Mapper.held c.save.new.mapper) j.caches j.store j.contexts c.args.extent _ _ c.self.invariant.sound.nodes (ready g at) (extent g (goal.at.returns-clause-copies g c).In_default))

pub returns-clause-idle : goal.returns-clause-idle
returns-clause-idle g c = λ saved.
    let i = c.self.inside in
    let j = c.self-2.inside in
    let q : Manager = seen c.reserve.new.self i.store i.contexts in
    let e = c.invalidate_pages.ensures in
    let idle = c.save.ensures.idle (λ x at. ap (λ f. is_unsaved f x) (c.reserve.ensures.forest ∙ ap (λ (p : Manager). arena.forest_of p.caches) c.self.view_is) ∙ saved x at) in
    let room : CopiesNothing c.args.self.now q = subst (λ (p : Manager). CopiesNothing p q) c.self.view_is (record { copies = ap (λ (k : Arena). k.copies) c.reserve.ensures.kept; held = λ f on. on; bytes = refl }) in (
      idle.2,
      idle.3,
      nothing_given_back c.args.self.now j.caches c.invalidate_pages.new.caches j.store c.invalidate_pages.new.store j.contexts (subst (CopiesNothing c.args.self.now) (sym (c.self-2.view_is ∙ idle.1)) room) e.pages.settles.copies
          (e.kept.gives_back None None (tied_right (g.M.Mapper.held c.save.new.mapper) None j.caches j.store (ready g (goal.at.returns-clause-idle g c).After-self-2).valid.right)),
    )

pub returns-clause-grants : goal.returns-clause-grants
returns-clause-grants g c = λ cache page. c.invalidate_pages.ensures.kept.homes.grants cache page
    ∙ ap (λ (m : Manager). is_granted m.caches cache page) c.self-2.view_is ∙ saved_grants g (goal.at.returns-clause-grants g c).After-save cache page
