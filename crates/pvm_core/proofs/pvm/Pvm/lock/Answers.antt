use Rattle.std.proofs.Common.{rules, ◌≡◌, ◌+◌, ◌-◌, ◌<◌, ◌≤◌, ◌^◌, true, length, refl, sym, ap, subst, ◌∙◌, arith}
use Rattle.std.specs.Prelude.{Ok, Err, is_some, nat_lt}
use Rattle.gmi_calls.specs.Calling.{MapperCall}
use Rattle.pvm_core.proofs.Answering.Recorded.{refused_seen}
use Rattle.vm_ids.specs.Counting.{MapperCounts}
use Rattle.vm_ids.specs.declared.command.Command.TheVariants as commands
use Rattle.vm_ids.specs.declared.command.Mapping.{Mapping}
use Rattle.vm_ids.specs.declared.refusal.Refusal.{Refusal}
use Rattle.vm_ids.specs.declared.refusal.Refusal.TheVariants as refusals
use Rattle.vm_ids.specs.declared.reply.FaultAt.TheVariants as faults
use Rattle.vm_ids.specs.declared.reply.Reply.TheVariants as replies
use Rattle.vm_ids.specs.declared.reply.Trouble.TheVariants as troubles
use Rattle.vm_ids.specs.Forest.Commands.{extent_names}
use Rattle.vm_model.specs.Answering.{lock_of, refuse}
use Rattle.vm_model.specs.PageForest.{PageForest}
use Rattle.vm_model.specs.declared.limits.TheConstants.{UNLOCKED_FRAMES}
use Rattle.local_cache.specs.Arena.{locked_count}
use Rattle.local_cache.specs.Whole.{size_of}
use Rattle.local_cache.proofs.Tables.Sizes.{sizes_same}
use Rattle.residency.specs.Between.{world_at}
use Rattle.segment_ops.specs.Ranges.{HasRange}
use Rattle.segment_ops.proofs.Unsaved.{range_fits}
use Rattle.contexts.specs.Actors.{Actors}
use Rattle.contexts.proofs.RegionRows.{IsToldOf, lock_limit, lock_locked, lock_none, told_of, untold_of, with_locked}
use Rattle.pvm_core.specs.Holding.{AreOwned, FailedToHold, LocksMore, unlocked_in}
use Rattle.pvm_core.specs.Manager.{Manager, caches_shown, machine_by, machine_of, numbered, meaning}
use Rattle.pvm_core.proofs.Answering.Answered.{failed}
use Rattle.pvm_core.proofs.Answering.Ended.{Ended, ended_call}
use Rattle.pvm_core.proofs.Answering.Kept.{seen, valid_seen}
use Rattle.pvm_core.proofs.Answering.Reaching.{reach_none}
use Rattle.pvm_core.proofs.Locking.Calls.{fault_ended, few_locks, lock_ended, region_few}
use Rattle.pvm_core.proofs.Locking.Covered.{placed_with}
use Rattle.pvm_core.proofs.Locking.Limit.{limit_is, pages_of}
use Rattle.pvm_core.proofs.Locking.Regions.{placed_range}
use Rattle.pvm_core.specs.Translated.{AreTranslationsRight}
use Rattle.pvm_core.proofs.Translating.Relocked.{relocked_right}
use Rattle.pvm_core.proofs.pvm.Pvm.lock.Given.{Over}
use Rattle.pvm_core.proofs.pvm.Pvm.lock.Goals.{After-passes_limit, After-set_locked, After-status, In-Err, In-Some}
use Rattle.pvm_core.proofs.pvm.Pvm.lock.Goals as goal

-- a refusal leaves the manager
refused : (g : Over) (c : After-status g) (r : Refusal)
    → ((f : PageForest) → lock_of (machine_by (seen c.self.inside.caches c.self.inside.store c.self.inside.contexts) f) c.args.region.0 ≡ refuse (machine_by (seen c.self.inside.caches c.self.inside.store c.self.inside.contexts) f) r)
    → MapperCall g.M.Mapper meaning c.args.mapper.now c.args.self.now (commands.Lock c.args.region) (Err (troubles.Refused r)) c.args.mapper.now c.args.self.now
refused g c r row = refused_seen c.self.view_is c.requires.valid (λ valid.
    let i = c.self.inside in
    let h = g.M.Mapper.held c.args.mapper.now in
    let counts : MapperCounts = g.M.Mapper.counts c.args.mapper.now in
    let p : Manager = seen i.caches i.store i.contexts in
    failed counts counts p p h h (commands.Lock c.args.region) (Err (troubles.Refused r)) (reach_none (machine_of p h) h counts) c.self.invariant.sound.nodes c.self.invariant.sound.nodes valid refl refl tt tt (λ f s. row f))

pub returns-in_default-clause-call : goal.returns-in_default-clause-call
returns-in_default-clause-call g c =
    let i = c.self.inside in
    refused g (goal.at.returns-in_default-clause-call g c).After-status refusals.NoRegion
    (λ f. lock_none (caches_shown f 1 i.caches.caches) (length i.store.frames.held) i.contexts c.args.region.0 (untold_of c.args.region.0 i.contexts (sym c.status.ensures ∙ c.in_default.is)))

-- the region of which the status tells
told : (g : Over) (c : In-Some g) → IsToldOf c.args.region.0 c.self.inside.contexts c.in-Some.status
told g c = told_of c.args.region.0 c.self.inside.contexts c.in-Some.status (sym c.status.ensures ∙ c.in-Some.is)

-- its pages are there
range : (g : Over) (c : In-Some g) → HasRange c.self.inside.caches c.in-Some.status.mapping.extent
range g c =
    let i = c.self.inside in
    let r = told g c in
    let placed = placed_with (size_of i.caches) c.args.region.0 r.region i.contexts.actors c.self.invariant.sound.actors.placed r.found in
    subst (λ (m : Mapping). HasRange i.caches m.extent) (sym r.mapping) (placed_range i.caches i.caches r.region (sizes_same i.caches i.caches refl) placed)

pub returns-then-status-clause-call : goal.returns-then-status-clause-call
returns-then-status-clause-call g c =
    let i = c.self.inside in
    let at = goal.at.returns-then-status-clause-call g c in
    let r = told g at.In-Some in
    refused g at.After-status refusals.Locked
    (λ f. lock_locked (caches_shown f 1 i.caches.caches) (length i.store.frames.held) i.contexts c.args.region.0 r.region r.found (sym r.locked ∙ c.if-status.true))

pub passes_limit-requires : goal.passes_limit-requires
passes_limit-requires g c = omega (arith, range_fits c.self.inside.caches c.self.invariant.sound.nodes c.in-Some.status.mapping.extent (range g (goal.at.passes_limit-requires g c).In-Some))

-- whether its pages pass the limit of locked pages
limit : (g : Over) (c : After-passes_limit g) → nat_lt (length c.self.inside.store.frames.held - UNLOCKED_FRAMES) (locked_count c.self.inside.caches + unlocked_in c.self.inside.caches (pages_of (told g (goal.at.After-passes_limit g c).In-Some).region)) ≡ c.passes_limit.result
limit g c =
    let i = c.self.inside in
    ap (λ (m : Mapping). nat_lt (length i.store.frames.held - UNLOCKED_FRAMES) (locked_count i.caches + unlocked_in i.caches m.extent)) (sym (told g (goal.at.After-passes_limit g c).In-Some).mapping) ∙ sym c.passes_limit.ensures

pub returns-then-passes_limit-clause-call : goal.returns-then-passes_limit-clause-call
returns-then-passes_limit-clause-call g c =
    let i = c.self.inside in
    let at = goal.at.returns-then-passes_limit-clause-call g c in
    let r = told g at.In-Some in
    let free = sym r.locked ∙ c.if-status.false in
    refused g at.After-status refusals.LockLimit
    (λ f. lock_limit (caches_shown f 1 i.caches.caches) (length i.store.frames.held) i.contexts c.args.region.0 r.region r.found free
    (limit_is i.caches i.contexts c.self.invariant.sound.locked.counted c.self.invariant.sound.actors c.args.region.0 r.region r.found free f (length i.store.frames.held) ∙ limit g at.After-passes_limit ∙ c.if-passes_limit.true))

pub hold_pages-requires-clause-range : goal.hold_pages-requires-clause-range
hold_pages-requires-clause-range g c = range g (goal.at.hold_pages-requires-clause-range g c).In-Some

pub hold_pages-requires-clause-few : goal.hold_pages-requires-clause-few
hold_pages-requires-clause-few g c = λ page.
    let i = c.self.inside in
    few_locks i.caches i.contexts c.self.invariant.sound.locked.counted c.regions_made-made.result c.regions_made-made.ensures.living c.regions_made-made.ensures.most c.in-Some.status.mapping.extent.cache.0 page

pub hold_pages-requires-clause-copies : goal.hold_pages-requires-clause-copies
hold_pages-requires-clause-copies g c =
    let i = c.self.inside in
    let many : c.in-Some.status.mapping.extent.pages < 2 ^ 32 = region_few i.caches c.self.invariant.sound.nodes c.in-Some.status.mapping.extent (range g (goal.at.hold_pages-requires-clause-copies g c).In-Some) in
    let made : numbered (seen i.caches i.store i.contexts) ≤ 2 ^ 62 = subst (λ (p : Manager). numbered p ≤ 2 ^ 62) (sym c.self.view_is) c.requires.made in
    omega (arith, many, made)

-- the mapper failed at a page
faulted : (g : Over) (c : In-Err g)
    → Ended c.args.self.now c.hold_pages.new.caches c.hold_pages.new.store c.self.inside.contexts c.self.inside.live (g.M.Mapper.held c.args.mapper.now) (g.M.Mapper.held c.hold_pages.new.mapper) (g.M.Mapper.counts c.args.mapper.now) (g.M.Mapper.counts c.hold_pages.new.mapper) (commands.Lock c.args.region) (Err (troubles.Mapper (faults.Page c.in-Err.page)))
faulted g c =
    let i = c.self.inside in
    let n = c.hold_pages.new in
    let h = g.M.Mapper.held c.args.mapper.now in
    let k = g.M.Mapper.held n.mapper in
    let size = g.M.Mapper.page_bytes c.args.mapper.now in
    let now = g.M.Mapper.page_bytes n.mapper in
    let before : MapperCounts = g.M.Mapper.counts c.args.mapper.now in
    let after : MapperCounts = g.M.Mapper.counts n.mapper in
    let at = goal.at.In-Err g c in
    let r = told g at.In-Some in
    let e = c.in-Err.ensures in
    let stopped : FailedToHold (pages_of r.region) c.in-Err.page.0 (world_at g.M.Mapper c.args.mapper.now i.caches i.store) (world_at g.M.Mapper n.mapper n.caches n.store) = subst (λ (m : Mapping). FailedToHold m.extent c.in-Err.page.0 (world_at g.M.Mapper c.args.mapper.now i.caches i.store) (world_at g.M.Mapper n.mapper n.caches n.store)) r.mapping e.failed in
    subst (λ (p : Manager). Ended p n.caches n.store i.contexts i.live h k before after (commands.Lock c.args.region) (Err (troubles.Mapper (faults.Page c.in-Err.page)))) c.self.view_is
    (fault_ended i.caches n.caches i.store n.store h k size now before after e.alike i.contexts i.live c.self.invariant.sound c.args.region r.region r.found (sym r.locked ∙ c.if-status.false) (limit g at.After-passes_limit ∙ c.if-passes_limit.false) c.in-Err.page.0 e.held stopped e.cause
    (valid_seen c.self.view_is c.requires.valid))

pub invariant_of-self : goal.invariant_of-self
invariant_of-self g c = record {
  sound = (faulted g c).sound;
  translated = c.hold_pages.ensures.translated c.self.inside.contexts c.self.invariant.translated;
}

pub returns-in-Err-clause-call : goal.returns-in-Err-clause-call
returns-in-Err-clause-call g c = ended_call g.M.Mapper c.args.mapper.now c.hold_pages.new.mapper (faulted g c) tt (search rules)

-- the region is locked then
relocked : (g : Over) (c : After-set_locked g) → c.set_locked.new.self ≡ with_locked c.args.region.0 true c.self.inside.contexts
relocked g c = c.set_locked.ensures.changed (c.set_locked.ensures.found ∙ ap is_some (told g (goal.at.After-set_locked g c).In-Some).found)

locked : (g : Over) (c : After-set_locked g)
    → Ended c.args.self.now c.hold_pages.new.caches c.hold_pages.new.store c.set_locked.new.self c.self.inside.live (g.M.Mapper.held c.args.mapper.now) (g.M.Mapper.held c.hold_pages.new.mapper) (g.M.Mapper.counts c.args.mapper.now) (g.M.Mapper.counts c.hold_pages.new.mapper) (commands.Lock c.args.region) (Ok replies.Done)
locked g c =
    let i = c.self.inside in
    let n = c.hold_pages.new in
    let h = g.M.Mapper.held c.args.mapper.now in
    let k = g.M.Mapper.held n.mapper in
    let size = g.M.Mapper.page_bytes c.args.mapper.now in
    let now = g.M.Mapper.page_bytes n.mapper in
    let before : MapperCounts = g.M.Mapper.counts c.args.mapper.now in
    let after : MapperCounts = g.M.Mapper.counts n.mapper in
    let at = goal.at.After-set_locked g c in
    let r = told g at.In-Some in
    let e = c.in-Ok.ensures in
    let owned : AreOwned (extent_names (pages_of r.region)) (world_at g.M.Mapper c.args.mapper.now i.caches i.store) (world_at g.M.Mapper n.mapper n.caches n.store) = subst (λ (m : Mapping). AreOwned (extent_names m.extent) (world_at g.M.Mapper c.args.mapper.now i.caches i.store) (world_at g.M.Mapper n.mapper n.caches n.store)) r.mapping e.owned in
    subst (λ (p : Manager). Ended p n.caches n.store c.set_locked.new.self i.live h k before after (commands.Lock c.args.region) (Ok replies.Done)) c.self.view_is
    (subst (λ (t : Actors). Ended (seen i.caches i.store i.contexts) n.caches n.store t i.live h k before after (commands.Lock c.args.region) (Ok replies.Done)) (sym (relocked g c))
    (lock_ended i.caches n.caches i.store n.store h k size now before after e.alike i.contexts i.live c.self.invariant.sound c.args.region r.region r.found (sym r.locked ∙ c.if-status.false) (limit g at.After-passes_limit ∙ c.if-passes_limit.false) e.held
    (subst (λ (m : Mapping). LocksMore m.extent i.caches n.caches) r.mapping e.locks) owned (valid_seen c.self.view_is c.requires.valid)))

pub invariant_of-self-2 : goal.invariant_of-self-2
invariant_of-self-2 g c = record {
  sound = (locked g c).sound;
  translated = (
      let i = c.self.inside in
      let n = c.hold_pages.new in
      subst (AreTranslationsRight n.caches n.store) (sym (relocked g c)) (relocked_right n.caches n.store i.contexts c.args.region.0 true (c.hold_pages.ensures.translated i.contexts c.self.invariant.translated))
      );
}

pub returns-clause-call : goal.returns-clause-call
returns-clause-call g c = ended_call g.M.Mapper c.args.mapper.now c.hold_pages.new.mapper (locked g c) tt (search rules)
