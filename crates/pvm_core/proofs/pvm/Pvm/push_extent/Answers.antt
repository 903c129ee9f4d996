use Rattle.std.proofs.Common.{rules, ◌≡◌, ◌+◌, ◌*◌, arith, Bool, true, false, None, Some, refl, sym, ap, subst, ◌∙◌}
use Rattle.std.specs.Prelude.{◌&&◌, OnOk, Err, Result, option_map}
use Rattle.vm_ids.specs.declared.command.Command.{Command}
use Rattle.vm_ids.specs.declared.command.Command.TheVariants as commands
use Rattle.vm_ids.specs.declared.command.Extent.{Extent}
use Rattle.vm_ids.specs.declared.reply.Trouble.{Trouble}
use Rattle.vm_ids.specs.declared.reply.Trouble.TheVariants as troubles
use Rattle.local_cache.specs.Arena.{Arena, Table, table_of}
use Rattle.fault_path.specs.Costs.{TrafficAtMost}
use Rattle.segment_ops.specs.Synced.{AreSynced, unclean_count}
use Rattle.residency.specs.World.{world}
use Rattle.vm_model.specs.Answering.{Answer}
use Rattle.vm_model.specs.Run.{CallIs}
use Rattle.gmi_calls.specs.Calling.{AsksFirst, RaisesMade, done_by, MapperCall}
use Rattle.pvm_core.specs.Extents.{extent_refusal}
use Rattle.pvm_core.specs.Keeping.{SameMeaning}
use Rattle.pvm_core.specs.Locks.{any_locked}
use Rattle.pvm_core.specs.Manager.{Manager, machine_of, numbered, state_at, meaning}
use Rattle.pvm_core.specs.contracts.pvm.Pvm.{the_view}
use Rattle.pvm_core.proofs.Answering.Answered.{called, made_stays}
use Rattle.pvm_core.proofs.Answering.Recorded.{asks_failing, refused_seen}
use Rattle.pvm_core.proofs.Extents.Push.{all_unsized, failing, failing_ok, flush_is, never_refused, stop_unsized, sync_is}
use Rattle.pvm_core.proofs.Extents.Rows.{extent_open, extent_unlocked, flush_refused, sync_refused}
use Rattle.pvm_core.proofs.Answering.Kept.{seen, valid_seen, call_seen}
use Rattle.pvm_core.proofs.Answering.Standing.{Stands}
use Rattle.pvm_core.proofs.Readiness.Steps.{stands_pushed}
use Rattle.pvm_core.proofs.Answering.Reaching.{reach_none}
use Rattle.pvm_core.proofs.Holding.Counted.{any_same}
use Rattle.pvm_core.proofs.Holding.Loose.{loose_range}
use Rattle.pvm_core.proofs.Translating.Dropped.{dropped_right}
use Rattle.pvm_core.proofs.Translating.Writable.{tables_writable}
use Rattle.pvm_core.proofs.pvm.Pvm.push_extent.Given.{Over}
use Rattle.pvm_core.proofs.pvm.Pvm.push_extent.Goals.{After-push_range, Joined-push_range}
use Rattle.pvm_core.proofs.pvm.Pvm.push_extent.Goals as goal
use Rattle.pvm_core.proofs.pvm.Pvm.push_extent.Goals.{in-Ok, in-Err}

-- how the pages are refused, where it is known whether their frames are given up
any_or : (a : Arena) (e : Extent) (b c : Bool) → b ≡ c → extent_refusal (table_of a e.cache.0) (b && any_locked a e) e ≡ extent_refusal (table_of a e.cache.0) (c && any_locked a e) e
any_or a e b c same = ap (λ (b : Bool). extent_refusal (table_of a e.cache.0) (b && any_locked a e) e) same

none_locked : (a : Arena) (e : Extent) (b : Bool) → b ≡ true → extent_refusal (table_of a e.cache.0) (b && any_locked a e) e ≡ None → any_locked a e ≡ false
none_locked a e b up none = ap (λ (b : Bool). b && any_locked a e) (sym up) ∙ extent_unlocked (table_of a e.cache.0) e (b && any_locked a e) none

pub returns-in-Some-clause-sync : goal.returns-in-Some-clause-sync
returns-in-Some-clause-sync g c = λ keep. refused_seen c.self.view_is c.requires.valid (λ valid.
    let h = g.M.Mapper.held c.args.mapper.now in
    let before = g.M.Mapper.counts c.args.mapper.now in
    let p : Manager = the_view c.self.inside in
    let i = c.self.invariant.sound in
    called before before p p h h (commands.Sync c.args.extent) (Err (troubles.Refused c.in-Some.refusal)) (reach_none _ h before) i.nodes i.nodes valid refl (λ done m f s none. none) tt tt (λ f. refl) (λ page. refl)
    (λ f s. sync_refused p f c.args.extent c.in-Some.refusal (any_or c.self.inside.caches c.args.extent false c.args.give_up (sym keep) ∙ sym c.extent_refusal.ensures ∙ c.in-Some.is)))

pub returns-in-Some-clause-flush : goal.returns-in-Some-clause-flush
returns-in-Some-clause-flush g c = λ up. refused_seen c.self.view_is c.requires.valid (λ valid.
    let h = g.M.Mapper.held c.args.mapper.now in
    let before = g.M.Mapper.counts c.args.mapper.now in
    let p : Manager = the_view c.self.inside in
    let i = c.self.invariant.sound in
    called before before p p h h (commands.Flush c.args.extent) (Err (troubles.Refused c.in-Some.refusal)) (reach_none _ h before) i.nodes i.nodes valid refl (λ done m f s none. none) tt tt (λ f. refl) (λ page. refl)
    (λ f s. flush_refused p f c.args.extent i.locked.counted c.in-Some.refusal (any_or c.self.inside.caches c.args.extent true c.args.give_up (sym up) ∙ sym c.extent_refusal.ensures ∙ c.in-Some.is)))

pub returns-in-Some-clause-pushes : goal.returns-in-Some-clause-pushes
returns-in-Some-clause-pushes g c = record {
  stays = record { machine = refl; forest = refl };
  refused = λ r e. (refl, refl);
  synced = tt;
  most = record { pulled = λ low. omega arith; pushed = λ low. omega arith };
}

pub push_range-requires-clause-range : goal.push_range-requires-clause-range
push_range-requires-clause-range g c =
    let x = extent_open c.self.inside.caches c.args.extent _ (sym c.extent_refusal.ensures ∙ c.in_default.is) in
    record { pages = Rattle.std.specs.Prelude.length x.table.pages; size = ap (option_map (λ (t : Table). Rattle.std.specs.Prelude.length t.pages)) x.there; within = x.ends }

pub push_range-requires-clause-named : goal.push_range-requires-clause-named
push_range-requires-clause-named g c =
    let x = extent_open c.self.inside.caches c.args.extent _ (sym c.extent_refusal.ensures ∙ c.in_default.is) in
    (x.segment, ap (option_map (λ (t : Table). t.segment)) x.there ∙ ap Some x.of)

pub push_range-requires-clause-loose : goal.push_range-requires-clause-loose
push_range-requires-clause-loose g c = λ up.
    let i = c.self.inside in
    loose_range i.caches i.store i.contexts.actors c.self.invariant.sound.locked (g.M.Mapper.held c.args.mapper.now) (g.M.Mapper.page_bytes c.args.mapper.now) c.self.invariant.sound.nodes.sound c.args.extent (none_locked i.caches c.args.extent c.args.give_up up (sym c.extent_refusal.ensures ∙ c.in_default.is))

-- what the manager stands for stays
pushed : (g : Over) (c : After-push_range g) → Stands (seen c.self.inside.caches c.self.inside.store c.self.inside.contexts) c.push_range.new.caches c.push_range.new.store c.self.inside.contexts c.self.inside.live (g.M.Mapper.held c.args.mapper.now) (g.M.Mapper.held c.push_range.new.mapper) (g.M.Mapper.counts c.args.mapper.now) (g.M.Mapper.counts c.push_range.new.mapper)
pushed g c =
    let i = c.self.inside in
    let n = c.push_range.new in
    let e = c.push_range.ensures in
    stands_pushed i.caches n.caches i.store n.store (g.M.Mapper.held c.args.mapper.now) (g.M.Mapper.held n.mapper) (g.M.Mapper.page_bytes c.args.mapper.now) (g.M.Mapper.page_bytes c.push_range.new.mapper) i.contexts i.live c.self.invariant.sound _ _ e.stays e.forest (valid_seen c.self.view_is c.requires.valid)

pub invariant_of-self : goal.invariant_of-self
invariant_of-self g c = record {
  sound = (pushed g (goal.at.invariant_of-self g c).After-push_range).sound;
  translated = (
      let i = c.self.inside in
      let n = c.push_range.new in
      let e = c.push_range.ensures in
      dropped_right _ i.caches n.caches i.store n.store i.contexts e.drops (tables_writable i.caches n.caches e.stays.kept.nodes.caches) c.self.invariant.translated
      );
}

-- and nothing is numbered
numbers : (g : Over) (c : After-push_range g) (command : Command) (answer : Answer) → RaisesMade (machine_of c.args.self.now (g.M.Mapper.held c.args.mapper.now)) command answer (machine_of (seen c.push_range.new.caches c.push_range.new.store c.self.inside.contexts) (g.M.Mapper.held c.push_range.new.mapper)) (numbered c.args.self.now) (numbered (seen c.push_range.new.caches c.push_range.new.store c.self.inside.contexts))
numbers g c command answer =
    let same : numbered (seen c.push_range.new.caches c.push_range.new.store c.self.inside.contexts) ≡ numbered c.args.self.now = search rules in
    made_stays (machine_of c.args.self.now (g.M.Mapper.held c.args.mapper.now)) command answer (machine_of (seen c.push_range.new.caches c.push_range.new.store c.self.inside.contexts) (g.M.Mapper.held c.push_range.new.mapper)) (numbered c.args.self.now) (numbered (seen c.push_range.new.caches c.push_range.new.store c.self.inside.contexts)) same

-- the answer tells where the pushes stopped
turned : (g : Over) (c : Joined-push_range g) → failing c.push_range.result ≡ c.match-push_range.result
turned g c = elim c.match-push_range.branch [
  | in-Ok w ↦ ap failing w.in-Ok.is ∙ sym w.result-is
  | in-Err w ↦ ap failing w.in-Err.is ∙ sym w.result-is
]

-- so the call is that of this command
ended : (g : Over) (c : Joined-push_range g) (command : Command)
    → CallIs (g.M.Mapper.counts c.args.mapper.now) (g.M.Mapper.counts c.push_range.new.mapper) (state_at (seen c.self.inside.caches c.self.inside.store c.self.inside.contexts) (g.M.Mapper.held c.args.mapper.now)) command (done_by (failing c.push_range.result)) (state_at (seen c.push_range.new.caches c.push_range.new.store c.self.inside.contexts) (g.M.Mapper.held c.push_range.new.mapper))
    → MapperCall g.M.Mapper meaning c.args.mapper.now c.args.self.now command (done_by c.match-push_range.result) c.push_range.new.mapper (seen c.push_range.new.caches c.push_range.new.store c.self.inside.contexts)
ended g c command is = record {
  valid = (pushed g (goal.at.Joined-push_range g c).After-push_range).valid;
  answers = (
      let n = c.push_range.new in
      let before = g.M.Mapper.counts c.args.mapper.now in
      let after = g.M.Mapper.counts n.mapper in
      let z = state_at (seen n.caches n.store c.self.inside.contexts) (g.M.Mapper.held n.mapper) in
      call_seen (g.M.Mapper.held c.args.mapper.now) c.self.view_is (subst (λ (r : Result (Unit {0}) Trouble). CallIs before after (state_at (seen c.self.inside.caches c.self.inside.store c.self.inside.contexts) (g.M.Mapper.held c.args.mapper.now)) command (done_by r) z) (turned g c) is)
      );
  asks_first = subst (λ (r : Result (Unit {0}) Trouble). AsksFirst command (done_by r) (g.M.Mapper.counts c.args.mapper.now) (g.M.Mapper.counts c.push_range.new.mapper)) (turned g c) (asks_failing command c.push_range.result (g.M.Mapper.counts c.args.mapper.now) (g.M.Mapper.counts c.push_range.new.mapper));
  made = numbers g (goal.at.Joined-push_range g c).After-push_range command (done_by c.match-push_range.result);
  room = refl;
  page = search rules;
}

pub returns-clause-sync : goal.returns-clause-sync
returns-clause-sync g c = λ keep.
    let places = goal.at.returns-clause-sync g c in
    let i = c.self.inside in
    let n = c.push_range.new in
    let e = c.push_range.ensures in
    let k = g.M.Mapper.held n.mapper in
    let now = g.M.Mapper.page_bytes n.mapper in
    let p : Manager = seen i.caches i.store i.contexts in
    let x = extent_open i.caches c.args.extent _ (sym c.extent_refusal.ensures ∙ c.in_default.is) in
    let s = pushed g places.After-push_range in
    ended g places.Joined-push_range (commands.Sync c.args.extent)
    (sync_is p (seen n.caches n.store i.contexts) (g.M.Mapper.held c.args.mapper.now) k c.args.extent x c.self.invariant.sound.apart (g.M.Mapper.counts c.args.mapper.now) (g.M.Mapper.counts n.mapper) s.reach c.self.invariant.sound.nodes e.stays.whole s.valid e.stays.kept.nodes.caches s.forest s.by c.push_range.result
    (all_unsized k now n.caches n.store c.args.extent c.push_range.result e.synced) (stop_unsized k now n.caches n.store c.args.extent c.push_range.result e.failed) e.cause)

pub returns-clause-flush : goal.returns-clause-flush
returns-clause-flush g c = λ up.
    let places = goal.at.returns-clause-flush g c in
    let i = c.self.inside in
    let n = c.push_range.new in
    let e = c.push_range.ensures in
    let k = g.M.Mapper.held n.mapper in
    let now = g.M.Mapper.page_bytes n.mapper in
    let p : Manager = seen i.caches i.store i.contexts in
    let x = extent_open i.caches c.args.extent _ (sym c.extent_refusal.ensures ∙ c.in_default.is) in
    let s = pushed g places.After-push_range in
    ended g places.Joined-push_range (commands.Flush c.args.extent)
    (flush_is p (seen n.caches n.store i.contexts) (g.M.Mapper.held c.args.mapper.now) k c.args.extent x c.self.invariant.sound.apart (g.M.Mapper.counts c.args.mapper.now) (g.M.Mapper.counts n.mapper) s.reach c.self.invariant.sound.nodes e.stays.whole s.valid e.stays.kept.nodes.caches s.forest s.by c.push_range.result
    (all_unsized k now n.caches n.store c.args.extent c.push_range.result e.synced) (stop_unsized k now n.caches n.store c.args.extent c.push_range.result e.failed) e.cause
    (λ f. any_same p f c.self.invariant.sound.locked.counted c.args.extent ∙ none_locked i.caches c.args.extent c.args.give_up up (sym c.extent_refusal.ensures ∙ c.in_default.is)))

pub returns-clause-pushes : goal.returns-clause-pushes
returns-clause-pushes g c =
    let at = goal.at.returns-clause-pushes g c in
    let n = c.push_range.new in
    let e = c.push_range.ensures in
    let h = g.M.Mapper.held c.args.mapper.now in
    let k = g.M.Mapper.held n.mapper in
    let q : Manager = seen n.caches n.store c.self.inside.contexts in
    let told = turned g at.Joined-push_range in
    record {
      stays = (
          let s = pushed g at.After-push_range in
          subst (λ (p : Manager). SameMeaning p q h k) c.self.view_is (record { machine = s.machine; forest = s.forest })
          );
      refused = λ r is. absurd (never_refused c.push_range.result r (told ∙ is));
      synced = subst (λ (r : Result (Unit {0}) Trouble). OnOk r (AreSynced c.args.extent (c.args.extent.first.0 + c.args.extent.pages) (world k None n.caches n.store))) told
          (failing_ok _ c.push_range.result (all_unsized k (g.M.Mapper.page_bytes n.mapper) n.caches n.store c.args.extent c.push_range.result e.synced));
      most = (
          let x = c.args.extent in
          subst (λ (p : Manager). TrafficAtMost (unclean_count p.caches x.cache.0 x.first.0 x.pages) (2 * unclean_count p.caches x.cache.0 x.first.0 x.pages) (g.M.Mapper.counts c.args.mapper.now) (g.M.Mapper.counts n.mapper)) c.self.view_is e.most
          );
    }
