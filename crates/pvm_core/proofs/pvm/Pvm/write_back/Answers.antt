use Rattle.std.proofs.Common.{rules, ◌≡◌, ℕ, ◌+◌, ◌≤◌, true, false, Some, is_some, sym, ap, subst, ◌∙◌, arith}
use Rattle.std.specs.Prelude.{IfErr, OnOk, not, option_map}
use Rattle.pvm_core.specs.Translated.{AreTranslationsRight}
use Rattle.residency.specs.Between.{world_at}
use Rattle.vm_ids.specs.Forest.Commands.{extent_names}
use Rattle.vm_ids.specs.Forest.Saving.{saved}
use Rattle.local_cache.specs.Arena.{Table}
use Rattle.local_cache.proofs.Tables.Sizes.{sizes_same}
use Rattle.segment_ops.specs.Ranges.{HasRange}
use Rattle.segment_ops.specs.Synced.{AreSynced}
use Rattle.vm_model.specs.Machine.{Machine}
use Rattle.vm_model.specs.Pushing.{PushRule}
use Rattle.vm_model.specs.Synchronised.{ArePushed}
use Rattle.vm_ids.specs.Held.{segments_of}
use Rattle.pvm_core.specs.Manager.{Manager, forest_of, machine_of}
use Rattle.pvm_core.specs.Saving.{FailedToPush, IsNotWrittenBack, IsPushed, IsWrittenBack, is_named}
use Rattle.pvm_core.proofs.Destroying.Written.{extent_named, still_pushed, unnamed_written, unsaved_written}
use Rattle.pvm_core.proofs.Extents.Rows.{IsExtent}
use Rattle.pvm_core.proofs.Extents.Synced.{are_pushed, synced_unsized}
use Rattle.pvm_core.proofs.Answering.Kept.{seen, valid_seen}
use Rattle.pvm_core.proofs.Readiness.Readying.{if_err_by, keeps_then, named_same, on_ok_by, saved_all}
use Rattle.pvm_core.proofs.Readiness.Steps.{Keeps, keeps_pushed, keeps_seen}
use Rattle.pvm_core.proofs.Meaning.Values.{consistent_of}
use Rattle.pvm_core.proofs.Translating.Dropped.{dropped_right}
use Rattle.pvm_core.proofs.Translating.Writable.{tables_writable}
use Rattle.pvm_core.proofs.pvm.Pvm.write_back.Given.{Over}
use Rattle.pvm_core.proofs.pvm.Pvm.write_back.Goals.{After-push_range, After-save}
use Rattle.pvm_core.proofs.pvm.Pvm.write_back.Goals as goal

pub returns-then-is_none-clause-written : goal.returns-then-is_none-clause-written
returns-then-is_none-clause-written g c =
    let h = g.M.Mapper.held c.args.mapper.now in
    let i = c.self.inside in
    let none : is_named i.caches c.args.range.cache.0 ≡ false = ap is_some (sym c.segment.ensures) ∙ c.is_none.ensures ∙ ap not c.if-is_none.true in
    subst (λ (p : Manager). IsWrittenBack c.args.range p p h h) c.self.view_is (unnamed_written (seen i.caches i.store i.contexts) h c.args.range none)

pub push_range-requires-clause-named : goal.push_range-requires-clause-named
push_range-requires-clause-named g c =
    let i = c.self.inside in
    let s = c.args.range in
    let named : is_named i.caches s.cache.0 ≡ true = ap is_some (sym c.segment.ensures) ∙ c.is_none.ensures ∙ ap not c.if-is_none.false in
    let x = extent_named i.caches s (subst (λ (p : Manager). HasRange p.caches s) (sym c.self.view_is) c.requires.range) named in
    (x.segment, ap (option_map (λ (t : Table). t.segment)) x.there ∙ ap Some x.of)

-- the range was pushed, as far as it went
pushed : (g : Over) (c : After-push_range g) → Keeps (seen c.self.inside.caches c.self.inside.store c.self.inside.contexts) c.push_range.new.caches c.push_range.new.store c.self.inside.contexts c.self.inside.live (g.M.Mapper.held c.args.mapper.now) (g.M.Mapper.held c.push_range.new.mapper) (g.M.Mapper.counts c.args.mapper.now) (g.M.Mapper.counts c.push_range.new.mapper)
pushed g c =
    let i = c.self.inside in
    let n = c.push_range.new in
    let e = c.push_range.ensures in
    keeps_pushed i.caches n.caches i.store n.store (g.M.Mapper.held c.args.mapper.now) (g.M.Mapper.held n.mapper) (g.M.Mapper.page_bytes c.args.mapper.now) (g.M.Mapper.page_bytes c.push_range.new.mapper) i.contexts i.live c.self.invariant.sound _ _ e.stays e.forest (valid_seen c.self.view_is c.requires.valid)

-- a segment names the cache
named : (g : Over) (c : After-push_range g) → is_named c.self.inside.caches c.args.range.cache.0 ≡ true
named g c = ap is_some (sym c.segment.ensures) ∙ c.is_none.ensures ∙ ap not c.if-is_none.false

extent : (g : Over) (c : After-push_range g) → IsExtent c.self.inside.caches c.args.range
extent g c = extent_named c.self.inside.caches c.args.range (subst (λ (p : Manager). HasRange p.caches c.args.range) (sym c.self.view_is) c.requires.range) (named g c)

-- it holds the pages before this one
home : (g : Over) (c : After-push_range g) (past : ℕ) → past ≤ c.args.range.first.0 + c.args.range.pages → AreSynced c.args.range past (world_at g.M.Mapper c.push_range.new.mapper c.push_range.new.caches c.push_range.new.store)
    → ArePushed (machine_of (seen c.self.inside.caches c.self.inside.store c.self.inside.contexts) (g.M.Mapper.held c.args.mapper.now)) (segments_of (g.M.Mapper.held c.push_range.new.mapper)) c.args.range.cache.0 c.args.range.first.0 past
home g c past low synced =
    let n = c.push_range.new in
    let e = c.push_range.ensures in
    let k = pushed g c in
    are_pushed (seen c.self.inside.caches c.self.inside.store c.self.inside.contexts) (g.M.Mapper.held c.args.mapper.now) c.self.invariant.sound.apart c.args.range (extent g c) n.caches n.store (g.M.Mapper.held n.mapper) e.stays.whole k.valid.right e.stays.kept.nodes.caches k.forest.forest past low
    (synced_unsized (g.M.Mapper.held n.mapper) (g.M.Mapper.page_bytes n.mapper) n.caches n.store c.args.range past synced)

translated : (g : Over) (c : After-push_range g) → AreTranslationsRight c.push_range.new.caches c.push_range.new.store c.self.inside.contexts
translated g c =
    let i = c.self.inside in
    let e = c.push_range.ensures in
    dropped_right _ i.caches c.push_range.new.caches i.store c.push_range.new.store i.contexts e.drops (tables_writable i.caches c.push_range.new.caches e.stays.kept.nodes.caches) c.self.invariant.translated

pub invariant_of-self : goal.invariant_of-self
invariant_of-self g c =
    let at = (goal.at.invariant_of-self g c).After-push_range in
    record { sound = (pushed g at).sound; translated = translated g at }

pub returns-in-Err-clause-valid : goal.returns-in-Err-clause-valid
returns-in-Err-clause-valid g c = (pushed g (goal.at.returns-in-Err-clause-valid g c).After-push_range).valid

pub returns-in-Err-clause-keeps : goal.returns-in-Err-clause-keeps
returns-in-Err-clause-keeps g c = keeps_seen c.self.view_is (pushed g (goal.at.returns-in-Err-clause-keeps g c).After-push_range).machine

pub returns-in-Err-clause-not_written : goal.returns-in-Err-clause-not_written
returns-in-Err-clause-not_written g c =
    let q : Manager = seen c.push_range.new.caches c.push_range.new.store c.self.inside.contexts in
    let page = c.in-Err.page.0 in
    let stop = c.in-Err.ensures.failed in
    let at = (goal.at.returns-in-Err-clause-not_written g c).After-push_range in
    subst (λ (p : Manager). FailedToPush c.args.range page p q (g.M.Mapper.held c.args.mapper.now) (g.M.Mapper.held c.push_range.new.mapper)) c.self.view_is
    (record { named = named g at; kept = (pushed g at).forest; stop = stop.0; pushed = home g at page (let low = stop.0.1 in omega (arith, low)) stop.1 })

pub invariant_of-self-2 : goal.invariant_of-self-2
invariant_of-self-2 g c =
    let at = (goal.at.invariant_of-self-2 g c).After-push_range in
    record { sound = (pushed g at).sound; translated = translated g at }

pub save-requires-clause-valid : goal.save-requires-clause-valid
save-requires-clause-valid g c = (pushed g (goal.at.save-requires-clause-valid g c).After-push_range).valid

-- and all of them after the saves
still_home : (g : Over) (c : After-save g) → AreSynced c.args.range (c.args.range.first.0 + c.args.range.pages) (world_at g.M.Mapper c.push_range.new.mapper c.push_range.new.caches c.push_range.new.store)
    → IsPushed c.args.range (seen c.self.inside.caches c.self.inside.store c.self.inside.contexts) (g.M.Mapper.held c.args.mapper.now) (g.M.Mapper.held c.save.new.mapper)
still_home g c synced =
    let at = (goal.at.After-save g c).After-push_range in
    let s = c.args.range in
    let p : Manager = seen c.self.inside.caches c.self.inside.store c.self.inside.contexts in
    let h = g.M.Mapper.held c.args.mapper.now in
    let k = g.M.Mapper.held c.push_range.new.mapper in
    let l = g.M.Mapper.held c.save.new.mapper in
    let reach = c.save.ensures.keeps.reach in
    let rule : PushRule (machine_of p h) (segments_of k) reach.pushes (segments_of l) = subst (λ (m : Machine). PushRule m (segments_of k) reach.pushes (segments_of l)) (pushed g at).machine.machine reach.rule in
    still_pushed p h s (extent g at) c.self.invariant.sound.apart k l reach.pushes rule (home g at (s.first.0 + s.pages) (omega arith) synced)

pub returns : goal.returns
returns g c =
    let h = g.M.Mapper.held c.args.mapper.now in
    let l = g.M.Mapper.held c.save.new.mapper in
    let i = c.self.inside in
    let b = c.push_range.new.caches in
    let s = c.args.range in
    let p : Manager = seen i.caches i.store i.contexts in
    let r = c.save.new.self in
    let t = c.save.ensures in
    let k = pushed g (goal.at.returns g c).After-push_range in
    let named_q = named_same i.caches b k.machine.same s.cache.0 in
    let q : Manager = seen c.push_range.new.caches c.push_range.new.store i.contexts in
    record {
      valid = search rules;
      keeps = keeps_seen c.self.view_is (keeps_then _ _ _ _ _ _ _ _ _ (pushed g (goal.at.returns g c).After-push_range).machine c.save.ensures.keeps);
      whole = search rules;
      written = (subst (λ (p : Manager). OnOk c.save.result (IsWrittenBack s p r h l)) c.self.view_is (on_ok_by c.save.result (λ f. (
          let then : forest_of r l ≡ saved (is_named i.caches s.cache.0) (extent_names s) (forest_of p h) = f ∙ (λ j. saved (named_q j) (extent_names s) (k.forest.forest j)) in
          record {
            forest = then;
            pushed = still_home g (goal.at.returns g c).After-save c.in-Ok.ensures.synced;
            saved_now = saved_all r l s (forest_of p h) t.whole (consistent_of p h c.self.invariant.sound.nodes) (is_named i.caches s.cache.0) (named_same b r.caches (sizes_same b r.caches t.tables) s.cache.0 ∙ named_q) then;
          })) t.saved));
      not_written = (let k = pushed g (goal.at.returns g c).After-push_range in
          subst (λ (p : Manager). IfErr c.save.result (IsNotWrittenBack s p h r l)) c.self.view_is
          (if_err_by c.save.result (unsaved_written s p q r h (g.M.Mapper.held c.push_range.new.mapper) l (named_same i.caches c.push_range.new.caches k.machine.same s.cache.0) k.forest (still_home g (goal.at.returns g c).After-save c.in-Ok.ensures.synced)) c.save.ensures.failed));
      cause = search rules;
      page = search rules;
      temporary = search rules;
    }
