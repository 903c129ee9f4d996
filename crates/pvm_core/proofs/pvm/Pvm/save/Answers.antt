use Rattle.std.proofs.Common.{rules, ◌≡◌, ℕ, true, is_some, sym, ap, subst, ◌∙◌}
use Rattle.std.specs.Prelude.{IfErr, IsSome, OnOk, Result, not}
use Rattle.residency.specs.Between.{world_at}
use Rattle.vm_ids.specs.Forest.Commands.{extent_names}
use Rattle.vm_ids.specs.Forest.Saving.{saved, saves, unsaved}
use Rattle.vm_ids.specs.declared.reply.Trouble.{Trouble}
use Rattle.residency.specs.StoreForest.{store_forest}
use Rattle.pvm_core.specs.Manager.{IsValid, Manager, forest_of}
use Rattle.pvm_core.specs.Keeping.{FillsOnly}
use Rattle.pvm_core.specs.Saving.{IsNotSaved, KeepsMachine, is_named}
use Rattle.pvm_core.proofs.Readiness.Filled.{fills_itself, seen_before}
use Rattle.pvm_core.proofs.Answering.Kept.{kept_sound, seen, sizeless, valid_seen}
use Rattle.pvm_core.proofs.Homes.Pushed.{values_reached}
use Rattle.pvm_core.proofs.Readiness.Saved.{all_saved, saved_keeps, saved_valid, saves_done}
use Rattle.pvm_core.proofs.Translating.Dropped.{dropped_right}
use Rattle.pvm_core.proofs.Translating.Writable.{tables_writable}
use Rattle.pvm_core.proofs.pvm.Pvm.save.Given.{Over}
use Rattle.pvm_core.proofs.pvm.Pvm.save.Goals as goal
use Rattle.pvm_core.proofs.pvm.Pvm.save.Goals.{After-save_range, in-Ok, in-Err}

-- so many saves were done
saves_made : (g : Over) (c : After-save_range g) → (m : ℕ) × (store_forest (world_at g.M.Mapper c.save_range.new.mapper c.save_range.new.caches c.save_range.new.store) ≡ saves m (extent_names c.args.range) (store_forest (world_at g.M.Mapper c.args.mapper.now c.self.inside.caches c.self.inside.store)))
saves_made g c = saves_done _ _ (extent_names c.args.range) c.save_range.result c.save_range.ensures.saved c.save_range.ensures.failed

-- the manager is valid still, whatever was saved, and stands for the same machine
kept : (g : Over) (c : After-save_range g)
    → IsValid (seen c.save_range.new.caches c.save_range.new.store c.self.inside.contexts) (g.M.Mapper.held c.save_range.new.mapper)
    × KeepsMachine c.args.self.now (seen c.save_range.new.caches c.save_range.new.store c.self.inside.contexts) (g.M.Mapper.held c.args.mapper.now) (g.M.Mapper.held c.save_range.new.mapper) (g.M.Mapper.counts c.args.mapper.now) (g.M.Mapper.counts c.save_range.new.mapper)
kept g c =
    let i = c.self.inside in
    let n = c.save_range.new in
    let e = c.save_range.ensures in
    let h = g.M.Mapper.held c.args.mapper.now in
    let k = g.M.Mapper.held n.mapper in
    let size = g.M.Mapper.page_bytes c.args.mapper.now in
    let then_size = g.M.Mapper.page_bytes n.mapper in
    let before = g.M.Mapper.counts c.args.mapper.now in
    let after = g.M.Mapper.counts n.mapper in
    let xs = extent_names c.args.range in
    let p : Manager = seen i.caches i.store i.contexts in
    let q : Manager = seen n.caches n.store i.contexts in
    let valid = valid_seen c.self.view_is c.requires.valid in
    let reach = values_reached p h c.self.invariant.sound.nodes c.self.invariant.sound.apart size then_size n.caches n.store k before after e.stays.later e.stays.told in
    let done = saves_made g c in (
      saved_valid i.caches n.caches i.store n.store h k size then_size e.stays.kept i.contexts i.live c.self.invariant.sound valid done.0 xs done.1 before after reach,
      subst (λ (p : Manager). KeepsMachine p q h k before after) c.self.view_is
          (saved_keeps i.caches n.caches i.store n.store h k size then_size e.stays.kept i.contexts i.live c.self.invariant.sound valid done.0 xs done.1 before after reach),
    )

pub invariant_of-self : goal.invariant_of-self
invariant_of-self g c =
    let i = c.self.inside in
    let n = c.save_range.new in
    let e = c.save_range.ensures in
    let valid = valid_seen c.self.view_is c.requires.valid in
    record {
      sound = kept_sound i.caches n.caches i.store n.store (g.M.Mapper.held c.args.mapper.now) (g.M.Mapper.held n.mapper) (g.M.Mapper.page_bytes c.args.mapper.now) (g.M.Mapper.page_bytes n.mapper) e.stays.kept i.contexts i.live c.self.invariant.sound valid.right.tied.placed.bound;
      translated = dropped_right _ i.caches n.caches i.store n.store i.contexts e.drops (tables_writable i.caches n.caches e.stays.kept.nodes.caches) c.self.invariant.translated;
    }

-- a segment names the cache
named : (g : Over) (c : After-save_range g) → is_named c.self.inside.caches c.args.range.cache.0 ≡ true
named g c = ap is_some (sym c.segment.ensures) ∙ c.is_none.ensures ∙ ap not c.if-is_none.false

-- the forest before, whatever the size of a page
before_is : (g : Over) (c : After-save_range g) → store_forest (world_at g.M.Mapper c.args.mapper.now c.self.inside.caches c.self.inside.store) ≡ forest_of (seen c.self.inside.caches c.self.inside.store c.self.inside.contexts) (g.M.Mapper.held c.args.mapper.now)
before_is g c = sizeless (g.M.Mapper.held c.args.mapper.now) (g.M.Mapper.page_bytes c.args.mapper.now) c.self.inside.caches c.self.inside.store

-- and after
after_is : (g : Over) (c : After-save_range g) → forest_of (seen c.save_range.new.caches c.save_range.new.store c.self.inside.contexts) (g.M.Mapper.held c.save_range.new.mapper) ≡ store_forest (world_at g.M.Mapper c.save_range.new.mapper c.save_range.new.caches c.save_range.new.store)
after_is g c = sym (sizeless (g.M.Mapper.held c.save_range.new.mapper) (g.M.Mapper.page_bytes c.save_range.new.mapper) c.save_range.new.caches c.save_range.new.store)

pub returns-then-is_none-clause-fills : goal.returns-then-is_none-clause-fills
returns-then-is_none-clause-fills g c = fills_itself c.args.range (λ x. ⊥) c.args.self.now

pub returns : goal.returns
returns g c =
    let i = c.self.inside in
    let at = (goal.at.returns g c).After-save_range in
    let xs = extent_names c.args.range in
    let h = g.M.Mapper.held c.args.mapper.now in
    let p : Manager = seen i.caches i.store i.contexts in
    let now = forest_of (seen c.save_range.new.caches c.save_range.new.store i.contexts) (g.M.Mapper.held c.save_range.new.mapper) in
    let k = g.M.Mapper.held c.save_range.new.mapper in
    let q : Manager = seen c.save_range.new.caches c.save_range.new.store i.contexts in
    let n = c.save_range.new in
    let e = c.save_range.ensures in
    let w = world_at g.M.Mapper c.args.mapper.now i.caches i.store in
    let v = world_at g.M.Mapper n.mapper n.caches n.store in
    let valid = valid_seen c.self.view_is c.requires.valid in
    let done = saves_made g (goal.at.returns g c).After-save_range in
    record {
      valid = (kept g (goal.at.returns g c).After-save_range).0;
      keeps = (kept g (goal.at.returns g c).After-save_range).1;
      whole = c.save_range.ensures.stays.whole;
      tables = search rules;
      room = search rules;
      fills = (subst (λ (p : Manager). FillsOnly c.args.range (λ x. ⊥) p (seen n.caches n.store i.contexts)) c.self.view_is
          (λ x frame live out apart shown. seen_before w v c.self.invariant.sound.nodes.sound c.self.invariant.sound.nodes.consistent.shaped e.stays.kept.sound e.stays.kept.shaped e.stays.kept.nodes done.0 xs done.1
          c.save_range.result valid.right.tied.placed e.stays.kept.right.tied.placed e.frames x frame apart shown));
      saved = (subst (λ (p : Manager). OnOk c.match-save_range.result (now ≡ saved (is_named p.caches c.args.range.cache.0) xs (forest_of p h))) c.self.view_is (elim c.match-save_range.branch [
        | in-Ok b ↦ subst (λ (r : Result _ Trouble). OnOk r (now ≡ saved (is_named i.caches c.args.range.cache.0) xs (forest_of p h))) (sym b.result-is)
            (after_is g at ∙ b.in-Ok.ensures.saved ∙ all_saved (is_named i.caches c.args.range.cache.0) xs _ (named g at) ∙ ap (saved (is_named i.caches c.args.range.cache.0) xs) (before_is g at))
        | in-Err b ↦ subst (λ (r : Result _ Trouble). OnOk r (now ≡ saved (is_named i.caches c.args.range.cache.0) xs (forest_of p h))) (sym b.result-is) tt
      ]));
      failed = (let at = (goal.at.returns g c).After-save_range in
          subst (λ (p : Manager). IfErr c.match-save_range.result (IsNotSaved c.args.range p h q k)) c.self.view_is (elim c.match-save_range.branch [
            | in-Ok b ↦ subst (λ (r : Result _ Trouble). IfErr r (IsNotSaved c.args.range p h q k)) (sym b.result-is) tt
            | in-Err b ↦ subst (λ (r : Result _ Trouble). IfErr r (IsNotSaved c.args.range p h q k)) (sym b.result-is) (record {
              named = named g at;
              forest = after_is g at ∙ b.in-Err.ensures.failed.forest ∙ ap (saves b.in-Err.done xs) (before_is g at);
              left = λ m less. subst (λ f. IsSome (unsaved (saves m xs f) xs)) (before_is g at) (b.in-Err.ensures.failed.left m less);
              copies = b.in-Err.ensures.copied;
            })
          ]));
      cause = search rules;
      page = search rules;
      temporary = search rules;
      idle = search rules;
    }
