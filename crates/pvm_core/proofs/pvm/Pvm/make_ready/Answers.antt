use Rattle.std.proofs.Common.{rules, ◌≡◌, ◌≤◌, Some, refl, sym, ap, subst, ◌∙◌, inl, inr}
use Rattle.std.specs.Prelude.{IfErr, OnOk, Ok, Err, Result}
use Rattle.pvm_core.specs.Translated.{AreTranslationsRight}
use Rattle.std.proofs.result.Match.{err_is}
use Rattle.vm_ids.specs.declared.reply.Trouble.{Trouble}
use Rattle.vm_ids.specs.declared.reply.Trouble.TheVariants as troubles
use Rattle.vm_ids.specs.Forest.Commands.{extent_names}
use Rattle.vm_ids.specs.Forest.Saving.{is_unsaved, saved}
use Rattle.local_cache.specs.Arena.{Arena, Room, table_of}
use Rattle.local_cache.specs.Reading as arena
use Rattle.local_cache.specs.Whole.{size_of}
use Rattle.local_cache.proofs.Tables.Sizes.{sizes_same}
use Rattle.pvm_core.specs.Keeping.{CopiesNothing, FillsOnly, HasMoreRoom}
use Rattle.pvm_core.specs.Manager.{Manager, forest_of}
use Rattle.pvm_core.specs.Saving.{IsNotReady, IsMadeReady, NeedsNoSave, NeedsNothing, is_named}
use Rattle.pvm_core.specs.Writes.{GrantsWithin, IsNotGranted, OnlyAsked}
use Rattle.pvm_core.proofs.Readiness.Granted.{tables_grants, unnamed_of, within_then}
use Rattle.pvm_core.proofs.Readiness.Filled.{fills_itself, fills_later}
use Rattle.pvm_core.proofs.Readiness.Steps.{Keeps, keeps_granted, keeps_reserved, keeps_seen}
use Rattle.pvm_core.proofs.Answering.Kept.{seen, valid_seen}
use Rattle.pvm_core.proofs.Readiness.Readying.{failed_save, more_room, no_save, roomier_granted, ungranted_ready, if_err_all, if_err_by, keeps_then, named_same, on_ok_by, saved_all, unsaved_ready, writable_same}
use Rattle.pvm_core.proofs.Meaning.Values.{consistent_of}
use Rattle.pvm_core.proofs.Translating.Cells.{granted_right, roomier_right}
use Rattle.pvm_core.proofs.pvm.Pvm.make_ready.Given.{Over}
use Rattle.pvm_core.proofs.pvm.Pvm.make_ready.Goals.{After-grant_range, After-reserve, After-save}
use Rattle.pvm_core.proofs.pvm.Pvm.make_ready.Goals as goal

-- pages were granted
granted : (g : Over) (c : After-grant_range g) → Keeps (seen c.self.inside.caches c.self.inside.store c.self.inside.contexts) c.grant_range.new.caches c.self.inside.store c.self.inside.contexts c.self.inside.live (g.M.Mapper.held c.args.mapper.now) (g.M.Mapper.held c.grant_range.new.mapper) (g.M.Mapper.counts c.args.mapper.now) (g.M.Mapper.counts c.grant_range.new.mapper)
granted g c =
    let i = c.self.inside in
    let e = c.grant_range.ensures in
    keeps_granted i.caches c.grant_range.new.caches i.store i.contexts i.live (g.M.Mapper.held c.args.mapper.now) (g.M.Mapper.held c.grant_range.new.mapper) (g.M.Mapper.page_bytes c.args.mapper.now) (g.M.Mapper.page_bytes c.grant_range.new.mapper) _ _ c.self.invariant.sound e.nodes e.held e.forest e.right e.later
    (valid_seen c.self.view_is c.requires.valid)

-- and room was reserved
reserved : (g : Over) (c : After-reserve g) → Keeps (seen c.self.inside.caches c.self.inside.store c.self.inside.contexts) c.reserve.new.self c.self.inside.store c.self.inside.contexts c.self.inside.live (g.M.Mapper.held c.args.mapper.now) (g.M.Mapper.held c.grant_range.new.mapper) (g.M.Mapper.counts c.args.mapper.now) (g.M.Mapper.counts c.grant_range.new.mapper)
reserved g c =
    let k = granted g (goal.at.After-reserve g c).After-grant_range in
    let r = c.reserve.ensures in
    keeps_reserved _ c.grant_range.new.caches c.reserve.new.self _ _ _ _ _ _ _ k r.kept r.no_less.0 r.forest (r.sound k.sound.nodes.sound)

-- where no page has to be granted, nothing happened
unasked : (g : Over) (c : After-grant_range g) → NeedsNothing c.args.self.now.caches c.args.range → (c.grant_range.result ≡ Ok tt) × (c.grant_range.new.caches ≡ c.self.inside.caches) × (c.grant_range.new.mapper ≡ c.args.mapper.now)
unasked g c nothing =
    let i = c.self.inside in
    elim (subst (λ (p : Manager). NeedsNothing p.caches c.args.range) (sym c.self.view_is) nothing) [
      | inl none ↦ c.grant_range.ensures.temporary (unnamed_of (table_of i.caches c.args.range.cache.0) c.requires.range.pages (subst (λ (p : Manager). size_of p.caches c.args.range.cache.0 ≡ Some c.requires.range.pages) (sym c.self.view_is) c.requires.range.size) none)
      | inr all ↦ c.grant_range.ensures.idle all.0
    ]

pub invariant_of-self : goal.invariant_of-self
invariant_of-self g c = record {
  sound = (granted g (goal.at.invariant_of-self g c).After-grant_range).sound;
  translated = (
      let i = c.self.inside in
      granted_right i.caches c.grant_range.new.caches i.store c.grant_range.ensures.nodes i.contexts c.self.invariant.translated
      );
}

pub returns-in_err-grant_range-clause-valid : goal.returns-in_err-grant_range-clause-valid
returns-in_err-grant_range-clause-valid g c = (granted g (goal.at.returns-in_err-grant_range-clause-valid g c).After-grant_range).valid

pub returns-in_err-grant_range-clause-keeps : goal.returns-in_err-grant_range-clause-keeps
returns-in_err-grant_range-clause-keeps g c = keeps_seen c.self.view_is (granted g (goal.at.returns-in_err-grant_range-clause-keeps g c).After-grant_range).machine

pub returns-in_err-grant_range-clause-not_ready : goal.returns-in_err-grant_range-clause-not_ready
returns-in_err-grant_range-clause-not_ready g c =
    let h = g.M.Mapper.held c.args.mapper.now in
    let k = g.M.Mapper.held c.grant_range.new.mapper in
    let i = c.self.inside in
    let p : Manager = seen i.caches i.store i.contexts in
    let p1 : Manager = seen c.grant_range.new.caches i.store i.contexts in
    let trouble = c.in_err-grant_range.field-0.0 in
    let is : c.from_residual.result ≡ Err trouble = err_is c.from_residual.result _ c.from_residual.ensures.1 in
    let out : IsNotGranted c.args.range h i.caches c.grant_range.new.caches trouble = subst (λ (x : Result _ Trouble). IfErr x (IsNotGranted c.args.range h i.caches c.grant_range.new.caches)) c.in_err-grant_range.was c.grant_range.ensures.refused in
    subst (λ (p : Manager). IfErr c.from_residual.result (IsNotReady c.args.range p h p1 k)) c.self.view_is
    (subst (λ (x : Result _ Trouble). IfErr x (IsNotReady c.args.range p h p1 k)) (sym is) (ungranted_ready c.args.range p p1 h k (granted g (goal.at.returns-in_err-grant_range-clause-not_ready g c).After-grant_range).forest refl trouble out))

pub returns-in_err-grant_range-clause-idle : goal.returns-in_err-grant_range-clause-idle
returns-in_err-grant_range-clause-idle g c = λ nothing. absurd (
    let ok : Err c.in_err-grant_range.field-0.0 ≡ Ok tt = sym c.in_err-grant_range.was ∙ (unasked g (goal.at.returns-in_err-grant_range-clause-idle g c).After-grant_range nothing).0 in
    cc ok)

translated : (g : Over) (c : After-reserve g) → AreTranslationsRight c.reserve.new.self c.self.inside.store c.self.inside.contexts
translated g c =
    let i = c.self.inside in
    roomier_right c.grant_range.new.caches c.reserve.new.self i.store c.reserve.ensures.kept i.contexts (granted_right i.caches c.grant_range.new.caches i.store c.grant_range.ensures.nodes i.contexts c.self.invariant.translated)

pub invariant_of-self-in_err-reserve : goal.invariant_of-self-in_err-reserve
invariant_of-self-in_err-reserve g c =
    let at = (goal.at.invariant_of-self-in_err-reserve g c).After-reserve in
    record { sound = (reserved g at).sound; translated = translated g at }

pub returns-in_err-reserve-clause-valid : goal.returns-in_err-reserve-clause-valid
returns-in_err-reserve-clause-valid g c = (reserved g (goal.at.returns-in_err-reserve-clause-valid g c).After-reserve).valid

pub returns-in_err-reserve-clause-keeps : goal.returns-in_err-reserve-clause-keeps
returns-in_err-reserve-clause-keeps g c = keeps_seen c.self.view_is (reserved g (goal.at.returns-in_err-reserve-clause-keeps g c).After-reserve).machine

pub returns-in_err-reserve-clause-not_ready : goal.returns-in_err-reserve-clause-not_ready
returns-in_err-reserve-clause-not_ready g c =
    let h = g.M.Mapper.held c.args.mapper.now in
    let k = g.M.Mapper.held c.grant_range.new.mapper in
    let i = c.self.inside in
    let p : Manager = seen i.caches i.store i.contexts in
    let p2 : Manager = seen c.reserve.new.self i.store i.contexts in
    let is : c.from_residual-in_err-reserve.result ≡ Err troubles.Memory = err_is c.from_residual-in_err-reserve.result _ c.from_residual-in_err-reserve.ensures.1 in
    subst (λ (p : Manager). IfErr c.from_residual-in_err-reserve.result (IsNotReady c.args.range p h p2 k)) c.self.view_is
    (subst (λ (x : Result _ Trouble). IfErr x (IsNotReady c.args.range p h p2 k)) (sym is) (
      (reserved g (goal.at.returns-in_err-reserve-clause-not_ready g c).After-reserve).forest,
      writable_same c.grant_range.new.caches c.reserve.new.self c.args.range (ap (λ (k : Arena). k.caches) c.reserve.ensures.kept) c.in_ok-grant_range.ensures.granted,
      roomier_granted c.args.range i.caches c.grant_range.new.caches c.reserve.new.self i.store i.contexts c.grant_range.ensures.nodes.room c.reserve.ensures.kept c.in_ok-grant_range.ensures.all,
    ))

pub returns-in_err-reserve-clause-idle : goal.returns-in_err-reserve-clause-idle
returns-in_err-reserve-clause-idle g c = λ nothing.
    let i = c.self.inside in
    let still = unasked g (goal.at.returns-in_err-reserve-clause-idle g c).After-grant_range nothing in (
      still.2,
      subst (λ (p : Manager). HasMoreRoom p (seen c.reserve.new.self i.store i.contexts)) c.self.view_is (more_room i.caches c.grant_range.new.caches c.reserve.new.self i.store i.contexts still.1 c.reserve.ensures.kept),
    )

pub invariant_of-self-2 : goal.invariant_of-self-2
invariant_of-self-2 g c =
    let at = (goal.at.invariant_of-self-2 g c).After-reserve in
    record { sound = (reserved g at).sound; translated = translated g at }

pub save-requires-clause-valid : goal.save-requires-clause-valid
save-requires-clause-valid g c = (reserved g (goal.at.save-requires-clause-valid g c).After-reserve).valid

pub returns-in_err-grant_range-clause-whole : goal.returns-in_err-grant_range-clause-whole
returns-in_err-grant_range-clause-whole g c = (granted g (goal.at.returns-in_err-grant_range-clause-whole g c).After-grant_range).sound.nodes

pub returns-in_err-reserve-clause-whole : goal.returns-in_err-reserve-clause-whole
returns-in_err-reserve-clause-whole g c = (reserved g (goal.at.returns-in_err-reserve-clause-whole g c).After-reserve).sound.nodes

-- where no page needs a save, nothing is done behind the grants but to take room
unsaved : (g : Over) (c : After-save g) → NeedsNoSave c.args.self.now.caches c.args.range → (c.save.new.self ≡ seen c.reserve.new.self c.self.inside.store c.self.inside.contexts) × (c.save.new.mapper ≡ c.grant_range.new.mapper) × (c.save.new.chooser ≡ c.args.chooser.now)
unsaved g c none =
    let i = c.self.inside in
    let b = c.reserve.new.self in
    let before = reserved g (goal.at.After-save g c).After-reserve in
    let same : arena.forest_of b ≡ arena.forest_of i.caches = c.reserve.ensures.forest ∙ c.grant_range.ensures.nodes.nodes in
    elim (subst (λ (p : Manager). NeedsNoSave p.caches c.args.range) (sym c.self.view_is) none) [
      | inl unnamed ↦ c.save.ensures.temporary (named_same i.caches b before.machine.same c.args.range.cache.0 ∙ unnamed)
      | inr all ↦ (let t = c.save.ensures.idle (λ x i. ap (λ f. is_unsaved f x) same ∙ all x i) in (t.1, t.2, t.3))
    ]

-- Write access is asked first

asked : (g : Over) (c : After-grant_range g) → OnlyAsked g.M.Mapper c.args.mapper.now c.grant_range.new.mapper
asked g c = (let e = c.grant_range.ensures in record { traffic = e.traffic; held = e.held; given = e.given })

within : (g : Over) (c : After-grant_range g) → GrantsWithin c.args.range c.args.self.now.caches c.grant_range.new.caches
within g c = subst (λ (p : Manager). GrantsWithin c.args.range p.caches c.grant_range.new.caches) c.self.view_is c.grant_range.ensures.grants

within_reserved : (g : Over) (c : After-reserve g) → GrantsWithin c.args.range c.args.self.now.caches c.reserve.new.self
within_reserved g c = within_then c.args.range c.args.self.now.caches c.grant_range.new.caches c.reserve.new.self (within g (goal.at.After-reserve g c).After-grant_range) (tables_grants c.grant_range.new.caches c.reserve.new.self (ap (λ (k : Arena). k.caches) c.reserve.ensures.kept))

-- the manager with other caches of as many copies
same_store : (g : Over) (c : After-grant_range g) (b : Arena) → b.copies ≡ c.grant_range.new.caches.copies → CopiesNothing c.args.self.now (seen b c.self.inside.store c.self.inside.contexts)
same_store g c b copies = subst (λ (p : Manager). CopiesNothing p (seen b c.self.inside.store c.self.inside.contexts)) c.self.view_is (record { copies = copies ∙ c.grant_range.ensures.nodes.copies; held = λ f on. on; bytes = refl })

pub returns-in_err-grant_range-clause-grants : goal.returns-in_err-grant_range-clause-grants
returns-in_err-grant_range-clause-grants g c = within g (goal.at.returns-in_err-grant_range-clause-grants g c).After-grant_range

pub returns-in_err-reserve-clause-grants : goal.returns-in_err-reserve-clause-grants
returns-in_err-reserve-clause-grants g c = within_reserved g (goal.at.returns-in_err-reserve-clause-grants g c).After-reserve

pub returns-in_err-grant_range-clause-first : goal.returns-in_err-grant_range-clause-first
returns-in_err-grant_range-clause-first g c = if_err_all c.from_residual.result (λ trouble before. (asked g (goal.at.returns-in_err-grant_range-clause-first g c).After-grant_range, refl))

pub returns-in_err-reserve-clause-first : goal.returns-in_err-reserve-clause-first
returns-in_err-reserve-clause-first g c = if_err_all c.from_residual-in_err-reserve.result (λ trouble before. (asked g (goal.at.returns-in_err-reserve-clause-first g c).After-grant_range, refl))

pub returns-in_err-grant_range-clause-still : goal.returns-in_err-grant_range-clause-still
returns-in_err-grant_range-clause-still g c = λ none. (let at = (goal.at.returns-in_err-grant_range-clause-still g c).After-grant_range in (asked g at, refl, same_store g at c.grant_range.new.caches refl))

pub returns-in_err-reserve-clause-still : goal.returns-in_err-reserve-clause-still
returns-in_err-reserve-clause-still g c = λ none. (let at = (goal.at.returns-in_err-reserve-clause-still g c).After-grant_range in (asked g at, refl, same_store g at c.reserve.new.self (ap (λ (k : Arena). k.copies) c.reserve.ensures.kept)))

-- Which pages come to frames

-- none while writes are granted and room is taken
unfilled : (g : Over) (c : After-grant_range g) (b : Arena) (q : Manager) → b.cells ≡ c.grant_range.new.caches.cells → b.made ≡ c.grant_range.new.caches.made → b.copies ≡ c.grant_range.new.caches.copies → arena.forest_of b ≡ arena.forest_of c.grant_range.new.caches → FillsOnly c.args.range (λ x. ⊥) (seen b c.self.inside.store c.self.inside.contexts) q → FillsOnly c.args.range (λ x. ⊥) c.args.self.now q
unfilled g c b q cells made copies same fills =
    let i = c.self.inside in
    let n = c.grant_range.ensures.nodes in
    subst (λ (p : Manager). FillsOnly c.args.range (λ x. ⊥) p q) c.self.view_is (fills_later c.args.range i.caches b i.store i.contexts q (cells ∙ n.cells) (made ∙ n.made) (copies ∙ n.copies) (same ∙ n.nodes) fills)

pub returns-in_err-grant_range-clause-fills : goal.returns-in_err-grant_range-clause-fills
returns-in_err-grant_range-clause-fills g c = unfilled g (goal.at.returns-in_err-grant_range-clause-fills g c).After-grant_range c.grant_range.new.caches (seen c.grant_range.new.caches c.self.inside.store c.self.inside.contexts) refl refl refl refl (fills_itself c.args.range (λ x. ⊥) (seen c.grant_range.new.caches c.self.inside.store c.self.inside.contexts))

-- and none while room is taken
roomy_unfilled : (g : Over) (c : After-reserve g) (q : Manager) → FillsOnly c.args.range (λ x. ⊥) (seen c.reserve.new.self c.self.inside.store c.self.inside.contexts) q → FillsOnly c.args.range (λ x. ⊥) c.args.self.now q
roomy_unfilled g c q =
    let kept = c.reserve.ensures.kept in
    unfilled g (goal.at.After-reserve g c).After-grant_range c.reserve.new.self q (ap (λ (k : Arena). k.cells) kept) (ap (λ (k : Arena). k.made) kept) (ap (λ (k : Arena). k.copies) kept) c.reserve.ensures.forest

pub returns-in_err-reserve-clause-fills : goal.returns-in_err-reserve-clause-fills
returns-in_err-reserve-clause-fills g c = roomy_unfilled g (goal.at.returns-in_err-reserve-clause-fills g c).After-reserve (seen c.reserve.new.self c.self.inside.store c.self.inside.contexts) (fills_itself c.args.range (λ x. ⊥) (seen c.reserve.new.self c.self.inside.store c.self.inside.contexts))

pub returns : goal.returns
returns g c =
    let h = g.M.Mapper.held c.args.mapper.now in
    let k = g.M.Mapper.held c.save.new.mapper in
    let i = c.self.inside in
    let b = c.reserve.new.self in
    let p : Manager = seen i.caches i.store i.contexts in
    let q = c.save.new.self in
    let s = c.save.ensures in
    let before = reserved g (goal.at.returns g c).After-reserve in
    let named = named_same i.caches b before.machine.same c.args.range.cache.0 in
    let writable = writable_same b q.caches c.args.range s.tables (writable_same c.grant_range.new.caches c.reserve.new.self c.args.range (ap (λ (k : Arena). k.caches) c.reserve.ensures.kept) c.in_ok-grant_range.ensures.granted) in
    record {
      valid = search rules;
      keeps = keeps_seen c.self.view_is (keeps_then _ _ _ _ _ _ _ _ _ (reserved g (goal.at.returns g c).After-reserve).machine c.save.ensures.keeps);
      whole = c.save.ensures.whole;
      ready = (subst (λ (p : Manager). OnOk c.save.result (IsMadeReady c.args.range c.args.nodes p q h k)) c.self.view_is (on_ok_by c.save.result (λ f. (
          let rule : forest_of q k ≡ saved (is_named i.caches c.args.range.cache.0) (extent_names c.args.range) (forest_of p h) = f ∙ (λ j. saved (named j) (extent_names c.args.range) (before.forest.forest j)) in
          record {
            forest = rule;
            writable = writable_same b q.caches c.args.range s.tables (writable_same c.grant_range.new.caches c.reserve.new.self c.args.range (ap (λ (k : Arena). k.caches) c.reserve.ensures.kept) c.in_ok-grant_range.ensures.granted);
            saved_now = saved_all q k c.args.range (forest_of p h) s.whole (consistent_of p h c.self.invariant.sound.nodes) (is_named i.caches c.args.range.cache.0) (named_same b q.caches (sizes_same b q.caches s.tables) c.args.range.cache.0 ∙ named) rule;
            room = subst (λ (x : Room). c.args.nodes ≤ x.nodes) (sym s.room) c.in_ok-reserve.ensures.nodes;
          })) s.saved));
      not_ready = (let before = reserved g (goal.at.returns g c).After-reserve in
          subst (λ (p : Manager). IfErr c.save.result (IsNotReady c.args.range p h q k)) c.self.view_is
          (if_err_by c.save.result (unsaved_ready c.args.range p (seen b i.store i.contexts) q h (g.M.Mapper.held c.grant_range.new.mapper) k (named_same i.caches b before.machine.same c.args.range.cache.0) before.forest writable) s.failed));
      cause = search rules;
      page = search rules;
      grants = within_then c.args.range c.args.self.now.caches c.reserve.new.self c.save.new.self.caches (within_reserved g (goal.at.returns g c).After-reserve) (tables_grants c.reserve.new.self c.save.new.self.caches c.save.ensures.tables);
      fills = (roomy_unfilled g (goal.at.returns g c).After-reserve c.save.new.self c.save.ensures.fills
          );
      first = if_err_by c.save.result (λ trouble out before. absurd (let s = failed_save c.args.range _ _ _ _ trouble out in before s.0 s.1)) c.save.ensures.failed;
      still = (λ none.
          let at = goal.at.returns g c in
          let s = unsaved g at.After-save none in (
            subst (OnlyAsked g.M.Mapper c.args.mapper.now) (sym s.1) (asked g at.After-grant_range),
            s.2,
            subst (CopiesNothing c.args.self.now) (sym s.0) (same_store g at.After-grant_range c.reserve.new.self (ap (λ (k : Arena). k.copies) c.reserve.ensures.kept)),
          ));
      idle = (λ nothing.
          let at = goal.at.returns g c in
          let i = c.self.inside in
          let b = c.reserve.new.self in
          let p : Manager = seen i.caches i.store i.contexts in
          let still = unasked g at.After-grant_range nothing in
          let idle = unsaved g at.After-save (no_save c.args.self.now.caches c.args.range nothing) in (
            idle.1 ∙ still.2,
            subst (λ (p : Manager). HasMoreRoom p c.save.new.self) c.self.view_is (subst (HasMoreRoom p) (sym idle.0) (more_room i.caches c.grant_range.new.caches b i.store i.contexts still.1 c.reserve.ensures.kept)),
          ));
    }
