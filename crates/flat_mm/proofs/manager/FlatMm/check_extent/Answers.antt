use Rattle.std.proofs.Common.{◌≡◌, ◌∙◌, Some, arith, length, subst, sym}
use Rattle.vm_ids.specs.declared.refusal.Refusal.TheVariants as refusals
use Rattle.vm_model.specs.Machine.{numbered}
use Rattle.flat_mm.specs.Extents.{RefusesSync}
use Rattle.flat_mm.specs.Manager.{Manager, machine_in}
use Rattle.flat_mm.specs.Store.{Cache}
use Rattle.flat_mm.proofs.Extents.{alive_sized, extent_none, extent_past, extent_unnamed, not_alive, segment_there}
use Rattle.flat_mm.proofs.manager.FlatMm.check_extent.Goals.{In-Some}
use Rattle.flat_mm.proofs.manager.FlatMm.check_extent.Goals as goal

pub returns-in_default-clause-refused : goal.returns-in_default-clause-refused
returns-in_default-clause-refused c =
    let i = c.self.inside in
    let old : Manager = record { store = i.store; actors = i.contexts } in
    let e = c.args.extent.now in
    subst (λ (p : Manager). RefusesSync (machine_in p) e refusals.NoCache) c.self.view_is
    (extent_none old e (not_alive (numbered i.store.caches e.cache.0) (sym c.size.ensures.size ∙ c.in_default.is)))

-- the cache
there : (c : In-Some) → (x : Cache) × (numbered c.self.inside.store.caches c.args.extent.now.cache.0 ≡ Some x) × (length x.pages ≡ c.in-Some.size)
there c = alive_sized (numbered c.self.inside.store.caches c.args.extent.now.cache.0) c.in-Some.size (sym c.size.ensures.size ∙ c.in-Some.is)

pub returns-in_default-segment-clause-refused : goal.returns-in_default-segment-clause-refused
returns-in_default-segment-clause-refused c =
    let i = c.self.inside in
    let old : Manager = record { store = i.store; actors = i.contexts } in
    let e = c.args.extent.now in
    let x = there (goal.at.returns-in_default-segment-clause-refused c).In-Some in
    subst (λ (p : Manager). RefusesSync (machine_in p) e refusals.NotNamed) c.self.view_is
    (extent_unnamed old e x.0 x.1 (segment_there (numbered i.store.caches e.cache.0) x.0 x.1 ∙ sym c.segment.ensures ∙ c.in_default-segment.is))

pub returns-then-extent-size-clause-refused : goal.returns-then-extent-size-clause-refused
returns-then-extent-size-clause-refused c =
    let i = c.self.inside in
    let old : Manager = record { store = i.store; actors = i.contexts } in
    let e = c.args.extent.now in
    let x = there (goal.at.returns-then-extent-size-clause-refused c).In-Some in
    subst (λ (p : Manager). RefusesSync (machine_in p) e refusals.OutOfCache) c.self.view_is
    (extent_past old e x.0 x.1 c.in-Some-segment.seg (segment_there (numbered i.store.caches e.cache.0) x.0 x.1 ∙ sym c.segment.ensures ∙ c.in-Some-segment.is) (omega (arith, x.2, c.if-extent-size.true)))
