use Rattle.std.proofs.Common.{◌≡◌, Ok, Some, true, ap, arith, refl, subst, sym, ◌∙◌}
use Rattle.std.specs.Prelude.{IsSome, option_and_then, option_map}
use Rattle.vm_ids.specs.declared.numbers.SegId.{SegId}
use Rattle.vm_model.specs.Machine.{numbered, segment_of}
use Rattle.vm_model.proofs.Parts.Naming.{segment_names}
use Rattle.vm_port.specs.declared.traits.failed.Failed.{Failed}
use Rattle.gmi_calls.specs.Reaching.{Asked}
use Rattle.gmi_calls.proofs.Accessing.{asked_pages}
use Rattle.gmi_calls.proofs.Rising.{asked_none, asked_then, on_err, one_failed}
use Rattle.flat_mm.specs.Manager.{Manager, machine_in}
use Rattle.flat_mm.specs.Store.{Cache, Page}
use Rattle.flat_mm.specs.Store as store
use Rattle.flat_mm.proofs.Accesses.{changed_free, page_some, page_there, segment_plain}
use Rattle.flat_mm.proofs.WriteAccess.{has_one, may_one, named_ok, unnamed_free}
use Rattle.flat_mm.proofs.manager.FlatMm.may_write.Given.{Over}
use Rattle.flat_mm.proofs.manager.FlatMm.may_write.Goals.{In-Some}
use Rattle.flat_mm.proofs.manager.FlatMm.may_write.Goals as goal

-- the page is there
there : (g : Over) (c : In-Some g) → IsSome (store.page_at c.args.self.now.store.caches c.args.cache.0 c.args.page.0)
there g c = page_some c.args.self.now.store c.args.cache.0 c.args.page.0 c.requires.within

-- and its cache is the segment's
named : (g : Over) (c : In-Some g) → segment_of (machine_in c.args.self.now) c.args.cache.0 ≡ Some c.in-Some.seg.0
named g c =
    segment_plain c.args.self.now.store (machine_in c.args.self.now) c.args.cache.0 refl
    ∙ ap (λ (p : Manager). option_map (λ (s : SegId). s.0) (option_and_then (λ (x : Cache). x.segment) (numbered p.store.caches c.args.cache.0))) (sym c.self.view_is)
    ∙ ap (option_map (λ (s : SegId). s.0)) (sym c.in-Some.ensures)

pub returns-in_default-clause-answer : goal.returns-in_default-clause-answer
returns-in_default-clause-answer g c =
    unnamed_free (machine_in c.args.self.now) c.args.cache.0 c.args.page.0 (g.M.Mapper.held c.args.mapper.now)
    (segment_plain c.args.self.now.store (machine_in c.args.self.now) c.args.cache.0 refl
    ∙ ap (λ (p : Manager). option_map (λ (s : SegId). s.0) (option_and_then (λ (x : Cache). x.segment) (numbered p.store.caches c.args.cache.0))) (sym c.self.view_is)
    ∙ ap (option_map (λ (s : SegId). s.0)) (sym c.segment.ensures ∙ c.in_default.is))

pub returns-in_default-clause-asked : goal.returns-in_default-clause-asked
returns-in_default-clause-asked g c = asked_none g.M.Mapper c.args.mapper.now true

pub is_changed-requires : goal.is_changed-requires
is_changed-requires g c = subst (λ (p : Manager). IsSome (store.page_at p.store.caches c.args.cache.0 c.args.page.0)) (sym c.self.view_is) (there g (goal.at.is_changed-requires g c).In-Some)

pub returns-then-is_changed-clause-answer : goal.returns-then-is_changed-clause-answer
returns-then-is_changed-clause-answer g c =
    let s = c.args.self.now.store in
    let x = (goal.at.returns-then-is_changed-clause-answer g c).In-Some in
    let P = page_there s.caches c.args.cache.0 c.args.page.0 (there g x) in
    changed_free (g.M.Mapper.held c.args.mapper.now) s c.args.cache.0 c.args.page.0 P.0 P.1 (machine_in c.args.self.now) c.in-Some.seg refl (named g x)
    (ap (λ (p : Manager). option_map (λ (q : Page). q.changed) (store.page_at p.store.caches c.args.cache.0 c.args.page.0)) (sym c.self.view_is) ∙ c.if-is_changed.ensures) c.requires.valid.kept

pub returns-then-is_changed-clause-asked : goal.returns-then-is_changed-clause-asked
returns-then-is_changed-clause-asked g c = asked_none g.M.Mapper c.args.mapper.now true

pub get_write_access-requires : goal.get_write_access-requires
get_write_access-requires g c =
    let x = (goal.at.get_write_access-requires g c).In-Some in
    has_one (g.M.Mapper.held c.args.mapper.now) c.in-Some.seg.0 c.args.page.0
    (asked_pages (machine_in c.args.self.now) c.args.cache.0 c.in-Some.seg.0 c.args.page.0 1 (g.M.Mapper.held c.args.mapper.now) (named g x) (omega (arith, c.requires.within)) c.requires.valid.ready)

pub returns-clause-answer : goal.returns-clause-answer
returns-clause-answer g c =
    may_one (machine_in c.args.self.now) c.args.cache.0 c.in-Some.seg.0 c.args.page.0 (g.M.Mapper.held c.args.mapper.now) c.get_write_access.result (named g (goal.at.returns-clause-answer g c).In-Some) c.get_write_access.ensures.granted

pub returns-clause-named : goal.returns-clause-named
returns-clause-named g c =
    named_ok (machine_in c.args.self.now) c.args.cache.0 c.get_write_access.result (segment_names (machine_in c.args.self.now) c.args.cache.0 c.in-Some.seg.0 (named g (goal.at.returns-clause-named g c).In-Some))

pub returns-clause-fault : goal.returns-clause-fault
returns-clause-fault g c =
    on_err c.get_write_access.result _ (segment_names (machine_in c.args.self.now) c.args.cache.0 c.in-Some.seg.0 (named g (goal.at.returns-clause-fault g c).In-Some))

pub returns-clause-asked : goal.returns-clause-asked
returns-clause-asked g c =
    let E = c.get_write_access.ensures in
    let none : Asked {E = Failed} g.M.Mapper c.args.mapper.now c.args.mapper.now (Ok (tt {0})) = asked_none g.M.Mapper c.args.mapper.now tt in
    asked_then g.M.Mapper c.args.mapper.now c.args.mapper.now c.get_write_access.new.self c.get_write_access.result c.get_write_access.result none E.held E.counts E.page (one_failed 0 0 c.get_write_access.result)
