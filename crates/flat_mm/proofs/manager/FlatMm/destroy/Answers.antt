use Rattle.std.proofs.Common.{◌≡◌, ◌∙◌, map, List, None, Option, Some, ap, length, refl, subst, sym, true, false, ℕ}
use Rattle.std.specs.List.{list_any}
use Rattle.std.specs.Prelude.{IfSome, IsSome, Ok, option_map}
use Rattle.vm_ids.specs.declared.command.Command.TheVariants as commands
use Rattle.vm_ids.specs.declared.refusal.Refusal.TheVariants as refusals
use Rattle.vm_model.specs.Answering.{is_mapped, maps_in}
use Rattle.vm_model.specs.Machine as model
use Rattle.vm_model.specs.Machine.{cache_of, numbered}
use Rattle.vm_ids.specs.Held.{segments_in, segments_of}
use Rattle.vm_ids.specs.declared.numbers.PageNo.{PageNo}
use Rattle.vm_model.specs.Machine.{Machine, pages_in}
use Rattle.vm_model.specs.Synchronised.{ArePushed}
use Rattle.vm_model.proofs.Parts.Lists.{numbered-map}
use Rattle.flat_mm.specs.Extents.{IsPushed}
use Rattle.flat_mm.specs.Manager.{AreKept, IsManagerSound, Manager, caches_in, machine_in, plain, sizes_in}
use Rattle.flat_mm.specs.Store.{Cache, Store}
use Rattle.flat_mm.proofs.Acting.{pages_sized, sizes_plain}
use Rattle.flat_mm.proofs.Destroying.{destroy_failed, destroy_none, destroy_used, destroyed_call, dropped_whole, left, left_machine, left_sound, plain_alive, told_left}
use Rattle.flat_mm.proofs.Extents.{refused_call}
use Rattle.contexts.proofs.RegionRows.{sized, unsized}
use Rattle.flat_mm.proofs.manager.FlatMm.destroy.Given.{Over}
use Rattle.flat_mm.proofs.manager.FlatMm.destroy.Goals.{After-drop_loose, In-Ok, In-Some}
use Rattle.flat_mm.proofs.manager.FlatMm.destroy.Goals as goal

-- how many pages the cache has
size_is : (p q : Manager) → p ≡ q → (n : ℕ) (size : Option ℕ) → size ≡ sizes_in p.store n → sizes_in q.store n ≡ size
size_is p q view n size e = ap (λ (x : Manager). sizes_in x.store n) (sym view) ∙ sym e

pub returns-in_default : goal.returns-in_default
returns-in_default g c =
    let p = c.args.self.now in
    let n = c.args.cache.0 in
    let none : cache_of (machine_in p) n ≡ None = unsized (numbered (caches_in p.store) n) (sizes_plain p.store n ∙ size_is _ p c.self.view_is n c.size.result c.size.ensures.size ∙ c.in_default.is) in
    refused_call g.M.Mapper c.args.mapper.now p (commands.Destroy c.args.cache) refusals.NoCache c.requires.valid (λ h. destroy_none (machine_in p) n none) tt tt

-- the machine's cache
there : (g : Over) (c : In-Some g) → (x : model.Cache) × (cache_of (machine_in c.args.self.now) c.args.cache.0 ≡ Some x) × (length x.pages ≡ c.in-Some.pages)
there g c =
    let p = c.args.self.now in
    let n = c.args.cache.0 in
    sized (numbered (caches_in p.store) n) c.in-Some.pages (sizes_plain p.store n ∙ size_is _ p c.self.view_is n c.size.result c.size.ensures.size ∙ c.in-Some.is)

pub returns-then-maps : goal.returns-then-maps
returns-then-maps g c =
    let p = c.args.self.now in
    let n = c.args.cache.0 in
    let x = there g (goal.at.returns-then-maps g c).In-Some in
    let used : is_mapped (machine_in p) n ≡ true = ap (λ (y : Manager). list_any (maps_in n) y.actors.actors) (sym c.self.view_is) ∙ sym c.if-maps.ensures in
    refused_call g.M.Mapper c.args.mapper.now p (commands.Destroy c.args.cache) refusals.InUse c.requires.valid (λ h. destroy_used (machine_in p) n x.0 x.1 used) tt tt

pub push_cache-requires-clause-all : goal.push_cache-requires-clause-all
push_cache-requires-clause-all g c =
    let p = c.args.self.now in
    let n = c.args.cache.0 in
    sym (pages_sized p.store n c.in-Some.pages (size_is _ p c.self.view_is n c.size.result c.size.ensures.size ∙ c.in-Some.is))

unused : (g : Over) (c : In-Ok g) → is_mapped (machine_in c.args.self.now) c.args.cache.0 ≡ false
unused g c = ap (λ (y : Manager). list_any (maps_in c.args.cache.0) y.actors.actors) (sym c.self.view_is) ∙ sym c.if-maps.ensures

-- the pages were pushed
pushed : (g : Over) (c : In-Ok g) → IsPushed {E = PageNo} g.M.Mapper c.args.mapper.now c.args.self.now c.push_cache.new.mapper (record { store = c.self-2.inside.store; actors = c.self-2.inside.contexts }) (Ok (tt {0}))
pushed g c = subst (λ (q : Manager). IsPushed {E = PageNo} g.M.Mapper c.args.mapper.now c.args.self.now c.push_cache.new.mapper q (Ok (tt {0}))) (sym c.self-2.view_is) c.in-Ok.ensures.pushed

-- the cache is there still
alive : (g : Over) (c : In-Ok g) → (x : Cache) × (numbered c.self-2.inside.store.caches c.args.cache.0 ≡ Some x)
alive g c =
    let n = c.args.cache.0 in
    let x = there g (goal.at.In-Ok g c).In-Some in
    plain_alive (numbered c.self-2.inside.store.caches n) x.0
    (sym (numbered-map plain c.self-2.inside.store.caches n) ∙ ap (λ (m : Machine). cache_of m n) (pushed g c).machine ∙ x.1)

pub release-requires-clause-alive : goal.release-requires-clause-alive
release-requires-clause-alive g c = subst IsSome (sym (alive g (goal.at.release-requires-clause-alive g c).In-Ok).1) refl

-- the store without it
caches : (g : Over) (c : After-drop_loose g) → c.drop_loose.new.self.caches ≡ left c.self-2.inside.store c.args.cache.0
caches g c = ap (λ (s : Store). s.caches) c.drop_loose.ensures ∙ ap (λ (s : Store). s.caches) c.release.ensures.released

sound : (g : Over) (c : After-drop_loose g) → IsManagerSound c.drop_loose.new.self c.self-2.inside.contexts c.self-2.inside.actors
sound g c =
    let i = c.self-2.inside in
    let n = c.args.cache.0 in
    let before = (goal.at.After-drop_loose g c).In-Ok in
    let x = alive g before in
    left_sound i.store n x.0 x.1 i.contexts i.actors c.drop_loose.new.self c.self-2.invariant (ap (λ (m : Machine). list_any (maps_in n) m.actors) (pushed g before).machine ∙ unused g before)
    (dropped_whole c.release.new.self c.drop_loose.new.self c.release.ensures.whole c.drop_loose.ensures) (ap (λ (s : Store). s.loose) c.drop_loose.ensures)
    (ap (λ (s : Store). s.page_bytes) c.drop_loose.ensures ∙ ap (λ (s : Store). s.page_bytes) c.release.ensures.released) (caches g c)

pub invariant_of-self : goal.invariant_of-self
invariant_of-self g c = sound g (goal.at.invariant_of-self g c).After-drop_loose

pub returns-in-Ok : goal.returns-in-Ok
returns-in-Ok g c =
    let i = c.self-2.inside in
    let n = c.args.cache.0 in
    let p = c.args.self.now in
    let q : Manager = record { store = i.store; actors = i.contexts } in
    let done = (goal.at.returns-in-Ok g c).After-drop_loose in
    let before = (goal.at.returns-in-Ok g c).In-Ok in
    let x = there g (goal.at.returns-in-Ok g c).In-Some in
    let P = pushed g before in
    let y = alive g before in
    destroyed_call g.M.Mapper c.args.mapper.now c.push_cache.new.mapper p q c.args.cache c.requires.valid x.0 x.1 (unused g before) (Ok tt) P
    (subst (ArePushed (machine_in p) (segments_of (g.M.Mapper.held c.push_cache.new.mapper)) n 0) (sym (ap pages_in x.1 ∙ x.2)) c.in-Ok.ensures.there)
    c.drop_loose.new.self (ap (map (option_map plain)) (caches g done) ∙ left_machine i.store n y.0 y.1)
    (ap (λ (s : Store). s.frames) c.drop_loose.ensures ∙ ap (λ (s : Store). s.frames) c.release.ensures.released)
    i.actors (sound g done)
    (subst (λ (cs : List (Option Cache)). IfSome (g.M.Mapper.held c.push_cache.new.mapper) (λ h. AreKept (segments_in h) cs)) (sym (caches g done)) (told_left i.store n y.0 y.1 (g.M.Mapper.held c.push_cache.new.mapper) P.valid.kept))

pub returns-in-Err : goal.returns-in-Err
returns-in-Err g c =
    let p = c.args.self.now in
    let x = there g (goal.at.returns-in-Err g c).In-Some in
    destroy_failed g.M.Mapper c.args.mapper.now c.push_cache.new.mapper p c.push_cache.new.self c.args.cache c.requires.valid x.0 x.1
    (ap (λ (y : Manager). list_any (maps_in c.args.cache.0) y.actors.actors) (sym c.self.view_is) ∙ sym c.if-maps.ensures) c.in-Err.page c.in-Err.ensures.pushed c.in-Err.page c.in-Err.ensures.there c.in-Err.ensures.fault
