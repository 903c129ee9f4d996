use Rattle.std.proofs.Common.{◌≡◌, ◌∙◌, ◌-◌, ap, set, subst, sym, List, [], Option, Some, None}
use Rattle.std.specs.Prelude.{IsSome}
use Rattle.std.specs.Option.{option_map_or}
use Rattle.vm_model.specs.Machine.{numbered}
use Rattle.vm_model.proofs.Parts.Lists.{found_is}
use Rattle.flat_mm.specs.Frames.{Framed}
use Rattle.flat_mm.specs.Layout.{IsFramed, store_shown}
use Rattle.flat_mm.specs.Store.{Cache, Store}
use Rattle.flat_mm.specs.declared.framed.FramedPage.{FramedPage}
use Rattle.flat_mm.proofs.Framing.{alive_some, no_loose, whole_seen}
use Rattle.flat_mm.proofs.Loosening.{released_seen, released_sound}
use Rattle.flat_mm.proofs.store.PageStore.release.Goals.{After-drop-self-inside, In-None, In-Some}
use Rattle.flat_mm.proofs.store.PageStore.release.Goals as goal

pub unreachable-requires : goal.unreachable-requires
unreachable-requires c =
    let i = c.self.inside in
    let x = alive_some i.frames i.caches.items c.args.cache.0 (subst (λ (s : Store). IsSome (numbered s.caches c.args.cache.0)) (sym c.self.view_is) c.requires.alive) in
    let found = found_is i.caches.items c.args.cache.0 x.0 c.index_mut.result.now x.1 c.index_mut.ensures.value in
    absurd (cc (sym found ∙ sym c.take.ensures.value ∙ c.in-None.is))

-- the cache that goes
gone : (c : In-Some) → numbered c.self.inside.caches.items c.args.cache.0 ≡ Some c.in-Some.released
gone c =
    let i = c.self.inside in
    let x = alive_some i.frames i.caches.items c.args.cache.0 (subst (λ (s : Store). IsSome (numbered s.caches c.args.cache.0)) (sym c.self.view_is) c.requires.alive) in
    let found = found_is i.caches.items c.args.cache.0 x.0 c.index_mut.result.now x.1 c.index_mut.ensures.value in
    x.1 ∙ sym found ∙ sym c.take.ensures.value ∙ c.in-Some.is

none : (c : In-Some) → c.self.inside.loose.items ≡ []
none c = no_loose c.self.inside.frames c.self.inside.loose.items (ap (λ (s : Store). s.loose) c.self.view_is ∙ c.requires.none)

abbrev at : After-drop-self-inside → In-Some
at c = (goal.at.invariant_of-self c).In-Some

-- the caches and the loose pages then
lists : (c : After-drop-self-inside) (P : List (Option Framed) → List FramedPage → Type 0) → P (set c.self.inside.caches.items (c.args.cache.0 - 1) None) c.in-Some.released.pages → P (set c.self.inside.caches.items (c.args.cache.0 - 1) c.take.new.self) c.into_pages.result.items
lists c P h = subst (λ (o : Option Framed). P (set c.self.inside.caches.items (c.args.cache.0 - 1) o) c.into_pages.result.items) (sym c.take.ensures.after) (subst (P (set c.self.inside.caches.items (c.args.cache.0 - 1) None)) (sym c.into_pages.ensures) h)

pub invariant_of-self : goal.invariant_of-self
invariant_of-self c = let i = c.self.inside in lists c (IsFramed i.frames) (released_sound i.frames i.caches.items i.loose.items c.self.invariant c.args.cache.0 c.in-Some.released (gone (at c)) (none (at c)))

pub returns-clause-released : goal.returns-clause-released
returns-clause-released c =
    let i = c.self.inside in
    lists c (λ cs ps. store_shown i.frames cs ps ≡ record c.args.self.now { caches = set c.args.self.now.caches (c.args.cache.0 - 1) None; loose = option_map_or (λ (x : Cache). x.pages) (numbered c.args.self.now.caches c.args.cache.0) [] })
    (released_seen i.frames i.caches.items i.loose.items c.self.invariant c.args.cache.0 c.in-Some.released (gone (at c)) (none (at c))
    ∙ ap (λ (s : Store). record s { caches = set s.caches (c.args.cache.0 - 1) None; loose = option_map_or (λ (x : Cache). x.pages) (numbered s.caches c.args.cache.0) [] }) c.self.view_is)

pub returns-clause-whole : goal.returns-clause-whole
returns-clause-whole c = let i = c.self.inside in whole_seen i.frames (set i.caches.items (c.args.cache.0 - 1) c.take.new.self) c.into_pages.result.items (invariant_of-self c)
