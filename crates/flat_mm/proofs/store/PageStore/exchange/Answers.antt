use Rattle.std.proofs.Common.{◌≡◌, ◌∙◌, ◌-◌, ap, arith, drop, length, set, subst, sym, take, List, [], Option, Some}
use Rattle.std.specs.Prelude.{IsSome}
use Rattle.std.specs.Option.{option_map_or}
use Rattle.std.specs.Vec.{with_items}
use Rattle.std.proofs.lemmas.List.{with_items_is}
use Rattle.vm_model.specs.Machine.{numbered}
use Rattle.vm_model.specs.Answering.{overwrite}
use Rattle.vm_model.proofs.Parts.Lists.{found_is}
use Rattle.flat_mm.specs.Frames.{Framed}
use Rattle.flat_mm.specs.Layout.{IsFramed, store_shown}
use Rattle.flat_mm.specs.Store.{Cache, Store, put_pages, with_cache}
use Rattle.flat_mm.specs.declared.framed.FramedPage.{FramedPage}
use Rattle.flat_mm.proofs.Framing.{alive_some, size_some, whole_seen}
use Rattle.flat_mm.proofs.Loosening.{exchanged_seen, exchanged_sound}
use Rattle.flat_mm.proofs.store.PageStore.exchange.Goals.{After-index_mut, After-self-in-None-1, After-self-in-Some-1}
use Rattle.flat_mm.proofs.store.PageStore.exchange.Goals as goal

-- the cache is alive
alive : (c : After-index_mut) → (x : Framed) × (numbered c.self.inside.caches.items c.args.cache.0 ≡ Some x) × (c.index_mut.result.now ≡ Some x)
alive c =
    let i = c.self.inside in
    let some = size_some (numbered c.args.self.now.caches c.args.cache.0) (omega (arith, c.requires.within, c.requires.some)) in
    let x = alive_some i.frames i.caches.items c.args.cache.0 (subst (λ (s : Store). IsSome (numbered s.caches c.args.cache.0)) (sym c.self.view_is) some) in
    (x.0, x.1, found_is i.caches.items c.args.cache.0 x.0 c.index_mut.result.now x.1 c.index_mut.ensures.value)

pub unreachable-requires : goal.unreachable-requires
unreachable-requires c = let x = alive (goal.at.unreachable-requires c).After-index_mut in absurd (cc (sym x.2 ∙ c.in-None.is))

changed : (c : After-self-in-Some-1) → numbered c.self.inside.caches.items c.args.cache.0 ≡ Some c.in-Some.changed
changed c = let x = alive (goal.at.invariant_of-self c).After-index_mut in x.1 ∙ sym x.2 ∙ c.in-Some.is

abbrev then : After-self-in-Some-1 → Framed
then c = record c.in-Some.changed { pages = overwrite c.args.first.0 c.self.inside.loose.items c.in-Some.changed.pages }

abbrev left : After-self-in-Some-1 → List FramedPage
left c = take (length c.self.inside.loose.items) (drop c.args.first.0 c.in-Some.changed.pages)

-- the caches and the loose pages then
lists : (c : After-self-in-Some-1) (P : List (Option Framed) → List FramedPage → Type 0) → P (set c.self.inside.caches.items (c.args.cache.0 - 1) (Some (then c))) (left c)
    → P (set c.self.inside.caches.items (c.args.cache.0 - 1) (Some c.exchange.new.self)) (with_items c.self.inside.loose c.exchange.new.pages).items
lists c P h =
    let i = c.self.inside in
    let is : c.exchange.new.self ≡ then c = c.exchange.ensures.cache ∙ ap (λ (ps : List FramedPage). record c.in-Some.changed { pages = overwrite c.args.first.0 ps c.in-Some.changed.pages }) c.deref_mut.ensures.value in
    let pages : (with_items i.loose c.exchange.new.pages).items ≡ left c =
    with_items_is i.loose c.exchange.new.pages (omega (arith, c.exchange.auto.pages, c.deref_mut.ensures.len)) ∙ c.exchange.ensures.pages ∙ ap (λ (ps : List FramedPage). take (length ps) (drop c.args.first.0 c.in-Some.changed.pages)) c.deref_mut.ensures.value in
    subst (λ (x : Framed). P (set i.caches.items (c.args.cache.0 - 1) (Some x)) (with_items i.loose c.exchange.new.pages).items) (sym is) (subst (P (set i.caches.items (c.args.cache.0 - 1) (Some (then c)))) (sym pages) h)

pub invariant_of-self : goal.invariant_of-self
invariant_of-self c = let i = c.self.inside in lists c (IsFramed i.frames) (exchanged_sound i.frames i.caches.items i.loose.items c.self.invariant c.args.cache.0 c.in-Some.changed (changed c) c.args.first.0)

abbrev meant : After-self-in-Some-1 → Store → Store
meant c s = record s {
  caches = with_cache c.args.cache.0 (put_pages c.args.first.0 s.loose) s.caches;
  loose = take (length s.loose) (drop c.args.first.0 (option_map_or (λ (x : Cache). x.pages) (numbered s.caches c.args.cache.0) []));
}

pub returns-clause-exchanged : goal.returns-clause-exchanged
returns-clause-exchanged c =
    let i = c.self.inside in
    lists c (λ cs ps. store_shown i.frames cs ps ≡ meant c c.args.self.now) (exchanged_seen i.frames i.caches.items i.loose.items c.self.invariant c.args.cache.0 c.in-Some.changed (changed c) c.args.first.0 ∙ ap (meant c) c.self.view_is)

pub returns-clause-whole : goal.returns-clause-whole
returns-clause-whole c = let i = c.self.inside in whole_seen i.frames (set i.caches.items (c.args.cache.0 - 1) (Some c.exchange.new.self)) (with_items i.loose c.exchange.new.pages).items (invariant_of-self c)
