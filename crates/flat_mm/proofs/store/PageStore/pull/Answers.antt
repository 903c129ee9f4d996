use Rattle.std.proofs.Common.{◌≡◌, ◌∙◌, false, ap, arith, length, set, subst, sym, List, ℕ, Some}
use Rattle.std.specs.Prelude.{IfSome, OnOk, slice_get}
use Rattle.std.proofs.lemmas.Option.{slice_get-get_or}
use Rattle.frame_pool.specs.Lending.{refill}
use Rattle.frame_pool.specs.Pool.{bytes_of, with_bytes}
use Rattle.vm_ids.specs.Held.{page_of}
use Rattle.flat_mm.specs.Store.{Store, with_loose}
use Rattle.flat_mm.specs.declared.framed.FramedPage.{FramedPage}
use Rattle.flat_mm.proofs.Framing.{refilled, whole_seen}
use Rattle.flat_mm.proofs.Loosening.{filled_seen, filled_sound, loose_within}
use Rattle.flat_mm.proofs.store.PageStore.pull.Given.{Over}
use Rattle.flat_mm.proofs.store.PageStore.pull.Goals.{After-bytes_mut-arg-1, After-self-2-1}
use Rattle.flat_mm.proofs.store.PageStore.pull.Goals as goal

-- the loose page
here : (g : Over) (c : After-bytes_mut-arg-1 g) → slice_get c.self.inside.loose.items c.args.at ≡ Some c.index.result.now
here g c =
    let i = c.self.inside in
    let many : length c.args.self.now.loose ≡ length i.loose.items = ap (λ (s : Store). length s.loose) (sym c.self.view_is) ∙ Rattle.std.proofs.lemmas.List.length-map i.loose.items _ in
    slice_get-get_or i.loose.items c.args.at c.index.result.now (omega (arith, many, c.requires.one)) ∙ ap (λ (p : FramedPage). Some p) (sym c.index.ensures)

pub bytes_mut-requires : goal.bytes_mut-requires
bytes_mut-requires g c = let i = c.self.inside in loose_within i.frames i.caches.items i.loose.items c.self.invariant c.args.at c.index.result.now (here g c)

abbrev then : (g : Over) (c : After-self-2-1 g) → List ℕ
then g c = refill (bytes_of c.self.inside.frames c.index.result.now.frame.0) c.pull_in.new.into

bytes_are : (g : Over) (c : After-self-2-1 g) → then g c ≡ c.pull_in.new.into
bytes_are g c = refilled (bytes_of c.self.inside.frames c.index.result.now.frame.0) c.pull_in.new.into (c.pull_in.auto.into ∙ ap length c.bytes_mut.ensures.bytes)

abbrev at : (g : Over) (c : After-self-2-1 g) → After-bytes_mut-arg-1 g
at g c = (goal.at.invariant_of-self g c).After-bytes_mut-arg-1

pub invariant_of-self : goal.invariant_of-self
invariant_of-self g c =
    let i = c.self.inside in
    filled_sound i.frames i.caches.items i.loose.items c.self.invariant c.args.at c.index.result.now (here g (at g c)) (then g c) (ap length (bytes_are g c) ∙ c.pull_in.auto.into ∙ c.bytes_mut.ensures.page)

pub returns-clause-filled : goal.returns-clause-filled
returns-clause-filled g c =
    let i = c.self.inside in (
      then g c,
      filled_seen i.frames i.caches.items i.loose.items c.self.invariant c.args.at c.index.result.now (here g (at g c)) (then g c) ∙ ap (λ (s : Store). with_loose (set s.loose c.args.at (record { bytes = then g c; changed = false })) s) c.self.view_is,
      subst (λ (w : List ℕ). OnOk c.pull_in.result (IfSome (g.M.Mapper.held c.args.mapper.now) (λ h. page_of h c.args.seg.0 c.args.page.0 ≡ Some w))) (sym (bytes_are g c)) c.pull_in.ensures.bytes,
    )

pub returns-clause-whole : goal.returns-clause-whole
returns-clause-whole g c = let i = c.self.inside in whole_seen (with_bytes i.frames c.index.result.now.frame.0 (then g c)) i.caches.items (set i.loose.items c.args.at (record { frame = c.index.result.now.frame; changed = false })) (invariant_of-self g c)
