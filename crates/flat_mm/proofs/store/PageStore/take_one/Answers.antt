use Rattle.std.proofs.Common.{◌≡◌, ◌∙◌, ◌++◌, ◌∷◌, [], ◌-◌, ◌≤◌, ap, arith, refl, sym, subst, List}
use Rattle.frame_pool.specs.Pool.{Frames, with_bytes}
use Rattle.vm_model.specs.Machine.{zero_page}
use Rattle.flat_mm.specs.Layout.{free_frames, store_shown}
use Rattle.flat_mm.specs.Store.{Store, zeros}
use Rattle.flat_mm.specs.declared.framed.FramedPage.{FramedPage}
use Rattle.flat_mm.proofs.Loosening.{none_free, took_seen}
use Rattle.flat_mm.proofs.store.PageStore.take_one.Goals as goal

pub unreachable-requires : goal.unreachable-requires
unreachable-requires c =
    let some : 1 ≤ free_frames c.self.inside.frames = subst (λ (s : Store). 1 ≤ s.free) (sym c.self.view_is) c.requires in
    absurd (omega (arith, some, none_free c.self.inside.frames c.in-None.ensures.1))

pub returns-clause-ok : goal.returns-clause-ok
returns-clause-ok c =
    let i = c.self.inside in
    let p : FramedPage = record { frame = c.in-Some.frame; changed = Rattle.std.proofs.Common.false } in
    let took : c.zero.new.self ≡ with_bytes (record i.frames { held = Rattle.std.proofs.Common.set i.frames.held c.in-Some.frame.0 Rattle.std.proofs.Common.true }) c.in-Some.frame.0 (zero_page i.frames.page) =
    c.zero.ensures ∙ ap (λ (f : Frames). with_bytes f c.in-Some.frame.0 (zero_page f.page)) c.in-Some.ensures.2 in
    let loose : c.push_reserved.new.self.items ≡ i.loose.items ++ p ∷ [] = c.push_reserved.ensures.items ∙ ap (λ (ps : List FramedPage). ps ++ p ∷ []) c.in_ok-reserve.ensures.items in
    (λ j. store_shown (took j) i.caches.items (loose j))
    ∙ took_seen i.frames i.caches.items i.loose.items c.self.invariant p refl c.in-Some.ensures.0 c.in-Some.ensures.1
    ∙ ap (λ (s : Store). record s { free = s.free - 1; loose = s.loose ++ zeros s.page_bytes ∷ [] }) c.self.view_is
