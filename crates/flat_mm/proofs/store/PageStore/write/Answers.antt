use Rattle.std.proofs.Common.{◌≡◌, ◌∙◌, true, ap, arith, length, sym, List, ℕ}
use Rattle.std.specs.Vec.{with_items}
use Rattle.std.proofs.lemmas.List.{with_items_is}
use Rattle.frame_pool.specs.Lending.{refill}
use Rattle.frame_pool.specs.Pool.{Frames, bytes_of, with_bytes}
use Rattle.vm_model.specs.Answering.{overwrite}
use Rattle.flat_mm.specs.Store.{Store, page_at, with_page}
use Rattle.flat_mm.proofs.Framing.{IsWritten, marked_seen, marked_within, refilled, whole_seen, wrote}
use Rattle.flat_mm.proofs.store.PageStore.write.Goals.{After-self-2-1}
use Rattle.flat_mm.proofs.store.PageStore.write.Goals as goal

pub bytes_mut-requires : goal.bytes_mut-requires
bytes_mut-requires c =
    let i = c.self.inside in
    marked_within i.frames i.caches.items i.loose.items c.self.invariant c.args.cache.0 c.args.page.0 c.deref_mut.result.now c.mark-frame.result c.deref_mut.ensures.value c.mark-frame.ensures.frame

abbrev then : After-self-2-1 → Frames
then c = with_bytes c.self.inside.frames c.mark-frame.result.0 (refill (bytes_of c.self.inside.frames c.mark-frame.result.0) c.write_page.new.page)

abbrev written : After-self-2-1 → List ℕ
written c = overwrite c.args.at c.args.bytes.now (bytes_of c.self.inside.frames c.mark-frame.result.0)

done : (c : After-self-2-1) → IsWritten c.self.inside.frames (then c) c.self.inside.caches.items (with_items c.self.inside.caches c.mark-frame.new.caches).items c.self.inside.loose.items c.args.cache.0 c.args.page.0 (record { bytes = written c; changed = true })
done c =
    let i = c.self.inside in
    let n = c.mark-frame.new.caches in
    let old = bytes_of i.frames c.mark-frame.result.0 in
    let page : c.write_page.new.page ≡ written c = c.write_page.ensures ∙ ap (overwrite c.args.at c.args.bytes.now) c.bytes_mut.ensures.bytes in
    let long : length c.write_page.new.page ≡ length old = c.write_page.auto.page ∙ ap length c.bytes_mut.ensures.bytes in
    wrote i.frames i.caches.items i.loose.items c.self.invariant c.args.cache.0 c.args.page.0 c.deref_mut.result.now c.mark-frame.result c.deref_mut.ensures.value c.mark-frame.ensures.frame n (with_items i.caches n).items true (then c) (written c)
    c.mark-frame.ensures.caches (with_items_is i.caches n (omega (arith, c.mark-frame.auto.caches, c.deref_mut.ensures.len))) (ap (with_bytes i.frames c.mark-frame.result.0) (refilled old c.write_page.new.page long ∙ page))
    (ap length (sym page) ∙ c.write_page.auto.page ∙ c.bytes_mut.ensures.page)

pub invariant_of-self : goal.invariant_of-self
invariant_of-self c = (done c).sound

pub returns-clause-written : goal.returns-clause-written
returns-clause-written c = λ p is.
    let i = c.self.inside in
    let bytes = marked_seen i.frames i.caches.items i.loose.items c.self.invariant c.args.cache.0 c.args.page.0 c.deref_mut.result.now c.mark-frame.result c.deref_mut.ensures.value c.mark-frame.ensures.frame p
    (ap (λ (s : Store). page_at s.caches c.args.cache.0 c.args.page.0) c.self.view_is ∙ is) in
    (done c).seen ∙ (λ j. with_page c.args.cache.0 c.args.page.0 (record { bytes = overwrite c.args.at c.args.bytes.now (sym bytes j); changed = true }) (c.self.view_is j))

pub returns-clause-whole : goal.returns-clause-whole
returns-clause-whole c = let i = c.self.inside in whole_seen (then c) (with_items i.caches c.mark-frame.new.caches).items i.loose.items (done c).sound
