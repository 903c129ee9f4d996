use Rattle.std.proofs.Common.{◌∙◌, false, ap, arith, sym}
use Rattle.std.specs.Vec.{with_items}
use Rattle.std.proofs.lemmas.List.{with_items_is}
use Rattle.frame_pool.specs.Pool.{bytes_of}
use Rattle.flat_mm.specs.Store.{Store, page_at, with_page}
use Rattle.flat_mm.proofs.Framing.{IsWritten, marked_seen, remarked, whole_seen}
use Rattle.flat_mm.proofs.store.PageStore.settle.Goals.{After-self-1}
use Rattle.flat_mm.proofs.store.PageStore.settle.Goals as goal

done : (c : After-self-1) → IsWritten c.self.inside.frames c.self.inside.frames c.self.inside.caches.items (with_items c.self.inside.caches c.mark.new.caches).items c.self.inside.loose.items c.args.cache.0 c.args.page.0 (record { bytes = bytes_of c.self.inside.frames c.mark.result.0; changed = false })
done c =
    let i = c.self.inside in
    let n = c.mark.new.caches in
    remarked i.frames i.caches.items i.loose.items c.self.invariant c.args.cache.0 c.args.page.0 c.deref_mut.result.now c.mark.result c.deref_mut.ensures.value c.mark.ensures.frame n (with_items i.caches n).items false
    c.mark.ensures.caches (with_items_is i.caches n (omega (arith, c.mark.auto.caches, c.deref_mut.ensures.len)))

pub invariant_of-self : goal.invariant_of-self
invariant_of-self c = (done c).sound

pub returns-clause-settled : goal.returns-clause-settled
returns-clause-settled c = λ p is.
    let i = c.self.inside in
    let bytes = marked_seen i.frames i.caches.items i.loose.items c.self.invariant c.args.cache.0 c.args.page.0 c.deref_mut.result.now c.mark.result c.deref_mut.ensures.value c.mark.ensures.frame p
    (ap (λ (s : Store). page_at s.caches c.args.cache.0 c.args.page.0) c.self.view_is ∙ is) in
    (done c).seen ∙ (λ j. with_page c.args.cache.0 c.args.page.0 (record { bytes = sym bytes j; changed = false }) (c.self.view_is j))

pub returns-clause-whole : goal.returns-clause-whole
returns-clause-whole c = let i = c.self.inside in whole_seen i.frames (with_items i.caches c.mark.new.caches).items i.loose.items (done c).sound
