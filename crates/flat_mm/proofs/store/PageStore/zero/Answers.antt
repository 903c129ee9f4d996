use Rattle.std.proofs.Common.{◌∙◌, true, ap, arith}
use Rattle.std.specs.Vec.{with_items}
use Rattle.std.proofs.lemmas.List.{length-replicate, with_items_is}
use Rattle.vm_model.specs.Machine.{zero_page}
use Rattle.flat_mm.specs.Store.{Store, with_page}
use Rattle.flat_mm.proofs.Framing.{IsWritten, marked_within, whole_seen, wrote}
use Rattle.flat_mm.proofs.store.PageStore.zero.Goals.{After-zero}
use Rattle.flat_mm.proofs.store.PageStore.zero.Goals as goal

pub zero-requires : goal.zero-requires
zero-requires c =
    let i = c.self.inside in
    marked_within i.frames i.caches.items i.loose.items c.self.invariant c.args.cache.0 c.args.page.0 c.deref_mut.result.now c.mark-frame.result c.deref_mut.ensures.value c.mark-frame.ensures.frame

done : (c : After-zero) → IsWritten c.self.inside.frames c.zero.new.self c.self.inside.caches.items (with_items c.self.inside.caches c.mark-frame.new.caches).items c.self.inside.loose.items c.args.cache.0 c.args.page.0 (record { bytes = zero_page c.self.inside.frames.page; changed = true })
done c =
    let i = c.self.inside in
    let n = c.mark-frame.new.caches in
    wrote i.frames i.caches.items i.loose.items c.self.invariant c.args.cache.0 c.args.page.0 c.deref_mut.result.now c.mark-frame.result c.deref_mut.ensures.value c.mark-frame.ensures.frame n (with_items i.caches n).items true c.zero.new.self (zero_page i.frames.page)
    c.mark-frame.ensures.caches (with_items_is i.caches n (omega (arith, c.mark-frame.auto.caches, c.deref_mut.ensures.len))) c.zero.ensures (length-replicate i.frames.page 0)

pub invariant_of-self : goal.invariant_of-self
invariant_of-self c = (done c).sound

pub returns-clause-zeros : goal.returns-clause-zeros
returns-clause-zeros c = (done c).seen ∙ ap (λ (s : Store). with_page c.args.cache.0 c.args.page.0 (record { bytes = zero_page s.page_bytes; changed = true }) s) c.self.view_is

pub returns-clause-whole : goal.returns-clause-whole
returns-clause-whole c = let i = c.self.inside in whole_seen c.zero.new.self (with_items i.caches c.mark-frame.new.caches).items i.loose.items (done c).sound
