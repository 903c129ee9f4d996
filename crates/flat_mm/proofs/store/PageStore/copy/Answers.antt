use Rattle.std.proofs.Common.{◌≡◌, ◌∙◌, true, ap, arith, sym, List, Option, Some}
use Rattle.std.specs.Vec.{with_items}
use Rattle.std.proofs.lemmas.List.{with_items_is}
use Rattle.frame_pool.specs.Pool.{bytes_of}
use Rattle.flat_mm.specs.Frames.{Framed, framed_at}
use Rattle.flat_mm.specs.Store.{Store, page_at, with_page}
use Rattle.flat_mm.proofs.Framing.{IsWritten, apart_frames, bytes_long, found_seen, found_within, marked_within, told_there, whole_seen, wrote}
use Rattle.flat_mm.proofs.store.PageStore.copy.Goals.{After-copy, After-copy-arg-1}
use Rattle.flat_mm.proofs.store.PageStore.copy.Goals as goal

-- the source
source : (c : After-copy-arg-1) → framed_at c.self.inside.caches.items c.args.from.0 c.args.from_page.0 ≡ Some c.page_in.result
source c = ap (λ (cs : List (Option Framed)). framed_at cs c.args.from.0 c.args.from_page.0) (sym c.deref.ensures.value) ∙ c.page_in.ensures

pub copy-requires-clause-from : goal.copy-requires-clause-from
copy-requires-clause-from c =
    let i = c.self.inside in
    found_within i.frames i.caches.items i.loose.items c.self.invariant c.args.from.0 c.args.from_page.0 c.page_in.result (source c)

pub copy-requires-clause-to : goal.copy-requires-clause-to
copy-requires-clause-to c =
    let i = c.self.inside in
    marked_within i.frames i.caches.items i.loose.items c.self.invariant c.args.to.0 c.args.to_page.0 c.deref_mut.result.now c.mark-frame.result c.deref_mut.ensures.value c.mark-frame.ensures.frame

pub copy-requires-clause-apart : goal.copy-requires-clause-apart
copy-requires-clause-apart c =
    let i = c.self.inside in
    let p = told_there i.frames i.caches.items i.loose.items c.self.invariant c.args.to.0 c.args.to_page.0 c.deref_mut.result.now c.mark-frame.result c.deref_mut.ensures.value c.mark-frame.ensures.frame in
    λ same. apart_frames i.frames i.caches.items i.loose.items c.self.invariant c.args.from.0 c.args.from_page.0 c.args.to.0 c.args.to_page.0 c.page_in.result p.0 (source c) p.1 c.requires.apart (same ∙ ap (λ x. x.0) (sym p.2))

abbrev arg : After-copy → After-copy-arg-1
arg c = (goal.at.invariant_of-self c).After-copy-arg-1

done : (c : After-copy) → IsWritten c.self.inside.frames c.copy.new.self c.self.inside.caches.items (with_items c.self.inside.caches c.mark-frame.new.caches).items c.self.inside.loose.items c.args.to.0 c.args.to_page.0 (record { bytes = bytes_of c.self.inside.frames c.page_in.result.frame.0; changed = true })
done c =
    let i = c.self.inside in
    let n = c.mark-frame.new.caches in
    wrote i.frames i.caches.items i.loose.items c.self.invariant c.args.to.0 c.args.to_page.0 c.deref_mut.result.now c.mark-frame.result c.deref_mut.ensures.value c.mark-frame.ensures.frame n (with_items i.caches n).items true c.copy.new.self (bytes_of i.frames c.page_in.result.frame.0)
    c.mark-frame.ensures.caches (with_items_is i.caches n (omega (arith, c.mark-frame.auto.caches, c.deref_mut.ensures.len))) c.copy.ensures
    (bytes_long i.frames i.caches.items i.loose.items c.self.invariant c.args.from.0 c.args.from_page.0 c.page_in.result (source (arg c)))

pub invariant_of-self : goal.invariant_of-self
invariant_of-self c = (done c).sound

pub returns-clause-copied : goal.returns-clause-copied
returns-clause-copied c = λ p is.
    let i = c.self.inside in
    let bytes = found_seen i.frames i.caches.items c.args.from.0 c.args.from_page.0 c.page_in.result (source (arg c)) p (ap (λ (s : Store). page_at s.caches c.args.from.0 c.args.from_page.0) c.self.view_is ∙ is) in
    (done c).seen ∙ (λ j. with_page c.args.to.0 c.args.to_page.0 (record { bytes = sym bytes j; changed = true }) (c.self.view_is j))

pub returns-clause-whole : goal.returns-clause-whole
returns-clause-whole c = let i = c.self.inside in whole_seen c.copy.new.self (with_items i.caches c.mark-frame.new.caches).items i.loose.items (done c).sound
