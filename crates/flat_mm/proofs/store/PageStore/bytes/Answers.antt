use Rattle.std.proofs.Common.{◌≡◌, ◌∙◌, ap, sym, List, ℕ, Option, Some}
use Rattle.std.specs.Prelude.{option_map}
use Rattle.flat_mm.specs.Frames.{Framed, framed_at}
use Rattle.flat_mm.specs.Layout.{page_shown}
use Rattle.flat_mm.specs.Store.{Page, Store, page_at}
use Rattle.flat_mm.proofs.Framing.{found_within, page_seen}
use Rattle.flat_mm.proofs.store.PageStore.bytes.Goals as goal

pub bytes-requires : goal.bytes-requires
bytes-requires c =
    let i = c.self.inside in
    found_within i.frames i.caches.items i.loose.items c.self.invariant c.args.cache.0 c.args.page.0 c.page_in.result
    (ap (λ (cs : List (Option Framed)). framed_at cs c.args.cache.0 c.args.page.0) (sym c.deref.ensures.value) ∙ c.page_in.ensures)

pub returns-clause-bytes : goal.returns-clause-bytes
returns-clause-bytes c =
    let i = c.self.inside in
    let here : framed_at i.caches.items c.args.cache.0 c.args.page.0 ≡ Some c.page_in.result = ap (λ (cs : List (Option Framed)). framed_at cs c.args.cache.0 c.args.page.0) (sym c.deref.ensures.value) ∙ c.page_in.ensures in
    ap (option_map (λ (p : Page). p.bytes))
    (ap (λ (s : Store). page_at s.caches c.args.cache.0 c.args.page.0) (sym c.self.view_is) ∙ page_seen i.frames i.caches.items c.args.cache.0 c.args.page.0 ∙ ap (option_map (page_shown i.frames)) here)
    ∙ ap (λ (b : List ℕ). Some b) (sym c.bytes.ensures.bytes)
