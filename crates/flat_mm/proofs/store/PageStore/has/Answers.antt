use Rattle.std.proofs.Common.{◌∙◌, ap, sym}
use Rattle.std.specs.List.{list_any}
use Rattle.flat_mm.specs.Frames.{is_framed_of}
use Rattle.flat_mm.specs.Store.{Store, is_of}
use Rattle.flat_mm.proofs.Framing.{any_seen}
use Rattle.flat_mm.proofs.store.PageStore.has.Goals as goal

pub returns : goal.returns
returns c =
    c.any_of.ensures ∙ ap (list_any (is_framed_of c.args.seg)) c.deref.ensures.value ∙ sym (any_seen c.self.inside.frames c.args.seg c.self.inside.caches.items)
    ∙ ap (λ (s : Store). list_any (is_of c.args.seg) s.caches) c.self.view_is
