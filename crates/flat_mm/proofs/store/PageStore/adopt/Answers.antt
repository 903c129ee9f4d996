use Rattle.std.proofs.Common.{◌∙◌, ap, List, ◌++◌, ◌∷◌, [], Some}
use Rattle.flat_mm.specs.declared.framed.FramedPage.{FramedPage}
use Rattle.flat_mm.proofs.Framing.{whole_seen}
use Rattle.flat_mm.proofs.Loosening.{adopted}
use Rattle.flat_mm.proofs.store.PageStore.adopt.Goals as goal

pub returns-clause-whole : goal.returns-clause-whole
returns-clause-whole c =
    let i = c.self.inside in
    whole_seen i.frames c.push_reserved.new.self.items c.replace-pages.new.dest.items
    (adopted i.frames i.caches.items i.loose.items c.self.invariant c.args.segment c.push_reserved.new.self.items c.replace-pages.new.dest.items
    (c.push_reserved.ensures.items ∙ (λ j. c.in-Ok.ensures.items j ++ Some ((c.new-2.ensures ∙ ap (λ (ps : List FramedPage). record { segment = c.args.segment; pages = ps }) (ap (λ v. v.items) c.replace-pages.ensures.value)) j) ∷ []))
    (ap (λ v. v.items) c.replace-pages.ensures.after ∙ c.new.ensures.items))
