use Rattle.std.proofs.Common.{◌≡◌, List, Option, length, ap, ◌∙◌, arith}
use Rattle.page_tables.specs.Translations.{written_count}
use Rattle.page_tables.specs.declared.entry.Entry.{Entry}
use Rattle.page_tables.proofs.Writing.{written_is}
use Rattle.page_tables.proofs.places.Places.written.Goals as goal

pub returns : goal.returns
returns c = λ frames size. (
    let p = c.self.inside in
    let kept = c.self.invariant.1 in
    let same : length p.writing ≡ frames = omega (arith, size, ap (λ (xs : List (Option Entry)). length xs) c.self.view_is, kept.sizes) in
    c.len.ensures ∙ written_is p.entries p.by_frame p.writing kept.exact c.self.invariant.0.on_lists ∙ ap (written_count p.entries) same ∙ ap (λ (xs : List (Option Entry)). written_count xs frames) c.self.view_is)
