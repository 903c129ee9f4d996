use Rattle.std.proofs.Common.{rules, ◌≡◌, ◌≤◌, ◌+◌, ◌-◌, ◌++◌, ℕ, None, Option, List, length, replicate, ap, ◌∙◌}
use Rattle.std.proofs.lemmas.List.{take_all}
use Rattle.page_tables.specs.Places.{places_in}
use Rattle.page_tables.specs.declared.entry.Entry.{Entry}
use Rattle.page_tables.proofs.FirstLinks.{places_more}
use Rattle.page_tables.proofs.entries.bring.Goals as goal

pub returns-clause-same : goal.returns-clause-same
returns-clause-same c =
    let end : ℕ = c.args.place + 1 in
    let old : List (Option Entry) = c.args.there.now.items in
    let more : length old ≤ end = search rules in
    let grown : c.resize.new.self.items ≡ old ++ replicate (end - length old) None =
    c.in-Ok.ensures.items ∙ ap (λ (front : List (Option Entry)). front ++ replicate (end - c.args.there.now.len) None) (take_all end old more)
    ∙ ap (λ (k : ℕ). old ++ replicate (end - k) None) c.args.there.now.ok.0 in
    ap (places_in c.args.count) grown ∙ places_more c.args.count end old more (search rules)
