use Rattle.std.proofs.Common.{◌≡◌, ℕ, List, [], set, get_or, ap, sym, ◌∙◌}
use Rattle.std.proofs.lemmas.List.{map-set, get_or-map}
use Rattle.std.proofs.lemmas.Option.{unwrap_or-slice_get}
use Rattle.vm_model.specs.Answering.{overwrite}
use Rattle.vm_model.specs.Seen.{pages_seen}
use Rattle.vm_model.proofs.accesses.write_cache.Goals as goal

pub returns-clause-pages : goal.returns-clause-pages
returns-clause-pages c =
    let pages = c.args.cache.now.pages.items in
    let old : c.index_mut.result.now.items ≡ get_or (pages_seen c.args.cache.now) c.args.page [] = ap (λ p. p.items) c.index_mut.ensures.value ∙ sym (get_or-map (λ p. p.items) pages c.args.page c.index_mut.result.now [] c.requires.there) in
    map-set (λ p. p.items) pages c.args.page c.write_page.new.page
    ∙ ap (λ (x : List ℕ). set (pages_seen c.args.cache.now) c.args.page x) (c.write_page.ensures ∙ ap (overwrite c.args.at c.args.bytes.now) (old ∙ sym (unwrap_or-slice_get (pages_seen c.args.cache.now) c.args.page [])))
