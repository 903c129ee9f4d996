use Rattle.std.proofs.Common.{ℕ, ◌-◌, ◌<◌, List, [], length, map, set, ap, sym, ◌∙◌}
use Rattle.std.proofs.lemmas.List.{map-set, get_or-map}
use Rattle.vm_port.specs.Mapping.{pages_seen}
use Rattle.vm_port.proofs.Holding.{segment_there}
use Rattle.vm_port.proofs.memory.pages.put_page.Goals as goal

pub returns-clause-put : goal.returns-clause-put
returns-clause-put c =
    let segs = c.args.segments.now.items in
    let i = c.args.seg - 1 in
    let within : i < length segs = segment_there segs c.args.seg c.args.page c.requires.there in
    map-set pages_seen segs i c.put_in.new.segment
    ∙ ap (λ (x : List (List ℕ)). set (map pages_seen segs) i x) (c.put_in.ensures.put ∙ ap (λ (x : List (List ℕ)). set x c.args.page c.args.from.now) (ap pages_seen c.index_mut.ensures.value ∙ sym (get_or-map pages_seen segs i c.index_mut.result.now [] within)))
