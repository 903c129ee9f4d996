use Rattle.std.proofs.lemmas.Bool.{false≢true}
use Rattle.vm_ids.proofs.Forest.Laws.Ranges.{ranges_hold_their_pages}
use Rattle.local_cache.specs.Reading.{name_of}
use Rattle.page_commands.proofs.translations.is_of.Goals as goal

pub returns-in-Working : goal.returns-in-Working
returns-in-Working c =
    let e = c.args.extent in (
      λ t. absurd (false≢true t),
      λ i. absurd (let r = (ranges_hold_their_pages e.cache e.first.0 e.pages (name_of c.args.caches.now c.args.node)).0 i in cc (r.2, c.name.ensures, c.in-Working.is)),
    )
