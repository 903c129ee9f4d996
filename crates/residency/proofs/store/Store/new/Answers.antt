use Rattle.std.proofs.Common.{ap, List, Bool, Option, None, sym, subst, refl, length, false, ◌∙◌, ◌*◌}
use Rattle.std.proofs.lemmas.List.{length-replicate}
use Rattle.page_tables.specs.declared.entry.Entry.{Entry}
use Rattle.residency.specs.World.{IsStoreRight}
use Rattle.residency.proofs.Worlds.Homes.{world_is}
use Rattle.residency.proofs.NewCaches.New.{new_right}
use Rattle.residency.proofs.store.Store.new.Goals as goal

pub returns-clause-right : goal.returns-clause-right
returns-clause-right c = λ told size caches none fits.
    subst IsStoreRight (sym (world_is _ _ refl refl refl c.in_ok-pool.ensures c.new-5.ensures c.in_ok-map.ensures (ap (λ (xs : List Bool). length xs) c.in_ok-marks.ensures ∙ length-replicate c.args.frames false) (ap (λ (ts : List (Option Entry)). length ts) c.in_ok-tables.ensures ∙ length-replicate (4 * c.args.frames) None))) (new_right c.args.frames c.args.page told size caches c.requires.frames none fits)
