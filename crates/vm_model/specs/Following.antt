-- How the page forest follows the answers.
use Rattle.std.specs.Prelude.{ℕ, ◌-◌, List, [], length, option_map, Result, Ok, Err, unwrap_or}
use Rattle.std.specs.Option.{option_map_or}
use Rattle.vm_ids.specs.declared.command.Command.{Command}
use Rattle.vm_ids.specs.declared.command.Command.TheVariants as commands
use Rattle.vm_ids.specs.declared.node_name.NodeName.{NodeName}
use Rattle.vm_ids.specs.declared.reply.FaultAt.TheVariants as faults
use Rattle.vm_ids.specs.declared.reply.Trouble.TheVariants as troubles
use Rattle.vm_ids.specs.declared.refusal.Refusal.{Refusal}
use Rattle.vm_ids.specs.Forest.Rules.{write}
use Rattle.vm_ids.specs.Forest.Saving.{saves}
use Rattle.vm_ids.specs.Forest.Commands.{page_name, page_names, extent_names, span_pairs, make, copy, move_, invalidate, destroy, lock}
use Rattle.vm_model.specs.Machine.{Machine, Region, cache_of, pages_in}
use Rattle.vm_model.specs.Place.{Place, place}
use Rattle.vm_model.specs.Regions.{region_with}
use Rattle.vm_model.specs.PageForest.{PageForest, told, nodes_of, nodes_in, page_in}
use Rattle.vm_model.specs.Answering.{Answer, is_named, overwrite}

-- The pages of which a command does the saves, where they are of a named cache: those that it
-- replaces or takes away.
abbrev pub pages_saved : Machine → Command → List NodeName
pages_saved m (commands.Copy span) = page_names span.to span.to_page.0 span.pages
pages_saved m (commands.Move span) = page_names span.to span.to_page.0 span.pages
pages_saved m (commands.Destroy cache) = page_names cache 0 (pages_in (cache_of m cache.0))
pages_saved m (commands.Invalidate extent) = extent_names extent
pages_saved m command = []

-- the first so many pages under a region
abbrev pub pages_under : ℕ → Region → List NodeName
pages_under pages r = page_names (record { 0 = r.cache }) r.offset pages

-- the pages under the region with this number, where a living actor has it
abbrev pub pages_locked : Machine → ℕ → List NodeName
pages_locked m number =
    option_map_or (λ (r : Region). pages_under r.pages r) (region_with number m.actors) []

-- the pages that a lock had passed when it failed at this page of the cache
abbrev pub pages_passed : Machine → Command → ℕ → List NodeName
pages_passed m (commands.Lock region) page =
    option_map_or (λ (r : Region). pages_under (page - r.offset) r)
    (region_with region.0 m.actors) []
pages_passed m command page = []

-- these bytes are written at the place
abbrev pub written_at : PageForest → Result Place Refusal → List ℕ → PageForest
written_at f (Ok at) bytes =
    write f (page_name (record { 0 = at.region.cache }) at.page)
    (option_map (overwrite at.byte bytes))
written_at f (Err r) bytes = f

-- The rule of each command that was carried out, which led from machine m to next. New pages, and
-- the zeros that a move leaves, are those that next has.
abbrev pub followed : PageForest → Machine → Command → Machine → PageForest
followed f m (commands.MakeTemp pages) next =
    make (nodes_of (length next.caches) (cache_of next (length next.caches))) f
followed f m (commands.OpenSegment seg) next =
    make (nodes_of (length next.caches) (cache_of next (length next.caches))) f
followed f m (commands.Destroy cache) next =
    destroy (is_named m cache.0) (pages_saved m (commands.Destroy cache)) f
followed f m (commands.Copy span) next = copy (is_named m span.to.0) (span_pairs span) f
followed f m (commands.Move span) next =
    move_ (is_named m span.to.0) (told (unwrap_or (page_in next span.from.0 span.from_page.0) []))
    (span_pairs span) f
followed f m (commands.Lock region) next = lock (pages_locked m region.0) f
followed f m (commands.Store actor address piece) next =
    written_at f (place m actor.0 address (length piece)) piece
followed f m (commands.Invalidate extent) next =
    invalidate (nodes_in extent (cache_of next extent.cache.0)) f
followed f m command next = f

-- The forest after an answer: the command's rule; or the saves that were done before one failed, or
-- the pages that a lock had passed; or the same forest.
abbrev pub forest_after : PageForest → Machine → Command → Answer → Machine → PageForest
forest_after f m command (Ok reply) next = followed f m command next
forest_after f m command (Err (troubles.Mapper (faults.Save done))) next =
    saves done (pages_saved m command) f
forest_after f m command (Err (troubles.Mapper (faults.Page page))) next =
    lock (pages_passed m command page.0) f
forest_after f m command (Err trouble) next = f
