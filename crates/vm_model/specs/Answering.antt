-- The machine's answer to a command, row by row: the first refusal that holds, or else the reply
-- and the change.
use Rattle.std.specs.Prelude.{◌==◌, ℕ, ◌+◌, ◌-◌, ◌*◌, ◌%◌, ◌^◌, ◌&&◌, ◌||◌, not, Bool, false, true, is_some, nat_lt, nat_le, List, [], ◌∷◌, ◌++◌, map, filter, length, take, drop, replicate, Option, Some, None, option_map, option_and_then, slice_get, slice_set, Result, Ok, Err, if◌then◌else◌, unwrap_or}
use Rattle.std.specs.List.{list_any, range_with_len}
use Rattle.std.specs.FinMap.{get}
use Rattle.std.specs.Option.{option_map_or}
use Rattle.vm_ids.specs.Denying.{denies}
use Rattle.vm_ids.specs.Held.{Segments}
use Rattle.vm_ids.specs.declared.command.Command.{Command}
use Rattle.vm_ids.specs.declared.command.Command.TheVariants as commands
use Rattle.vm_ids.specs.declared.command.Extent.{Extent}
use Rattle.vm_ids.specs.declared.command.Mapping.{Mapping}
use Rattle.vm_ids.specs.declared.command.Prot.{Prot}
use Rattle.vm_ids.specs.declared.command.Span.{Span}
use Rattle.vm_ids.specs.declared.reply.Reply.{Reply}
use Rattle.vm_ids.specs.declared.reply.Reply.TheVariants as replies
use Rattle.vm_ids.specs.declared.reply.Trouble.{Trouble}
use Rattle.vm_ids.specs.declared.reply.Trouble.TheVariants as troubles
use Rattle.vm_ids.specs.declared.refusal.Refusal.{Refusal}
use Rattle.vm_ids.specs.declared.refusal.Refusal.TheVariants as refusals
use Rattle.vm_ids.specs.declared.numbers.CacheId.{CacheId}
use Rattle.vm_ids.specs.Forest.Reading.{chain_of, counts_of}
use Rattle.vm_ids.specs.Forest.Commands.{page_name}
use Rattle.vm_model.specs.declared.limits.TheConstants.{LIVING_ACTORS, LIVE_PAGES, MOST_MADE, UNLOCKED_FRAMES}
use Rattle.vm_model.specs.Machine.{Machine, Page, Cache, Region, Actor, zero_page, live_pages, living_actors, cache_of, cache_named, segment_of, actor_of, is_locked_page, locked_pages}
use Rattle.vm_model.specs.PageForest.{PageForest}
use Rattle.vm_model.specs.Place.{Place, place, region_at}
use Rattle.vm_model.specs.Regions.{region_with, replace_in, split_at, status_with, with_lock, with_prot}

-- what one command answers
abbrev pub Answer : Type 0
Answer = Result Reply Trouble

-- what a call gave, as the answer to its command
abbrev pub answer_by : {A : Type 0} → (A → Reply) → Result A Trouble → Answer
answer_by f (Ok x) = Ok (f x)
answer_by f (Err e) = Err e

-- An answer, and the machine after it.
pub record Answered : Type 0 where
  pub answer : Answer
  pub next : Machine

-- refused: the machine stays
abbrev pub refuse : Machine → Refusal → Answered
refuse m r = record { answer = Err (troubles.Refused r); next = m }

abbrev pub reply : Reply → Machine → Answered
reply r next = record { answer = Ok r; next = next }

-- refused where this is bad
unfoldable pub unless : Bool → Refusal → Machine → Answered → Answered
unless bad r m go = if bad then refuse m r else go

-- refused where there is nothing; else it goes on with what was found
unfoldable pub with_some : {A : Type 0} → Option A → Refusal → Machine → (A → Answered) → Answered
with_some None r m go = refuse m r
with_some (Some x) r m go = go x

-- refused as this is; else it goes on with what was found
unfoldable pub with_ok : {A : Type 0} → Result A Refusal → Machine → (A → Answered) → Answered
with_ok (Err r) m go = refuse m r
with_ok (Ok x) m go = go x

-- a part of a list, from this place on, is replaced
abbrev pub overwrite : {A : Type 0} → ℕ → List A → List A → List A
overwrite at part whole = take at whole ++ part ++ drop (at + length part) whole

-- actor: a new one without regions
unfoldable pub make_actor_of : Machine → Answered
make_actor_of m =
    unless (nat_le LIVING_ACTORS (living_actors m) || nat_le MOST_MADE (length m.actors))
    refusals.TooMany m
    (reply (replies.Actor (record { 0 = length m.actors + 1 }))
    (record m { actors = m.actors ++ Some [] ∷ [] }))

-- exit: the actor is gone, with its regions
unfoldable pub exit_actor_of : Machine → ℕ → Answered
exit_actor_of m actor =
    with_some (actor_of m actor) refusals.NoActor m (λ regions.
    reply replies.Done (record m { actors = slice_set m.actors (actor - 1) None }))

abbrev pub temporary : ℕ → ℕ → Cache
temporary page_bytes pages =
    record { segment = None; pages = replicate pages (zero_page page_bytes) }

-- temp: a new temporary cache of zero pages
unfoldable pub make_temp_of : Machine → ℕ → Answered
make_temp_of m pages =
    unless (nat_le MOST_MADE (length m.caches) || nat_lt LIVE_PAGES (live_pages m + pages))
    refusals.TooMany m
    (reply (replies.Cache (record { 0 = length m.caches + 1 }))
    (record m { caches = m.caches ++ Some (temporary m.page_bytes pages) ∷ [] }))

-- a cache that the segment with this number names, with all its pages
abbrev pub opened : ℕ → List Page → Cache
opened seg pages = record { segment = Some seg; pages = pages }

-- open: a new cache with the pages that the segment holds, where there is such a segment. No other
-- live cache is of it.
unfoldable pub open_of : Machine → ℕ → Option (List Page) → Answered
open_of m seg held =
    unless (is_some (cache_named m.caches seg)) refusals.SegmentInUse m
    (unless (nat_le MOST_MADE (length m.caches)) refusals.TooMany m
    (with_some held refusals.NoSegment m (λ pages.
    unless (nat_lt LIVE_PAGES (live_pages m + length pages)) refusals.TooMany m
    (reply (replies.Cache (record { 0 = length m.caches + 1 }))
    (record m { caches = m.caches ++ Some (opened seg pages) ∷ [] })))))

-- a region of a living actor maps the cache
abbrev pub maps_in : ℕ → Option Actor → Bool
maps_in cache None = false
maps_in cache (Some regions) = list_any (λ (r : Region). r.cache == cache) regions

abbrev pub is_mapped : Machine → ℕ → Bool
is_mapped m cache = list_any (maps_in cache) m.actors

-- destroy: the cache is gone
unfoldable pub destroy_of : Machine → ℕ → Answered
destroy_of m cache =
    with_some (cache_of m cache) refusals.NoCache m (λ c.
    unless (is_mapped m cache) refusals.InUse m
    (reply replies.Done (record m { caches = slice_set m.caches (cache - 1) None })))

-- these pages pass the end of the cache
abbrev pub passes_end : Cache → ℕ → ℕ → Bool
passes_end c first pages = nat_lt (length c.pages) (first + pages)

-- two ranges of so many pages or addresses each share one
abbrev pub shares : ℕ → ℕ → ℕ → ℕ → Bool
shares start size other other_size =
    nat_lt start (other + other_size) && nat_lt other (start + size)

-- the mapper denies writing to this page of the cache: only where a segment names the cache
abbrev pub is_denied_page : Machine → Segments → ℕ → ℕ → Bool
is_denied_page m h cache page =
    option_map_or (λ seg. denies h.denied seg page) (segment_of m cache) false

abbrev pub put_pages : ℕ → List Page → Cache → Cache
put_pages first pages c = record c { pages = overwrite first pages c.pages }

abbrev pub put_cache : Machine → ℕ → Cache → Machine
put_cache m cache c = record m { caches = slice_set m.caches (cache - 1) (Some c) }

-- the pages of a copy or a move pass the end of the source or of the destination
abbrev pub passes_an_end : Span → Cache → Cache → Bool
passes_an_end s source destination =
    passes_end source s.from_page.0 s.pages || passes_end destination s.to_page.0 s.pages

-- the source and the destination of a copy or a move share a page
abbrev pub overlaps_itself : Span → Bool
overlaps_itself s = s.from.0 == s.to.0 && shares s.from_page.0 s.pages s.to_page.0 s.pages

-- one of so many pages of a cache is locked
abbrev pub is_any_locked : Machine → CacheId → ℕ → ℕ → Bool
is_any_locked m cache first pages =
    list_any (is_locked_page m cache.0) (range_with_len first pages)

-- the mapper denies writing to one of the pages that a copy or a move fills
abbrev pub is_any_denied : Machine → Segments → Span → Bool
is_any_denied m h s = list_any (is_denied_page m h s.to.0) (range_with_len s.to_page.0 s.pages)

-- the destination's pages are what the source's pages are
abbrev pub put_span : Machine → Span → Cache → Cache → Machine
put_span m s source destination =
    put_cache m s.to.0
    (put_pages s.to_page.0 (take s.pages (drop s.from_page.0 source.pages)) destination)

-- copy: the destination's pages become what the source's pages held before, all at once
unfoldable pub copy_of : Machine → Span → Segments → Answered
copy_of m s h =
    with_some (cache_of m s.from.0) refusals.NoCache m (λ source.
    with_some (cache_of m s.to.0) refusals.NoCache m (λ destination.
    unless (passes_an_end s source destination) refusals.OutOfCache m
    (unless (overlaps_itself s) refusals.Overlap m
    (unless (is_any_locked m s.to s.to_page.0 s.pages) refusals.Locked m
    (unless (is_any_denied m h s) refusals.WriteDenied m
    (reply replies.Done (put_span m s source destination)))))))

-- a segment names the cache
abbrev pub is_named : Machine → ℕ → Bool
is_named m cache = option_map_or (λ (c : Cache). is_some c.segment) (cache_of m cache) false

-- the cache with this number becomes what `change` makes of it
abbrev pub change_cache : Machine → ℕ → (Cache → Cache) → Machine
change_cache m cache change = option_map_or (λ c. put_cache m cache (change c)) (cache_of m cache) m

-- these pages of the source become zeros
abbrev pub zero_source : Machine → Span → Machine
zero_source m s =
    change_cache m s.from.0 (put_pages s.from_page.0 (replicate s.pages (zero_page m.page_bytes)))

-- move: as copy, and the source's pages become zeros
unfoldable pub move_of : Machine → Span → Segments → Answered
move_of m s h =
    with_some (cache_of m s.from.0) refusals.NoCache m (λ source.
    with_some (cache_of m s.to.0) refusals.NoCache m (λ destination.
    unless (passes_an_end s source destination) refusals.OutOfCache m
    (unless (is_some source.segment) refusals.NotTemp m
    (unless (overlaps_itself s) refusals.Overlap m
    (unless (is_any_locked m s.from s.from_page.0 s.pages
    || is_any_locked m s.to s.to_page.0 s.pages)
    refusals.Locked m
    (unless (is_any_denied m h s) refusals.WriteDenied m
    (reply replies.Done (zero_source (put_span m s source destination) s))))))))

-- the region shares an address with so many pages at this address
abbrev pub overlaps : ℕ → ℕ → ℕ → Region → Bool
overlaps page_bytes address pages r =
    shares address (page_bytes * pages) r.start (page_bytes * r.pages)

-- in order of start address
abbrev pub insert_region : Region → Actor → Actor
insert_region r [] = r ∷ []
insert_region r (x ∷ xs) = if nat_lt r.start x.start then r ∷ x ∷ xs else x ∷ insert_region r xs

abbrev pub region_of : ℕ → Mapping → Region
region_of number p = record {
  number = number;
  start = p.address;
  pages = p.extent.pages;
  may_write = p.prot.write;
  cache = p.extent.cache.0;
  offset = p.extent.first.0;
  locked = false;
}

abbrev pub put_actor : Machine → ℕ → Actor → Machine
put_actor m actor regions = record m { actors = slice_set m.actors (actor - 1) (Some regions) }

-- the actor with a new region, under the next number
abbrev pub add_region : Machine → ℕ → Actor → Mapping → Machine
add_region m actor regions p =
    let number = m.regions_made + 1 in
    record (put_actor m actor
    (insert_region (region_of number p) regions)) { regions_made = number }

-- map: a new region, unlocked
unfoldable pub map_of : Machine → ℕ → Mapping → Answered
map_of m actor p =
    with_some (actor_of m actor) refusals.NoActor m (λ regions.
    with_some (cache_of m p.extent.cache.0) refusals.NoCache m (λ cache.
    unless (not (p.address % m.page_bytes == 0)) refusals.Unaligned m
    (unless (nat_lt (2 ^ 48) (p.address + m.page_bytes * p.extent.pages)) refusals.BadAddress m
    (unless (passes_end cache p.extent.first.0 p.extent.pages) refusals.OutOfCache m
    (unless (list_any (overlaps m.page_bytes p.address p.extent.pages) regions) refusals.Overlap m
    (unless (nat_le MOST_MADE m.regions_made) refusals.TooMany m
    (reply (replies.Region (record { 0 = m.regions_made + 1 }))
    (add_region m actor regions p))))))))

-- the region with this number becomes these
abbrev pub change_region : Machine → ℕ → (Region → List Region) → Machine
change_region m number by = record m { actors = replace_in number by m.actors }

-- split: the region keeps its first pages, and the next region has the others
unfoldable pub split_of : Machine → ℕ → ℕ → Answered
split_of m number pages =
    with_some (region_with number m.actors) refusals.NoRegion m (λ r.
    unless (nat_le r.pages pages) refusals.BadAddress m
    (unless (nat_le MOST_MADE m.regions_made) refusals.TooMany m
    (let fresh = m.regions_made + 1 in
    reply (replies.Region (record { 0 = fresh }))
    (record (change_region m number
    (split_at m.page_bytes pages fresh)) { regions_made = fresh }))))

-- protect: the region allows this beside reading
unfoldable pub protect_of : Machine → ℕ → Prot → Answered
protect_of m number prot =
    with_some (region_with number m.actors) refusals.NoRegion m (λ r.
    reply replies.Done (change_region m number (with_prot prot)))

-- so many pages are locked that an access could lack a frame
abbrev pub passes_lock_limit : Machine → Bool
passes_lock_limit m = nat_lt (m.frames - UNLOCKED_FRAMES) (locked_pages m)

-- lock: the region is locked, and its pages are held in page frames
unfoldable pub lock_of : Machine → ℕ → Answered
lock_of m number =
    with_some (region_with number m.actors) refusals.NoRegion m (λ r.
    unless r.locked refusals.Locked m
    (let next = change_region m number (with_lock true) in
    unless (passes_lock_limit next) refusals.LockLimit m
    (reply replies.Done next)))

-- unlock: the region isn't locked any more
unfoldable pub unlock_of : Machine → ℕ → Answered
unlock_of m number =
    with_some (region_with number m.actors) refusals.NoRegion m (λ r.
    unless (not r.locked) refusals.NotLocked m
    (reply replies.Done (change_region m number (with_lock false))))

abbrev pub without_region : ℕ → Actor → Actor
without_region number regions = filter (λ (r : Region). not (r.number == number)) regions

-- unmap: the region is gone
unfoldable pub unmap_of : Machine → ℕ → Answered
unmap_of m number =
    with_some (region_with number m.actors) refusals.NoRegion m (λ r.
    unless r.locked refusals.Locked m
    (reply replies.Done (record m { actors = map (option_map (without_region number)) m.actors })))

-- status: what there is to tell of the region
unfoldable pub status_of : Machine → ℕ → Answered
status_of m number =
    with_some (status_with number 1 m.actors) refusals.NoRegion m (λ status.
    reply (replies.Status status) m)

-- find: the region of the actor that holds the address
unfoldable pub find_of : Machine → ℕ → ℕ → Answered
find_of m actor address =
    with_some (actor_of m actor) refusals.NoActor m (λ regions.
    with_some (region_at m.page_bytes address regions) refusals.BadAddress m (λ r.
    reply (replies.Region (record { 0 = r.number })) m))

-- the page of a place, empty where there is none
abbrev pub page_at : Machine → Place → Page
page_at m p =
    option_map_or (λ (c : Cache). unwrap_or (slice_get c.pages p.page) [])
    (cache_of m p.region.cache) []

abbrev pub bytes_at : Machine → Place → ℕ → List ℕ
bytes_at m p length = take length (drop p.byte (page_at m p))

-- load: the bytes at the place
unfoldable pub load_of : Machine → ℕ → ℕ → ℕ → Answered
load_of m actor address length =
    with_ok (place m actor address length) m (λ p. reply (replies.Bytes (bytes_at m p length)) m)

abbrev pub put_page : ℕ → Page → Cache → Cache
put_page page bytes c = record c { pages = slice_set c.pages page bytes }

-- these bytes stand at the place
abbrev pub write_at : Machine → Place → List ℕ → Machine
write_at m p bytes =
    option_map_or
    (λ c. put_cache m p.region.cache (put_page p.page (overwrite p.byte bytes (page_at m p)) c))
    (cache_of m p.region.cache) m

-- store: the bytes at the place change
unfoldable pub store_of : Machine → ℕ → ℕ → List ℕ → Segments → Answered
store_of m actor address bytes h =
    with_ok (place m actor address (length bytes)) m (λ p.
    unless (not p.region.may_write) refusals.Protection m
    (unless (is_denied_page m h p.region.cache p.page) refusals.WriteDenied m
    (reply replies.Done (write_at m p bytes))))

-- sync: the pages of the range are pushed to the segment, and the machine stays
unfoldable pub sync_of : Machine → Extent → Answered
sync_of m e =
    with_some (cache_of m e.cache.0) refusals.NoCache m (λ c.
    with_some c.segment refusals.NotNamed m (λ seg.
    unless (passes_end c e.first.0 e.pages) refusals.OutOfCache m
    (reply replies.Done m)))

-- flush: as sync, but no page of the range may be locked
unfoldable pub flush_of : Machine → Extent → Answered
flush_of m e =
    with_some (cache_of m e.cache.0) refusals.NoCache m (λ c.
    with_some c.segment refusals.NotNamed m (λ seg.
    unless (passes_end c e.first.0 e.pages) refusals.OutOfCache m
    (unless (is_any_locked m e.cache e.first.0 e.pages) refusals.Locked m
    (reply replies.Done m))))

-- what the segment holds that names this cache
abbrev pub held_for : Machine → Segments → ℕ → Option (List Page)
held_for m h cache = option_and_then (get h.pages) (segment_of m cache)

-- so many of the pages held, from page `first` on; an empty one for each that there is not
abbrev pub held_part : Option (List Page) → ℕ → ℕ → List Page
held_part held first pages =
    map (λ page. unwrap_or (option_and_then (λ ps. slice_get ps page) held) [])
    (range_with_len first pages)

-- invalidate: each page of the range becomes the one that the segment holds
unfoldable pub invalidate_of : Machine → Extent → Option (List Page) → Answered
invalidate_of m e held =
    with_some (cache_of m e.cache.0) refusals.NoCache m (λ c.
    with_some c.segment refusals.NotNamed m (λ seg.
    unless (passes_end c e.first.0 e.pages) refusals.OutOfCache m
    (unless (is_any_locked m e.cache e.first.0 e.pages) refusals.Locked m
    (reply replies.Done
    (put_cache m e.cache.0 (put_pages e.first.0 (held_part held e.first.0 e.pages) c))))))

-- chain: the nodes from that of the page up to its owner
unfoldable pub chain_answer : Machine → PageForest → CacheId → ℕ → Answered
chain_answer m f cache page =
    with_some (cache_of m cache.0) refusals.NoCache m (λ c.
    unless (passes_end c page 1) refusals.OutOfCache m
    (reply (replies.Chain (chain_of f (page_name cache page))) m))

-- the whole table; the forest is what chain and stat tell
abbrev pub answer_of : Machine → PageForest → Command → Segments → Answered
answer_of m f commands.MakeActor h = make_actor_of m
answer_of m f (commands.ExitActor actor) h = exit_actor_of m actor.0
answer_of m f (commands.MakeTemp pages) h = make_temp_of m pages
answer_of m f (commands.OpenSegment seg) h = open_of m seg.0 (get h.pages seg.0)
answer_of m f (commands.Destroy cache) h = destroy_of m cache.0
answer_of m f (commands.Copy span) h = copy_of m span h
answer_of m f (commands.Move span) h = move_of m span h
answer_of m f (commands.Map actor mapping) h = map_of m actor.0 mapping
answer_of m f (commands.Split region pages) h = split_of m region.0 pages
answer_of m f (commands.Protect region prot) h = protect_of m region.0 prot
answer_of m f (commands.Lock region) h = lock_of m region.0
answer_of m f (commands.Unlock region) h = unlock_of m region.0
answer_of m f (commands.Unmap region) h = unmap_of m region.0
answer_of m f (commands.Status region) h = status_of m region.0
answer_of m f (commands.Find actor address) h = find_of m actor.0 address
answer_of m f (commands.Load actor address length) h = load_of m actor.0 address length
answer_of m f (commands.Store actor address piece) h = store_of m actor.0 address piece h
answer_of m f (commands.Sync extent) h = sync_of m extent
answer_of m f (commands.Flush extent) h = flush_of m extent
answer_of m f (commands.Invalidate extent) h =
    invalidate_of m extent (held_for m h extent.cache.0)
answer_of m f (commands.PageOut count) h = reply replies.Done m
answer_of m f (commands.Chain cache page) h = chain_answer m f cache page.0
answer_of m f commands.Stat h = reply (replies.Stat (counts_of f)) m
