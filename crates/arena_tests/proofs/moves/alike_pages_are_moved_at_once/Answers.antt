use Rattle.std.proofs.Common.{◌+◌, ◌≤◌, ap, subst, ◌∙◌, arith, inl, lit<}
use Rattle.std.specs.Result.{OnOk}
use Rattle.vm_ids.specs.declared.command.Span.{Span}
use Rattle.vm_ids.specs.declared.numbers.CacheId.{CacheId}
use Rattle.vm_ids.specs.Forest.Commands.{span_pairs}
use Rattle.vm_ids.specs.Forest.Laws.Commands.{CanCopy}
use Rattle.vm_ids.proofs.Forest.Laws.Ranges.{spans_can_be_copied}
use Rattle.local_cache.specs.declared.own_state.OwnState.TheVariants.{Zero}
use Rattle.local_cache.specs.Arena.{Arena, HasPages, Room}
use Rattle.local_cache.specs.Reading.{forest_of}
use Rattle.local_cache.specs.Sound.{IsSound}
use Rattle.arena_tests.proofs.FirstPages.{begun, page_is}
use Rattle.arena_tests.proofs.moves.alike_pages_are_moved_at_once.Goals as goal

-- the first two of four pages may be moved over the last two
abbrev halves : CacheId → Span
halves cache = record { from = cache; from_page = record { 0 = 0 }; to = cache; to_page = record { 0 = 2 }; pages = 2 }

halves_can : (a : Arena) → IsSound a → (cache : CacheId) → HasPages a cache 4 Zero → CanCopy (forest_of a) (span_pairs (halves cache))
halves_can a sound cache pages =
    spans_can_be_copied (forest_of a) (halves cache)
    (λ i low. page_is a sound cache (0 + i) (pages (0 + i) (omega arith)))
    (λ i low. page_is a sound cache (2 + i) (pages (2 + i) (omega arith)))
    (λ same. inl (omega arith))

pub move_step-step-requires-clause-sound : goal.move_step-step-requires-clause-sound
move_step-step-requires-clause-sound g c = c.make_temp-cache.ensures.sound (c.reserve.ensures.sound c.new-caches.ensures.sound)

pub move_step-step-requires-clause-consistent : goal.move_step-step-requires-clause-consistent
move_step-step-requires-clause-consistent g c =
    let e = c.make_temp-cache.ensures in
    let sound = c.reserve.ensures.sound c.new-caches.ensures.sound in
    begun 4 (lit< tt) c.reserve.new.self c.make_temp-cache.new.self (ap (λ (k : Arena). k.caches) c.reserve.ensures.kept ∙ c.new-caches.ensures.caches) (c.reserve.ensures.forest ∙ c.new-caches.ensures.forest) sound
    c.make_temp-cache.result e.made.0 e.made.1 e.made.2 (e.forest sound) (e.sound sound)

pub move_step-step-requires-clause-can : goal.move_step-step-requires-clause-can
move_step-step-requires-clause-can g c =
    halves_can c.make_temp-cache.new.self (c.make_temp-cache.ensures.sound (c.reserve.ensures.sound c.new-caches.ensures.sound)) c.make_temp-cache.result c.make_temp-cache.ensures.pages

pub move_step-step-requires-clause-room : goal.move_step-step-requires-clause-room
move_step-step-requires-clause-room g c =
    let room : 5 ≤ c.reserve.new.self.room.nodes = subst (λ r. OnOk r (5 ≤ c.reserve.new.self.room.nodes)) c.expect.ensures c.reserve.ensures.nodes in
    let made = c.make_temp-cache.ensures.made in
    omega (arith, room, made.1, ap (λ (r : Room). r.nodes) made.2.room)

pub move_step-step-requires-clause-made : goal.move_step-step-requires-clause-made
move_step-step-requires-clause-made g c =
    let made = c.make_temp-cache.ensures.made in
    omega (arith, made.2.made, ap (λ (k : Arena). k.made) c.reserve.ensures.kept, c.new-caches.ensures.counters.0)
