use Rattle.std.proofs.Common.{◌≡◌, ℕ, ◌+◌, ◌≤◌, List, [], length, Option, None, unwrap_or, is_some, ap, ◌∙◌, subst, arith, inl}
use Rattle.std.specs.Result.{OnOk}
use Rattle.vm_ids.specs.declared.command.Span.{Span}
use Rattle.vm_ids.specs.declared.numbers.CacheId.{CacheId}
use Rattle.vm_ids.specs.declared.numbers.NodeId.{NodeId}
use Rattle.vm_ids.specs.Forest.Commands.{make, page_name, span_pairs}
use Rattle.vm_ids.specs.Forest.Laws.Commands.{CanCopy}
use Rattle.vm_ids.specs.Forest.Nodes.{IsNode, no_forest}
use Rattle.vm_ids.specs.Forest.Shape.{IsConsistent}
use Rattle.vm_ids.proofs.Forest.Laws.Ranges.{spans_can_be_copied}
use Rattle.local_cache.specs.declared.own_state.OwnState.TheVariants.{Zero}
use Rattle.local_cache.specs.Arena.{Arena, Cell, HasPage, HasPages, IsMade, Room, blank, cell}
use Rattle.local_cache.specs.Reading.{AreNamesApart, forest_of}
use Rattle.local_cache.specs.Sound.{IsSound}
use Rattle.local_cache.proofs.Forest.Reading.{IsNode-forest_of}
use Rattle.local_cache.proofs.NewCache.Whole.{none_len, none_whole, pages_with, whole_begun}
use Rattle.arena_tests.proofs.merges.alike_pages_are_copied_at_once.Goals as goal

page_is_node : (a : Arena) → AreNamesApart a → (cache : CacheId) (page : ℕ) → HasPage a cache page Zero → IsNode (forest_of a) (page_name cache page)
unfolding cell
page_is_node a named cache page p = subst (IsNode (forest_of a)) (ap (λ (o : Option Cell). (unwrap_or o blank).name) p.is) (IsNode-forest_of a named p.node (ap is_some p.is))

-- the last nine of eighteen pages may become copies of the first nine
abbrev halves : CacheId → Span
halves cache = record { from = cache; from_page = record { 0 = 0 }; to = cache; to_page = record { 0 = 9 }; pages = 9 }

halves_can : (a : Arena) → IsSound a → (cache : CacheId) → HasPages a cache 18 Zero → CanCopy (forest_of a) (span_pairs (halves cache))
halves_can a sound cache pages =
    spans_can_be_copied (forest_of a) (halves cache)
    (λ i low. page_is_node a sound.kept.named cache (0 + i) (pages (0 + i) (omega arith)))
    (λ i low. page_is_node a sound.kept.named cache (9 + i) (pages (9 + i) (omega arith)))
    (λ same. inl (omega arith))

begun : (a b : Arena) → a.caches ≡ [] → forest_of a ≡ no_forest → IsSound a → (cache : CacheId) (nodes : List NodeId) → length nodes ≡ 18 → IsMade a b cache None Zero nodes → forest_of b ≡ make (pages_with Zero cache 18) (forest_of a) → IsSound b → IsConsistent (forest_of b)
begun a b none empty sound cache nodes size made forest sound_b = (whole_begun a b (none_whole a none empty sound) cache 18 None Zero nodes size made forest sound_b (omega (arith, none_len (forest_of a) empty))).consistent

pub copy_step-step-requires-clause-consistent : goal.copy_step-step-requires-clause-consistent
copy_step-step-requires-clause-consistent g c =
    let e = c.make_temp-cache.ensures in
    let sound = c.reserve.ensures.sound c.new-caches.ensures.sound in
    begun c.reserve.new.self c.make_temp-cache.new.self (ap (λ (k : Arena). k.caches) c.reserve.ensures.kept ∙ c.new-caches.ensures.caches) (c.reserve.ensures.forest ∙ c.new-caches.ensures.forest) sound c.make_temp-cache.result e.made.0 e.made.1 e.made.2 (e.forest sound) (e.sound sound)

pub copy_step-step-requires-clause-sound : goal.copy_step-step-requires-clause-sound
copy_step-step-requires-clause-sound g c = c.make_temp-cache.ensures.sound (c.reserve.ensures.sound c.new-caches.ensures.sound)

pub copy_step-step-requires-clause-can : goal.copy_step-step-requires-clause-can
copy_step-step-requires-clause-can g c =
    halves_can c.make_temp-cache.new.self (c.make_temp-cache.ensures.sound (c.reserve.ensures.sound c.new-caches.ensures.sound)) c.make_temp-cache.result c.make_temp-cache.ensures.pages

pub copy_step-step-requires-clause-room : goal.copy_step-step-requires-clause-room
copy_step-step-requires-clause-room g c =
    let room : 36 ≤ c.reserve.new.self.room.nodes = subst (λ r. OnOk r (36 ≤ c.reserve.new.self.room.nodes)) c.expect.ensures c.reserve.ensures.nodes in
    let made = c.make_temp-cache.ensures.made in
    omega (arith, room, made.1, ap (λ (r : Room). r.nodes) made.2.room)

pub copy_step-step-requires-clause-made : goal.copy_step-step-requires-clause-made
copy_step-step-requires-clause-made g c =
    let made = c.make_temp-cache.ensures.made in
    omega (arith, made.2.made, ap (λ (k : Arena). k.made) c.reserve.ensures.kept, c.new-caches.ensures.counters.0)
