-- What a command over pages needs, and what it leaves.
use Rattle.std.specs.Prelude.{◌≡◌, ℕ, ◌+◌, ◌*◌, ◌<◌, ◌≤◌, ◌^◌, List, length, None}
use Rattle.vm_ids.specs.declared.command.Span.{Span}
use Rattle.vm_ids.specs.declared.node_name.NodeName.{NodeName}
use Rattle.vm_ids.specs.declared.numbers.CacheId.{CacheId}
use Rattle.vm_ids.specs.Forest.Commands.{firsts, span_pairs}
use Rattle.vm_ids.specs.Forest.Laws.Commands.{CanCopy}
use Rattle.vm_ids.specs.Forest.Laws.Settling.{IsSettled}
use Rattle.vm_ids.specs.Forest.NameLists.{◌∈◌}
use Rattle.vm_ids.specs.Forest.NameMap.{len}
use Rattle.vm_ids.specs.Forest.Nodes.{IsNode}
use Rattle.vm_ids.specs.Forest.Reading.{live_count}
use Rattle.vm_ids.specs.Forest.Shape.{IsBounded, IsConsistent}
use Rattle.local_cache.specs.Arena.{Arena, node_at, without_cache}
use Rattle.local_cache.specs.Own.{own_states}
use Rattle.local_cache.specs.Reading.{forest_of}
use Rattle.local_cache.specs.Sound.{IsSound}
use Rattle.local_cache.specs.Whole.{IsWhole}
use Rattle.residency.specs.declared.store.Store.{Store}
use Rattle.page_commands.specs.Homes.{AreAllSaved, IsWritable}
use Rattle.page_commands.specs.Steps.{AreUnpinned, IsStoreTied, IsWorkingUnpinned, StaysRight}

-- The nodes of these names may be retired, one after the other.
--     unpinned   no pinned frame is that of one of them
--     made       so many nodes can be numbered still
pub record CanRetire (nodes : ℕ) (names : List NodeName) (s : Store) (a : Arena) : Type 0 where
  pub tied : IsStoreTied s a
  pub whole : IsWhole a
  pub unpinned : AreUnpinned s a names
  pub made : a.made + nodes < 3 * 2 ^ 61

-- The pages of these names, all of one cache, may be replaced or taken away.
--     saved      where the cache is named no heir reads an own page of them
--     working    no pinned frame is that of a working node
pub record CanReplace (nodes : ℕ) (cache : CacheId) (names : List NodeName) (s : Store) (a : Arena)
    : Type 0 where
  pub retire : CanRetire nodes names s a
  pub saved : AreAllSaved a cache names
  pub working : IsWorkingUnpinned s a

-- There is room for so many nodes, and they can be counted beside those that there are.
pub record HasRoom (nodes : ℕ) (a : Arena) : Type 0 where
  pub room : nodes ≤ a.room.nodes
  pub few : len (forest_of a).nodes + nodes < 2 ^ 32

-- The pages of both ranges of a span have nodes, those of the destination may be written, and the
-- numbers of all can be counted.
pub record CanTransfer (span : Span) (a : Arena) : Type 0 where
  pub can : CanCopy (forest_of a) (span_pairs span)
  pub granted : (x : NodeName) → x ∈ firsts (span_pairs span) → IsWritable a x
  pub within : (span.from_page.0 + span.pages < 2 ^ 32) × (span.to_page.0 + span.pages < 2 ^ 32)

-- The forest is consistent, and each name of a node names one still. There are at most so many
-- nodes more, so many were numbered, and room was taken for so many.
pub record Grows (nodes : ℕ) (a b : Arena) : Type 0 where
  pub consistent : IsConsistent (forest_of b)
  pub stays : (x : NodeName) → IsNode (forest_of a) x → IsNode (forest_of b) x
  pub made : b.made ≤ a.made + nodes
  pub room : a.room.nodes ≤ b.room.nodes + nodes
  pub few : len (forest_of b).nodes ≤ len (forest_of a).nodes + nodes

-- Each working node that is left has two children at least. So many nodes were numbered at most,
-- and no page was copied.
pub record Settles (nodes : ℕ) (a b : Arena) : Type 0 where
  pub settled : IsSettled (forest_of b)
  pub bounded : IsBounded (forest_of b)
  pub made : b.made ≤ a.made + nodes
  pub copies : b.copies ≡ a.copies

-- A command settled that took room for so many nodes at most, and each page has a node still.
--     right   the store is right where it was, if there are two slots for each live page
pub record KeepsPages (nodes : ℕ) (s : Store) (a : Arena) (t : Store) (b : Arena) : Type 0 where
  pub settles : Settles nodes a b
  pub whole : IsWhole b
  pub live : live_count (forest_of b) ≡ live_count (forest_of a)
  pub right : 2 * live_count (forest_of a) ≤ length s.slots → StaysRight s a t b
  pub room : a.room.nodes ≤ b.room.nodes + nodes

-- A command settled that retired all pages of a cache, so many, and took no room.
--     whole   the caches are whole when this one is removed
pub record Empties (cache : CacheId) (pages : ℕ) (s : Store) (a : Arena) (t : Store) (b : Arena)
    : Type 0 where
  pub settles : Settles pages a b
  pub consistent : IsConsistent (forest_of b)
  pub empty : (page : ℕ) → node_at b cache.0 page ≡ None
  pub whole : (after : Arena) → after ≡ without_cache b cache → IsSound after
      → forest_of after ≡ forest_of b → IsWhole after
  pub right : StaysRight s a t b
  pub room : a.room.nodes ≤ b.room.nodes
  pub fewer : length (own_states b) ≤ length (own_states a)
