-- Which translations are dropped from one moment to a later one.
use Rattle.std.specs.Prelude.{◌≡◌, ℕ, Bool, true, false, not, ◌⊎◌, List, Option, Some, None, map, slice_set}
use Rattle.vm_ids.specs.declared.node_name.NodeName.{NodeName}
use Rattle.vm_ids.specs.declared.numbers.NodeId.{NodeId}
use Rattle.global_map.specs.Pairs.{is_node, node_of}
use Rattle.page_tables.specs.Entries.{is_in_frame}
use Rattle.page_tables.specs.Translations.{unless}
use Rattle.page_tables.specs.declared.entry.Entry.{Entry}
use Rattle.local_cache.specs.Arena.{Arena}
use Rattle.residency.specs.declared.store.Store.{Store}
use Rattle.residency.specs.Seeing.{IsAlone, seen_in}

-- the tables without the translations that lead to these frames
abbrev pub without : (frames : ℕ → Bool) → List (Option Entry) → List (Option Entry)
without frames tables = map (unless (λ e. frames e.to.frame.0)) tables

-- a frame that had this node, or none, lost it: it had one, and has that one no more
abbrev pub loses : (before now : Option NodeId) → Bool
loses None now = false
loses (Some n) now = not (is_node n.0 now)

-- a frame lost its node
abbrev pub lost : (old new : List (Option NodeId)) → ℕ → Bool
lost old new frame = loses (node_of old frame) (node_of new frame)

-- The translations of the frames that lost their node are dropped. Every other one stays, at its
-- place.
abbrev pub TablesAfter : (old new : Store) → Type 0
TablesAfter old new = new.tables ≡ without (lost old.map new.map) old.tables

-- a frame has no node any more, and its translations are dropped
pub record IsEmptied (frame : ℕ) (old new : Store) : Type 0 where
  pub map_is : new.map ≡ slice_set old.map frame None
  pub tables_are : new.tables ≡ map (unless (is_in_frame frame)) old.tables

-- Translations are dropped by their frames, and what is left leads to where it led. `came` are the
-- nodes that may come to a frame meanwhile.
--     tables    the translations that lead to these frames are dropped, every other one stays
--     seen      a page that was seen in another frame is seen there still
--     alone     a page that was a node's alone is so still
--     only      a frame that had a node is one of these only where it lost the node, or the node
--     came
--     comes     each node in a frame was there before, or came
pub record Drops (came : NodeId → Type 0) (a : Arena) (s : Store) (b : Arena) (t : Store)
    : Type 0 where
  pub frames : ℕ → Bool
  pub tables : t.tables ≡ without frames s.tables
  pub seen : (x : NodeName) (f : ℕ) → frames f ≡ false → seen_in a s.map x ≡ Some f
      → seen_in b t.map x ≡ Some f
  pub alone : (x : NodeName) → IsAlone a x → IsAlone b x
  pub only : (f : ℕ) (n : NodeId) → frames f ≡ true → node_of s.map f ≡ Some n
      → (lost s.map t.map f ≡ true) ⊎ came n
  pub comes : (f : ℕ) (n : NodeId) → node_of t.map f ≡ Some n
      → (node_of s.map f ≡ Some n) ⊎ came n
