-- Which translations a fault drops.
use Rattle.std.specs.Prelude.{◌≡◌, ◌≢◌, ℕ, Bool, true, ◌||◌, List, Option, Some, ◌⊎◌, OnErr, OnOk, Result}
use Rattle.vm_ids.specs.declared.numbers.NodeId.{NodeId}
use Rattle.page_tables.specs.Translations.{entry_at}
use Rattle.page_tables.specs.declared.entry.Entry.{Entry}
use Rattle.global_map.specs.Pairs.{is_node, node_of}
use Rattle.local_cache.specs.Arena.{Arena}
use Rattle.local_cache.specs.Own.{is_absent, own_of}
use Rattle.residency.specs.declared.store.Store.{Store}
use Rattle.residency.specs.Translating.{Drops, without}

-- a frame is that of node n
abbrev pub is_home : NodeId → List (Option NodeId) → ℕ → Bool
is_home n map frame = is_node n.0 (node_of map frame)

-- it is that of one of two nodes
abbrev pub is_home_of : NodeId → NodeId → List (Option NodeId) → ℕ → Bool
is_home_of n m map frame = is_home n map frame || is_home m map frame

-- the store without the translations that lead to the pages of two nodes
abbrev pub without_homes : NodeId → NodeId → Store → Store
without_homes n m s = record s { tables = without (is_home_of n m s.map) s.tables }

-- no translation leads to this frame
abbrev pub NoneLeadTo : ℕ → List (Option Entry) → Type 0
NoneLeadTo frame tables = (place : ℕ) (e : Entry) → entry_at tables place ≡ Some e
    → e.to.frame.0 ≢ frame

-- node o is in the frame in which it was, or no translation leads there any more
abbrev pub StaysOrUnseen : NodeId → Store → Store → Type 0
StaysOrUnseen o s t = (f : ℕ) → node_of s.map f ≡ Some o
    → (node_of t.map f ≡ Some o) ⊎ NoneLeadTo f t.tables

-- No translation leads to the frame in which node o was, and none to those in which o and n are.
pub record DropsHomes (o n : NodeId) (old new : Store) : Type 0 where
  pub was : (f : ℕ) → node_of old.map f ≡ Some o → NoneLeadTo f new.tables
  pub are : (f : ℕ) → is_home_of o n new.map f ≡ true → NoneLeadTo f new.tables

-- no node
abbrev pub Nobody : NodeId → Type 0
Nobody n = ⊥

-- The nodes that may come to a frame while a page is owned, saved or made ready for a write: its
-- owner, and those that had no own page.
abbrev pub MayCome : Arena → NodeId → NodeId → Type 0
MayCome a owner n = (n ≡ owner) ⊎ (is_absent (own_of a n) ≡ true)

-- A call on the page of n, whose owner is o, leaves it to its caller to drop the translations that
-- lead to the pages of the two. Where it failed there is nothing to drop.
pub record LeavesHomes {T E : Type 0} (result : Result T E) (o n : NodeId)
    (a : Arena) (s : Store) (b : Arena) (t : Store) : Type 0 where
  pub left : OnOk result (Drops (MayCome a o) a s b (without_homes o n t))
  pub home : OnOk result (StaysOrUnseen o s t)
  pub failed : OnErr result (Drops (MayCome a o) a s b t)
