-- What a call releases, and which own states the nodes have then.
use Rattle.std.specs.Prelude.{◌≡◌, ◌≢◌, ◌<◌, ◌==◌, ◌&&◌, cond, not, Option, Some, None, is_some, slice_get}
use Rattle.std.specs.Option.{option_or}
use Rattle.vm_ids.specs.declared.node_name.NodeName.{NodeName}
use Rattle.vm_ids.specs.declared.numbers.NodeId.{NodeId}
use Rattle.vm_ids.specs.Forest.Nodes.{child_count}
use Rattle.vm_ids.specs.Forest.Changes.{cut}
use Rattle.vm_ids.specs.Forest.Settling.{give_way, pass_page, settle_step, thin}
use Rattle.local_cache.specs.declared.own_state.OwnState.{OwnState}
use Rattle.local_cache.specs.declared.own_state.OwnState.TheVariants.{Absent}
use Rattle.local_cache.specs.Arena.{Arena, as_working, cell, find, HasNode, with_new}
use Rattle.local_cache.specs.Own.{is_absent, own_of}
use Rattle.local_cache.specs.Reading.{forest_of, name_of}
use Rattle.local_cache.specs.Sound.{IsSound}
use Rattle.tree_merge.specs.declared.released.Released.{Released}
use Rattle.tree_merge.specs.declared.released.Released.TheVariants.{Nothing, Dropped, Moved}
use Rattle.tree_merge.specs.Staying.{IsGone}

-- the own state of a node after what was released
abbrev pub own_after : Arena → Released → NodeId → OwnState
own_after a Nothing m = own_of a m
own_after a (Dropped n s) m = own_of a m
own_after a (Moved from to) m = cond (m.0 == to.0) (own_of a from) (own_of a m)

-- From a to b the node n went, and all others stayed.
pub record Went (a b : Arena) (n : NodeId) : Type 0 where
  pub was : HasNode a n
  pub gone : find b n ≡ None
  pub held : (m : NodeId) → m ≢ n → is_some (find b m) ≡ is_some (find a m)

-- no node came or went, and all have their own states
pub record IsStill (a b : Arena) : Type 0 where
  pub held : (m : NodeId) → is_some (find b m) ≡ is_some (find a m)
  pub own : (m : NodeId) → own_of b m ≡ own_of a m

-- one node went, with its own page
pub record IsDropped (a b : Arena) (n : NodeId) (state : OwnState) : Type 0 where
  pub went : Went a b n
  pub state_is : state ≡ own_of a n
  pub others : (m : NodeId) → m ≢ n → own_of b m ≡ own_of a m

-- one node went, and its own page is that of another one, which had none
pub record IsPassed (a b : Arena) (from to : NodeId) : Type 0 where
  pub went : Went a b from
  pub apart : from ≢ to
  pub there : HasNode a to
  pub absent : own_of a to ≡ Absent
  pub passed : own_of b to ≡ own_of a from
  pub others : (m : NodeId) → m ≢ from → m ≢ to → own_of b m ≡ own_of a m

-- From a to b just this became of the nodes and their own states.
abbrev pub IsReleased : Arena → Arena → Released → Type 0
IsReleased a b Nothing = IsStill a b
IsReleased a b (Dropped n state) = IsDropped a b n state
IsReleased a b (Moved from to) = IsPassed a b from to

-- All nodes but n have the own states that they had, and the one that took over that of n.
abbrev pub OwnsAfter : Arena → Arena → NodeId → Released → Type 0
OwnsAfter a b n released = (m : NodeId) → m ≢ n → own_of b m ≡ own_after a released m

-- the first child of a node
abbrev pub first_child : Arena → NodeId → Option NodeId
first_child a n = option_or (slice_get (cell a n).tree 0) (cell a n).links.first

-- What is released where n gives way to this child, or goes without one: its child takes its own
-- page over where it has none, and else that page goes.
abbrev pub released_to : Arena → NodeId → Option NodeId → Released
released_to a n None = Dropped n (own_of a n)
released_to a n (Some y) =
    cond (not (is_absent (own_of a n)) && is_absent (own_of a y))
    (Moved n y) (Dropped n (own_of a n))

-- the own state of a child that had the second one, after it got the first where it had no own page
abbrev pub given : (from to : OwnState) → OwnState
given from to = cond (is_absent to) from to

-- From a to b the node n gave way to its only child y, which took its page and its place.
pub record HasGivenWay (a b : Arena) (n y : NodeId) (released : Released) : Type 0 where
  pub forest : forest_of b
      ≡ give_way (pass_page (cut (forest_of a) (name_of a y)) (name_of a n) (name_of a y))
      (name_of a n) (name_of a y)
  pub sound : IsSound b
  pub told : released ≡ released_to a n (Some y)
  pub gone : IsGone a b n
  pub owns : OwnsAfter a b n released

-- The node n is retired: it is gone where it has no children, and its own page with it, and else it
-- is a working node under the same number.
pub record IsRetired (a b : Arena) (n : NodeId) (released : Released) : Type 0 where
  pub leaf : child_count (forest_of a) (name_of a n) ≡ 0
      → (released ≡ Dropped n (own_of a n)) × IsGone a b n × OwnsAfter a b n released
  pub parent : 0 < child_count (forest_of a) (name_of a n)
      → (released ≡ Nothing) × (b ≡ as_working a n)

-- The node n is retired, and then a fresh node has this name and own state.
pub record IsDetached (a b : Arena) (n : NodeId) (x : NodeName) (s : OwnState)
    (released : Released) : Type 0 where
  pub between : Arena
  pub fresh : NodeId
  pub retired : IsRetired a between n released
  pub free : find between fresh ≡ None
  pub is : b ≡ with_new between fresh x s

-- One step of settle was done, at the thin node with the least number.
pub record IsMerged (a b : Arena) (released : Released) : Type 0 where
  pub node : NodeId
  pub held : HasNode a node
  pub least : thin (forest_of a) ≡ Some (name_of a node)
  pub forest : forest_of b ≡ settle_step (forest_of a) (name_of a node)
  pub told : released ≡ released_to a node (first_child a node)
  pub gone : IsGone a b node
  pub owns : OwnsAfter a b node released
