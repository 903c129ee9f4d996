-- Locks hold their pages in page frames.

-- Nodes and the frames that they are bound to.
pub mod Bound
-- The locked pages of the machine are those that the caches count.
pub mod Counted
-- Locks hold their pages still where the nodes and the locks stay, and where a cache is made or
-- goes.
pub mod Made
-- Locks hold their pages still where pinned frames keep their nodes.
pub mod Kept
-- Regions that lock a page, counted among those of an actor.
pub mod Regions
-- How many locked regions of all actors cover a page, after regions changed.
pub mod Actors
-- Frames of pages that aren't locked aren't pinned.
pub mod Loose
