-- Regions are locked and unlocked.

-- How many locked regions cover a page.
pub mod Covered
-- How many pages are locked.
pub mod Counted
-- Locks on the pages of an extent.
pub mod Extents
-- How many pages are locked with those of an extent.
pub mod Totals
-- What reads alike from one moment to the next.
pub mod Alike
-- A page has other locks, and its frame is pinned or not.
pub mod Changed
-- Locked pages stay in pinned frames.
pub mod Holds
-- One page, and one after the other.
pub mod LockedPages
-- How many pages the machine has locked with one more region.
pub mod Limit
-- The regions of an actor, one after the other.
pub mod Regions
-- The manager at the end.
pub mod Ends
-- Locks that go.
pub mod Gone
-- The calls.
pub mod Calls
