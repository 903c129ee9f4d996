-- A node goes, or loses its own page, and the store follows.

-- How many nodes have an own state of some kind after one of them went.
pub mod Counting
-- A node went, and its own page is another node's: its frame is bound to that one.
pub mod Passed
-- A node lost its own page: its frame or its slot is given back.
pub mod Dropped
-- What the caches released was followed in the store: it is tied to them again, and each node has
-- its page.
pub mod Followed
-- What the caches did and released was followed in the store: a page was retired.
pub mod Retired
-- What is done in the store for a node that went doesn't look at the caches.
pub mod Elsewhere
-- One step of settle was followed in the store: it is the rule for the forest of bytes.
pub mod Merged
