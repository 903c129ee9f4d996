-- The tables of the caches.

-- The tables after the node of one page was set.
pub mod Listing
-- The sizes of caches stay where their tables get or lose nodes.
pub mod Sizes
-- What a table has for each of its pages besides a node.
pub mod Parts
-- How many pages of all caches are locked, when one page gets other locks.
pub mod Locked
