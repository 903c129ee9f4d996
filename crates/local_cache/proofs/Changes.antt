-- Changes of single nodes, and what they leave.

-- Arenas with the same nodes under the same names.
pub mod SameNodes
-- Caches with the same nodes: their tables, counters and spare room may be others.
pub mod SameCells
-- A change of one node that leaves all lists of stubs is a change of one node of the forest.
pub mod OneNode
-- The table of one cache changes, and its pages keep their nodes.
pub mod Retabled
-- It was granted to write a page.
pub mod Granted
-- Pages are locked and unlocked.
pub mod Locked
