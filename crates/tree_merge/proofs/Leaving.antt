-- The node of a page leaves: it is freed, retired or detached.

-- A node without parent and children is freed.
pub mod Freed
-- A node is retired: it goes, or becomes a working node.
pub mod Retired
-- The page of a retired node, and the fresh node that it gets.
pub mod Detached
-- A node leaves its parent's list, and goes, or is as new.
pub mod Left
-- As many caches of the same sizes are live after the node of a page was retired, or a fresh one
-- was made.
pub mod Sizes
