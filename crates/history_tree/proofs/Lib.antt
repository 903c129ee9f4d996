-- The chain of a node and the number of its children, read off the caches.
pub mod Children
-- The steps of `link`, on the forest.
pub mod Hang
-- The heir, read off the caches.
pub mod Inheriting
-- The way up from a node, read off the caches.
pub mod Upward
-- The rule link is followed with any pages, as it is with own states.
pub mod OtherPages
-- The rule link leaves each node the own page that it has.
pub mod OwnPages
-- Cells changed one after the other.
pub mod OnCells
-- The owner that is found on the way up.
pub mod Owners
