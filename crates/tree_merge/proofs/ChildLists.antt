-- The children of a node.

-- A parent's tree children after one of them went or gave its place to another, by numbers and by
-- names.
pub mod TreeLists
-- The children of a node, by numbers and in the forest.
pub mod Names
