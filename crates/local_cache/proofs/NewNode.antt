-- A node comes, and a node goes.

-- A new node.
pub mod Addition
-- A new working node, and a new node of a page.
pub mod FreshNode
-- A fresh node: its name and its own state, and those of all others.
pub mod States
-- A node that nothing names is freed.
pub mod Freeing
