-- A node gives way to its only child.

-- A child gets the own page of a node, where the node has one and the child has none.
pub mod Page
-- One step of settle: the node goes, and its only child takes its page and its place.
pub mod Step
-- The same where the parent and the child are written once each.
pub mod AtOnce
-- The same by one call.
pub mod Once
-- Working nodes that are alike give way, all at once.
pub mod Many
