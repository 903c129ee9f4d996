-- Pages of which nothing is in memory, and to whose nodes nothing is linked.

-- What is kept of such nodes.
pub mod Nodes
-- Some pages of a range are forgotten, and the others are passed over.
pub mod Forgetting
-- A page on which nothing hangs is such a one still when other pages are retired or replaced.
pub mod Childless
-- Untouched pages are retired at once.
pub mod Retiring
-- A page to which nothing is linked is replaced by what it has.
pub mod Itself
-- Pages that become what their segment holds, and those that are passed over.
pub mod Replacing
