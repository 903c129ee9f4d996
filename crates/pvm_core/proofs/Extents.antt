-- Pages of caches that segments name are pushed and taken again.

-- The rows of the calls with an extent.
pub mod Rows
-- What the segment holds after a push.
pub mod Synced
-- And stays while pages are pushed.
pub mod Stays
-- The answers of a sync and a flush.
pub mod Push
-- The pages of a range that are taken from their segment.
pub mod Part
-- Pages were taken from their segment: the manager after it.
pub mod Taken
-- Pages were not taken from their segment: the answers.
pub mod Unsaved
