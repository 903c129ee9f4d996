-- Many page nodes at once.

-- A stretch of numbers cleared.
pub mod Cleared

-- Nodes of pages that go, so that other nodes can come for these pages.
