-- The machine and the page forest that a manager stands for.
pub mod Meaning
-- What an answer is, with bytes and without, and what it keeps.
pub mod Answering
-- Loads and stores.
pub mod Accesses
-- Copies and moves.
pub mod Spanning
-- Caches that are made.
pub mod NewCaches
-- Pages of segments.
pub mod Homes
-- Pages are granted, and saved for their heirs, before they are replaced.
pub mod Readiness
-- Actors and their regions.
mod Acting
-- Caches that go.
mod Destroying
-- Segments that are opened.
mod Opening
-- Pages that are pushed, and taken again.
mod Extents
-- What locks hold.
pub mod Holding
-- Regions that are locked and unlocked.
pub mod Locking
-- Translations that stay right.
pub mod Translating
