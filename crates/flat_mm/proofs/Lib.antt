-- How page frames stand behind the pages of caches.
pub mod Framing
pub mod Loosening
-- The machine itself refuses nothing for want of room.
pub mod NeverFull
-- Calls of the manager, from those of the machine.
pub mod Calls
-- Calls in which no page comes or goes.
pub mod Alone
-- Calls that change actors alone.
pub mod Acting
-- Caches are made.
pub mod Making
-- Loads and stores.
pub mod Accesses
-- The mapper is asked whether pages may be written.
pub mod WriteAccess
-- Pages are put into a cache.
pub mod Putting
pub mod Storing
-- Pages go to segments.
pub mod Extents
pub mod Pushes
-- Calls that reached the mapper.
pub mod Reached
-- Pages come from segments.
pub mod Filling
-- A cache is taken away.
pub mod Destroying
-- A cache that a segment names is made.
pub mod Opening
-- Pages are taken from a segment again.
pub mod Invalidating
-- Which pages are locked.
pub mod Locked
-- Chains and counts.
pub mod Telling
-- Calls that are handed the mapper and leave it.
pub mod Handed
-- For how many pages there is room.
pub mod Rooms
-- Pages are copied and moved.
pub mod Spanning
pub mod Copying
pub mod Transferring
pub mod SpanRows
-- The law of two managers.
pub mod TwoManagers
