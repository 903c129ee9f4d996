-- What the definitions of segments say by themselves, and the laws of two runs.
pub mod Definition
-- What is found by segments and by caches, and the order of the caches that are kept.
pub mod Lookup
-- Which caches nothing refers to, and what is seen without them.
pub mod Seeing
-- What a call of the manager below comes to, and that it can be called again.
pub mod Calling
-- Caches that are kept are destroyed, and make room for another.
pub mod Room
-- A segment is opened: for the first time, or once more.
pub mod Opens
-- A temporary cache is made.
pub mod Temps
-- References go: with an actor, a region, or an opening.
pub mod Leaves
