-- What holds of a store, and goes on from one moment to the next.
pub mod Worlds
-- The page forest that is read off a store.
pub mod Forests
-- A new store, and caches that are made.
pub mod NewCaches
-- A page comes to a frame, or leaves it.
pub mod Moves
-- What the mapper holds after a push.
pub mod Pushes
-- Which translations stay.
pub mod Translations
