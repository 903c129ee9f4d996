-- Caches that are made.
pub mod Making
pub mod Begun
pub mod Roomy
pub mod NewCache
pub mod Ungranted
