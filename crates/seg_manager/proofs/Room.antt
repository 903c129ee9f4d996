-- Caches that are kept are destroyed, and make room for another.
pub mod Thinned
pub mod Trimmed
pub mod Tried
pub mod Failing
pub mod Lacking
