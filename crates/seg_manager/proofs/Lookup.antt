-- What is found by segments and by caches, and the order of the caches that are kept.
pub mod Finding
pub mod Entries
pub mod Named
pub mod Placed
pub mod Linking
pub mod Rings
pub mod RingSteps
pub mod RegionNoted
