pub mod Chaining
pub mod Parts
pub mod Masks
pub mod Placed
pub mod Buckets
pub mod Reading
