pub mod Chains
pub mod Entered
pub mod Hashes
pub mod Buckets
pub mod Heads
