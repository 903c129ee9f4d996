-- Whole runs, and worked scripts.
pub mod Chains
pub mod Order
pub mod Growing
pub mod Runs
pub mod Played
pub mod Transit
pub mod Barred
