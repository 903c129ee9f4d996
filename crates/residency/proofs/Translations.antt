-- Which translations stay.
pub mod Dropped
pub mod Kept
pub mod Lost
pub mod Owners
