-- What each answer leaves of a machine.
pub mod Rows
pub mod Sizes
pub mod Kept
pub mod Lying
pub mod Laid
