pub mod Moved
pub mod Moving
