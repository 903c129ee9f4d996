pub mod Copyable
pub mod Copying
pub mod Releasing
pub mod Retiring
pub mod Settling
pub mod Sharing
pub mod Staying
pub mod Stepping
