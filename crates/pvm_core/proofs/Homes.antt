-- Pages of segments.
pub mod Named
pub mod Homed
pub mod Pushed
pub mod Sized
pub mod Full
