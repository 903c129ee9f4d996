pub mod Exchanging
pub mod Handed
pub mod Parts
pub mod Serving
