pub mod Ordered
pub mod Found
pub mod Changed
