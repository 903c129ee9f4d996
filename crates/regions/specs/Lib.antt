pub mod AddressSpace
pub mod Layout
pub mod Seen
