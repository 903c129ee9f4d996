pub mod Layout
pub mod Waiting
