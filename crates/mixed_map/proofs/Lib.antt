mod Clones
pub mod Maps
mod Filling
mod Keeping
pub mod Telling
