pub mod Actors
pub mod Counting
pub mod Layout
pub mod Maps
pub mod Placed
