-- What holds of a store, and goes on from one moment to the next.
pub mod After
pub mod Arms
pub mod Composed
pub mod Counted
pub mod Homes
pub mod Nodes
pub mod Telling
