-- A page comes to a frame, or leaves it.
pub mod Brought
pub mod GivenUp
pub mod Claimed
pub mod Evicted
pub mod Filled
pub mod Left
pub mod Picked
