pub mod Backing
pub mod Calling
pub mod Managing
pub mod Parking
pub mod Reaching
pub mod Room
pub mod Untold
