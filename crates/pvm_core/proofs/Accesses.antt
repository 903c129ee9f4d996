-- Loads and stores.
pub mod Found
pub mod Loading
pub mod Zeros
pub mod Storing
pub mod Stored
pub mod AccessedPages
pub mod Seen
pub mod There
pub mod Written
pub mod Asked
pub mod Parts
pub mod AtHand
pub mod Ready
pub mod Parked
pub mod Behind
