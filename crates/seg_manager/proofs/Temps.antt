-- A temporary cache is made.
pub mod TempSeen
pub mod TempLeaves
pub mod TempCall
