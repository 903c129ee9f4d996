-- The laws of the page forest, proved.
pub mod Reading
pub mod Owning
pub mod Writing
pub mod Linking
pub mod Settling
pub mod Copying
pub mod Commands
pub mod Forgetting
pub mod Ranges
pub mod Made
pub mod PageMap
