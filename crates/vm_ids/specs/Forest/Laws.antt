-- The laws of the page forest, each of all forests of any type of pages. The contracts of the
-- functions in src/forest_laws.rt name them, and so each is proved.
pub mod Reading
pub mod Owning
pub mod Writing
pub mod Linking
pub mod Settling
pub mod Saving
pub mod Forgetting
pub mod Commands
pub mod Ranges
pub mod Made
pub mod PageMap
