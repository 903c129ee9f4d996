-- The machine and the page forest that a manager stands for.
pub mod Shown
pub mod Values
pub mod Empty
pub mod Determined
pub mod Live
pub mod Same
pub mod Kept
