pub mod Writes
pub mod Growing
pub mod Standing
pub mod Removing
pub mod Closing
