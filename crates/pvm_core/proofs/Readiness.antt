-- Pages are granted, and saved for their heirs, before they are replaced.
pub mod Granted
pub mod Denied
pub mod Copies
pub mod Saved
pub mod Readying
pub mod Steps
pub mod Filled
