pub mod Access
pub mod Keeping
pub mod Pushing
pub mod Ranges
pub mod Saving
pub mod Synced
pub mod Translating
