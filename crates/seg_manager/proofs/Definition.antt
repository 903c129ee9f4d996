-- What the definitions of segments say by themselves, and the laws of two runs.
pub mod Played
pub mod Reopening
pub mod Renaming
pub mod Alike
pub mod AlikeRows
pub mod Limits
