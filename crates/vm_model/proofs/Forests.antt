-- The page forest follows each answer.
pub mod Plain
pub mod PlainFollows
pub mod CachesFollowed
pub mod Following
pub mod Locked
pub mod Followed
pub mod Blank
pub mod UntoldWrites
pub mod Untold
