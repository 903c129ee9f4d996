-- How the processes stay tied to the machine that their manager stands for.
pub mod EmptyStart
pub mod Alike
pub mod Pushes
pub mod Having
pub mod Clearing
pub mod ActorOrImage
pub mod NewCache
pub mod Keeping
pub mod OneMorePart
pub mod PartMapping
pub mod Counts
