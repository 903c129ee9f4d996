-- How the ports stay tied to the machine that their manager stands for.
pub mod EmptyStart
pub mod Alike
pub mod NewCache
pub mod Followed
pub mod CacheAppended
pub mod CacheRemoved
