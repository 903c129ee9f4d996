-- Which caches are hidden, since messages wait in them, and what is seen of the others.
pub mod Seen
pub mod View
pub mod Messages
pub mod OnePort
pub mod FirstTaken
pub mod MarkTable
pub mod PageCounts
pub mod WithoutBytes
