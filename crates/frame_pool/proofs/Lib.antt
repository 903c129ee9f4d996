pub mod Evictable
pub mod WrittenPages
pub mod Views
