-- Which caches nothing refers to, and what is seen without them.
pub mod WhichGo
pub mod Naming
pub mod StoredPages
pub mod ReferenceComes
pub mod Unused
pub mod WithoutSome
pub mod View
pub mod SameSegments
pub mod LivePages
pub mod Stated
pub mod Steps
