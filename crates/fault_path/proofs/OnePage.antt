-- The page that is read, one that is owned, and one that becomes dirty.
pub mod FoundPage
pub mod DirtyPage
pub mod OwnPage
