-- The page forest that is read off a store.
pub mod StillForest
pub mod WrittenForest
