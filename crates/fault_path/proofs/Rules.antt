-- The rules of the page forest that the calls come to.
pub mod Heirs
pub mod KeptOwners
pub mod ForestSize
pub mod OneFrameForest
pub mod OwningRules
pub mod ReadyForest
