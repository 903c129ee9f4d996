-- Frames that are gathered, and become those of nodes.
pub mod GatheredFrames
pub mod ComingFrames
pub mod SettledFrame
pub mod OneFrame
pub mod TwoFrames
