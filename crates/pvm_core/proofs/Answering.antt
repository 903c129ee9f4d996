-- What an answer is, with bytes and without, and what it keeps.
pub mod Answered
pub mod Chains
pub mod Changed
pub mod Ended
pub mod Kept
pub mod Rising
pub mod Reaching
pub mod Standing
pub mod Recorded
