pub mod Accessing
pub mod Asking
pub mod BackedCaches
pub mod Backing
pub mod Called
pub mod Living
pub mod Opening
pub mod Pulling
pub mod Pushing
pub mod Ready
pub mod Rising
pub mod Still
pub mod Storing
-- What an access keeps of a machine, and what its answers are.
pub mod AccessAnswers
-- As many actors as may be alive have different numbers.
pub mod FewAlive
