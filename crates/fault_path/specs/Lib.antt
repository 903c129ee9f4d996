pub mod Answers
pub mod Coming
pub mod Costs
pub mod Faults
pub mod Gathering
pub mod Giving
pub mod Translating
