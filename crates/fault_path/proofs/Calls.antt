-- What a call keeps, answers and costs.
pub mod Answered
pub mod Costs
pub mod Gathered
pub mod Kept
